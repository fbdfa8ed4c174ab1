-- Believed: a row's committed amounts when a reservation ends.
use Rattle.std.specs.Prelude.{ℤ, ◌+ℤ◌, if◌then◌else◌, List, [], ◌∷◌}
use Rattle.escrow_num.specs.Amount.{is_amount}
use Rattle.escrow_num.specs.declared.session.End.{End}
use Rattle.escrow_num.specs.declared.session.End.TheVariants as end

-- an amount with a change added; if the sum is no amount, the amount stays as it is
abbrev pub moved : ℤ → ℤ → ℤ
moved amount change = if is_amount (amount +ℤ change) then amount +ℤ change else amount

-- amounts with changes added like this, column by column; a change that isn't listed is zero
abbrev pub all_moved : List ℤ → List ℤ → List ℤ
all_moved [] changes = []
all_moved (a ∷ rest) [] = a ∷ rest
all_moved (a ∷ rest) (c ∷ changes) = moved a c ∷ all_moved rest changes

-- the committed amounts after an end: COMMIT adds the changes, ROLLBACK doesn't
abbrev pub amounts_after : End → List ℤ → List ℤ → List ℤ
amounts_after end.Commit amounts changes = all_moved amounts changes
amounts_after end.Rollback amounts changes = amounts

-- the committed amounts after reservations with these changes have ended, one after another
abbrev pub amounts_after_all : End → List ℤ → List (List ℤ) → List ℤ
amounts_after_all end amounts [] = amounts
amounts_after_all end amounts (changes ∷ rest) = amounts_after_all end (amounts_after end amounts changes) rest
