-- Believed: definitions on reservations, columns and ends.
use Rattle.std.specs.Prelude.{ℕ, ℤ, ◌+◌, ◌≤◌, List, [], ◌∷◌, length}
use Rattle.escrow_num.specs.declared.reservation.Reservation.{Reservation}
use Rattle.escrow_num.specs.declared.session.End.{End}
use Rattle.escrow_num.specs.declared.session.End.TheVariants as end
use Rattle.escrow_checks.specs.declared.coefficients.TheConstants.Coefficients.{MAX_LEN}
use Rattle.escrow_machine.specs.declared.reply.CheckBounds.{CheckBounds}
use Rattle.escrow_machine.specs.declared.reply.ColumnBounds.{ColumnBounds}
use Rattle.escrow_machine.specs.declared.settled.Settled.{Settled}

-- a reservation has changes for at most as many columns as a check can have coefficients
abbrev pub IsShort : Reservation → Type 0
IsShort r = length r.changes ≤ MAX_LEN

-- the bounds of columns, each with its amount, and with the scale and the bounds of its range
abbrev pub columns_from : List (List ℕ) → List ℤ → List CheckBounds → List ColumnBounds
columns_from [] amounts ranges = []
columns_from (name ∷ names) [] ranges = []
columns_from (name ∷ names) (a ∷ amounts) [] = []
columns_from (name ∷ names) (a ∷ amounts) (range ∷ ranges) =
    record { column = name; scale = range.scale; value = a; inf = range.least; sup = range.greatest }
    ∷ columns_from names amounts ranges

-- counts that include the reservations of one more transaction, which ended this way
abbrev pub counted_end : End → ℕ → Settled → Settled
counted_end end.Commit count done = record done { committed = done.committed + count }
counted_end end.Rollback count done = record done { released = done.released + count }
