-- Believed: what is kept of a row.
use Rattle.std.specs.Prelude.{ℕ, ℤ, List, map}
use Rattle.escrow_checks.specs.declared.check.Check.{Check}
use Rattle.escrow_checks.specs.declared.spread.Spread.{Spread}

-- a check of a row, with the spread of the counted reservations
pub record Tracked : Type 0 where
  pub check : Check
  pub spread : Spread

-- What is kept of a row: its committed amounts; how many open reservations are counted; and their spread under
-- each check of its table, and under each RESERVABLE column alone.
pub record Place : Type 0 where
  pub amounts : List ℤ
  pub count : ℕ
  pub checks : List Tracked
  pub columns : List Tracked

-- the checks without their spreads
abbrev pub checks_of : List Tracked → List Check
checks_of forms = map (λ (form : Tracked). form.check) forms
