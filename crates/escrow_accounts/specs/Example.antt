-- Believed: the rows and the reservations of the run in the laws.
use Rattle.std.specs.Prelude.{ℕ, ℤ, pos, Some, [], ◌∷◌, codes}
use Rattle.escrow_num.specs.declared.reservation.Reservation.{Reservation}
use Rattle.escrow_num.specs.declared.row.Row.{Row}
use Rattle.escrow_num.specs.declared.value.RowName.{RowName}
use Rattle.escrow_num.specs.declared.value.Value.TheVariants as value

-- the row of key 1 in table T
abbrev pub the_name : RowName
the_name = record { table = codes "T"; key = value.Number (pos 1) }

-- this row with an amount
abbrev pub row_of : ℤ → Row
row_of amount = record { name = the_name; amounts = amount ∷ []; plain = [] }

-- a reservation of this row, which adds a change. Session 1 holds it
abbrev pub reservation : ℕ → ℤ → Reservation
reservation id change = record { id = id; session = 1; row = the_name; changes = Some change ∷ [] }
