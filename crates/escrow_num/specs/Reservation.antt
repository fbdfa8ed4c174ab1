-- Believed: what a reservation's changes add.
use Rattle.std.specs.Prelude.{if◌then◌else◌, ℤ, pos, Option, unwrap_or, List, [], map}
use Rattle.escrow_num.specs.declared.reservation.Reservation.{Reservation}
use Rattle.escrow_num.specs.declared.value.RowName.{RowName}
use Rattle.escrow_num.specs.Order.{same_row}

-- what each change adds to its column: zero if the UPDATE doesn't assign the column
abbrev pub deltas : List (Option ℤ) → List ℤ
deltas changes = map (λ change. unwrap_or change (pos 0)) changes

-- the changes that a reservation makes to the row of a name: its own if it is of that row, otherwise none
abbrev pub changes_at : RowName → Reservation → List ℤ
changes_at name r = if same_row name r.row then deltas r.changes else []
