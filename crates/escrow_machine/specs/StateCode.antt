-- Believed: a state as its five parts, and back, so that a value of a type can hold one.
use Rattle.std.specs.Prelude.{ℕ, refl, List}
use Rattle.std.specs.Coded.{Coded, code_by, coded×, coded_list, coded_ℕ}
use Rattle.escrow_num.specs.contracts.reservation.Reservation as reservation
use Rattle.escrow_num.specs.contracts.reservation.Savepoint as savepoint
use Rattle.escrow_num.specs.contracts.row.Row as row
use Rattle.escrow_num.specs.declared.reservation.Reservation.{Reservation}
use Rattle.escrow_num.specs.declared.reservation.Savepoint.{Savepoint}
use Rattle.escrow_num.specs.declared.row.Row.{Row}
use Rattle.escrow_schema.specs.contracts.table.TableDef as table
use Rattle.escrow_schema.specs.declared.table.TableDef.{TableDef}
use Rattle.escrow_machine.specs.State.{State}

abbrev pub state_code : Coded State
state_code =
    code_by (List TableDef × (List Row × (List Reservation × (List Savepoint × ℕ))))
    (coded× (coded_list table.the_row.coded)
    (coded× (coded_list row.the_row.coded)
    (coded× (coded_list reservation.the_row.coded) (coded× (coded_list savepoint.the_row.coded) coded_ℕ))))
    (λ s. (s.catalog, (s.rows, (s.reservations, (s.savepoints, s.next_id)))))
    (λ p. record { catalog = p.0; rows = p.1.0; reservations = p.1.1.0; savepoints = p.1.1.1.0; next_id = p.1.1.1.1 })
    (λ _. refl)
