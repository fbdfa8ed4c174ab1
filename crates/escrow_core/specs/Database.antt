-- Believed: what contracts see of a database.
use Rattle.std.specs.Prelude.{refl}
use Rattle.std.specs.Coded.{Coded, code_by, coded×}
use Rattle.sqlite.specs.Held.{Held, held_code, state}
use Rattle.sqlite.specs.State.{HasCleanDisk}
use Rattle.sqlite_trees.specs.declared.store.Store.{Ghosts}
use Rattle.escrow_machine.specs.State.{State}
use Rattle.escrow_machine.specs.StateCode.{state_code}
use Rattle.escrow_machine.specs.Valid.{IsOrderly, AreSafeRows}

-- what contracts see of a database: the connection to its store, and its state
pub record Database (S : Type 0) : Type 0 where
  pub store : Held S
  pub state : State

abbrev pub database_code : {S : Type 0} → Coded S → Coded (Database S)
database_code {S} store =
    code_by (Held S × State) (coded× (held_code store) state_code) (λ d. (d.store, d.state))
    (λ p. record { store = p.0; state = p.1 }) (λ _. refl)

-- what a database keeps: its state is always orderly, and valid if the disk has returned what was written
pub record IsKept {S : Type 0} (g : Ghosts S) (d : Database S) : Type 0 where
  pub orderly : IsOrderly d.state.catalog d.state.reservations d.state.savepoints d.state.next_id
  pub safe_rows : HasCleanDisk (state g d.store) → AreSafeRows d.state.catalog d.state.rows d.state.reservations
