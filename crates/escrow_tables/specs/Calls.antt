-- Believed: how calls change the tables of a database.
use Rattle.std.specs.Prelude.{◌≡◌, ℤ, Bool, true, false, is_some, if◌then◌else◌, Some, option_map, List, map, IsTrue}
use Rattle.sqlite.specs.Held.{state}
use Rattle.sqlite.specs.State.{HasCleanDisk, Survives}
use Rattle.sqlite_trees.specs.declared.store.Store.{Ghosts}
use Rattle.sqlite_trees.specs.Tree.{Trees}
use Rattle.escrow_num.specs.declared.reservation.Reservation.{Reservation}
use Rattle.escrow_num.specs.declared.row.Row.{Row}
use Rattle.escrow_schema.specs.declared.table.TableDef.{TableDef}
use Rattle.escrow_schema.specs.Rows.{row_named, with_row}
use Rattle.escrow_rows.specs.Answers.{IsUsable}
use Rattle.escrow_tables.specs.Tables.{Tables, AreHeld}

-- a call reads: tables and rows are unchanged, a store that a fault has shut stays shut, and a crash leaves what it
-- might have left before
pub record Reads {S : Type 0} (g : Ghosts S) (old new : Tables S) : Type 0 where
  pub catalog : new.catalog ≡ old.catalog
  pub rows : new.rows ≡ old.rows
  pub usable : IsUsable (state g new.store) → IsUsable (state g old.store)
  pub survives : Survives (state g old.store) (state g new.store) (λ _. ⊥)

-- A call writes, in one transaction. If it is done, there are then these tables and, if the disk returned what was
-- written, these rows; the store is open, and a crash leaves both. Otherwise both are unchanged. Whatever happens, a
-- crash leaves what it might have left before, or, if the store was open, these tables and rows. After a fault has shut
-- a store, nothing more is written to it.
pub record Writes {S : Type 0} (g : Ghosts S) (old new : Tables S) (is_done : Bool) (catalog : List TableDef)
    (rows : List Row) : Type 0 where
  pub done_catalog : is_done ≡ true → new.catalog ≡ catalog
  pub done_rows : is_done ≡ true → HasCleanDisk (state g new.store) → new.rows ≡ rows
  pub opened : is_done ≡ true → HasCleanDisk (state g new.store) → IsTrue (state g new.store).is_open
  pub durable : is_done ≡ true → HasCleanDisk (state g new.store) → (trees : Trees)
      → (state g new.store).may_leave trees → AreHeld catalog rows trees
  pub kept_catalog : is_done ≡ false → new.catalog ≡ old.catalog
  pub kept_rows : is_done ≡ false → new.rows ≡ old.rows
  pub usable : IsUsable (state g new.store) → IsUsable (state g old.store)
  pub survives : Survives (state g old.store) (state g new.store)
      (λ trees. IsTrue (state g old.store).is_open × AreHeld catalog rows trees)

-- what COMMIT is given: the amounts that the row of each reservation has; and each of these rows exists
abbrev pub AreGiven : List Row → List Reservation → List (List ℤ) → Type 0
AreGiven rows reservations before =
    map (λ r. option_map (λ row. row.amounts) (row_named rows r.row)) reservations ≡ map Some before

-- the rows with a new one added, unless one has its name
abbrev pub with_new : Row → List Row → List Row
with_new row rows = if is_some (row_named rows row.name) then rows else with_row row rows
