-- COMMIT: one call that writes the new amounts of rows.
use Rattle.std.proofs.Common.{◌≡◌, Bool, true, false, List, refl}
use Rattle.std.specs.List.{AllByRecursion}
use Rattle.sqlite_trees.specs.declared.store.Store.{Ghosts}
use Rattle.sqlite.specs.Effect.{Database}
use Rattle.sqlite.specs.Held.{Held, state}
use Rattle.sqlite.specs.State.{HasCleanDisk}
use Rattle.escrow_num.specs.declared.reservation.Reservation.{Reservation}
use Rattle.escrow_num.specs.declared.row.Row.{Row}
use Rattle.escrow_cells.specs.Calls.{Transacts}
use Rattle.escrow_rows.specs.Answers.{IsUsable}
use Rattle.escrow_rows.specs.Changes.{PutsAmounts}
use Rattle.escrow_rows.specs.View.{rows_in}
use Rattle.escrow_rows.specs.declared.amounts.NewAmounts.{NewAmounts}
use Rattle.escrow_schema.specs.Rows.{applied}
use Rattle.escrow_rows.proofs.ListedTables.{listed_are}
use Rattle.escrow_tables.specs.Calls.{Writes}
use Rattle.escrow_tables.specs.Inside.{IsHeld, Keeps, catalog_of, stored_of}
use Rattle.escrow_tables.specs.Puts.{ArePuts, TellsPut}
use Rattle.escrow_schema.specs.declared.counted_table.CountedTable.{CountedTable}
use Rattle.escrow_tables.proofs.Applying.{held_after}
use Rattle.escrow_tables.proofs.Writing.{keeps_on, seen, writes}

module _ {S : Type 0} (g : Ghosts S) (old new was later : Held S) (tables : List CountedTable) (reservations : List Reservation) (news : List NewAmounts) (is_done : Bool)
    (keeps : Keeps (state g old) (state g was) tables) (puts : ArePuts (stored_of tables) reservations news)
    (told : HasCleanDisk (state g old) → AllByRecursion (TellsPut (rows_in (stored_of tables) (state g was).now) reservations) news)
    (it : Transacts (state g old) (state g new) is_done (PutsAmounts news)) (if_done : is_done ≡ true → later ≡ new) (if_not : is_done ≡ false → later ≡ was) where
  abbrev rows : List Row
  rows = applied (rows_in (stored_of tables) (state g was).now) reservations

  turns : IsUsable (state g old) → (db : Database) → PutsAmounts news (state g was).now db → IsHeld tables rows db
  turns usable db = held_after reservations tables _ news (state g was).now db (listed_are tables keeps.listed) (keeps.held usable.0) puts (told usable.0)

  -- if the call succeeds, the reservations are applied
  pub commits : Writes g (seen g old was tables) (seen g new later tables) is_done (catalog_of tables) rows
  commits = writes g old new _ is_done it was later tables tables tables rows keeps keeps.listed turns (λ e. (refl, if_done e)) (λ e. (refl, if_not e))

  -- the fields keep their contents
  pub keeps_committed : Keeps (state g new) (state g later) tables
  keeps_committed =
      keeps_on g old new _ is_done it was later tables tables tables rows keeps keeps.listed turns (λ e. (refl, if_done e)) (λ e. (refl, if_not e))
