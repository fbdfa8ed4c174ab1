-- The rows of tables after reservations are applied to them.
use Rattle.std.proofs.Common.{◌≡◌, ◌≤◌, ℕ, true, false, List, [], ◌∷◌, Option, Some, None, map, length, bytes_eq, cond, suc, IsTrue, refl, sym, ap, ◌∙◌, subst}
use Rattle.std.specs.List.{AllByRecursion}
use Rattle.std.specs.Prelude.{IsSomeAnd}
use Rattle.sqlite.specs.Effect.{Database}
use Rattle.sqlite_trees.proofs.ListLemmas.{all_weaker}
use Rattle.escrow_num.specs.declared.reservation.Reservation.{Reservation}
use Rattle.escrow_num.specs.declared.row.Row.{Row}
use Rattle.escrow_num.specs.Ascending.{IsAscending}
use Rattle.escrow_checks.proofs.FormLemmas.{length-all_changed}
use Rattle.escrow_schema.specs.Fit.{IsRowOf}
use Rattle.escrow_rows.specs.declared.amounts.NewAmounts.{NewAmounts}
use Rattle.escrow_schema.specs.declared.stored.StoredTable.{StoredTable}
use Rattle.escrow_schema.specs.declared.table.TheConstants.TableDef.{MAX_ROWS}
use Rattle.escrow_rows.specs.Changes.{PutsAmounts}
use Rattle.escrow_rows.specs.Image.{AreTables, AreRows, IsOfTables, stored_named}
use Rattle.escrow_schema.specs.Rows.{row_before, rows_of, changes_to, row_after, applied}
use Rattle.escrow_schema.specs.declared.counted_table.CountedTable.{CountedTable}
use Rattle.escrow_tables.specs.Inside.{stored_of, HasCount, IsHeld}
use Rattle.escrow_tables.specs.Puts.{ArePuts, TellsPut}
use Rattle.escrow_tables.proofs.Puts.{put_rows, puts_apply}

module _ (reservations : List Reservation) where
  -- a row still belongs to its table after changes are added
  after_fits : (row : Row) (o : Option StoredTable) → IsSomeAnd o (λ s. IsRowOf s.table row) → IsSomeAnd o (λ s. IsRowOf s.table (row_after reservations row))
  after_fits row None h = h
  after_fits row (Some s) h =
      record { table_name = h.table_name; key = h.key; plain = h.plain; amounts = length-all_changed row.amounts (map (changes_to row) reservations) ∙ h.amounts }

  applied_fit : (tables : List StoredTable) (rows : List Row) → AllByRecursion (IsOfTables tables) rows → AllByRecursion (IsOfTables tables) (applied rows reservations)
  applied_fit tables [] of = tt
  applied_fit tables (row ∷ rows) of = (after_fits row (stored_named tables row.name.table) of.0, applied_fit tables rows of.1)

  -- the rows keep their order
  applied_before : (first : Row) (rows : List Row) → AllByRecursion (λ row. IsTrue (row_before first row)) rows
      → AllByRecursion (λ row. IsTrue (row_before (row_after reservations first) row)) (applied rows reservations)
  applied_before first [] order = tt
  applied_before first (row ∷ rows) order = (order.0, applied_before first rows order.1)

  applied_order : (rows : List Row) → IsAscending row_before rows → IsAscending row_before (applied rows reservations)
  applied_order [] order = tt
  applied_order (row ∷ rows) order = (applied_before row rows order.0, applied_order rows order.1)

  -- a table keeps its number of rows
  applied_many : (rows : List Row) (table : List ℕ) → length (rows_of (applied rows reservations) table) ≡ length (rows_of rows table)
  applied_many [] table = refl
  applied_many (row ∷ rows) table =
      let more = applied_many rows table in
      elim (bytes_eq row.name.table table) as (λ b. length (cond b (row_after reservations row ∷ rows_of (applied rows reservations) table) (rows_of (applied rows reservations) table)) ≡ length (cond b (row ∷ rows_of rows table) (rows_of rows table)))
      [ true ↦ ap suc more | false ↦ more ]

  are_applied : (tables : List StoredTable) (rows : List Row) → AreRows tables rows → AreRows tables (applied rows reservations)
  are_applied tables rows are = record {
    of_tables = applied_fit tables rows are.of_tables;
    row_order = applied_order rows are.row_order;
    few_rows = λ table. subst (λ n. n ≤ MAX_ROWS) (sym (applied_many rows table)) (are.few_rows table);
  }

  -- a database with the new amounts of all reserved rows holds the rows to which the reservations are applied
  pub held_after : (tables : List CountedTable) (rows : List Row) (news : List NewAmounts) (old new : Database) → AreTables (stored_of tables) → IsHeld tables rows old
      → ArePuts (stored_of tables) reservations news → AllByRecursion (TellsPut rows reservations) news
      → PutsAmounts news old new → IsHeld tables (applied rows reservations) new
  held_after tables rows news old new are held puts told turns =
      let after = put_rows news rows
      ∙ puts_apply news rows reservations held.are_rows.row_order puts.rows told in
      record {
        are_rows = are_applied (stored_of tables) rows held.are_rows;
        image = rw after at (turns (stored_of tables) rows are held.are_rows puts.stand held.image);
        counts = all_weaker (HasCount rows) (HasCount (applied rows reservations)) (λ c count. count ∙ sym (applied_many rows c.stored.table.name)) tables held.counts;
      }
