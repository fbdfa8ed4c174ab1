-- What a reader has taken of the cells of the rows of a table in a span of columns.
use Rattle.std.proofs.Common.{◌≡◌, ℕ, ℤ, pos, ◌+◌, ◌≤◌, Bool, List, [], length, sym, ◌∙◌, subst, arith, Result, OnOk, IsTrue}
use Rattle.std.proofs.lemmas.Result.{on_ok_weaker}
use Rattle.sqlite_value.specs.declared.value.Value.TheVariants as sql
use Rattle.sqlite_value.specs.Order.{Row as SqlRow}
use Rattle.sqlite_trees.specs.declared.store.Store.{Ghosts}
use Rattle.sqlite.specs.Effect.{Database}
use Rattle.sqlite.specs.Held.{Held, state}
use Rattle.escrow_cells.specs.Read.{AreOfTable, Takes}
use Rattle.escrow_cells.specs.Span.{AreOfSpans}
use Rattle.escrow_cells.specs.Store.{IsStore, cells}
use Rattle.escrow_schema.specs.declared.stored.StoredTable.{StoredTable}
use Rattle.escrow_rows.specs.declared.keyed_row.KeyedRow.{KeyedRow}
use Rattle.escrow_rows.specs.declared.reader.RowReader.{RowReader}
use Rattle.escrow_rows.specs.Gathered.{HasGathered, TakesCells}
use Rattle.escrow_rows.proofs.AllValues.{table_read}
use Rattle.escrow_rows.proofs.Looking.{taken_of}
use Rattle.escrow_rows.proofs.SpanCells.{spans_answer, whole_span}

module _ {T : Type 0} (HasTaken : T → T → List KeyedRow → Type 0) (is_enough : T → Bool) (s : StoredTable) (db : Database) (old new : RowReader T) where
  -- those of all columns
  all_cells : (IsStore db → Takes (HasGathered HasTaken is_enough) (AreOfTable (sql.Int s.id) (cells db)) old new) → TakesCells HasTaken is_enough 0 (length s.table.columns) s db old new
  all_cells takes = λ tables rows are of stands image first has.
      let taken = takes image.store first [] has in
      subst (HasGathered HasTaken is_enough first new) (table_read tables rows s db taken.0 are of stands image.cells_are taken.1 ∙ whole_span tables rows s of stands) taken.2

  pub whole_cells : (start many : ℕ) → many ≡ length s.table.columns → start + many ≤ length s.table.columns → (IsStore db → Takes (HasGathered HasTaken is_enough) (AreOfTable (sql.Int s.id) (cells db)) old new)
      → TakesCells HasTaken is_enough start many s db old new
  whole_cells start many all within takes =
      let first : 0 ≡ start = omega (arith, all, within) in
      subst (λ (n : ℕ). TakesCells HasTaken is_enough n many s db old new) first (subst (λ (n : ℕ). TakesCells HasTaken is_enough 0 n s db old new) (sym all) (all_cells takes))

  -- those of some
  pub some_cells : (start many : ℕ) → (IsStore db → Takes (HasGathered HasTaken is_enough) (AreOfSpans (pos (start + 1)) (pos (start + many)) (sql.Int s.id) (cells db)) old new) → TakesCells HasTaken is_enough start many s db old new
  some_cells start many takes = λ tables rows are of stands image first has.
      let taken = takes image.store first [] has in
      subst (HasGathered HasTaken is_enough first new) (spans_answer start many tables rows s db taken.0 are of stands image.cells_are taken.1) taken.2

-- so it is of a call that reads them
module _ {S : Type 0} (g : Ghosts S) (inside old new : Held S) (same_conn : inside ≡ old) {T : Type 0} (HasTaken : T → T → List KeyedRow → Type 0) (is_enough : T → Bool) (s : StoredTable) (first last : RowReader T) where
  abbrev Gives : (Database → List SqlRow → Type 0) → Database → Type 0
  Gives IsAnswer db = IsStore db → Takes (HasGathered HasTaken is_enough) (IsAnswer db) first last

  pub whole_read : {V E : Type 0} (id : ℤ) (start many : ℕ) (r : Result V E) → id ≡ s.id → many ≡ length s.table.columns → start + many ≤ length s.table.columns → OnOk r (IsTrue (state g new).is_open)
      → OnOk r (Gives (λ db. AreOfTable (sql.Int id) (cells db)) (state g inside).now) → OnOk r (IsTrue (state g new).is_open × TakesCells HasTaken is_enough start many s (state g old).now first last)
  whole_read id start many r number all within opened taken =
      on_ok_weaker r
      (λ both. (both.0, whole_cells HasTaken is_enough s (state g old).now first last start many all within (subst (λ (n : ℤ). Gives (λ db. AreOfTable (sql.Int n) (cells db)) (state g old).now) number both.1)))
      (taken_of g inside old new same_conn (HasGathered HasTaken is_enough) IsStore (λ db. AreOfTable (sql.Int id) (cells db)) first last r opened taken)

  pub some_read : {V E : Type 0} (id from to : ℤ) (start many : ℕ) (r : Result V E) → id ≡ s.id → from ≡ pos (start + 1) → to ≡ pos (start + many) → OnOk r (IsTrue (state g new).is_open)
      → OnOk r (Gives (λ db. AreOfSpans from to (sql.Int id) (cells db)) (state g inside).now) → OnOk r (IsTrue (state g new).is_open × TakesCells HasTaken is_enough start many s (state g old).now first last)
  some_read id from to start many r number begins ends opened taken =
      on_ok_weaker r
      (λ both.
      let from_first = subst (λ (n : ℤ). Gives (λ db. AreOfSpans n to (sql.Int id) (cells db)) (state g old).now) begins both.1 in
      let to_last = subst (λ (n : ℤ). Gives (λ db. AreOfSpans (pos (start + 1)) n (sql.Int id) (cells db)) (state g old).now) ends from_first in
      (both.0, some_cells HasTaken is_enough s (state g old).now first last start many (subst (λ (n : ℤ). Gives (λ db. AreOfSpans (pos (start + 1)) (pos (start + many)) (sql.Int n) (cells db)) (state g old).now) number to_last)))
      (taken_of g inside old new same_conn (HasGathered HasTaken is_enough) IsStore (λ db. AreOfSpans from to (sql.Int id) (cells db)) first last r opened taken)
