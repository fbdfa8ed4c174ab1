-- What a counter of rows has taken, and what it has counted after it has taken all rows of a table.
use Rattle.std.proofs.Common.{◌≡◌, ◌≢◌, ℕ, ◌+◌, ◌<◌, ◌≤◌, Bool, false, List, [], ◌∷◌, ◌++◌, flat_map, map, filter, length, length-append, refl, sym, ap, ap₂, ◌∙◌, subst, arith, inl, inr, IsTrue}
use Rattle.std.specs.Prelude.{slice_get}
use Rattle.std.specs.List.{AllByRecursion}
use Rattle.std.proofs.lemmas.List.Sorted.{IsPermutation-sym}
use Rattle.std.proofs.lemmas.Bool.{both_ways, cases_Bool}
use Rattle.std.proofs.lemmas.List.{length-map}
use Rattle.sqlite_value.specs.declared.value.Value.TheVariants as sql
use Rattle.sqlite_value.specs.Order.{Row as SqlRow, column}
use Rattle.sqlite_trees.proofs.ListLemmas.{all-append, all-map, all-slice_get, all_weaker}
use Rattle.sqlite.specs.Effect.{Database}
use Rattle.escrow_num.specs.declared.row.Row.{Row}
use Rattle.escrow_num.specs.declared.value.Value.{Value}
use Rattle.escrow_schema.specs.declared.table.TableDef.{TableDef}
use Rattle.escrow_schema.specs.declared.table.TheConstants.TableDef.{MAX_ROWS}
use Rattle.escrow_schema.specs.Definition.{IsTable}
use Rattle.escrow_schema.specs.Fit.{IsRowOf, amounts_of, plain_of, values_of}
use Rattle.escrow_schema.proofs.BackLemmas.{length-values_of, row_with_values_of}
use Rattle.escrow_schema.proofs.ListLemmas.{first_part, mapped_some}
use Rattle.escrow_cells.specs.Read.{AreOfTable}
use Rattle.escrow_cells.specs.Step.{is_in}
use Rattle.escrow_cells.specs.Store.{cells}
use Rattle.escrow_rows.specs.declared.keyed_row.KeyedRow.{KeyedRow}
use Rattle.escrow_schema.specs.declared.stored.StoredTable.{StoredTable}
use Rattle.escrow_rows.specs.Image.{CanBeHeld}
use Rattle.escrow_rows.specs.Placed.{keyed_cells}
use Rattle.escrow_rows.specs.Reading.{AreTaken, IsWhole, keyed_row, row_cells}
use Rattle.escrow_rows.proofs.AllValues.{as_many, cells_same}
use Rattle.escrow_rows.proofs.Gathering.{all_behind}
use Rattle.escrow_recover.specs.declared.rows.counter.RowCounter.{RowCounter}
use Rattle.escrow_recover.specs.Counting.{HasTaken, IsRowWith, MayHave}
use Rattle.escrow_recover.specs.Inside.{AreRowsIn, IsSoundRow}
use Rattle.escrow_recover.proofs.RowOrder.{answer_is, in_order}

-- ---- one more row

-- if a table may have these rows and one more, it may have them without that one
fewer : (table : TableDef) (read : List KeyedRow) (one : KeyedRow) → MayHave table (read ++ one ∷ []) → MayHave table read
fewer table read one may = record {
  each = first_part (λ (r : KeyedRow). (row : Row) × IsRowWith table r row) read (one ∷ []) may.each;
  few = let many = may.few in omega (arith, length-append read (one ∷ []));
}

-- one more row is taken, while all rows before it were sound
pub taken_row : (first old new : RowCounter) (good : Bool) (read : List KeyedRow) (one : KeyedRow) → HasTaken first old read → IsTrue old.sound
    → (IsTrue good → (old.rows < MAX_ROWS) × (made : Row) × IsRowWith old.table one made × (new ≡ record old { rows = old.rows + 1 }))
    → (good ≡ false → (new ≡ old) × (old.rows < MAX_ROWS → (made : Row) → IsRowWith old.table one made → ⊥))
    → HasTaken first (record new { sound = good }) (read ++ one ∷ [])
taken_row first old new good read one taken sound more other =
    let may = taken.counted sound in
    let same : new.table ≡ old.table = elim (cases_Bool good) [ inl fits ↦ ap (λ (c : RowCounter). c.table) (more fits).3 | inr none ↦ ap (λ (c : RowCounter). c.table) (other none).0 ] in
    record {
      same_table = same ∙ taken.same_table;
      counted = λ yes.
          let counted = more yes in
          let is = subst (λ (t : TableDef). IsRowWith t one counted.1) taken.same_table counted.2 in (
            record {
              each = all-append (λ (r : KeyedRow). (row : Row) × IsRowWith first.table r row) read (one ∷ []) may.0.each ((counted.1, is), tt);
              few = omega (arith, counted.0, may.1, length-append read (one ∷ []));
            },
            ap (λ (c : RowCounter). c.rows) counted.3 ∙ omega (arith, may.1, length-append read (one ∷ [])),
          );
      other = λ no has.
          let last = (all_behind (λ (r : KeyedRow). (row : Row) × IsRowWith first.table r row) read (one ∷ []) has.each).0 in
          (other no).1 (omega (arith, may.1, has.few, length-append read (one ∷ []))) last.0 (subst (λ (t : TableDef). IsRowWith t one last.0) (sym taken.same_table) last.1);
    }

pub passed_row : (first old : RowCounter) (read : List KeyedRow) (one : KeyedRow) → HasTaken first old read → old.sound ≡ false → HasTaken first old (read ++ one ∷ [])
passed_row first old read one taken unsound = record {
  same_table = taken.same_table;
  counted = λ sound. absurd (both_ways old.sound unsound sound);
  other = λ no has. taken.other no (fewer first.table read one has);
}

-- ---- all rows

-- sound rows of a table, given by their keys and values
record AreMade (table : TableDef) (read : List KeyedRow) : Type 0 where
  rows : List Row
  sound : AllByRecursion (IsSoundRow table) rows
  same : read ≡ map (keyed_row table) rows

made : (table : TableDef) (many : ℕ) (read : List KeyedRow) → AllByRecursion (IsWhole many) read → AllByRecursion (λ one. (row : Row) × IsRowWith table one row) read → AreMade table read
made table many [] whole each = record { rows = []; sound = tt; same = refl }
made table many (one ∷ read) whole each =
    let row = each.0.0 in
    let is = each.0.1 in
    let rest = made table many read whole.1 each.1 in
    let one_is : one ≡ keyed_row table row = sym (ap₂ (λ (k : Value) (vs : List Value). let made : KeyedRow = record { key = k; values = vs } in made) is.key_is is.values_are) in
    record {
      rows = row ∷ rest.rows;
      sound = (record { is_row = is.is_row; meets = is.meets; held = subst (AllByRecursion CanBeHeld) (sym is.values_are) whole.0.held }, rest.sound);
      same = ap₂ (λ (r : KeyedRow) (rs : List KeyedRow). r ∷ rs) one_is rest.same;
    }

-- a sound row is whole: its key and its values can be held
whole_row : (table : TableDef) (row : Row) → IsTable table → IsSoundRow table row → IsWhole (length table.columns) (keyed_row table row)
whole_row table row is_table sound = record {
  many_are = length-values_of table row sound.is_row;
  key_held =
      let values = values_of table row in
      mapped_some (λ key. record { name = record { table = table.name; key = key }; amounts = amounts_of table.columns values; plain = plain_of table.columns values 0 table.key }) (slice_get values table.key) row
      (row_with_values_of table row is_table sound.is_row) (λ key found is. subst CanBeHeld (ap (λ (r : Row). r.name.key) is) (all-slice_get CanBeHeld values table.key key found sound.held));
  held = sound.held;
}

-- a table may have sound rows
may_have : (table : TableDef) (rows : List Row) → AllByRecursion (IsSoundRow table) rows → length rows ≤ MAX_ROWS → MayHave table (map (keyed_row table) rows)
may_have table rows sound few = record {
  each = all-map (λ (r : KeyedRow). (row : Row) × IsRowWith table r row) (keyed_row table) rows
      (all_weaker (IsSoundRow table) _ (λ row is. (row, record { is_row = is.is_row; meets = is.meets; key_is = refl; values_are = refl })) rows sound);
  few = omega (arith, length-map rows (keyed_row table));
}

-- the cells of a table, in order; a counter starts and is given their rows
module _ (s : StoredTable) (db : Database) (is_table : IsTable s.table) (answer : List SqlRow) (of : AreOfTable (sql.Int s.id) (cells db) answer) where
  -- sound rows that have all cells of a table are the table's rows
  are_rows : (rows : List Row) → AllByRecursion (IsSoundRow s.table) rows → length rows ≤ MAX_ROWS → answer ≡ flat_map (keyed_cells s.table) rows → AreRowsIn s rows db
  are_rows rows sound few is =
      let own : AreOfTable (sql.Int s.id) (cells db) (flat_map (keyed_cells s.table) rows) = subst (AreOfTable (sql.Int s.id) (cells db)) is of in
      record {
        sound = sound;
        row_order = in_order s.table is_table rows sound own.in_order;
        few = few;
        cells_are = IsPermutation-sym (map (λ c. column c 1 ∷ column c 2 ∷ column c 3 ∷ []) (filter (is_in (sql.Int s.id)) (cells db))) (flat_map (keyed_cells s.table) rows) own.same_cells;
      }

  -- if no whole rows have these cells, the table has no rows
  pub none_read : ((read : List KeyedRow) → AllByRecursion (IsWhole (length s.table.columns)) read → answer ≢ flat_map (row_cells 0) read) → (rows : List Row) → AreRowsIn s rows db → ⊥
  none_read none rows are =
      none (map (keyed_row s.table) rows) (all-map (IsWhole (length s.table.columns)) (keyed_row s.table) rows (all_weaker (IsSoundRow s.table) _ (λ row sound. whole_row s.table row is_table sound) rows are.sound))
      (answer_is s db rows answer are of ∙ cells_same s.table rows)

  module _ (fresh last : RowCounter) (table_is : fresh.table ≡ s.table) (sound : IsTrue fresh.sound) (none : fresh.rows ≡ 0) (taken : AreTaken HasTaken 0 (length s.table.columns) fresh answer last) where
    begun : HasTaken fresh fresh []
    begun = record {
      same_table = refl;
      counted = λ _. (record { each = tt; few = omega arith }, none);
      other = λ unsound. absurd (both_ways fresh.sound unsound sound);
    }

    all_taken : HasTaken fresh last taken.rows
    all_taken = taken.taken fresh [] begun

    -- rows that the table may have are its rows
    pub rows_found : IsTrue last.sound → (rows : List Row) × AreRowsIn s rows db × (last.rows ≡ length rows)
    rows_found good =
        let counted = all_taken.counted good in
        let may = subst (λ (t : TableDef). MayHave t taken.rows) table_is counted.0 in
        let own = made s.table (length s.table.columns) taken.rows taken.whole may.each in
        let many : length taken.rows ≡ length own.rows = ap length own.same ∙ length-map own.rows (keyed_row s.table) in (
          own.rows,
          are_rows own.rows own.sound (omega (arith, may.few)) (taken.cells_are ∙ ap (flat_map (row_cells 0)) own.same ∙ sym (cells_same s.table own.rows)),
          counted.1 ∙ many,
        )

    -- if the table may not have them, it has no rows
    pub no_rows_found : last.sound ≡ false → (rows : List Row) → AreRowsIn s rows db → ⊥
    no_rows_found unsound rows are =
        let fit = all_weaker (IsSoundRow s.table) (IsRowOf s.table) (λ row sound. sound.is_row) rows are.sound in
        let same = taken.only (map (keyed_row s.table) rows) (as_many s.table rows fit) (answer_is s db rows answer are of ∙ cells_same s.table rows) in
        let may : MayHave s.table taken.rows = subst (MayHave s.table) same (may_have s.table rows are.sound are.few) in
        all_taken.other unsound (subst (λ (t : TableDef). MayHave t taken.rows) (sym table_is) may)
