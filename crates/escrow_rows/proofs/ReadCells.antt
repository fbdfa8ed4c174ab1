-- What is computed from the cells of a key's row.
use Rattle.std.proofs.Common.{◌≡◌, ◌<◌, ◌≤◌, ◌+◌, ℕ, ℤ, pos, true, false, IsTrue, Less, Result, Option, Some, None, option_map, List, [], ◌∷◌, ◌++◌, append-nil, map, filter, drop, get_or, flat_map, length, ap, ap₂, sym, ◌∙◌, subst, refl, arith, IsPermutation}
use Rattle.std.proofs.Math.Numerals.{add-one}
use Rattle.std.proofs.Math.Seq.{drop-cons}
use Rattle.std.specs.Prelude.{IfOk, option_to_list, slice_get}
use Rattle.std.proofs.lemmas.List.Sorted.{IsPermutation-trans}
use Rattle.std.proofs.lemmas.Option.{none-some, same_Some}
use Rattle.std.proofs.lemmas.Result.{IfOk-weaker}
use Rattle.sqlite_value.specs.declared.value.Value.{Value as Sql}
use Rattle.sqlite_value.specs.declared.value.Value.TheVariants as sql
use Rattle.sqlite_value.specs.Order.{Row as SqlRow}
use Rattle.sqlite_trees.specs.Tree.{IsAscending as Rises}
use Rattle.sqlite_trees.specs.declared.store.Store.{Ghosts}
use Rattle.sqlite_trees.proofs.ListLemmas.{IsPermutation-filter, ascending-filter}
use Rattle.sqlite_keyed.proofs.SortLemmas.{sorted_unique}
use Rattle.sqlite.specs.Effect.{Database}
use Rattle.sqlite.specs.Held.{Held, state}
use Rattle.escrow_num.specs.declared.row.Row.{Row}
use Rattle.escrow_num.specs.declared.value.Value.{Value}
use Rattle.escrow_num.specs.declared.value.Value.TheVariants.{Number}
use Rattle.escrow_schema.specs.declared.column.Column.{Column}
use Rattle.escrow_schema.specs.declared.table.TableDef.{TableDef}
use Rattle.escrow_schema.specs.Column.{reservables}
use Rattle.escrow_schema.specs.Definition.{IsTable}
use Rattle.escrow_schema.specs.Fit.{IsRowOf, amounts_of, number_in, plain_of, values_of}
use Rattle.escrow_schema.proofs.BackLemmas.{length-values_of, row_with_values_of}
use Rattle.escrow_schema.proofs.ListLemmas.{drop_item, mapped_some}
use Rattle.escrow_schema.proofs.RuleLemmas.{key_stands}
use Rattle.escrow_cells.specs.Read.{AreOfRow}
use Rattle.escrow_cells.specs.Span.{AreOfSpan}
use Rattle.escrow_cells.specs.Step.{is_of}
use Rattle.escrow_cells.specs.Store.{IsStore, cells}
use Rattle.escrow_schema.specs.declared.stored.StoredTable.{StoredTable}
use Rattle.escrow_schema.specs.Rows.{row_named}
use Rattle.escrow_rows.specs.Answers.{Tells}
use Rattle.escrow_rows.specs.Image.{stored, cells_of, IsImage, AreTables, AreRows}
use Rattle.escrow_rows.specs.Changes.{Stands, name_in}
use Rattle.escrow_rows.specs.Placed.{placed, placed_in, IsRowOfCells, TellsCells, TellsSpan}
use Rattle.escrow_rows.proofs.PlacedCells.{cells_placed, get_placed, in_place, length-placed, place_cmp, place_cmp_total, placed_rise, stored_same}
use Rattle.escrow_rows.proofs.RowRead.{placed_named, row_there}
use Rattle.escrow_rows.proofs.Spans.{in_span, length-placed_in, span_placed}

-- what a row shows, if there is one
abbrev shown_of : (Row → List SqlRow) → Option Row → List SqlRow
shown_of of None = []
shown_of of (Some row) = of row

-- the cells of a row of a table, each by its place and value
abbrev whole_of : TableDef → Row → List SqlRow
whole_of table row = placed 1 (values_of table row)

-- the same for a span of columns
abbrev span_of : ℕ → ℕ → TableDef → Row → List SqlRow
span_of start many table row = placed_in start many (values_of table row)

module _ (tables : List StoredTable) (rows : List Row) (s : StoredTable) (key : Value) (db : Database) (are : AreTables tables) (of : AreRows tables rows) (stands : Stands tables s)
    (coded : IsPermutation (flat_map (cells_of tables) rows) (cells db)) where
  abbrev named : Option Row
  named = row_named rows (name_in s key)

  abbrev mine : List SqlRow
  mine = map in_place (filter (is_of (sql.Int s.id) (stored key)) (cells db))

  -- the cells of a key are those of the row with that name
  held : IsPermutation (shown_of (whole_of s.table) named) mine
  held = at named refl (placed_named tables rows s key db are of stands coded)
    where
      at : (o : Option Row) → named ≡ o → IsPermutation (map in_place (flat_map (cells_of tables) (option_to_list o))) mine → IsPermutation (shown_of (whole_of s.table) o) mine
      at None e same = same
      at (Some row) e same =
          let all = append-nil (cells_of tables row) ∙ (row_there tables rows s key row of stands e).1 in
          let shown : map in_place (cells_of tables row ++ []) ≡ whole_of s.table row = ap (map in_place) all ∙ cells_placed s.id row.name.key 1 (values_of s.table row) in
          subst (λ (cs : List SqlRow). IsPermutation cs mine) shown same

  rising : (o : Option Row) → Rises (λ a b. place_cmp a b ≡ Less) (shown_of (whole_of s.table) o)
  rising None = tt
  rising (Some row) = placed_rise 1 (values_of s.table row)

  -- the cells that were read are those of the row with that name
  read_told : (answer : List SqlRow) → AreOfRow (sql.Int s.id) (stored key) (cells db) answer → answer ≡ shown_of (whole_of s.table) named
  read_told answer read =
      sorted_unique place_cmp place_cmp_total (shown_of (whole_of s.table) named) answer (rising named) (IsPermutation-trans (shown_of (whole_of s.table) named) mine answer held read.same_cells) read.in_order

  -- the same for a span of columns
  span_told : (start many : ℕ) (answer : List SqlRow) → AreOfSpan (pos (start + 1)) (pos (start + many)) (sql.Int s.id) (stored key) (cells db) answer → answer ≡ shown_of (span_of start many s.table) named
  span_told start many answer read =
      let within = in_span start many in
      let whole = shown_of (whole_of s.table) named in
      sorted_unique place_cmp place_cmp_total (filter within whole) answer (ascending-filter (λ a b. place_cmp a b ≡ Less) within whole (rising named))
      (IsPermutation-trans (filter within whole) (filter within mine) answer (IsPermutation-filter within whole mine held) read.same_cells) read.in_order
      ∙ at named
    where
      at : (o : Option Row) → filter (in_span start many) (shown_of (whole_of s.table) o) ≡ shown_of (span_of start many s.table) o
      at None = refl
      at (Some row) = span_placed start many (values_of s.table row)

module _ (s : StoredTable) (key : Value) (db : Database) (of : Row → List SqlRow) where
  abbrev TellsShown : Option (List SqlRow) → Type 0
  TellsShown = Tells s (λ rows. option_map of (row_named rows (name_in s key))) db

  -- if each row shows something, what was found in the cells is what the row shows
  pub tells_shown : (answer : List SqlRow) (found : Option (List SqlRow)) → ((row : Row) → IsRowOf s.table row → 0 < length (of row))
      → ((tables : List StoredTable) (rows : List Row) → AreTables tables → AreRows tables rows → Stands tables s → IsImage tables rows db → answer ≡ shown_of of (row_named rows (name_in s key)))
      → IsRowOfCells answer found → TellsShown found
  tells_shown answer found some read is tables rows are of_tables stands image =
      at found (row_named rows (name_in s key)) refl is (read tables rows are of_tables stands image)
    where
      at : (found : Option (List SqlRow)) (o : Option Row) → row_named rows (name_in s key) ≡ o → IsRowOfCells answer found → answer ≡ shown_of of o → found ≡ option_map of o
      at None None e is told = refl
      at None (Some row) e is told =
          let none : length (of row) ≡ 0 = ap length (sym told ∙ is) in
          absurd (omega (arith, none, some row (row_there tables rows s key row of_tables stands e).0))
      at (Some some) None e is told = absurd (is.1 told)
      at (Some some) (Some row) e is told = ap Some (is.0 ∙ told)

  -- if there are no cells, there is no row
  pub none_told : {A : Type 0} (made : Row → A) → TellsShown None → Tells s (λ rows. option_map made (row_named rows (name_in s key))) db None
  none_told made tells tables rows are of_tables stands image = at (row_named rows (name_in s key)) (tells tables rows are of_tables stands image)
    where
      at : (o : Option Row) → None ≡ option_map of o → None ≡ option_map made o
      at None e = refl
      at (Some row) e = absurd (none-some _ e)

  -- what is computed from cells is what the row with these cells has
  pub some_told : {A : Type 0} (made : Row → A) (shown : List SqlRow) (answer : A) → TellsShown (Some shown) → ((row : Row) → IsRowOf s.table row → shown ≡ of row → answer ≡ made row)
      → Tells s (λ rows. option_map made (row_named rows (name_in s key))) db (Some answer)
  some_told made shown answer tells is tables rows are of_tables stands image = at (row_named rows (name_in s key)) refl (tells tables rows are of_tables stands image)
    where
      at : (o : Option Row) → row_named rows (name_in s key) ≡ o → Some shown ≡ option_map of o → Some answer ≡ option_map made o
      at None here e = absurd (none-some _ (sym e))
      at (Some row) here e = ap Some (is row (row_there tables rows s key row of_tables stands here).0 (same_Some _ _ e))

-- the same for a store that a call has read
module _ {S : Type 0} (g : Ghosts S) (inside old new : Held S) (same : inside ≡ old) (s : StoredTable) (key : Value) (id : ℤ) (kept : Sql) (number : id ≡ s.id) (is : kept ≡ stored key) (opened : IsTrue (state g new).is_open)
    (answer : List SqlRow) {E : Type 0} (r : Result (Option (List SqlRow)) E) (found : IfOk r (IsRowOfCells answer)) where
  told_of : (of : Row → List SqlRow) (Reads : Sql → Sql → List SqlRow → List SqlRow → Type 0) → (IsStore (state g inside).now → Reads (sql.Int id) kept (cells (state g inside).now) answer)
      → ((IsStore (state g old).now → Reads (sql.Int s.id) (stored key) (cells (state g old).now) answer) → (some : Option (List SqlRow)) → IsRowOfCells answer some → TellsShown s key (state g old).now of some)
      → IfOk r (λ some. IsTrue (state g new).is_open × TellsShown s key (state g old).now of some)
  told_of of Reads read tells =
      let with_key = subst (λ (k : Sql). IsStore (state g inside).now → Reads (sql.Int id) k (cells (state g inside).now) answer) is read in
      let with_id = subst (λ (n : ℤ). IsStore (state g inside).now → Reads (sql.Int n) (stored key) (cells (state g inside).now) answer) number with_key in
      let of_old = subst (λ (c : Held S). IsStore (state g c).now → Reads (sql.Int s.id) (stored key) (cells (state g c).now) answer) same with_id in
      IfOk-weaker r (IsRowOfCells answer) (λ some. IsTrue (state g new).is_open × TellsShown s key (state g old).now of some) (λ some made. (opened, tells of_old some made)) found

  pub cells_told_of : IsTable s.table → (IsStore (state g inside).now → AreOfRow (sql.Int id) kept (cells (state g inside).now) answer)
      → IfOk r (λ some. IsTrue (state g new).is_open × TellsCells s key (state g old).now some)
  cells_told_of is_table read =
      told_of (whole_of s.table) AreOfRow read
      (λ read_old some. tells_shown s key (state g old).now (whole_of s.table) answer some
      (λ row fits. omega (arith, length-placed 1 (values_of s.table row), length-values_of s.table row fits, key_stands s.table is_table))
      (λ tables rows are of stands image. read_told tables rows s key (state g old).now are of stands image.cells_are answer (read_old image.store)))

  pub span_told_of : (start many : ℕ) (first last : ℤ) → first ≡ pos (start + 1) → last ≡ pos (start + many) → 0 < many → start + many ≤ length s.table.columns
      → (IsStore (state g inside).now → AreOfSpan first last (sql.Int id) kept (cells (state g inside).now) answer)
      → IfOk r (λ some. IsTrue (state g new).is_open × TellsSpan start many s key (state g old).now some)
  span_told_of start many first last from to some within read =
      told_of (span_of start many s.table) (AreOfSpan (pos (start + 1)) (pos (start + many)))
      (subst (λ (n : ℤ). IsStore (state g inside).now → AreOfSpan (pos (start + 1)) n (sql.Int id) kept (cells (state g inside).now) answer) to
      (subst (λ (n : ℤ). IsStore (state g inside).now → AreOfSpan n last (sql.Int id) kept (cells (state g inside).now) answer) from read))
      (λ read_old found. tells_shown s key (state g old).now (span_of start many s.table) answer found
      (λ row fits. omega (arith, some, length-placed_in start many (values_of s.table row) (omega (arith, within, length-values_of s.table row fits))))
      (λ tables rows are of stands image. span_told tables rows s key (state g old).now are of stands image.cells_are start many answer (read_old image.store)))

-- the amounts among a row's values are the row's amounts
pub amounts_back : (table : TableDef) (row : Row) → IsTable table → IsRowOf table row → amounts_of table.columns (values_of table row) ≡ row.amounts
amounts_back table row is_table is_row =
    let values = values_of table row in
    mapped_some (λ key. record { name = record { table = table.name; key = key }; amounts = amounts_of table.columns values; plain = plain_of table.columns values 0 table.key }) (slice_get values table.key) row
    (row_with_values_of table row is_table is_row) (λ key found whole. ap (λ (r : Row). r.amounts) whole)

-- cells determine their values
pub placed_same : (place : ℕ) (vs ws : List Value) → placed place vs ≡ placed place ws → vs ≡ ws
placed_same place [] [] e = refl
placed_same place [] (w ∷ ws) e = absurd (cc)
placed_same place (v ∷ vs) [] e = absurd (cc)
placed_same place (v ∷ vs) (w ∷ ws) e =
    let value : stored v ≡ stored w = cc in
    let later : placed (place + 1) vs ≡ placed (place + 1) ws = cc in
    ap₂ (λ (x : Value) (xs : List Value). x ∷ xs) (stored_same v w value) (placed_same (place + 1) vs ws later)

module _ (columns : List Column) (cells : List SqlRow) (before i : ℕ) (column : Column) (within : i < length columns) (here : column ≡ get_or columns i column) (long : length cells ≡ length columns) where
  -- there are as many values as columns
  values_within : (values : List Value) → cells ≡ placed (before + 1) values → i < length values
  values_within values shown = let many : length cells ≡ length (placed (before + 1) values) = ap length shown in omega (arith, many, within, long, length-placed (before + 1) values)

  values_left : (values : List Value) (v : Value) → i < length values → drop i values ≡ get_or values i v ∷ drop (i + 1) values
  values_left values v short = rw add-one (drop-cons values i v short)

  -- the amounts from a RESERVABLE column on
  pub amount_taken : (cell : SqlRow) (a : ℤ) → column.reservable ≡ true → cell ≡ get_or cells i cell → cell ≡ sql.Int (pos (before + i + 1)) ∷ sql.Int a ∷ [] → (values : List Value) → cells ≡ placed (before + 1) values
      → amounts_of (drop i columns) (drop i values) ≡ a ∷ amounts_of (drop (i + 1) columns) (drop (i + 1) values)
  amount_taken cell a r at is values shown =
      let short = values_within values shown in
      let v = get_or values i (Number a) in
      let there : cell ≡ sql.Int (pos (before + 1 + i)) ∷ stored v ∷ [] = at ∙ ap (λ (cs : List SqlRow). get_or cs i cell) shown ∙ get_placed (before + 1) i values cell (Number a) short in
      let kept : stored v ≡ sql.Int a = cc in
      let value : v ≡ Number a = stored_same v (Number a) kept in
      rw (drop_item columns i column within here, values_left values (Number a) short, r)
      (ap (λ (w : Value). number_in w ∷ amounts_of (drop (i + 1) columns) (drop (i + 1) values)) value)

  -- the amounts from any other column on
  pub amount_passed : column.reservable ≡ false → (values : List Value) → cells ≡ placed (before + 1) values → amounts_of (drop i columns) (drop i values) ≡ amounts_of (drop (i + 1) columns) (drop (i + 1) values)
  amount_passed r values shown =
      rw (drop_item columns i column within here, values_left values (Number (pos 0)) (values_within values shown), r) refl

  pub reservable_taken : column.reservable ≡ true → reservables (drop i columns) ≡ column ∷ reservables (drop (i + 1) columns)
  reservable_taken r = rw (drop_item columns i column within here, r) refl

  pub reservable_passed : column.reservable ≡ false → reservables (drop i columns) ≡ reservables (drop (i + 1) columns)
  reservable_passed r = rw (drop_item columns i column within here, r) refl
