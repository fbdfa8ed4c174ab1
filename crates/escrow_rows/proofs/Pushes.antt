-- Steps that put new values into cells, one column after another.
use Rattle.std.proofs.Common.{◌≡◌, ℕ, ℤ, pos, ◌+◌, ◌<◌, ◌==◌, ◌||◌, true, false, Option, None, List, [], ◌∷◌, ◌++◌, map-id, drop, get_or, length, refl, sym, ap, ◌∙◌, subst}
use Rattle.std.specs.Prelude.{option_map}
use Rattle.std.specs.List.{AllByRecursion}
use Rattle.std.proofs.lemmas.List.{drop-drop}
use Rattle.std.proofs.lemmas.Simd.{map-map}
use Rattle.sqlite_trees.proofs.ListLemmas.{all-append}
use Rattle.sqlite_value.specs.declared.value.Value.{Value as Sql}
use Rattle.sqlite_value.specs.Order.{Row as SqlRow}
use Rattle.escrow_num.specs.declared.value.Value.{Value}
use Rattle.escrow_num.specs.declared.value.Value.TheVariants as value
use Rattle.escrow_schema.specs.declared.column.Column.{Column}
use Rattle.escrow_schema.proofs.ListLemmas.{drop_item}
use Rattle.escrow_schema.specs.declared.stored.StoredTable.{StoredTable}
use Rattle.escrow_cells.specs.declared.datum.Datum.{Datum}
use Rattle.escrow_cells.specs.declared.step.Step.{Step}
use Rattle.escrow_cells.specs.declared.step.Step.TheVariants as step
use Rattle.escrow_cells.specs.Step.{Contents, kept}
use Rattle.escrow_rows.specs.Image.{stored}
use Rattle.escrow_rows.specs.Inside.{SetsCellOf, on_cells, put_value, put_values, new_plain, new_amounts, first_new}

-- writing the remaining values to the cells of a row gives these contents
abbrev pub Leaves : ℤ → Sql → ℕ → List (Option Value) → Contents → Contents → Type 0
Leaves id key i news c whole = on_cells (put_values id key (pos (i + 1)) news) c ≡ whole

-- a column takes its new value
pub put_next : (id : ℤ) (key : Sql) (i : ℕ) (new : Option Value) (news left : List (Option Value)) (before after whole : Contents)
    → left ≡ new ∷ news → Leaves id key i left before whole → after ≡ on_cells (put_value id key (pos (i + 1)) (option_map stored new)) before → Leaves id key (i + 1) news after whole
put_next id key i new news left before after whole next h put =
    let start : Leaves id key i (new ∷ news) before whole = subst (λ (l : List (Option Value)). Leaves id key i l before whole) next h in
    rw put (ap (λ (cells : List SqlRow). record before { cells = cells })
    (map-map (put_values id key (pos (i + 1 + 1)) news) (put_value id key (pos (i + 1)) (option_map stored new)) before.cells) ∙ start)

-- a column without a new value is skipped
pub pass_next : (id : ℤ) (key : Sql) (i : ℕ) (news left : List (Option Value)) (before whole : Contents)
    → left ≡ None ∷ news → Leaves id key i left before whole → Leaves id key (i + 1) news before whole
pass_next id key i news left before whole next h = subst (λ (l : List (Option Value)). Leaves id key i l before whole) next h

-- no value remains
pub none_left : (id : ℤ) (key : Sql) (i : ℕ) (left : List (Option Value)) (c whole : Contents) → left ≡ [] → Leaves id key i left c whole → c ≡ whole
none_left id key i left c whole none h =
    let end : Leaves id key i [] c whole = subst (λ (l : List (Option Value)). Leaves id key i l c whole) none h in
    sym (ap (λ (cells : List SqlRow). record c { cells = cells }) (map-id c.cells)) ∙ end

-- the new values from a column on, whether it is plain or not
pub plain_taken : (columns : List Column) (i : ℕ) (column : Column) (at : ℕ) (news : List (Option Value)) (n : ℕ) → i < length columns → column ≡ get_or columns i column
    → column.reservable ≡ false → (i == at) ≡ false
    → new_plain (drop i columns) i at (drop n news) ≡ first_new (drop n news) ∷ new_plain (drop (i + 1) columns) (i + 1) at (drop (n + 1) news)
plain_taken columns i column at news n within here r apart =
    rw (drop_item columns i column within here, r, apart, ← drop-drop 1 n news) refl

pub plain_passed : (columns : List Column) (i : ℕ) (column : Column) (at : ℕ) (news : List (Option Value)) → i < length columns → column ≡ get_or columns i column
    → (column.reservable || i == at) ≡ true → new_plain (drop i columns) i at news ≡ None ∷ new_plain (drop (i + 1) columns) (i + 1) at news
plain_passed columns i column at news within here passed = rw (drop_item columns i column within here, passed) refl

-- the new values from a column on, whether it is RESERVABLE or not
pub amount_taken : (columns : List Column) (i : ℕ) (column : Column) (news : List (Option ℤ)) (n : ℕ) → i < length columns → column ≡ get_or columns i column
    → column.reservable ≡ true → new_amounts (drop i columns) (drop n news) ≡ option_map value.Number (first_new (drop n news)) ∷ new_amounts (drop (i + 1) columns) (drop (n + 1) news)
amount_taken columns i column news n within here r = rw (drop_item columns i column within here, r, ← drop-drop 1 n news) refl

pub amount_passed : (columns : List Column) (i : ℕ) (column : Column) (news : List (Option ℤ)) → i < length columns → column ≡ get_or columns i column
    → column.reservable ≡ false → new_amounts (drop i columns) news ≡ None ∷ new_amounts (drop (i + 1) columns) news
amount_passed columns i column news within here r = rw (drop_item columns i column within here, r) refl

-- one more step writes a value to a cell of the row
pub sets_more : (s : StoredTable) (key : Value) (steps : List Step) (id place : ℤ) (k value : Datum) (hint : Option ℤ) (i : ℕ) → id ≡ s.id → kept k ≡ stored key → i < length s.table.columns → place ≡ pos (i + 1)
    → AllByRecursion (SetsCellOf s key) steps → AllByRecursion (SetsCellOf s key) (steps ++ step.SetCell id k place value hint ∷ [])
sets_more s key steps id place k value hint i number is within here before = all-append (SetsCellOf s key) steps (step.SetCell id k place value hint ∷ []) before ((number, is, i, within, here), tt)
