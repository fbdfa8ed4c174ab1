-- The cells of a row, distinguished by their places, and the values read from them.
use Rattle.std.proofs.Common.{◌≡◌, ℤ, pos, ◌<ℤ◌, true, false, List, [], ◌∷◌, length, filter, find, Some, refl, sym, ap, ap₂, ◌∙◌, inl, inr, arith}
use Rattle.std.specs.Prelude.{◌+ℤ◌, option_map, unwrap_or}
use Rattle.std.specs.List.{AllByRecursion}
use Rattle.std.specs.Ordering.{int_eq}
use Rattle.std.proofs.lemmas.Int.{ints}
use Rattle.std.proofs.lemmas.Bool.{cases_Bool}
use Rattle.std.proofs.lemmas.Bool.Decides.{Decides-int_eq}
use Rattle.sqlite_value.specs.declared.value.Value.{Value as Sql}
use Rattle.sqlite_value.specs.declared.value.Value.TheVariants as sql
use Rattle.sqlite_value.specs.Order.{Row as SqlRow, column}
use Rattle.sqlite_trees.proofs.ListLemmas.{all_both, filter_none}
use Rattle.escrow_num.specs.declared.value.Value.{Value}
use Rattle.escrow_num.specs.declared.value.Value.TheVariants.{Number, Text}
use Rattle.escrow_schema.specs.declared.column.Column.{Column}
use Rattle.escrow_cells.specs.Step.{same, is_at}
use Rattle.escrow_rows.specs.Image.{stored, cells_from}
use Rattle.escrow_rows.specs.View.{value_kept, kept_from}
use Rattle.escrow_rows.proofs.Same.{same_numbers}

-- SQLite finds a number equal to itself and to no other
pub same_itself : (n : ℤ) → same (sql.Int n) (sql.Int n) ≡ true
same_itself n = same_numbers n n ∙ (Decides-int_eq n n).1 refl

pub number_same : (m n : ℤ) → same (sql.Int m) (sql.Int n) ≡ true → m ≡ n
number_same m n h = (Decides-int_eq m n).0 (sym (same_numbers m n) ∙ h)

apart : (m n : ℤ) → ¬ (m ≡ n) → same (sql.Int m) (sql.Int n) ≡ false
apart m n differ = same_numbers m n ∙ elim (cases_Bool (int_eq m n)) [ inl t ↦ absurd (differ ((Decides-int_eq m n).0 t)) | inr f ↦ f ]

pub same_later : (m n : ℤ) → m <ℤ n → same (sql.Int n) (sql.Int m) ≡ false
same_later m n h = apart n m (λ e. omega (arith, ints))

same_earlier : (m n : ℤ) → m <ℤ n → same (sql.Int m) (sql.Int n) ≡ false
same_earlier m n h = apart m n (λ e. omega (arith, ints))

-- what holds of all later places holds of those of the cells that follow
pub places_behind : (P : Sql → Type 0) (first : ℤ) → ((n : ℤ) → first <ℤ n → P (sql.Int n)) → (id : ℤ) (key : Value) (place : ℤ) (values : List Value) → first <ℤ place
    → AllByRecursion (λ cell. P (column cell 2)) (cells_from id key place values)
places_behind P first each id key place [] behind = tt
places_behind P first each id key place (v ∷ values) behind =
    (each place behind, places_behind P first each id key (place +ℤ pos 1) values (omega (arith, ints)))

pub next_place : (place : ℤ) → place <ℤ (place +ℤ pos 1)
next_place place = omega (arith, ints)

-- one of a row's cells is at its place
pub one_cell : (id : ℤ) (key : Value) (place : ℤ) (values : List Value)
    → AllByRecursion (λ cell. filter (λ other. same (column other 2) (column cell 2)) (cells_from id key place values) ≡ cell ∷ []) (cells_from id key place values)
one_cell id key place [] = tt
one_cell id key place (v ∷ values) =
    let rest = cells_from id key (place +ℤ pos 1) values in
    let first : SqlRow = sql.Int id ∷ stored key ∷ sql.Int place ∷ stored v ∷ [] in
    let behind : AllByRecursion (λ cell. same (column cell 2) (sql.Int place) ≡ false) rest =
    places_behind (λ s. same s (sql.Int place) ≡ false) place (same_later place) id key (place +ℤ pos 1) values (next_place place) in
    let before : AllByRecursion (λ cell. same (sql.Int place) (column cell 2) ≡ false) rest =
    places_behind (λ s. same (sql.Int place) s ≡ false) place (same_earlier place) id key (place +ℤ pos 1) values (next_place place) in (
      first_cell first rest (same_itself place) behind,
      all_both (λ cell. same (sql.Int place) (column cell 2) ≡ false) (λ cell. filter (λ other. same (column other 2) (column cell 2)) rest ≡ cell ∷ []) _
          (λ cell passed only. later_cell first rest cell passed only) rest before (one_cell id key (place +ℤ pos 1) values),
    )
  where
    first_cell : (first : SqlRow) (rest : List SqlRow) → same (column first 2) (column first 2) ≡ true → AllByRecursion (λ cell. same (column cell 2) (column first 2) ≡ false) rest
        → filter (λ other. same (column other 2) (column first 2)) (first ∷ rest) ≡ first ∷ []
    first_cell first rest here behind = rw here (ap (λ cells. first ∷ cells) (filter_none _ rest behind))

    later_cell : (first : SqlRow) (rest : List SqlRow) (cell : SqlRow) → same (column first 2) (column cell 2) ≡ false
        → filter (λ other. same (column other 2) (column cell 2)) rest ≡ cell ∷ [] → filter (λ other. same (column other 2) (column cell 2)) (first ∷ rest) ≡ cell ∷ []
    later_cell first rest cell passed only = rw passed only

value_back : (v : Value) → value_kept (stored v) ≡ v
value_back (Number z) = refl
value_back (Text t) = refl

-- if each cell of a row is found, the values of its columns are read
pub values_read : (all : List SqlRow) (id : ℤ) (key : Value) (place : ℤ) (columns : List Column) (values : List Value) → length values ≡ length columns
    → AllByRecursion (λ cell. find (is_at (sql.Int id) (stored key) (column cell 2)) all ≡ Some cell) (cells_from id key place values)
    → kept_from all id (stored key) place columns ≡ values
values_read all id key place [] [] long found = refl
values_read all id key place [] (v ∷ values) long found = absurd (omega arith)
values_read all id key place (c ∷ columns) [] long found = absurd (omega arith)
values_read all id key place (c ∷ columns) (v ∷ values) long found =
    ap₂ ◌∷◌ (ap (λ o. unwrap_or (option_map (λ cell. value_kept (column cell 3)) o) (Number (pos 0))) found.0 ∙ value_back v)
    (values_read all id key (place +ℤ pos 1) columns values (omega arith) found.1)
