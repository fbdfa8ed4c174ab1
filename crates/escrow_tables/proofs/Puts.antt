-- New amounts written to rows, one after another.
use Rattle.std.proofs.Common.{◌≡◌, ℤ, Bool, true, false, ◌||◌, List, [], ◌∷◌, ◌++◌, map, fold, Some, refl, sym, ap, ap₂, ◌∙◌, subst, inl, inr}
use Rattle.std.specs.List.{AllByRecursion, list_any}
use Rattle.std.proofs.lemmas.Bool.{cases_Bool}
use Rattle.std.proofs.lemmas.List.{map-id}
use Rattle.std.proofs.lemmas.List.Folds.{list_any-append}
use Rattle.std.proofs.lemmas.List.Sorted.{IsPermutation-refl}
use Rattle.sqlite_trees.proofs.ListLemmas.{all_weaker}
use Rattle.escrow_num.specs.declared.reservation.Reservation.{Reservation}
use Rattle.escrow_num.specs.declared.row.Row.{Row}
use Rattle.escrow_num.specs.declared.value.RowName.{RowName}
use Rattle.escrow_num.specs.Ascending.{IsAscending}
use Rattle.escrow_num.specs.Order.{same_row}
use Rattle.escrow_num.proofs.Items.{Has, has_all}
use Rattle.escrow_num.proofs.Orders.{row_same, same_row_itself}
use Rattle.escrow_checks.specs.Form.{changed, all_changed}
use Rattle.escrow_rows.specs.declared.amounts.NewAmounts.{NewAmounts}
use Rattle.escrow_schema.specs.Rows.{row_named, replaced, row_before, changes_to, row_after, applied}
use Rattle.escrow_rows.specs.Changes.{with_new_amounts, with_amounts, put_all}
use Rattle.escrow_rows.proofs.Found.{find_permutation, one_row}
use Rattle.escrow_tables.specs.Puts.{TellsPut, row_put, IsFor}
use Rattle.escrow_tables.proofs.Changed.{changed_nil, changes_other, replaced_twice}

-- writes to one row, one after another
abbrev pub all_into : List NewAmounts → Row → Row
all_into puts row = fold (λ row put. with_new_amounts (row_put put) put.amounts row) row puts

-- a write is for this row
abbrev IsOf : Row → NewAmounts → Bool
IsOf row put = same_row row.name (row_put put)

-- writing to all rows is writing to each row
pub put_rows : (puts : List NewAmounts) (rows : List Row) → put_all puts rows ≡ map (all_into puts) rows
put_rows [] rows = sym (map-id rows)
put_rows (put ∷ puts) rows = put_rows puts (with_amounts (row_put put) put.amounts rows) ∙ twice rows
  where
    twice : (rows : List Row) → map (all_into puts) (with_amounts (row_put put) put.amounts rows) ≡ map (all_into (put ∷ puts)) rows
    twice [] = refl
    twice (row ∷ rows) = ap (λ rest. all_into (put ∷ puts) row ∷ rest) (twice rows)

-- a write for a row gives it these amounts
abbrev Gives : Row → List ℤ → NewAmounts → Type 0
Gives row after put = IsOf row put ≡ true → replaced put.amounts row.amounts ≡ after

-- a row that already has its final amounts keeps them
all_kept : (puts : List NewAmounts) (row : Row) (after : List ℤ) → AllByRecursion (Gives row after) puts → all_into puts (record row { amounts = after }) ≡ record row { amounts = after }
all_kept [] row after gives = refl
all_kept (put ∷ puts) row after gives = elim (cases_Bool (IsOf row put)) [
  | inl here ↦ (let same : replaced put.amounts after ≡ after = subst (λ zs. replaced put.amounts zs ≡ zs) (gives.0 here) (replaced_twice put.amounts row.amounts) in
      rw (here, same) (all_kept puts row after gives.1))
  | inr there ↦ rw there (all_kept puts row after gives.1)
]

-- a row that some write is for has them in the end
all_given : (puts : List NewAmounts) (row : Row) (after : List ℤ) → AllByRecursion (Gives row after) puts → list_any (IsOf row) puts ≡ true
    → all_into puts row ≡ record row { amounts = after }
all_given [] row after gives some = absurd (cc)
all_given (put ∷ puts) row after gives some = elim (cases_Bool (IsOf row put)) [
  | inl here ↦ rw (here, gives.0 here) (all_kept puts row after gives.1)
  | inr there ↦ (let later = rw there at some in rw there (all_given puts row after gives.1 later))
]

-- any other row is unchanged
none_given : (puts : List NewAmounts) (row : Row) → list_any (IsOf row) puts ≡ false → all_into puts row ≡ row
none_given [] row none = refl
none_given (put ∷ puts) row none = elim (cases_Bool (IsOf row put)) [
  | inl here ↦ absurd (let t = rw here at none in cc)
  | inr there ↦ (let later = rw there at none in rw there (none_given puts row later))
]

-- a row that no write is for has no reservation
no_reservation : (puts : List NewAmounts) (row : Row) (r : Reservation) → list_any (IsOf row) puts ≡ false → IsFor puts r → same_row row.name r.row ≡ false
no_reservation puts row r none for = elim (cases_Bool (same_row row.name r.row)) [
  | inl same ↦ absurd (let some = subst (λ (n : RowName). list_any (λ put. same_row n (row_put put)) puts ≡ true) (sym (row_same row.name r.row same)) for in cc)
  | inr other ↦ other
]

-- a row without reservations keeps its amounts
no_changes : (row : Row) (reservations : List Reservation) (amounts : List ℤ) → AllByRecursion (λ r. same_row row.name r.row ≡ false) reservations
    → all_changed amounts (map (changes_to row) reservations) ≡ amounts
no_changes row [] amounts none = refl
no_changes row (r ∷ reservations) amounts none =
    ap (λ zs. all_changed zs (map (changes_to row) reservations)) (ap (changed amounts) (changes_other row.name r none.0) ∙ changed_nil amounts)
    ∙ no_changes row reservations amounts none.1

-- functions that agree on each item agree on the list
map_each : {A : Type 0} (f g : A → A) (xs : List A) → AllByRecursion (λ x. f x ≡ g x) xs → map f xs ≡ map g xs
map_each f g [] same = refl
map_each f g (x ∷ xs) same = ap₂ ◌∷◌ same.0 (map_each f g xs same.1)

-- each of the rows is found by its name
row_itself : (rows : List Row) (row : Row) → IsAscending row_before rows → Has rows row → row_named rows row.name ≡ Some row
row_itself rows row order has = find_permutation (λ other. same_row other.name row.name) rows rows row (IsPermutation-refl rows) (one_row rows row order has)

-- if the writes have each row's new amounts, and each reserved row has a write, they apply the reservations
pub puts_apply : (puts : List NewAmounts) (rows : List Row) (reservations : List Reservation) → IsAscending row_before rows → AllByRecursion (IsFor puts) reservations
    → AllByRecursion (TellsPut rows reservations) puts → map (all_into puts) rows ≡ applied rows reservations
puts_apply puts rows reservations order for tell = map_each (all_into puts) (row_after reservations) rows (has_all _ rows each)
  where
    each : (row : Row) → Has rows row → all_into puts row ≡ row_after reservations row
    each row has = elim (cases_Bool (list_any (IsOf row) puts)) [
      | inl some ↦ all_given puts row (row_after reservations row).amounts
          (all_weaker _ (Gives row (row_after reservations row).amounts)
          (λ put told here. told row (ap (row_named rows) (sym (row_same row.name (row_put put) here)) ∙ row_itself rows row order has)) puts tell) some
      | inr none ↦ none_given puts row none
          ∙ sym (ap (λ (zs : List ℤ). record row { amounts = zs }) (no_changes row reservations row.amounts
          (all_weaker (IsFor puts) (λ r. same_row row.name r.row ≡ false) (λ r. no_reservation puts row r none) reservations for)))
    ]

-- one more write
pub for_more : (puts : List NewAmounts) (put : NewAmounts) (r : Reservation) → IsFor puts r → IsFor (puts ++ put ∷ []) r
for_more puts put r for = list_any-append (λ p. same_row r.row (row_put p)) puts (put ∷ []) ∙ ap (λ b. b || list_any (λ p. same_row r.row (row_put p)) (put ∷ [])) for

-- a write is for the row that it names
pub for_itself : (puts : List NewAmounts) (put : NewAmounts) (r : Reservation) → row_put put ≡ r.row → IsFor (puts ++ put ∷ []) r
for_itself puts put r is =
    let here : same_row r.row (row_put put) ≡ true = subst (λ (n : RowName). same_row r.row n ≡ true) (sym is) (same_row_itself r.row) in
    list_any-append (λ p. same_row r.row (row_put p)) puts (put ∷ []) ∙ rw here (or_true (list_any (λ p. same_row r.row (row_put p)) puts))
  where
    or_true : (b : Bool) → (b || true) ≡ true
    or_true true = refl
    or_true false = refl
