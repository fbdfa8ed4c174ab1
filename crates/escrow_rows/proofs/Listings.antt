-- What TAB lists about the tables of an image.
use Rattle.std.proofs.Common.{◌≡◌, ℕ, ℤ, pos, ◌+◌, Bool, true, false, not, List, [], ◌∷◌, ◌++◌, map, length, take, get_or, Result, Ordering, Less, Equal, Greater, is_gt, IsTrue, refl, sym, ap, ap₂, ◌∙◌, subst, IsPermutation, IsSorted}
use Rattle.std.specs.Prelude.{◌<◌, IfOk}
use Rattle.std.specs.List.{AllByRecursion}
use Rattle.std.specs.Ordering.{is_lt, is_eq, int_cmp, int_eq, on}
use Rattle.std.proofs.lemmas.Bool.{false≢true}
use Rattle.std.proofs.lemmas.Bool.Decides.{same_from_decides, Decides-int_eq}
use Rattle.std.proofs.lemmas.Cmp.{on_total}
use Rattle.std.proofs.lemmas.List.{map-append, take_more}
use Rattle.std.proofs.lemmas.List.Sorted.{IsPermutation-map, IsPermutation-trans}
use Rattle.std.proofs.lemmas.Result.{IfOk-weaker}
use Rattle.sqlite_value.specs.declared.value.Value.{Value as Sql}
use Rattle.sqlite_value.specs.declared.value.Value.TheVariants as sql
use Rattle.sqlite_value.specs.Order.{Row as SqlRow, column, value_cmp}
use Rattle.sqlite_value.proofs.OrderLemmas.{value_cmp-Int, value_cmp_total}
use Rattle.sqlite_trees.specs.Tree.{IsAscending as Rises}
use Rattle.sqlite_trees.proofs.ListLemmas.{all_both, all-map, along_permutation, ascending_from_map}
use Rattle.sqlite_trees.specs.declared.store.Store.{Ghosts}
use Rattle.sqlite.specs.Effect.{Database}
use Rattle.sqlite.specs.Held.{Held, state}
use Rattle.escrow_num.specs.Ascending.{IsAscending}
use Rattle.escrow_cells.specs.Read.{AreTabs}
use Rattle.escrow_cells.specs.Store.{IsStore, tabs}
use Rattle.escrow_rows.specs.declared.listed.ListedTable.{ListedTable}
use Rattle.escrow_schema.specs.declared.stored.StoredTable.{StoredTable}
use Rattle.escrow_rows.specs.Answers.{TellsTables, listing}
use Rattle.escrow_rows.specs.Image.{tab_row}
use Rattle.escrow_rows.specs.Listing.{listed_row}
use Rattle.escrow_cells.proofs.Rising.{ascending_from_sorted}

-- the number and the text in a column of TAB
abbrev number_in : Sql → ℤ
number_in (sql.Int z) = z
number_in _ = pos 0

abbrev text_in : Sql → List ℕ
text_in (sql.Text t) = t
text_in _ = []

-- the table that a row of TAB lists
abbrev listed_by : SqlRow → ListedTable
listed_by r = record { id = number_in (column r 0); name = text_in (column r 1); text = text_in (column r 2) }

listed_back : (answer : List ListedTable) → map listed_by (map listed_row answer) ≡ answer
listed_back [] = refl
listed_back (t ∷ answer) = ap (λ more. t ∷ more) (listed_back answer)

listings_back : (tables : List StoredTable) → map listed_by (map tab_row tables) ≡ map listing tables
listings_back [] = refl
listings_back (s ∷ tables) = ap (λ more. listing s ∷ more) (listings_back tables)

-- the rows that were read list the tables
all_listed : (tables : List StoredTable) (db : Database) (answer : List ListedTable) → IsPermutation (map tab_row tables) (tabs db) → AreTabs (tabs db) (map listed_row answer)
    → IsPermutation (map listing tables) answer
all_listed tables db answer coded read =
    let rows = IsPermutation-map listed_by (map tab_row tables) (map listed_row answer) (IsPermutation-trans (map tab_row tables) (tabs db) (map listed_row answer) coded read.same_tabs) in
    subst (IsPermutation (map listing tables)) (listed_back answer) (subst (λ ts. IsPermutation ts (map listed_by (map listed_row answer))) (listings_back tables) rows)

-- if a symmetric test holds of each two items of a list, it holds in any order of the list
module _ {A : Type 0} (before : A → A → Bool) (turned : (x y : A) → before x y ≡ true → before y x ≡ true) where
  record Alike (xs ys : List A) : Type 0 where
    each : (x : A) → AllByRecursion (λ y. IsTrue (before x y)) xs → AllByRecursion (λ y. IsTrue (before x y)) ys
    all : IsAscending before xs → IsAscending before ys

  alike : (xs ys : List A) → IsPermutation xs ys → Alike xs ys
  alike = along_permutation Alike
      (λ xs. record { each = λ x h. h; all = λ h. h })
      (λ x xs ys same. record { each = λ y h. (h.0, same.each y h.1); all = λ h. (same.each x h.0, same.all h.1) })
      (λ x y xs. record {
        each = λ z h. let rest = h.1 in (rest.0, (h.0, rest.1));
        all = λ h. let first = h.0 in let rest = h.1 in ((turned x y first.0, rest.0), (first.1, rest.1));
      })
      (λ xs ys zs first then. record { each = λ x h. then.each x (first.each x h); all = λ h. then.all (first.all h) })

  pub apart_permutation : (xs ys : List A) → IsPermutation xs ys → IsAscending before xs → IsAscending before ys
  apart_permutation xs ys same = (alike xs ys same).all

-- two tables have different numbers
abbrev other_number : ListedTable → ListedTable → Bool
other_number a b = not (int_eq a.id b.id)

other_turned : (a b : ListedTable) → other_number a b ≡ true → other_number b a ≡ true
other_turned a b h =
    ap not (same_from_decides {P = a.id ≡ b.id} (int_eq b.id a.id) (int_eq a.id b.id)
    (λ e. sym ((Decides-int_eq b.id a.id).0 e), λ e. (Decides-int_eq b.id a.id).1 (sym e)) (Decides-int_eq a.id b.id)) ∙ h

listed_apart : (tables : List StoredTable) → IsAscending (λ a b. not (int_eq a.id b.id)) tables → IsAscending other_number (map listing tables)
listed_apart [] h = tt
listed_apart (s ∷ tables) h = (all-map (λ (t : ListedTable). IsTrue (not (int_eq s.id t.id))) listing tables h.0, listed_apart tables h.1)

less_if : (o : Ordering) → is_gt o ≡ false → not (is_eq o) ≡ true → is_lt o ≡ true
less_if Less h k = refl
less_if Equal h k = absurd (false≢true k)
less_if Greater h k = absurd (false≢true (sym h))

-- no table's number is above a later one's
abbrev NotAbove : ListedTable → ListedTable → Type 0
NotAbove a b = is_gt (value_cmp (sql.Int a.id) (sql.Int b.id)) ≡ false

-- numbers that never decrease and are distinct increase
numbers_rise : (answer : List ListedTable) → Rises NotAbove answer → IsAscending other_number answer → IsAscending (λ a b. is_lt (int_cmp a.id b.id)) answer
numbers_rise [] up apart = tt
numbers_rise (t ∷ answer) up apart = (
  all_both (NotAbove t) (λ x. IsTrue (other_number t x)) (λ x. IsTrue (is_lt (int_cmp t.id x.id)))
      (λ x p q. less_if (int_cmp t.id x.id) (ap is_gt (sym (value_cmp-Int t.id x.id)) ∙ p) q) answer up.0 apart.0,
  numbers_rise answer up.1 apart.1,
)

listed_rise : (answer : List ListedTable) → IsSorted (on (λ r. column r 0) value_cmp) (map listed_row answer) → Rises NotAbove answer
listed_rise answer sorted =
    let by_number : SqlRow → SqlRow → Ordering = on (λ r. column r 0) value_cmp in
    ascending_from_map (λ a b. is_gt (by_number a b) ≡ false) listed_row answer
    (ascending_from_sorted by_number (on_total (λ r. column r 0) value_cmp_total) (map listed_row answer) sorted)

pub tells_tables : (db : Database) (answer : List ListedTable) → (IsStore db → AreTabs (tabs db) (map listed_row answer)) → TellsTables db answer
tells_tables db answer read = record {
  listed = λ tables rows image. all_listed tables db answer image.tabs_are (read image.store);
  in_order = λ tables rows are image.
      let of_tab = read image.store in
      numbers_rise answer (listed_rise answer of_tab.in_order)
      (apart_permutation other_number other_turned (map listing tables) answer (all_listed tables db answer image.tabs_are of_tab) (listed_apart tables are.ids_apart));
}

-- one more row is read
pub listed_more : (rows : List SqlRow) (tables new : List ListedTable) (i : ℕ) (row : SqlRow) (t : ListedTable) → i < length rows → row ≡ get_or rows i row
    → take i rows ≡ map listed_row tables → row ≡ listed_row t → new ≡ tables ++ t ∷ [] → take (i + 1) rows ≡ map listed_row new
listed_more rows tables new i row t within at before is added =
    take_more rows i row within ∙ ap₂ (λ (done : List SqlRow) (r : SqlRow). done ++ r ∷ []) before (sym at ∙ is)
    ∙ sym (map-append listed_row tables (t ∷ [])) ∙ sym (ap (map listed_row) added)

-- the same for a store that a call has read
module _ {S : Type 0} (g : Ghosts S) (inside old new : Held S) (same_conn : inside ≡ old) where
  pub tables_told_of : {V E : Type 0} (items : V → List ListedTable) (read shown : List SqlRow) (r : Result V E) → shown ≡ read → IsTrue (state g new).is_open
      → (IsStore (state g inside).now → AreTabs (tabs (state g inside).now) read)
      → IfOk r (λ v. shown ≡ map listed_row (items v)) → IfOk r (λ v. IsTrue (state g new).is_open × TellsTables (state g old).now (items v))
  tables_told_of items read shown r same_rows opened of_tab h =
      let of_old = subst (λ (c : Held S). IsStore (state g c).now → AreTabs (tabs (state g c).now) read) same_conn of_tab in
      IfOk-weaker r (λ v. shown ≡ map listed_row (items v)) _
      (λ v made. (
        opened,
        tells_tables (state g old).now (items v)
            (subst (λ (rows : List SqlRow). IsStore (state g old).now → AreTabs (tabs (state g old).now) rows) (sym same_rows ∙ made) of_old),
      )) h
