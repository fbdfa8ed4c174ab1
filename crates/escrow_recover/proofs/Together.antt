-- Tables that can be in a store together, in any order.
use Rattle.std.proofs.Common.{◌≡◌, ◌≤◌, ℕ, ℤ, pos, int_le, Bool, true, false, not, ◌&&◌, List, [], ◌∷◌, length, map, Ordering, Less, Equal, Greater, is_gt, refl, sym, ap₂, ◌∙◌, subst, arith, bytes_eq, IsPermutation, IsSorted}
use Rattle.std.specs.Prelude.{IsTrue}
use Rattle.std.specs.List.{AllByRecursion, list_all}
use Rattle.std.specs.Cmp.Lexicographic.{slice_cmp}
use Rattle.std.specs.Ordering.{int_eq, is_lt, nat_cmp}
use Rattle.std.proofs.lemmas.Bool.{and_from, and_parts, both_ways, not-true}
use Rattle.std.proofs.lemmas.Bool.Decides.{Decides-int_eq, same_from_decides}
use Rattle.std.proofs.lemmas.Cmp.{nat_list_cmp_total, on_total}
use Rattle.std.proofs.lemmas.List.{length-map}
use Rattle.std.proofs.lemmas.List.Sorted.{length_permutation}
use Rattle.sqlite_trees.specs.Tree.{IsAscending as Rises}
use Rattle.sqlite_trees.proofs.ListLemmas.{all_both, all-map, all-permutation, all_weaker}
use Rattle.escrow_num.specs.Ascending.{IsAscending}
use Rattle.escrow_num.proofs.Orders.{list_tied, name_same, same_name}
use Rattle.escrow_schema.specs.declared.catalog.TheConstants.Catalog.{MAX_TABLES}
use Rattle.escrow_schema.specs.declared.table.TableDef.{TableDef}
use Rattle.escrow_schema.specs.Catalog.{IsCatalog, table_before}
use Rattle.escrow_schema.specs.Definition.{IsTable}
use Rattle.escrow_schema.specs.declared.stored.StoredTable.{StoredTable}
use Rattle.escrow_rows.specs.Image.{AreTables}
use Rattle.escrow_rows.proofs.Listings.{apart_permutation}
use Rattle.escrow_cells.proofs.Rising.{AtMost, ascending_from_sorted}
use Rattle.escrow_recover.specs.Tabs.{CanStand, tables_apart, are_apart, by_name}

abbrev other_id : StoredTable → StoredTable → Bool
other_id a b = not (int_eq a.id b.id)

abbrev other_name : StoredTable → StoredTable → Bool
other_name a b = not (bytes_eq a.table.name b.table.name)

-- ---- distinct tables

ids_part : (tables : List StoredTable) → IsAscending tables_apart tables → IsAscending other_id tables
ids_part [] h = tt
ids_part (s ∷ tables) h =
    (all_weaker (λ t. IsTrue (tables_apart s t)) (λ t. IsTrue (other_id s t)) (λ t k. (and_parts (other_id s t) (other_name s t) k).0) tables h.0, ids_part tables h.1)

names_part : (tables : List StoredTable) → IsAscending tables_apart tables → IsAscending other_name tables
names_part [] h = tt
names_part (s ∷ tables) h =
    (all_weaker (λ t. IsTrue (tables_apart s t)) (λ t. IsTrue (other_name s t)) (λ t k. (and_parts (other_id s t) (other_name s t) k).1) tables h.0, names_part tables h.1)

both_parts_apart : (tables : List StoredTable) → IsAscending other_id tables → IsAscending other_name tables → IsAscending tables_apart tables
both_parts_apart [] p q = tt
both_parts_apart (s ∷ tables) p q = (
  all_both (λ t. IsTrue (other_id s t)) (λ t. IsTrue (other_name s t)) (λ t. IsTrue (tables_apart s t)) (λ t. and_from (other_id s t) (other_name s t)) tables p.0 q.0,
  both_parts_apart tables p.1 q.1,
)

-- what the test for distinct tables says
pub apart_from : (tables : List StoredTable) → are_apart tables ≡ true → IsAscending tables_apart tables
apart_from [] e = tt
apart_from (s ∷ tables) e =
    let parts = and_parts (list_all (tables_apart s) tables) (are_apart tables) e in
    (all_from (tables_apart s) tables parts.0, apart_from tables parts.1)
  where
    all_from : (p : StoredTable → Bool) (xs : List StoredTable) → list_all p xs ≡ true → AllByRecursion (λ x. IsTrue (p x)) xs
    all_from p [] e = tt
    all_from p (x ∷ xs) e = let parts = and_parts (p x) (list_all p xs) e in (parts.0, all_from p xs parts.1)

pub apart_test : (tables : List StoredTable) → IsAscending tables_apart tables → are_apart tables ≡ true
apart_test [] h = refl
apart_test (s ∷ tables) h = and_from (list_all (tables_apart s) tables) (are_apart tables) (from_all (tables_apart s) tables h.0) (apart_test tables h.1)
  where
    from_all : (p : StoredTable → Bool) (xs : List StoredTable) → AllByRecursion (λ x. IsTrue (p x)) xs → list_all p xs ≡ true
    from_all p [] h = refl
    from_all p (x ∷ xs) h = and_from (p x) (list_all p xs) h.0 (from_all p xs h.1)

-- the test is symmetric
turned : (a b : StoredTable) → tables_apart a b ≡ true → tables_apart b a ≡ true
turned a b h = ap₂ (λ (p q : Bool). not p && not q) (ids_turned b.id a.id) (names_turned b.table.name a.table.name) ∙ h
  where
    ids_turned : (x y : ℤ) → int_eq x y ≡ int_eq y x
    ids_turned x y = same_from_decides {P = x ≡ y} (int_eq x y) (int_eq y x) (Decides-int_eq x y) (λ e. sym ((Decides-int_eq y x).0 e), λ e. (Decides-int_eq y x).1 (sym e))

    names_turned : (x y : List ℕ) → bytes_eq x y ≡ bytes_eq y x
    names_turned x y =
        same_from_decides {P = x ≡ y} (bytes_eq x y) (bytes_eq y x) (name_same x y, λ e. subst (λ (n : List ℕ). bytes_eq x n ≡ true) e (same_name x))
        (λ e. sym (name_same y x e), λ e. subst (λ (n : List ℕ). bytes_eq n x ≡ true) e (same_name x))

-- ---- tables that can be in a store together

-- each table is valid alone, they are distinct, and they are few
pub record Together (tables : List StoredTable) : Type 0 where
  pub each : AllByRecursion CanStand tables
  pub are_apart : IsAscending tables_apart tables
  pub few : length tables ≤ MAX_TABLES

pub together : (tables : List StoredTable) → AreTables tables → Together tables
together tables h = record {
  each = all_both (λ (s : StoredTable). IsTable s.table) (λ (s : StoredTable). IsTrue (int_le (pos 1) s.id)) CanStand (λ s p q. record { defined = p; from_one = q }) tables h.defined h.from_one;
  are_apart = both_parts_apart tables h.ids_apart h.names_apart;
  few = h.few;
}

pub are_tables : (tables : List StoredTable) → Together tables → AreTables tables
are_tables tables h = record {
  defined = all_weaker CanStand (λ (s : StoredTable). IsTable s.table) (λ s k. k.defined) tables h.each;
  from_one = all_weaker CanStand (λ (s : StoredTable). IsTrue (int_le (pos 1) s.id)) (λ s k. k.from_one) tables h.each;
  ids_apart = ids_part tables h.are_apart;
  names_apart = names_part tables h.are_apart;
  few = h.few;
}

-- the same holds in any order
pub in_any_order : (xs ys : List StoredTable) → IsPermutation xs ys → Together xs → Together ys
in_any_order xs ys same h = record {
  each = all-permutation CanStand xs ys same h.each;
  are_apart = apart_permutation tables_apart turned xs ys same h.are_apart;
  few = omega (arith, h.few, length_permutation xs ys same);
}

-- ---- in order of name

abbrev NotAfter : StoredTable → StoredTable → Type 0
NotAfter = AtMost by_name (on_total (λ (s : StoredTable). s.table.name) nat_list_cmp_total)

before_if : (o : Ordering) → is_gt o ≡ false → ¬ (o ≡ Equal) → is_lt o ≡ true
before_if Less h k = refl
before_if Equal h k = absurd (k refl)
before_if Greater h k = absurd (cc)

-- if a table is not after another and has another name, it is before it
before : (s t : StoredTable) → NotAfter s t → IsTrue (other_name s t) → IsTrue (table_before s.table t.table)
before s t h tables_apart =
    before_if (slice_cmp nat_cmp s.table.name t.table.name) h
    (λ tied. both_ways (bytes_eq s.table.name t.table.name) (not-true (bytes_eq s.table.name t.table.name) tables_apart)
    (subst (λ (n : List ℕ). bytes_eq s.table.name n ≡ true) (list_tied s.table.name t.table.name tied) (same_name s.table.name)))

names_rise : (tables : List StoredTable) → Rises NotAfter tables → IsAscending other_name tables → IsAscending table_before (map (λ (s : StoredTable). s.table) tables)
names_rise [] up tables_apart = tt
names_rise (s ∷ tables) up tables_apart = (
  all-map (λ (t : TableDef). IsTrue (table_before s.table t)) (λ (t : StoredTable). t.table) tables
      (all_both (NotAfter s) (λ t. IsTrue (other_name s t)) (λ t. IsTrue (table_before s.table t.table)) (before s) tables up.0 tables_apart.0),
  names_rise tables up.1 tables_apart.1,
)

-- sorted by name, the tables are a catalog
pub catalog_of : (tables : List StoredTable) → Together tables → IsSorted by_name tables → IsCatalog (map (λ (s : StoredTable). s.table) tables)
catalog_of tables h sorted = record {
  tables = all-map IsTable (λ (s : StoredTable). s.table) tables (are_tables tables h).defined;
  order = names_rise tables (ascending_from_sorted by_name (on_total (λ (s : StoredTable). s.table.name) nat_list_cmp_total) tables sorted) (names_part tables h.are_apart);
  few = omega (arith, h.few, length-map tables (λ (s : StoredTable). s.table));
}
