-- The tables of a catalog are those that can be in a store together.
use Rattle.std.proofs.Common.{◌≡◌, ℕ, pos, int_le, Bool, true, false, not, List, [], ◌∷◌, map, bytes_eq, inl, inr, ap, subst, arith}
use Rattle.std.specs.Prelude.{IsTrue}
use Rattle.std.specs.Cmp.Lexicographic.{slice_cmp}
use Rattle.std.specs.Ordering.{int_eq, is_lt, nat_cmp}
use Rattle.std.proofs.lemmas.Bool.{both_ways, cases_Bool}
use Rattle.std.proofs.lemmas.Cmp.{nat_list_cmp_total}
use Rattle.std.proofs.lemmas.List.{length-map}
use Rattle.sqlite_trees.proofs.ListLemmas.{all_weaker}
use Rattle.escrow_num.specs.Ascending.{IsAscending}
use Rattle.escrow_num.proofs.Orders.{before_itself, name_same}
use Rattle.escrow_schema.specs.declared.counted_table.CountedTable.{CountedTable}
use Rattle.escrow_schema.specs.declared.stored.StoredTable.{StoredTable}
use Rattle.escrow_schema.specs.declared.table.TableDef.{TableDef}
use Rattle.escrow_schema.specs.Catalog.{IsCatalog, table_before}
use Rattle.escrow_schema.specs.Definition.{IsTable}
use Rattle.escrow_schema.specs.Stored.{IsListed, catalog_of, stored_of}
use Rattle.escrow_schema.proofs.Listed.{all_map, all_unmap}
use Rattle.escrow_rows.specs.Image.{AreTables}

-- items are distinct exactly if their images are
apart_map : {A B : Type 0} (before : B → B → Bool) (f : A → B) (xs : List A) → IsAscending (λ a b. before (f a) (f b)) xs → IsAscending before (map f xs)
apart_map before f [] h = tt
apart_map before f (x ∷ xs) h = (all_map (λ y. IsTrue (before (f x) y)) f xs h.0, apart_map before f xs h.1)

apart_unmap : {A B : Type 0} (before : B → B → Bool) (f : A → B) (xs : List A) → IsAscending before (map f xs) → IsAscending (λ a b. before (f a) (f b)) xs
apart_unmap before f [] h = tt
apart_unmap before f (x ∷ xs) h = (all_unmap (λ y. IsTrue (before (f x) y)) f xs h.0, apart_unmap before f xs h.1)

-- ordered names differ
below_differs : (a b : List ℕ) → is_lt (slice_cmp nat_cmp a b) ≡ true → not (bytes_eq a b) ≡ true
below_differs a b less = elim (cases_Bool (bytes_eq a b)) [
  | inl same ↦ absurd (both_ways (is_lt (slice_cmp nat_cmp a b))
      (subst (λ (n : List ℕ). is_lt (slice_cmp nat_cmp a n) ≡ false) (name_same a b same) (before_itself (slice_cmp nat_cmp) nat_list_cmp_total a)) less)
  | inr f ↦ ap not f
]

names_apart : (tables : List CountedTable) → IsAscending table_before (catalog_of tables) → IsAscending (λ (a b : StoredTable). not (bytes_eq a.table.name b.table.name)) (stored_of tables)
names_apart [] h = tt
names_apart (c ∷ tables) h = (
  all_map (λ (s : StoredTable). IsTrue (not (bytes_eq c.stored.table.name s.table.name))) (λ (o : CountedTable). o.stored) tables
      (all_weaker (λ (o : CountedTable). IsTrue (table_before c.stored.table o.stored.table)) (λ (o : CountedTable). IsTrue (not (bytes_eq c.stored.table.name o.stored.table.name)))
      (λ o. below_differs c.stored.table.name o.stored.table.name) tables (all_unmap (λ (t : TableDef). IsTrue (table_before c.stored.table t)) (λ (o : CountedTable). o.stored.table) tables h.0)),
  names_apart tables h.1,
)

pub listed_are : (tables : List CountedTable) → IsListed tables → AreTables (stored_of tables)
listed_are tables listed =
    let stored : CountedTable → StoredTable = λ c. c.stored in
    record {
      defined = all_map (λ (s : StoredTable). IsTable s.table) stored tables (all_unmap IsTable (λ (c : CountedTable). c.stored.table) tables listed.is_catalog.tables);
      from_one = all_map (λ (s : StoredTable). IsTrue (int_le (pos 1) s.id)) stored tables listed.from_one;
      ids_apart = apart_map (λ (a b : StoredTable). not (int_eq a.id b.id)) stored tables listed.ids_apart;
      names_apart = names_apart tables listed.is_catalog.order;
      few = omega (arith, listed.is_catalog.few, length-map tables stored, length-map tables (λ (c : CountedTable). c.stored.table));
    }

-- tables that can be in a store together and form a catalog are listed
pub are_listed : (tables : List CountedTable) → AreTables (stored_of tables) → IsCatalog (catalog_of tables) → IsListed tables
are_listed tables are catalog =
    let stored : CountedTable → StoredTable = λ c. c.stored in
    record {
      is_catalog = catalog;
      from_one = all_unmap (λ (s : StoredTable). IsTrue (int_le (pos 1) s.id)) stored tables are.from_one;
      ids_apart = apart_unmap (λ (a b : StoredTable). not (int_eq a.id b.id)) stored tables are.ids_apart;
    }
