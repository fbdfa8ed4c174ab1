-- The table at a place, and the number of rows of each table after a change of one of them.
use Rattle.std.proofs.Common.{◌≡◌, ◌<◌, ℕ, zero, suc, Bool, true, false, List, [], ◌∷◌, Some, ap, refl, arith, bytes_eq, find, get_or, inl, inr, length, subst, sym, ◌∙◌}
use Rattle.std.specs.Prelude.{IsTrue, not, slice_get}
use Rattle.std.specs.List.{AllByRecursion}
use Rattle.std.proofs.lemmas.Bool.{both_ways, cond-false, cond-true, not-true}
use Rattle.std.proofs.lemmas.Grind.{common_steps}
use Rattle.std.proofs.lemmas.List.{length-map}
use Rattle.std.proofs.lemmas.List.Quantifiers.{position-Some}
use Rattle.std.proofs.lemmas.Option.{get_or_from_slice_get}
use Rattle.sqlite_trees.proofs.ListLemmas.{all_both, all_weaker}
use Rattle.escrow_num.proofs.Items.{Has, all_has}
use Rattle.escrow_num.proofs.Orders.{same_name}
use Rattle.escrow_num.specs.Ascending.{IsAscending}
use Rattle.escrow_num.specs.declared.row.Row.{Row}
use Rattle.escrow_schema.specs.Catalog.{place_named}
use Rattle.escrow_schema.specs.Stored.{counted_named, recounted}
use Rattle.escrow_schema.specs.declared.table.TableDef.{TableDef}
use Rattle.escrow_rows.specs.Image.{AreTables}
use Rattle.escrow_schema.specs.Rows.{rows_of}
use Rattle.escrow_schema.specs.declared.stored.StoredTable.{StoredTable}
use Rattle.escrow_tables.specs.Inside.{HasCount, catalog_of, stored_of}
use Rattle.escrow_schema.specs.declared.counted_table.CountedTable.{CountedTable}
use Rattle.escrow_schema.proofs.Listed.{all_unmap, kept_place}
use Rattle.escrow_tables.proofs.Named.{IsNamed, is_named}

-- an item at a place is one of the items
has_at : {A : Type 0} (xs : List A) (i : ℕ) (x : A) → i < length xs → x ≡ get_or xs i x → Has xs x
has_at [] i x within at = absurd (omega arith)
has_at (y ∷ ys) zero x within at = inl (sym at)
has_at (y ∷ ys) (suc i) x within at = inr (has_at ys i x (omega arith) at)

-- the first item that passes is found
find_at : {A : Type 0} (p : A → Bool) (xs : List A) (i : ℕ) (d : A) → i < length xs → p (get_or xs i d) ≡ true → ((k : ℕ) → k < i → p (get_or xs k d) ≡ false) → find p xs ≡ Some (get_or xs i d)
find_at p [] i d within passes before = absurd (omega arith)
find_at p (x ∷ xs) zero d within passes before = cond-true (p x) (Some x) (find p xs) passes
find_at p (x ∷ xs) (suc i) d within passes before =
    cond-false (p x) (Some x) (find p xs) (before 0 (omega arith)) ∙ find_at p xs i d (omega arith) passes (λ k below. before (suc k) (omega arith))

-- the table at a place, which is also the one with a name
pub record IsPlaced (tables : List CountedTable) (name : List ℕ) (place : ℕ) (c : CountedTable) : Type 0 where
  pub within : place < length tables
  pub item : c ≡ get_or tables place c
  pub counted : Some c ≡ counted_named tables name
  pub named : IsNamed tables name c

-- the table at the place of a name
pub is_placed : (tables : List CountedTable) (name : List ℕ) (place : ℕ) (c : CountedTable) → place_named (catalog_of tables) name ≡ Some place → c ≡ get_or tables place c → IsPlaced tables name place c
is_placed tables name place c at item =
    let p : CountedTable → Bool = λ c. bytes_eq c.stored.table.name name in
    let first = position-Some p tables place c (sym (kept_place tables name) ∙ at) in
    let found = find_at p tables place c first.0 first.1 first.2 in
    record { within = first.0; item = item; counted = ap Some item ∙ sym found; named = is_named tables name c (ap Some item ∙ sym found) }

-- the place of a name is within the catalog and within the list of tables
pub place_within : (catalog : List TableDef) (name : List ℕ) (place : ℕ) → place_named catalog name ≡ Some place → place < length catalog
place_within catalog name place at = grind (arith, common_steps)

pub length_kept : (tables : List CountedTable) (place : ℕ) → place < length (catalog_of tables) → place < length tables
length_kept tables place within = omega (arith, length-map tables (λ (c : CountedTable). c.stored.table))

pub kept_within : (tables : List CountedTable) (name : List ℕ) (place : ℕ) → place_named (catalog_of tables) name ≡ Some place → place < length tables
kept_within tables name place at = length_kept tables place (place_within (catalog_of tables) name place at)

-- looking up a place gives the item at that place
pub item_at : (tables : List CountedTable) (place : ℕ) (c : CountedTable) → slice_get tables place ≡ Some c → c ≡ get_or tables place c
item_at tables place c at = sym (get_or_from_slice_get tables place c c at)

pub stored_recounted : (tables : List CountedTable) (place n : ℕ) → stored_of (recounted tables place n) ≡ stored_of tables
stored_recounted [] place n = refl
stored_recounted (c ∷ tables) zero n = refl
stored_recounted (c ∷ tables) (suc place) n = ap (λ (ss : List StoredTable). c.stored ∷ ss) (stored_recounted tables place n)

-- setting a table's count to its own number of rows changes nothing
pub recounted_itself : (tables : List CountedTable) (place : ℕ) (c : CountedTable) → c ≡ get_or tables place c → recounted tables place c.rows ≡ tables
recounted_itself [] place c item = refl
recounted_itself (d ∷ tables) zero c item = ap (λ (o : CountedTable). record d { rows = o.rows } ∷ tables) item
recounted_itself (d ∷ tables) (suc place) c item = ap (λ (ts : List CountedTable). d ∷ ts) (recounted_itself tables place c item)

-- no two tables have the same name
abbrev pub AreApart : List CountedTable → Type 0
AreApart = IsAscending (λ (a b : CountedTable). not (bytes_eq a.stored.table.name b.stored.table.name))

apart_by : (tables : List CountedTable) → IsAscending (λ (a b : StoredTable). not (bytes_eq a.table.name b.table.name)) (stored_of tables) → AreApart tables
apart_by [] h = tt
apart_by (c ∷ tables) h =
    (all_unmap (λ (s : StoredTable). IsTrue (not (bytes_eq c.stored.table.name s.table.name))) (λ (c : CountedTable). c.stored) tables h.0, apart_by tables h.1)

pub apart : (tables : List CountedTable) → AreTables (stored_of tables) → AreApart tables
apart tables are = apart_by tables are.names_apart

other_name : (a b : List ℕ) → IsTrue (not (bytes_eq a b)) → ¬ (a ≡ b)
other_name a b differ e = both_ways (bytes_eq a b) (not-true (bytes_eq a b) differ) (subst (λ (n : List ℕ). bytes_eq a n ≡ true) e (same_name a))

module _ (rows new : List Row) (c : CountedTable) (n : ℕ) (others : (name : List ℕ) → ¬ (name ≡ c.stored.table.name) → length (rows_of new name) ≡ length (rows_of rows name))
    (own : n ≡ length (rows_of new c.stored.table.name)) where
  other_count : (t : CountedTable) → ¬ (t.stored.table.name ≡ c.stored.table.name) → HasCount rows t → HasCount new t
  other_count t differ h = h ∙ sym (others t.stored.table.name differ)

  counts_at : (tables : List CountedTable) (place : ℕ) → place < length tables → c ≡ get_or tables place c → AreApart tables
      → AllByRecursion (HasCount rows) tables → AllByRecursion (HasCount new) (recounted tables place n)
  counts_at [] place within at apart h = absurd (omega arith)
  counts_at (t ∷ ts) zero within at apart h =
      let later = all_both
      (λ (u : CountedTable). IsTrue (not (bytes_eq t.stored.table.name u.stored.table.name))) (HasCount rows) (HasCount new)
      (λ u differ k. other_count u (λ e. other_name t.stored.table.name u.stored.table.name differ (ap (λ (c : CountedTable). c.stored.table.name) (sym at) ∙ sym e)) k)
      ts apart.0 h.1 in
      (own ∙ ap (λ (o : CountedTable). length (rows_of new o.stored.table.name)) at, later)
  counts_at (t ∷ ts) (suc i) within at apart h =
      let has = has_at ts i c (omega arith) at in
      let differ = all_has (λ (u : CountedTable). IsTrue (not (bytes_eq t.stored.table.name u.stored.table.name))) ts apart.0 c has in
      (other_count t (other_name t.stored.table.name c.stored.table.name differ) h.0, counts_at ts i (omega arith) at apart.1 h.1)

  -- each table's count is right, if tables of other names keep their number of rows
  pub counts_after : (tables : List CountedTable) (name : List ℕ) (place : ℕ) → IsPlaced tables name place c → AreTables (stored_of tables)
      → AllByRecursion (HasCount rows) tables → AllByRecursion (HasCount new) (recounted tables place n)
  counts_after tables name place placed are = counts_at tables place placed.within placed.item (apart tables are)

-- the same if all tables keep their number of rows
pub counts_same : (rows new : List Row) → ((name : List ℕ) → length (rows_of new name) ≡ length (rows_of rows name)) → (tables : List CountedTable)
    → AllByRecursion (HasCount rows) tables → AllByRecursion (HasCount new) tables
counts_same rows new same = all_weaker (HasCount rows) (HasCount new) (λ c h. h ∙ sym (same c.stored.table.name))
