-- The tables of a catalog with their numbers and counts: adding one in order, redefining one, recounting one, and
-- removing one.
use Rattle.std.specs.Prelude.{◌≢◌, IfSome, IsTrue, bytes_eq, filter, insert, int_le, is_some, nat_lt, not, option_map, pos, position, remove, slice_get, slice_set, unwrap_or}
use Rattle.std.specs.List.{AllByRecursion, position_or_len}
use Rattle.std.specs.Cmp.Lexicographic.{slice_cmp}
use Rattle.std.specs.Ordering.{int_eq, is_lt, nat_cmp}
use Rattle.std.proofs.Common.{◌≡◌, ◌<◌, ◌+◌, ◌∙◌, ℕ, zero, suc, Bool, true, false, cond, List, [], ◌∷◌, Option, Some, None, ap, ap₂, arith, find, get_or, inl, inr, length, map, refl, set, subst, sym}
use Rattle.std.proofs.lemmas.Bool.{cases_Bool, cond-false, cond-true, cond_both, le-ltb, lt-ltb, ltb-false, ltb-true}
use Rattle.std.proofs.lemmas.Bool.Decides.{Decides-int_eq}
use Rattle.std.proofs.lemmas.List.{length-map}
use Rattle.std.proofs.lemmas.Option.{cond_some, none-some, same_Some, slice_get_cases}
use Rattle.escrow_num.specs.Ascending.{IsAscending}
use Rattle.escrow_num.proofs.Ascending.{ascending_filter, ascending_map}
use Rattle.escrow_num.proofs.Items.{all_at, all_filter, find_none, has_all}
use Rattle.escrow_num.proofs.Orders.{same_name}
use Rattle.escrow_num.proofs.Places.{put_at_place}
use Rattle.escrow_num.proofs.Put.{put}
use Rattle.escrow_schema.specs.declared.catalog.TheConstants.Catalog.{MAX_TABLES}
use Rattle.escrow_schema.specs.declared.counted_table.CountedTable.{CountedTable}
use Rattle.escrow_schema.specs.declared.stored.StoredTable.{StoredTable}
use Rattle.escrow_schema.specs.declared.table.TableDef.{TableDef}
use Rattle.escrow_schema.specs.Altered.{with_altered}
use Rattle.escrow_schema.specs.Catalog.{IsCatalog, place_named, table_before, table_named, with_table, without_table}
use Rattle.escrow_schema.specs.Definition.{IsTable}
use Rattle.escrow_schema.specs.Stored.{IsListed, catalog_of, counted_named, defined_as, recounted, stored_of, with_definition, without_counted}
use Rattle.escrow_schema.proofs.CatalogLemmas.{Once, all_kept, once_named, put_over, taken_out, with_new, with_one_altered, with_table_put, without_one}

-- ---- through a map

pub find_through : {A B : Type 0} (p : B → Bool) (f : A → B) (xs : List A) → find p (map f xs) ≡ option_map f (find (λ x. p (f x)) xs)
find_through p f [] = refl
find_through p f (x ∷ xs) =
    elim (p (f x)) as (λ b. cond b (Some (f x)) (find p (map f xs)) ≡ option_map f (cond b (Some x) (find (λ y. p (f y)) xs))) [ true ↦ refl | false ↦ find_through p f xs ]

-- the first item that passes has the index of its image
first_through : {A B : Type 0} (p : B → Bool) (f : A → B) (xs : List A) → position_or_len p (map f xs) ≡ position_or_len (λ x. p (f x)) xs
first_through p f [] = refl
first_through p f (x ∷ xs) = elim (cases_Bool (p (f x))) [ inl t ↦ rw t refl | inr fails ↦ rw fails (ap (λ n. 1 + n) (first_through p f xs)) ]

pub position_through : {A B : Type 0} (p : B → Bool) (f : A → B) (xs : List A) → position p (map f xs) ≡ position (λ x. p (f x)) xs
position_through p f xs = ap₂ (λ n l. cond (nat_lt n l) (Some n) None) (first_through p f xs) (length-map xs f)

filter_through : {A B : Type 0} (p : B → Bool) (f : A → B) (xs : List A) → filter p (map f xs) ≡ map f (filter (λ x. p (f x)) xs)
filter_through p f [] = refl
filter_through p f (x ∷ xs) = elim (cases_Bool (p (f x))) [ inl t ↦ rw t (ap (λ ys. f x ∷ ys) (filter_through p f xs)) | inr fails ↦ rw fails (filter_through p f xs) ]

pub all_unmap : {A B : Type 0} (P : B → Type 0) (f : A → B) (xs : List A) → AllByRecursion P (map f xs) → AllByRecursion (λ x. P (f x)) xs
all_unmap P f [] h = tt
all_unmap P f (x ∷ xs) h = (h.0, all_unmap P f xs h.1)

pub all_map : {A B : Type 0} (P : B → Type 0) (f : A → B) (xs : List A) → AllByRecursion (λ x. P (f x)) xs → AllByRecursion P (map f xs)
all_map P f [] h = tt
all_map P f (x ∷ xs) h = (h.0, all_map P f xs h.1)

-- if at most one image passes, at most one item does
pub once_through : {A B : Type 0} (p : B → Bool) (f : A → B) (xs : List A) → Once p (map f xs) → Once (λ x. p (f x)) xs
once_through p f [] h = tt
once_through p f (x ∷ xs) h = ((λ e. all_unmap (λ y. p y ≡ false) f xs (h.0 e)), once_through p f xs h.1)

put_through : {A B : Type 0} (f : A → B) (before : B → B → Bool) (x : A) (xs : List A) → map f (put (λ a b. before (f a) (f b)) x xs) ≡ put before (f x) (map f xs)
put_through f before x [] = refl
put_through f before x (y ∷ ys) =
    elim (cases_Bool (before (f x) (f y))) [ inl t ↦ rw t refl | inr e ↦ rw e (ap (λ zs. f y ∷ zs) (put_through f before x ys)) ]

-- ---- the index of an item that passes

-- adding one on each side changes no comparison
one_more : (n l : ℕ) → nat_lt (1 + n) (suc l) ≡ nat_lt n l
one_more n l = elim (cases_Bool (nat_lt n l)) [
  | inl less ↦ lt-ltb (1 + n) (suc l) (omega (arith, ltb-true n l less)) ∙ sym less
  | inr not_less ↦ le-ltb (1 + n) (suc l) (omega (arith, ltb-false n l not_less)) ∙ sym not_less
]

passing : {A : Type 0} (p : A → Bool) (xs : List A) → nat_lt (position_or_len p xs) (length xs) ≡ is_some (find p xs)
passing p [] = refl
passing p (x ∷ xs) = elim (cases_Bool (p x)) [
  | inl t ↦ rw t (lt-ltb 0 (length (x ∷ xs)) (omega arith))
  | inr fails ↦ rw fails (one_more (position_or_len p xs) (length xs) ∙ passing p xs)
]

some_if : (b : Bool) (n : ℕ) → is_some (cond b (Some n) None) ≡ b
some_if true n = refl
some_if false n = refl

-- an item that passes has an index exactly if it is found
pub has_place : {A : Type 0} (p : A → Bool) (xs : List A) → is_some (position p xs) ≡ is_some (find p xs)
has_place p xs = some_if (nat_lt (position_or_len p xs) (length xs)) (position_or_len p xs) ∙ passing p xs

pub position_within : {A : Type 0} (p : A → Bool) (xs : List A) (i : ℕ) → position p xs ≡ Some i → i < length xs
position_within p xs i e =
    let at = cond_some (nat_lt (position_or_len p xs) (length xs)) (position_or_len p xs) i e in
    subst (λ n. n < length xs) at.1 (ltb-true (position_or_len p xs) (length xs) at.0)

-- ---- an item inserted at an index

pub all_insert : {A : Type 0} (P : A → Type 0) (xs : List A) (i : ℕ) (x : A) → P x → AllByRecursion P xs → AllByRecursion P (insert xs i x)
all_insert P [] zero x here all = (here, tt)
all_insert P [] (suc i) x here all = (here, tt)
all_insert P (y ∷ ys) zero x here all = (here, all)
all_insert P (y ∷ ys) (suc i) x here all = (all.0, all_insert P ys i x here all.1)

apart_insert : {A : Type 0} (before : A → A → Bool) (xs : List A) (i : ℕ) (x : A) → AllByRecursion (λ y. IsTrue (before x y)) xs → AllByRecursion (λ y. IsTrue (before y x)) xs
    → IsAscending before xs → IsAscending before (insert xs i x)
apart_insert before [] zero x front back h = (tt, tt)
apart_insert before [] (suc i) x front back h = (tt, tt)
apart_insert before (y ∷ ys) zero x front back h = (front, h)
apart_insert before (y ∷ ys) (suc i) x front back h =
    (all_insert (λ z. IsTrue (before y z)) ys i x back.0 h.0, apart_insert before ys i x front.1 back.1 h.1)

-- only that item passes, so filtering removes it again
put_back : {A : Type 0} (p : A → Bool) (xs : List A) (i : ℕ) (x : A) → p x ≡ true → AllByRecursion (λ y. p y ≡ false) xs → filter (λ y. not (p y)) (insert xs i x) ≡ xs
put_back p [] zero x passes none = rw passes refl
put_back p [] (suc i) x passes none = rw passes refl
put_back p (y ∷ ys) zero x passes none = rw passes (all_kept p (y ∷ ys) none)
put_back p (y ∷ ys) (suc i) x passes none = rw none.0 (ap (λ zs. y ∷ zs) (put_back p ys i x passes none.1))

-- ---- a list in which the items that pass a test are changed

neither : {A : Type 0} (p : A → Bool) (f : A → A) (y : A) (xs : List A) → AllByRecursion (λ x. p x ≡ false) xs → map (λ x. cond (p x) y x) xs ≡ map (λ x. cond (p x) (f x) x) xs
neither p f y [] h = refl
neither p f y (x ∷ xs) h = rw h.0 (ap (λ zs. x ∷ zs) (neither p f y xs h.1))

-- if at most one item passes, it is the first
same_over : {A : Type 0} (p : A → Bool) (f : A → A) (y : A) (xs : List A) → Once p xs → find p xs ≡ Some y → map (λ x. cond (p x) (f y) x) xs ≡ map (λ x. cond (p x) (f x) x) xs
same_over p f y [] once is = refl
same_over p f y (x ∷ xs) once is = elim (cases_Bool (p x)) [
  | inl t ↦
      let first : x ≡ y = same_Some x y (sym (cond-true (p x) (Some x) (find p xs) t) ∙ is) in
      rw t (ap₂ (λ z zs. z ∷ zs) (ap f (sym first)) (neither p f (f y) xs (once.0 t)))
  | inr e ↦ rw e (ap (λ zs. x ∷ zs) (same_over p f y xs once.1 (sym (cond-false (p x) (Some x) (find p xs) e) ∙ is)))
]

-- the first one, changed at its index
set_first : {A : Type 0} (p : A → Bool) (f : A → A) (xs : List A) (i : ℕ) (d : A) → Once p xs → position p xs ≡ Some i → set xs i (f (get_or xs i d)) ≡ map (λ x. cond (p x) (f x) x) xs
set_first p f xs i d once at = (put_over p (f (get_or xs i d)) xs i once at).1 ∙ same_over p f (get_or xs i d) xs once (taken_out p xs i d once at).0

-- ---- tables by name

pub named_table : (tables : List CountedTable) (name : List ℕ) → table_named (catalog_of tables) name ≡ option_map (λ (c : CountedTable). c.stored.table) (counted_named tables name)
named_table tables name = find_through (λ (t : TableDef). bytes_eq t.name name) (λ (c : CountedTable). c.stored.table) tables

-- the index of a name in the catalog is its index among the kept tables
pub kept_place : (tables : List CountedTable) (name : List ℕ) → place_named (catalog_of tables) name ≡ position (λ (c : CountedTable). bytes_eq c.stored.table.name name) tables
kept_place tables name = position_through (λ (t : TableDef). bytes_eq t.name name) (λ (c : CountedTable). c.stored.table) tables

pub place_within : (tables : List CountedTable) (name : List ℕ) (o : Option ℕ) → o ≡ position (λ (c : CountedTable). bytes_eq c.stored.table.name name) tables → IfSome o (λ place. place < length tables)
place_within tables name None e = tt
place_within tables name (Some place) e = position_within (λ (c : CountedTable). bytes_eq c.stored.table.name name) tables place (sym e)

-- a name finds no kept table exactly if no table in the catalog has it
pub none_named : (tables : List CountedTable) (name : List ℕ) → None ≡ counted_named tables name → table_named (catalog_of tables) name ≡ None
none_named tables name e = named_table tables name ∙ ap (option_map (λ (c : CountedTable). c.stored.table)) (sym e)

none_counted : (tables : List CountedTable) (name : List ℕ) → table_named (catalog_of tables) name ≡ None → counted_named tables name ≡ None
none_counted tables name none = at (counted_named tables name) (sym (named_table tables name) ∙ none)
  where
    at : (o : Option CountedTable) → option_map (λ (c : CountedTable). c.stored.table) o ≡ None → o ≡ None
    at None e = refl
    at (Some c) e = absurd (none-some c.stored.table (sym e))

pub some_named : (tables : List CountedTable) (name : List ℕ) (c : CountedTable) → Some c ≡ counted_named tables name → table_named (catalog_of tables) name ≡ Some c.stored.table
some_named tables name c e = named_table tables name ∙ ap (option_map (λ (c : CountedTable). c.stored.table)) (sym e)

-- the table at an index is one that some text defines
pub table_at : (tables : List CountedTable) (place : ℕ) (c : CountedTable) → IsListed tables → place < length tables → c ≡ get_or tables place c → IsTable c.stored.table
table_at tables place c listed within item =
    all_at (λ (c : CountedTable). IsTable c.stored.table) tables place c within item (all_unmap IsTable (λ (c : CountedTable). c.stored.table) tables listed.is_catalog.tables)

-- no two tables have the same name
named_once : (tables : List CountedTable) (name : List ℕ) → IsListed tables → Once (λ (c : CountedTable). bytes_eq c.stored.table.name name) tables
named_once tables name listed =
    once_through (λ (t : TableDef). bytes_eq t.name name) (λ (c : CountedTable). c.stored.table) tables (once_named (catalog_of tables) name listed.is_catalog.order)

-- ---- one more table

abbrev other_number : CountedTable → CountedTable → Bool
other_number a b = not (int_eq a.stored.id b.stored.id)

-- the index of a table of this name in the order
abbrev pub place_for : List CountedTable → List ℕ → ℕ
place_for tables name = unwrap_or (position (λ (o : CountedTable). is_lt (slice_cmp nat_cmp name o.stored.table.name)) tables) (length tables)

module _ (tables : List CountedTable) (c : CountedTable) where
  -- a table inserted at its index is inserted in the catalog in order
  pub catalog_more : catalog_of (insert tables (place_for tables c.stored.table.name) c) ≡ with_table c.stored.table (catalog_of tables)
  catalog_more =
      ap catalog_of (put_at_place (λ (o : CountedTable). is_lt (slice_cmp nat_cmp c.stored.table.name o.stored.table.name)) c
      (put (λ (a b : CountedTable). table_before a.stored.table b.stored.table) c) refl (λ y ys. refl) tables)
      ∙ put_through (λ (o : CountedTable). o.stored.table) table_before c tables ∙ sym (with_table_put c.stored.table (catalog_of tables))

  -- a number that no table has differs, compared in either order
  differs : AllByRecursion (λ (o : CountedTable). o.stored.id ≢ c.stored.id) tables → AllByRecursion (λ o. IsTrue (other_number c o)) tables × AllByRecursion (λ o. IsTrue (other_number o c)) tables
  differs = each tables
    where
      each : (ts : List CountedTable) → AllByRecursion (λ (o : CountedTable). o.stored.id ≢ c.stored.id) ts → AllByRecursion (λ o. IsTrue (other_number c o)) ts × AllByRecursion (λ o. IsTrue (other_number o c)) ts
      each [] h = (tt, tt)
      each (o ∷ ts) h =
          let rest = each ts h.1 in
          let there : int_eq o.stored.id c.stored.id ≡ false = elim (cases_Bool (int_eq o.stored.id c.stored.id)) [ inl t ↦ absurd (h.0 ((Decides-int_eq o.stored.id c.stored.id).0 t)) | inr f ↦ f ] in
          let here : int_eq c.stored.id o.stored.id ≡ false = elim (cases_Bool (int_eq c.stored.id o.stored.id)) [ inl t ↦ absurd (h.0 (sym ((Decides-int_eq c.stored.id o.stored.id).0 t))) | inr f ↦ f ] in
          ((ap not here, rest.0), (ap not there, rest.1))

  pub listed_more : (place : ℕ) → catalog_of (insert tables place c) ≡ with_table c.stored.table (catalog_of tables) → IsListed tables → IsTable c.stored.table → IsTrue (int_le (pos 1) c.stored.id) → AllByRecursion (λ (o : CountedTable). o.stored.id ≢ c.stored.id) tables
      → table_named (catalog_of tables) c.stored.table.name ≡ None → length (catalog_of tables) < MAX_TABLES → IsListed (insert tables place c)
  listed_more place placed listed is_table number free new room = record {
    is_catalog = subst IsCatalog (sym placed) (with_new (catalog_of tables) c.stored.table listed.is_catalog is_table new room);
    from_one = all_insert (λ (o : CountedTable). IsTrue (int_le (pos 1) o.stored.id)) tables place c number listed.from_one;
    ids_apart = apart_insert other_number tables place c (differs free).0 (differs free).1 listed.ids_apart;
  }

  -- without it the tables are the same as before
  pub taken_back : (place : ℕ) → table_named (catalog_of tables) c.stored.table.name ≡ None → without_counted c.stored.table.name (insert tables place c) ≡ tables
  taken_back place new =
      let test : CountedTable → Bool = λ o. bytes_eq o.stored.table.name c.stored.table.name in
      put_back test tables place c (same_name c.stored.table.name) (has_all (λ o. test o ≡ false) tables (find_none test tables (none_counted tables c.stored.table.name new)))

-- ---- one table less

pub catalog_less : (name : List ℕ) (tables : List CountedTable) → catalog_of (without_counted name tables) ≡ without_table name (catalog_of tables)
catalog_less name tables = sym (filter_through (λ (t : TableDef). not (bytes_eq t.name name)) (λ (c : CountedTable). c.stored.table) tables)

pub listed_less : (name : List ℕ) (tables : List CountedTable) → IsListed tables → IsListed (without_counted name tables)
listed_less name tables listed =
    let kept : CountedTable → Bool = λ c. not (bytes_eq c.stored.table.name name) in
    record {
      is_catalog = subst IsCatalog (sym (catalog_less name tables)) (without_one (catalog_of tables) name listed.is_catalog);
      from_one = all_filter (λ (c : CountedTable). IsTrue (int_le (pos 1) c.stored.id)) kept tables listed.from_one;
      ids_apart = ascending_filter other_number kept tables listed.ids_apart;
    }

-- the table at the index of a name has that name, and removing it leaves the others
pub taken_at : (tables : List CountedTable) (name : List ℕ) (place : ℕ) (c : CountedTable) → IsListed tables → position (λ (c : CountedTable). bytes_eq c.stored.table.name name) tables ≡ Some place
    → (table_named (catalog_of tables) name ≡ Some (get_or tables place c).stored.table) × (remove tables place ≡ without_counted name tables)
taken_at tables name place c listed at =
    let out = taken_out (λ (c : CountedTable). bytes_eq c.stored.table.name name) tables place c (named_once tables name listed) at in
    (some_named tables name (get_or tables place c) (sym out.0), out.1)

-- ---- one table with another definition

abbrev one_defined : TableDef → CountedTable → CountedTable
one_defined table c = cond (bytes_eq c.stored.table.name table.name) (defined_as table c) c

pub catalog_defined : (table : TableDef) (tables : List CountedTable) → catalog_of (with_definition table tables) ≡ with_altered table (catalog_of tables)
catalog_defined table [] = refl
catalog_defined table (c ∷ tables) =
    ap₂ (λ (t : TableDef) (ts : List TableDef). t ∷ ts)
    (elim (bytes_eq c.stored.table.name table.name) as (λ b. (cond b (defined_as table c) c).stored.table ≡ cond b table c.stored.table) [ true ↦ refl | false ↦ refl ])
    (catalog_defined table tables)

same_number : (table : TableDef) (c : CountedTable) → (one_defined table c).stored.id ≡ c.stored.id
same_number table c = cond_both (bytes_eq c.stored.table.name table.name) (defined_as table c) c (λ (o : CountedTable). o.stored.id ≡ c.stored.id) (λ _. refl) (λ _. refl)

pub listed_defined : (table : TableDef) (tables : List CountedTable) → IsTable table → IsListed tables → IsListed (with_definition table tables)
listed_defined table tables is_table listed = record {
  is_catalog = subst IsCatalog (sym (catalog_defined table tables)) (with_one_altered (catalog_of tables) table listed.is_catalog is_table);
  from_one = all_defined tables listed.from_one;
  ids_apart = ascending_map other_number (one_defined table) (λ a b. ap₂ (λ i j. not (int_eq i j)) (same_number table a) (same_number table b)) tables listed.ids_apart;
}
  where
    all_defined : (ts : List CountedTable) → AllByRecursion (λ (c : CountedTable). IsTrue (int_le (pos 1) c.stored.id)) ts
        → AllByRecursion (λ (c : CountedTable). IsTrue (int_le (pos 1) c.stored.id)) (with_definition table ts)
    all_defined [] h = tt
    all_defined (c ∷ ts) h = (subst (λ i. IsTrue (int_le (pos 1) i)) (sym (same_number table c)) h.0, all_defined ts h.1)

-- the table at the index of the name, with the new definition
pub defined_at : (table : TableDef) (tables : List CountedTable) (place : ℕ) → IsListed tables → position (λ (c : CountedTable). bytes_eq c.stored.table.name table.name) tables ≡ Some place
    → (place < length tables) × ((c : CountedTable) × (slice_get tables place ≡ Some c) × (slice_set tables place (defined_as table c) ≡ with_definition table tables))
defined_at table tables place listed at =
    let test : CountedTable → Bool = λ c. bytes_eq c.stored.table.name table.name in
    let once = named_once tables table.name listed in
    elim (slice_get_cases tables place).1 [
      | inl there ↦ (
        there.1,
        (
          there.0,
          there.2,
          ap (λ (o : CountedTable). slice_set tables place (defined_as table o)) (sym there.3) ∙ set_first test (defined_as table) tables place there.0 once at,
        ),
      )
      | inr past ↦ absurd (let within = position_within test tables place at in omega (arith, past.0))
    ]

-- ---- one table with another number of rows

all_recounted : (P : StoredTable → Type 0) (tables : List CountedTable) (place n : ℕ) → AllByRecursion (λ (c : CountedTable). P c.stored) tables → AllByRecursion (λ (c : CountedTable). P c.stored) (recounted tables place n)
all_recounted P [] place n h = tt
all_recounted P (c ∷ tables) zero n h = h
all_recounted P (c ∷ tables) (suc place) n h = (h.0, all_recounted P tables place n h.1)

apart_recounted : (before : StoredTable → StoredTable → Bool) (tables : List CountedTable) (place n : ℕ) → IsAscending (λ (a b : CountedTable). before a.stored b.stored) tables
    → IsAscending (λ (a b : CountedTable). before a.stored b.stored) (recounted tables place n)
apart_recounted before [] place n h = tt
apart_recounted before (c ∷ tables) zero n h = h
apart_recounted before (c ∷ tables) (suc place) n h =
    (all_recounted (λ s. IsTrue (before c.stored s)) tables place n h.0, apart_recounted before tables place n h.1)

pub catalog_recounted : (tables : List CountedTable) (place n : ℕ) → catalog_of (recounted tables place n) ≡ catalog_of tables
catalog_recounted [] place n = refl
catalog_recounted (c ∷ tables) zero n = refl
catalog_recounted (c ∷ tables) (suc place) n = ap (λ (ts : List TableDef). c.stored.table ∷ ts) (catalog_recounted tables place n)

pub listed_recounted : (tables : List CountedTable) (place n : ℕ) → IsListed tables → IsListed (recounted tables place n)
listed_recounted tables place n listed = record {
  is_catalog = subst IsCatalog (sym (catalog_recounted tables place n)) listed.is_catalog;
  from_one = all_recounted (λ s. IsTrue (int_le (pos 1) s.id)) tables place n listed.from_one;
  ids_apart = apart_recounted (λ a b. not (int_eq a.id b.id)) tables place n listed.ids_apart;
}

-- the table at the index, with the new count
pub recounted_at : (tables : List CountedTable) (place n : ℕ) (c : CountedTable) → c ≡ get_or tables place c → recounted tables place n ≡ set tables place (record { stored = c.stored; rows = n })
recounted_at [] place n c at = refl
recounted_at (d ∷ tables) zero n c at = ap (λ (o : CountedTable). record { stored = o.stored; rows = n } ∷ tables) (sym at)
recounted_at (d ∷ tables) (suc place) n c at = ap (λ (ts : List CountedTable). d ∷ ts) (recounted_at tables place n c at)
