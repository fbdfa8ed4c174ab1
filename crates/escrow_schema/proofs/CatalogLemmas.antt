-- The tables of a catalog: inserting one in order, replacing one, and removing one.
use Rattle.std.specs.Borrow.{Bor}
use Rattle.std.specs.Prelude.{IfSome, option_copied, ◌≡◌, ◌<◌, ◌≤◌, ◌+◌, ℕ, Bool, true, false, cond, not, nat_lt, is_some, List, [], ◌∷◌, Option, Some, None, length, map, filter, find, position, remove, slice_set, bytes_eq, IsTrue}
use Rattle.std.specs.List.{AllByRecursion, position_or_len}
use Rattle.std.specs.Cmp.{IsTotalOrder}
use Rattle.std.specs.Cmp.Lexicographic.{slice_cmp}
use Rattle.std.specs.Ordering.{nat_cmp, is_lt}
use Rattle.std.specs.declared.cmp.Ordering.{Ordering}
use Rattle.std.specs.declared.cmp.Ordering.TheVariants.{Equal}
use Rattle.std.proofs.Common.{inl, inr, get_or, sym, ap, ◌∙◌, subst, refl, arith}
use Rattle.std.proofs.Math.Numerals.{one-add}
use Rattle.std.proofs.lemmas.Bool.{cases_Bool, cond_both, false≢true, ltb-false, ltb-true}
use Rattle.std.proofs.lemmas.Cmp.{nat_list_cmp_total, on_total}
use Rattle.std.proofs.lemmas.List.{length-map}
use Rattle.std.proofs.lemmas.Option.{cond_some, none-some}
use Rattle.escrow_num.specs.Ascending.{IsAscending}
use Rattle.escrow_num.proofs.Ascending.{ascending_filter}
use Rattle.escrow_num.proofs.Items.{Has, all_filter, all_has, find_has, find_none, has_all}
use Rattle.escrow_num.proofs.Orders.{before_itself, before_trans, list_tied, name_same, not_before, same_name}
use Rattle.escrow_num.proofs.Put.{has_put, length-put, put, put_ascending}
use Rattle.escrow_schema.specs.declared.table.TableDef.{TableDef}
use Rattle.escrow_schema.specs.declared.catalog.TheConstants.Catalog.{MAX_TABLES}
use Rattle.escrow_schema.specs.Altered.{with_altered}
use Rattle.escrow_schema.specs.Catalog.{IsCatalog, table_before, table_named, with_table, without_table}
use Rattle.escrow_schema.specs.Definition.{IsTable}

-- the order of tables
abbrev pub by_name : TableDef → TableDef → Ordering
by_name a b = slice_cmp nat_cmp a.name b.name

pub table_total : IsTotalOrder by_name
table_total = on_total (λ (t : TableDef). t.name) nat_list_cmp_total

-- tables that compare as equal have the same name
pub table_tied : (x y : TableDef) → by_name x y ≡ Equal → x.name ≡ y.name
table_tied x y e = list_tied x.name y.name e

pub with_table_put : (table : TableDef) (catalog : List TableDef) → with_table table catalog ≡ put table_before table catalog
with_table_put table [] = refl
with_table_put table (other ∷ rest) = ap (λ zs. cond (table_before table other) (table ∷ other ∷ rest) (other ∷ zs)) (with_table_put table rest)

-- some text defines each table that is found
pub found_table : (catalog : List TableDef) (name : List ℕ) (table : TableDef) → IsCatalog catalog → table_named catalog name ≡ Some table → IsTable table
found_table catalog name table h e = all_has IsTable catalog h.tables table (find_has (λ t. bytes_eq t.name name) catalog table e).0

-- a new table is inserted in its order
pub in_order : (catalog : List TableDef) (table : TableDef) → table_named catalog table.name ≡ None → IsAscending table_before catalog
    → IsAscending table_before (with_table table catalog)
in_order catalog table new ascending =
    let differs : (y : TableDef) → Has catalog y → ¬ (by_name table y ≡ Equal) = λ y h e.
    let other : bytes_eq y.name table.name ≡ false = find_none (λ t. bytes_eq t.name table.name) catalog new y h in
    let same : bytes_eq y.name table.name ≡ true = subst (λ n. bytes_eq y.name n ≡ true) (sym (table_tied table y e)) (same_name y.name) in
    absurd (cc) in
    subst (IsAscending table_before) (sym (with_table_put table catalog))
    (put_ascending table_before (before_trans by_name table_total) table catalog
    (λ y h f. not_before by_name table_total table y f (differs y h)) ascending)

-- a catalog with a new table, if there is room
pub with_new : (catalog : List TableDef) (table : TableDef) → IsCatalog catalog → IsTable table → table_named catalog table.name ≡ None → length catalog < MAX_TABLES
    → IsCatalog (with_table table catalog)
with_new catalog table h is_table new room =
    let whole : List TableDef = with_table table catalog in
    let each : (t : TableDef) → Has whole t → IsTable t = λ t k.
    elim (has_put table_before table catalog t (subst (λ c. Has c t) (with_table_put table catalog) k)) [
      | inl e ↦ subst IsTable e is_table
      | inr l ↦ all_has IsTable catalog h.tables t l
    ] in
    record {
      tables = has_all IsTable whole each;
      order = in_order catalog table new h.order;
      few = omega (arith, ap (λ (c : List TableDef). length c) (with_table_put table catalog), length-put table_before table catalog);
    }

-- a test keeps at most all items
length-kept_le : {A : Type 0} (p : A → Bool) (xs : List A) → length (filter p xs) ≤ length xs
length-kept_le p [] = omega arith
length-kept_le p (x ∷ xs) =
    let rest = length-kept_le p xs in
    elim (cases_Bool (p x)) [ inl t ↦ rw t (omega arith) | inr f ↦ rw f (omega arith) ]

-- a catalog without one table
pub without_one : (catalog : List TableDef) (name : List ℕ) → IsCatalog catalog → IsCatalog (without_table name catalog)
without_one catalog name h =
    let p : TableDef → Bool = λ t. not (bytes_eq t.name name) in
    let fewer = length-kept_le p catalog in
    let few = h.few in
    record {
      tables = all_filter IsTable p catalog h.tables;
      order = ascending_filter table_before p catalog h.order;
      few = omega arith;
    }

-- if no item passes a test, all are kept
pub all_kept : {A : Type 0} (p : A → Bool) (xs : List A) → AllByRecursion (λ x. p x ≡ false) xs → filter (λ x. not (p x)) xs ≡ xs
all_kept p [] h = refl
all_kept p (x ∷ xs) h = rw h.0 (ap (λ ys. x ∷ ys) (all_kept p xs h.1))

-- after an item that passes, no other item passes
abbrev pub Once : {A : Type 0} → (A → Bool) → List A → Type 0
Once p [] = Unit {0}
Once p (x ∷ xs) = (p x ≡ true → AllByRecursion (λ y. p y ≡ false) xs) × Once p xs

-- the item at the first passing place is found, and the others remain without it
first_passes : {A : Type 0} (p : A → Bool) (xs : List A) (d : A) → Once p xs → position_or_len p xs < length xs
    → (find p xs ≡ Some (get_or xs (position_or_len p xs) d)) × (remove xs (position_or_len p xs) ≡ filter (λ x. not (p x)) xs)
first_passes p [] d once h = absurd (omega arith)
first_passes p (x ∷ xs) d once h =
    elim (cases_Bool (p x)) [
      | inl t ↦ rw t (refl, sym (all_kept p xs (once.0 t)))
      | inr f ↦ (let shorter : position_or_len p xs < length xs = (let k : 1 + position_or_len p xs < length (x ∷ xs) = rw f at h in omega arith) in
          let rest = first_passes p xs d once.1 shorter in
          rw (f, one-add) (rest.0, ap (λ ys. x ∷ ys) rest.1))
    ]

none_passes : {A : Type 0} (p : A → Bool) (xs : List A) → length xs ≤ position_or_len p xs → find p xs ≡ None
none_passes p [] h = refl
none_passes p (x ∷ xs) h =
    elim (cases_Bool (p x)) [
      | inl t ↦ absurd (let k : length (x ∷ xs) ≤ 0 = rw t at h in omega arith)
      | inr f ↦ (let shorter : length xs ≤ position_or_len p xs = (let k : length (x ∷ xs) ≤ 1 + position_or_len p xs = rw f at h in omega arith) in
          rw f (none_passes p xs shorter))
    ]

pub taken_out : {A : Type 0} (p : A → Bool) (xs : List A) (i : ℕ) (d : A) → Once p xs → position p xs ≡ Some i
    → (find p xs ≡ Some (get_or xs i d)) × (remove xs i ≡ filter (λ x. not (p x)) xs)
taken_out p xs i d once e =
    let at = cond_some (nat_lt (position_or_len p xs) (length xs)) (position_or_len p xs) i e in
    let within = ltb-true (position_or_len p xs) (length xs) at.0 in
    subst (λ n. (find p xs ≡ Some (get_or xs n d)) × (remove xs n ≡ filter (λ x. not (p x)) xs)) at.1 (first_passes p xs d once within)

pub not_there : {A : Type 0} (p : A → Bool) (xs : List A) → position p xs ≡ None → find p xs ≡ None
not_there p xs e =
    elim (cases_Bool (nat_lt (position_or_len p xs) (length xs))) [
      | inl t ↦ absurd (none-some (position_or_len p xs) (sym (subst (λ b. cond b (Some (position_or_len p xs)) None ≡ None) t e)))
      | inr f ↦ none_passes p xs (omega (arith, ltb-false (position_or_len p xs) (length xs) f))
    ]

-- if no item passes, nothing is replaced
none_over : {A : Type 0} (p : A → Bool) (y : A) (xs : List A) → AllByRecursion (λ x. p x ≡ false) xs → map (λ x. cond (p x) y x) xs ≡ xs
none_over p y [] h = refl
none_over p y (x ∷ xs) h = rw h.0 (ap (λ ys. x ∷ ys) (none_over p y xs h.1))

over_first : {A : Type 0} (p : A → Bool) (y : A) (xs : List A) → Once p xs → position_or_len p xs < length xs
    → slice_set xs (position_or_len p xs) y ≡ map (λ x. cond (p x) y x) xs
over_first p y [] once h = absurd (omega arith)
over_first p y (x ∷ xs) once h =
    elim (cases_Bool (p x)) [
      | inl t ↦ rw t (ap (λ ys. y ∷ ys) (sym (none_over p y xs (once.0 t))))
      | inr f ↦ (let shorter : position_or_len p xs < length xs = (let k : 1 + position_or_len p xs < length (x ∷ xs) = rw f at h in omega arith) in
          rw (f, one-add) (ap (λ ys. x ∷ ys) (over_first p y xs once.1 shorter)))
    ]

-- an item replaces the one at the first passing place
pub put_over : {A : Type 0} (p : A → Bool) (y : A) (xs : List A) (i : ℕ) → Once p xs → position p xs ≡ Some i
    → (i < length xs) × (slice_set xs i y ≡ map (λ x. cond (p x) y x) xs)
put_over p y xs i once e =
    let at = cond_some (nat_lt (position_or_len p xs) (length xs)) (position_or_len p xs) i e in
    let within = ltb-true (position_or_len p xs) (length xs) at.0 in
    subst (λ n. (n < length xs) × (slice_set xs n y ≡ map (λ x. cond (p x) y x) xs)) at.1 (within, over_first p y xs once within)

-- a table replaces another one if it has the same name
abbrev one_altered : TableDef → TableDef → TableDef
one_altered table other = cond (bytes_eq other.name table.name) table other

keeps_name : (table other : TableDef) → (one_altered table other).name ≡ other.name
keeps_name table other =
    cond_both (bytes_eq other.name table.name) table other (λ (t : TableDef). t.name ≡ other.name) (λ same. sym (name_same other.name table.name same)) (λ _. refl)

each_altered : (table : TableDef) (catalog : List TableDef) → IsTable table → AllByRecursion IsTable catalog → AllByRecursion IsTable (with_altered table catalog)
each_altered table [] is_table h = tt
each_altered table (other ∷ rest) is_table h =
    (cond_both (bytes_eq other.name table.name) table other IsTable (λ _. is_table) (λ _. h.0), each_altered table rest is_table h.1)

before_altered : (table x y : TableDef) (rest : List TableDef) → y.name ≡ x.name → AllByRecursion (λ z. IsTrue (table_before x z)) rest
    → AllByRecursion (λ z. IsTrue (table_before y z)) (with_altered table rest)
before_altered table x y [] same h = tt
before_altered table x y (z ∷ rest) same h = (
  subst (λ n. is_lt (slice_cmp nat_cmp n (one_altered table z).name) ≡ true) (sym same)
      (subst (λ n. is_lt (slice_cmp nat_cmp x.name n) ≡ true) (sym (keeps_name table z)) h.0),
  before_altered table x y rest same h.1,
)

order_altered : (table : TableDef) (catalog : List TableDef) → IsAscending table_before catalog → IsAscending table_before (with_altered table catalog)
order_altered table [] h = tt
order_altered table (other ∷ rest) h = (before_altered table other (one_altered table other) rest (keeps_name table other) h.0, order_altered table rest h.1)

-- a catalog in which a table replaces the one with its name
pub with_one_altered : (catalog : List TableDef) (table : TableDef) → IsCatalog catalog → IsTable table → IsCatalog (with_altered table catalog)
with_one_altered catalog table h is_table = record {
  tables = each_altered table catalog is_table h.tables;
  order = order_altered table catalog h.order;
  few = omega (arith, h.few, length-map catalog (one_altered table));
}

-- no two tables of a catalog have the same name
pub once_named : (catalog : List TableDef) (name : List ℕ) → IsAscending table_before catalog → Once (λ t. bytes_eq t.name name) catalog
once_named [] name h = tt
once_named (t ∷ ts) name h = (
  λ same. has_all (λ y. bytes_eq y.name name ≡ false) ts (λ y k.
      let before : is_lt (by_name t y) ≡ true = all_has (λ z. IsTrue (table_before t z)) ts h.0 y k in
      elim (cases_Bool (bytes_eq y.name name)) [
        | inl e ↦ absurd (let one : y.name ≡ t.name = name_same y.name name e ∙ sym (name_same t.name name same) in
            let itself : is_lt (slice_cmp nat_cmp t.name t.name) ≡ false = before_itself by_name table_total t in
            let again : is_lt (slice_cmp nat_cmp t.name t.name) ≡ true = subst (λ n. is_lt (slice_cmp nat_cmp t.name n) ≡ true) one before in
            cc)
        | inr f ↦ f
      ]),
  once_named ts name h.1,
)

-- the table found through a reference
pub found_each : (catalog : List TableDef) (name : List ℕ) (o : Option (Bor TableDef)) → IsCatalog catalog → option_copied o ≡ table_named catalog name
    → IfSome o (λ table. IsTable table.now)
found_each catalog name None h e = tt
found_each catalog name (Some table) h e = found_table catalog name table.now h (sym e)

pub nothing_found : {A : Type 0} (o : Option (Bor A)) → is_some o ≡ false → option_copied o ≡ None
nothing_found None e = refl
nothing_found (Some x) e = absurd (false≢true (sym e))
