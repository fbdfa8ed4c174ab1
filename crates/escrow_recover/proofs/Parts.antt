-- A store, assembled from its tables and the rows of each.
use Rattle.std.proofs.Common.{◌≡◌, ◌⊎◌, ℕ, ℤ, ◌≤◌, Bool, true, false, not, Option, Some, List, [], ◌∷◌, ◌++◌, map, filter, find, flat_map, length, refl, sym, ap, ap₂, ◌∙◌, subst, inl, inr, arith, IsTrue, IsPermutation, Ordering, Less, Equal, Greater}
use Rattle.std.specs.Prelude.{IsSomeAnd, bytes_eq, option_map, cond}
use Rattle.std.specs.List.{AllByRecursion}
use Rattle.std.specs.Ordering.{is_lt, nat_cmp, ordering_then}
use Rattle.std.specs.Cmp.Lexicographic.{slice_cmp}
use Rattle.std.proofs.lemmas.Bool.{both_ways, cases_Bool, not-true}
use Rattle.std.proofs.lemmas.List.{append-nil}
use Rattle.std.proofs.lemmas.List.Sorted.{IsPermutation-refl, IsPermutation-append, IsPermutation-trans}
use Rattle.std.proofs.lemmas.Grind.{flat_map-append}
use Rattle.sqlite_value.specs.declared.value.Value.TheVariants as sql
use Rattle.sqlite_trees.proofs.ListLemmas.{all-append, all-flat_map, all-map, all_from_map, all_weaker, filter_none, flat_map-map}
use Rattle.sqlite.specs.Effect.{Database}
use Rattle.escrow_num.specs.declared.row.Row.{Row}
use Rattle.escrow_num.specs.Ascending.{IsAscending}
use Rattle.escrow_num.specs.Order.{value_cmp}
use Rattle.escrow_num.proofs.Items.{Has, all_has, has_all, find_has, has_find, filter_has}
use Rattle.escrow_num.proofs.Orders.{name_same, same_name}
use Rattle.escrow_checks.specs.Grant.{Meets}
use Rattle.escrow_schema.specs.declared.table.TableDef.{TableDef}
use Rattle.escrow_schema.specs.Catalog.{table_before, table_named}
use Rattle.escrow_schema.specs.Fit.{IsRowOf, values_of}
use Rattle.escrow_cells.specs.Step.{is_in}
use Rattle.escrow_cells.specs.Store.{cells}
use Rattle.escrow_schema.specs.declared.stored.StoredTable.{StoredTable}
use Rattle.escrow_schema.specs.declared.table.TheConstants.TableDef.{MAX_ROWS}
use Rattle.escrow_rows.specs.Image.{AreTables, CanBeHeld, IsOfTables, cells_in, cells_of, stored_named}
use Rattle.escrow_schema.specs.Rows.{row_before, rows_of, MeetsChecks}
use Rattle.escrow_rows.specs.Changes.{Stands}
use Rattle.escrow_rows.proofs.Cells.{filter_pieces, one_name, row_of_stored}
use Rattle.escrow_rows.proofs.ImageTables.{pieces_same}
use Rattle.escrow_schema.specs.declared.counted_table.CountedTable.{CountedTable}
use Rattle.escrow_recover.specs.Inside.{AreOfTables, AreRowsIn, AreTablesIn, HasRows, IsKnown, IsSoundRow}
use Rattle.escrow_recover.specs.Stored.{HasCount, HasHeldValues, IsStoreIn, stored_of}
use Rattle.escrow_recover.proofs.Split.{cells_of_part, cells_split, of_one}

-- items are ascending if their images are
ascending_from_map : {A B : Type 0} (before : A → A → Bool) (f : B → A) (xs : List B) → IsAscending before (map f xs) → IsAscending (λ a b. before (f a) (f b)) xs
ascending_from_map before f [] h = tt
ascending_from_map before f (x ∷ xs) h = (all_from_map (λ y. IsTrue (before (f x) y)) f xs h.0, ascending_from_map before f xs h.1)

ascending_append : {A : Type 0} (before : A → A → Bool) (xs ys : List A) → IsAscending before xs → IsAscending before ys
    → AllByRecursion (λ x. AllByRecursion (λ y. IsTrue (before x y)) ys) xs → IsAscending before (xs ++ ys)
ascending_append before [] ys h k across = k
ascending_append before (x ∷ xs) ys h k across = (all-append (λ y. IsTrue (before x y)) xs ys h.0 across.0, ascending_append before xs ys h.1 k across.1)

-- if the pieces of each item are equal up to order, so are the whole lists
pieces_permuted : {A B : Type 0} (f g : A → List B) (xs : List A) → AllByRecursion (λ x. IsPermutation (f x) (g x)) xs → IsPermutation (flat_map f xs) (flat_map g xs)
pieces_permuted f g [] h = IsPermutation-refl []
pieces_permuted f g (x ∷ xs) h = IsPermutation-append _ _ _ _ h.0 (pieces_permuted f g xs h.1)

pieces_of_pieces : {A B C : Type 0} (g : B → List C) (f : A → List B) (xs : List A) → flat_map g (flat_map f xs) ≡ flat_map (λ x. flat_map g (f x)) xs
pieces_of_pieces g f [] = refl
pieces_of_pieces g f (x ∷ xs) = flat_map-append g (f x) (flat_map f xs) ∙ ap (λ ys. flat_map g (f x) ++ ys) (pieces_of_pieces g f xs)

pub find_mapped : {A B : Type 0} (p : B → Bool) (f : A → B) (xs : List A) → find p (map f xs) ≡ option_map f (find (λ x. p (f x)) xs)
find_mapped p f [] = refl
find_mapped p f (x ∷ xs) =
    elim (p (f x)) as (λ b. cond b (Some (f x)) (find p (map f xs)) ≡ option_map f (cond b (Some x) (find (λ y. p (f y)) xs))) [ true ↦ refl | false ↦ find_mapped p f xs ]

-- a table is found by its name
pub found_named : (tables : List StoredTable) → AreTables tables → (s : StoredTable) → Has tables s → Stands tables s
found_named tables are s has =
    let test : StoredTable → Bool = λ t. bytes_eq t.table.name s.table.name in
    let found = has_find test tables s has (same_name s.table.name) in
    let passes = find_has test tables found.0 found.1 in
    found.1 ∙ ap Some (one_name tables are found.0 s passes.0 has (name_same _ _ passes.1))

-- a counted table and its rows
record Part : Type 0 where
  counted : CountedTable
  rows : List Row

abbrev IsPart : Database → Part → Type 0
IsPart db p = AreRowsIn p.counted.stored p.rows db × (p.counted.rows ≡ length p.rows)

parts_of : (db : Database) (tables : List CountedTable) → AllByRecursion (HasRows db) tables → (parts : List Part) × (map (λ p. p.counted) parts ≡ tables) × AllByRecursion (IsPart db) parts
parts_of db [] h = ([], refl, tt)
parts_of db (c ∷ tables) h =
    let more = parts_of db tables h.1 in
    let rows = h.0 in
    (record { counted = c; rows = rows.0 } ∷ more.0, ap (λ cs. c ∷ cs) more.1, ((rows.1, rows.2), more.2))

abbrev name_of : Part → List ℕ
name_of p = p.counted.stored.table.name

abbrev all_rows : List Part → List Row
all_rows parts = flat_map (λ (p : Part). p.rows) parts

abbrev all_tables : List Part → List StoredTable
all_tables parts = stored_of (map (λ (p : Part). p.counted) parts)

first_lt : (o rest : Ordering) → is_lt o ≡ true → is_lt (ordering_then o rest) ≡ true
first_lt Less rest h = refl
first_lt Equal rest h = absurd (cc)
first_lt Greater rest h = absurd (cc)

-- the rows of a table come before those of a table with a later name
across : (first then : TableDef) (a b : Row) → a.name.table ≡ first.name → b.name.table ≡ then.name → table_before first then ≡ true → row_before a b ≡ true
across first then a b of_first of_then before =
    first_lt (slice_cmp nat_cmp a.name.table b.name.table) (value_cmp a.name.key b.name.key)
    (ap₂ (λ (x y : List ℕ). is_lt (slice_cmp nat_cmp x y)) of_first of_then ∙ before)

-- each row of a part names its table
abbrev Names : Part → Type 0
Names p = AllByRecursion (λ row. row.name.table ≡ name_of p) p.rows

names : (db : Database) (p : Part) → IsPart db p → Names p
names db p is = all_weaker (IsSoundRow p.counted.stored.table) _ (λ row sound. sound.is_row.table_name) p.rows is.0.sound

rows_ascend : (db : Database) (parts : List Part) → AllByRecursion (IsPart db) parts → IsAscending (λ p q. table_before p.counted.stored.table q.counted.stored.table) parts → IsAscending row_before (all_rows parts)
rows_ascend db [] are up = tt
rows_ascend db (p ∷ parts) are up =
    ascending_append row_before p.rows (all_rows parts) are.0.0.row_order (rows_ascend db parts are.1 up.1)
    (all_weaker (λ a. a.name.table ≡ name_of p) _ (λ a of_first.
    all-flat_map (λ b. IsTrue (row_before a b)) (λ (q : Part). q.rows) parts
    (has_all _ parts (λ q k.
    all_weaker (λ b. b.name.table ≡ name_of q) _
    (λ b of_then. across p.counted.stored.table q.counted.stored.table a b of_first of_then (all_has (λ (q : Part). IsTrue (table_before p.counted.stored.table q.counted.stored.table)) parts up.0 q k))
    q.rows (names db q (all_has (IsPart db) parts are.1 q k)))))
    p.rows (names db p are.0))

-- the parts with a name: none or one
abbrev OneNamed : List Part → List ℕ → Type 0
OneNamed parts name = (filter (λ p. bytes_eq (name_of p) name) parts ≡ []) ⊎ ((p : Part) × Has parts p × (filter (λ p. bytes_eq (name_of p) name) parts ≡ p ∷ []))

one_named : (parts : List Part) → IsAscending (λ p q. not (bytes_eq (name_of p) (name_of q))) parts → (name : List ℕ) → OneNamed parts name
one_named [] apart name = inl refl
one_named (p ∷ parts) apart name =
    elim (cases_Bool (bytes_eq (name_of p) name)) [
      | inl t ↦
          let others : AllByRecursion (λ (q : Part). bytes_eq (name_of q) name ≡ false) parts =
          all_weaker (λ (q : Part). IsTrue (not (bytes_eq (name_of p) (name_of q)))) _ (λ q k. other q k t) parts apart.0 in
          inr (p, inl refl, rw t (ap (λ ps. p ∷ ps) (filter_none (λ (q : Part). bytes_eq (name_of q) name) parts others)))
      | inr f ↦ elim (one_named parts apart.1 name) [
        | inl none ↦ inl (rw f none)
        | inr one ↦ inr (one.0, inr one.1, rw f one.2)
      ]
    ]
  where
    other : (q : Part) → not (bytes_eq (name_of p) (name_of q)) ≡ true → bytes_eq (name_of p) name ≡ true → bytes_eq (name_of q) name ≡ false
    other q apart here =
        elim (cases_Bool (bytes_eq (name_of q) name)) [
          | inl k ↦ absurd (both_ways _ (not-true (bytes_eq (name_of p) (name_of q)) apart) (ap₂ bytes_eq (name_same (name_of p) name here) (name_same (name_of q) name k) ∙ same_name name))
          | inr f ↦ f
        ]

-- the rows of a name are those of the parts with that name
rows_named : (db : Database) (parts : List Part) (name : List ℕ) → AllByRecursion (IsPart db) parts → rows_of (all_rows parts) name ≡ all_rows (filter (λ p. bytes_eq (name_of p) name) parts)
rows_named db parts name are =
    filter_pieces (λ (p : Part). p.rows) (λ (row : Row). bytes_eq row.name.table name) (λ (p : Part). bytes_eq (name_of p) name) parts
    (all_weaker (IsPart db) _ (λ p is. all_weaker (λ row. row.name.table ≡ name_of p) _ (λ row named. ap (λ n. bytes_eq n name) named) p.rows (names db p is)) parts are)

few : (db : Database) (parts : List Part) → AllByRecursion (IsPart db) parts → IsAscending (λ p q. not (bytes_eq (name_of p) (name_of q))) parts
    → (name : List ℕ) → length (rows_of (all_rows parts) name) ≤ MAX_ROWS
few db parts are apart name =
    elim (one_named parts apart name) [
      | inl none ↦ rw (rows_named db parts name are, none) (omega arith)
      | inr one ↦ rw (rows_named db parts name are, one.2, append-nil one.0.rows) (all_has (IsPart db) parts are one.0 one.1).0.few
    ]

-- the rows of a part's name are the part's own
own_rows : (db : Database) (parts : List Part) → AllByRecursion (IsPart db) parts → IsAscending (λ p q. not (bytes_eq (name_of p) (name_of q))) parts
    → (p : Part) → Has parts p → rows_of (all_rows parts) (name_of p) ≡ p.rows
own_rows db parts are apart p has =
    let here = filter_has (λ (q : Part). bytes_eq (name_of q) (name_of p)) parts p has (same_name (name_of p)) in
    rows_named db parts (name_of p) are ∙ at here (one_named parts apart (name_of p))
  where
    at : Has (filter (λ (q : Part). bytes_eq (name_of q) (name_of p)) parts) p → OneNamed parts (name_of p) → all_rows (filter (λ (q : Part). bytes_eq (name_of q) (name_of p)) parts) ≡ p.rows
    at here (inl none) = absurd (subst (λ (ps : List Part). Has ps p) none here)
    at here (inr one) =
        elim (subst (λ (ps : List Part). Has ps p) one.2 here) [
          | inl same ↦ ap all_rows one.2 ∙ append-nil one.0.rows ∙ ap (λ (q : Part). q.rows) same
          | inr none ↦ absurd none
        ]

-- what is known of the parts of a database
record Whole (number : ℤ) (db : Database) (parts : List Part) : Type 0 where
  known : IsKnown number db
  tables_in : AreTablesIn (all_tables parts) db
  order : IsAscending table_before (map (λ (s : StoredTable). s.table) (all_tables parts))
  of_tables : AreOfTables (all_tables parts) db
  parts_are : AllByRecursion (IsPart db) parts

has_part : (parts : List Part) (p : Part) → Has parts p → Has (all_tables parts) p.counted.stored
has_part [] p h = absurd h
has_part (q ∷ parts) p (inl e) = inl (ap (λ (r : Part). r.counted.stored) e)
has_part (q ∷ parts) p (inr h) = inr (has_part parts p h)

module _ {number : ℤ} (db : Database) (parts : List Part) (whole : Whole number db parts) where
  are_tables : AreTables (all_tables parts)
  are_tables = whole.tables_in.are_tables

  names_apart : IsAscending (λ p q. not (bytes_eq (name_of p) (name_of q))) parts
  names_apart =
      ascending_from_map _ (λ (p : Part). p.counted) parts (ascending_from_map _ (λ (c : CountedTable). c.stored) (map (λ (p : Part). p.counted) parts) are_tables.names_apart)

  names_rise : IsAscending (λ p q. table_before p.counted.stored.table q.counted.stored.table) parts
  names_rise =
      ascending_from_map _ (λ (p : Part). p.counted) parts
      (ascending_from_map _ (λ (c : CountedTable). c.stored) (map (λ (p : Part). p.counted) parts) (ascending_from_map table_before (λ (s : StoredTable). s.table) (all_tables parts) whole.order))

  -- the table of a row is found by its name
  found : (p : Part) → Has parts p → (row : Row) → row.name.table ≡ name_of p → stored_named (all_tables parts) row.name.table ≡ Some p.counted.stored
  found p has row named = ap (stored_named (all_tables parts)) named ∙ found_named (all_tables parts) are_tables p.counted.stored (has_part parts p has)

  -- a fact about each row, with its part
  each_row : (P : Row → Type 0) → ((p : Part) → Has parts p → (row : Row) → IsSoundRow p.counted.stored.table row → P row) → AllByRecursion P (all_rows parts)
  each_row P each =
      all-flat_map P (λ (p : Part). p.rows) parts (has_all _ parts (λ p has.
      all_weaker (IsSoundRow p.counted.stored.table) P (each p has) p.rows (all_has (IsPart db) parts whole.parts_are p has).0.sound))

  have_tables : AllByRecursion (IsOfTables (all_tables parts)) (all_rows parts)
  have_tables = each_row (IsOfTables (all_tables parts)) (λ p has row sound.
      subst (λ (o : Option StoredTable). IsSomeAnd o (λ s. IsRowOf s.table row)) (sym (found p has row sound.is_row.table_name)) sound.is_row)

  definition : (p : Part) → Has parts p → (row : Row) → row.name.table ≡ name_of p → table_named (map (λ s. s.table) (all_tables parts)) row.name.table ≡ Some p.counted.stored.table
  definition p has row named = find_mapped (λ (t : TableDef). bytes_eq t.name row.name.table) (λ (s : StoredTable). s.table) (all_tables parts) ∙ ap (option_map (λ (s : StoredTable). s.table)) (found p has row named)

  meet : AllByRecursion (MeetsChecks (map (λ s. s.table) (all_tables parts))) (all_rows parts)
  meet = each_row (MeetsChecks (map (λ s. s.table) (all_tables parts))) (λ p has row sound.
      subst (λ (o : Option TableDef). IsSomeAnd o (λ table. AllByRecursion (λ check. Meets check row.amounts) table.checks)) (sym (definition p has row sound.is_row.table_name)) sound.meets)

  held : AllByRecursion (HasHeldValues (map (λ s. s.table) (all_tables parts))) (all_rows parts)
  held = each_row (HasHeldValues (map (λ s. s.table) (all_tables parts))) (λ p has row sound.
      subst (λ (o : Option TableDef). IsSomeAnd o (λ table. AllByRecursion CanBeHeld (values_of table row))) (sym (definition p has row sound.is_row.table_name)) sound.held)

  -- the cells of a part's rows are those of its table
  cells_of_rows : (p : Part) → Has parts p → flat_map (cells_of (all_tables parts)) p.rows ≡ flat_map (cells_in p.counted.stored) p.rows
  cells_of_rows p has =
      let is = all_has (IsPart db) parts whole.parts_are p has in
      pieces_same _ _ p.rows (all_weaker (IsSoundRow p.counted.stored.table) _ (λ row sound.
      (row_of_stored (all_tables parts) p.counted.stored row (found_named (all_tables parts) are_tables p.counted.stored (has_part parts p has))
      (subst (λ (o : Option StoredTable). IsSomeAnd o (λ s. IsRowOf s.table row)) (sym (found p has row sound.is_row.table_name)) sound.is_row)
      sound.is_row.table_name).1) p.rows is.0.sound)

  all_cells : IsPermutation (flat_map (cells_of (all_tables parts)) (all_rows parts)) (cells db)
  all_cells =
      let by_part : flat_map (cells_of (all_tables parts)) (all_rows parts) ≡ flat_map (λ (p : Part). flat_map (cells_in p.counted.stored) p.rows) parts =
      pieces_of_pieces (cells_of (all_tables parts)) (λ (p : Part). p.rows) parts ∙ pieces_same _ _ parts (has_all _ parts cells_of_rows) in
      let by_table : flat_map (λ (s : StoredTable). filter (is_in (sql.Int s.id)) (cells db)) (all_tables parts) ≡ flat_map (λ (p : Part). filter (is_in (sql.Int p.counted.stored.id)) (cells db)) parts =
      flat_map-map _ (λ (c : CountedTable). c.stored) (map (λ (p : Part). p.counted) parts) ∙ flat_map-map _ (λ (p : Part). p.counted) parts in
      let each : IsPermutation (flat_map (λ (p : Part). flat_map (cells_in p.counted.stored) p.rows) parts) (flat_map (λ (p : Part). filter (is_in (sql.Int p.counted.stored.id)) (cells db)) parts) =
      pieces_permuted _ _ parts (all_weaker (IsPart db) _ (λ p is. cells_of_part (all_tables parts) p.counted.stored p.rows db whole.of_tables is.0) parts whole.parts_are) in
      let split = cells_split (all_tables parts) (cells db) are_tables.ids_apart (of_one (all_tables parts) db whole.of_tables) in
      subst (λ xs. IsPermutation xs (cells db)) (sym by_part) (IsPermutation-trans _ _ _ each (subst (λ xs. IsPermutation xs (cells db)) by_table split))

  is_store_of : IsStoreIn number (all_tables parts) (all_rows parts) db
  is_store_of = record {
    are_tables = are_tables;
    are_rows = record {
      of_tables = have_tables;
      row_order = rows_ascend db parts whole.parts_are names_rise;
      few_rows = few db parts whole.parts_are names_apart;
    };
    meet = meet;
    held = held;
    image = record {
      store = whole.known.store;
      format_is = whole.known.format_is;
      tabs_are = whole.tables_in.tabs_are;
      cells_are = all_cells;
    };
  }

  have_counts : AllByRecursion (HasCount (all_rows parts)) (map (λ (p : Part). p.counted) parts)
  have_counts =
      all-map (HasCount (all_rows parts)) (λ (p : Part). p.counted) parts
      (has_all _ parts (λ p has. (all_has (IsPart db) parts whole.parts_are p has).1 ∙ sym (ap length (own_rows db parts whole.parts_are names_apart p has))))

-- counted tables, each with its rows in a store, are the tables of that store
pub counted_store : {number : ℤ} (db : Database) (tables : List CountedTable) → IsKnown number db → AreTablesIn (stored_of tables) db → IsAscending table_before (map (λ s. s.table) (stored_of tables))
    → AreOfTables (stored_of tables) db → AllByRecursion (HasRows db) tables → (rows : List Row) × IsStoreIn number (stored_of tables) rows db × AllByRecursion (HasCount rows) tables
counted_store {number} db tables known in_store order of have =
    let found = parts_of db tables have in
    let is = found.1 in
    let whole : Whole number db found.0 = record {
      known = known;
      tables_in = subst (λ (cs : List CountedTable). AreTablesIn (stored_of cs) db) (sym is) in_store;
      order = subst (λ (cs : List CountedTable). IsAscending table_before (map (λ s. s.table) (stored_of cs))) (sym is) order;
      of_tables = subst (λ (cs : List CountedTable). AreOfTables (stored_of cs) db) (sym is) of;
      parts_are = found.2;
    } in (
      all_rows found.0,
      subst (λ (cs : List CountedTable). IsStoreIn number (stored_of cs) (all_rows found.0) db) is (is_store_of db found.0 whole),
      subst (AllByRecursion (HasCount (all_rows found.0))) is (have_counts db found.0 whole),
    )
