-- CREATE TABLE: one more table among those that are held.
use Rattle.std.proofs.Common.{◌≡◌, ◌<◌, ◌≤◌, ℕ, zero, suc, pos, int_le, Bool, true, false, List, [], ◌∷◌, length, Option, Some, None, option_map, Result, Ok, Err, refl, sym, ap, subst, ◌∙◌, inl, inr, arith, bytes_eq, insert, IsPermutation}
use Rattle.std.specs.Prelude.{◌≢◌, ◌↔◌, IsErr, IsSomeAnd, IsTrue, OnOk, slice_get}
use Rattle.std.specs.List.{AllByRecursion}
use Rattle.std.proofs.lemmas.Bool.{false_from_ne_true}
use Rattle.std.proofs.lemmas.List.Edits.{get_or-insert_at}
use Rattle.std.proofs.lemmas.List.Sorted.{IsPermutation-insert, IsPermutation-map}
use Rattle.std.proofs.lemmas.Option.{get_or_from_slice_get, none-some}
use Rattle.sqlite_trees.proofs.ListLemmas.{all-permutation, all_weaker, filter_none}
use Rattle.sqlite_trees.specs.declared.store.Store.{Ghosts}
use Rattle.sqlite.specs.Effect.{Database}
use Rattle.sqlite.specs.Held.{Held, state}
use Rattle.escrow_num.specs.declared.row.Row.{Row}
use Rattle.escrow_num.proofs.Items.{Has, has_find}
use Rattle.escrow_num.proofs.Orders.{name_same, same_name}
use Rattle.escrow_schema.specs.declared.catalog.TheConstants.Catalog.{MAX_TABLES}
use Rattle.escrow_schema.specs.declared.table.TableDef.{TableDef}
use Rattle.escrow_schema.specs.Catalog.{table_named, with_table}
use Rattle.escrow_schema.specs.Definition.{IsTable}
use Rattle.escrow_schema.specs.Fit.{IsRowOf}
use Rattle.escrow_schema.specs.Stored.{IsListed, counted_named, without_counted}
use Rattle.escrow_schema.proofs.Listed.{listed_more, named_table, some_named, taken_back}
use Rattle.escrow_cells.specs.Calls.{Transacts}
use Rattle.escrow_schema.specs.declared.stored.StoredTable.{StoredTable}
use Rattle.escrow_rows.specs.Changes.{Creates}
use Rattle.escrow_rows.specs.Image.{AreTables, AreRows, IsOfTables, stored_named}
use Rattle.escrow_schema.specs.Rows.{rows_of}
use Rattle.escrow_rows.specs.View.{rows_in}
use Rattle.escrow_rows.proofs.Cells.{row_in}
use Rattle.escrow_rows.proofs.ImageTables.{has_permutation, still_found}
use Rattle.escrow_rows.proofs.ListedTables.{listed_are}
use Rattle.escrow_schema.specs.declared.counted_table.CountedTable.{CountedTable}
use Rattle.escrow_tables.specs.Calls.{Writes}
use Rattle.escrow_tables.specs.Inside.{HasCount, IsHeld, Keeps, catalog_of, stored_of}
use Rattle.escrow_tables.proofs.Named.{named_stored}
use Rattle.escrow_tables.proofs.Writing.{keeps_on, seen, writes}

-- if a name is not in the catalog, no table of the store has it
unnamed : (tables : List CountedTable) (name : List ℕ) → table_named (catalog_of tables) name ≡ None → stored_named (stored_of tables) name ≡ None
unnamed tables name new = named_stored tables name ∙ at (counted_named tables name) (sym (named_table tables name) ∙ new)
  where
    at : (o : Option CountedTable) → option_map (λ (c : CountedTable). c.stored.table) o ≡ None → option_map (λ (c : CountedTable). c.stored) o ≡ None
    at None e = refl
    at (Some c) e = absurd (none-some c.stored.table (sym e))

-- a new table, with a number and a name that no other table has
pub record IsNew (tables : List CountedTable) (s : StoredTable) : Type 0 where
  pub is_table : IsTable s.table
  pub number : IsTrue (int_le (pos 1) s.id)
  pub free : AllByRecursion (λ (c : CountedTable). c.stored.id ≢ s.id) tables
  pub unheard : table_named (catalog_of tables) s.table.name ≡ None
  pub room : length (catalog_of tables) < MAX_TABLES

-- a table with a free number is new among the tables seen
pub is_new : (tables : List CountedTable) (s : StoredTable) (catalog : List TableDef) → catalog_of tables ≡ catalog
    → IsTrue (int_le (pos 1) s.id) × AllByRecursion (λ (c : CountedTable). c.stored.id ≢ s.id) tables
    → IsTable s.table → table_named catalog s.table.name ≡ None → length catalog < MAX_TABLES → IsNew tables s
is_new tables s catalog is free defined unheard room = record {
  is_table = defined;
  number = free.0;
  free = free.1;
  unheard = subst (λ (defs : List TableDef). table_named defs s.table.name ≡ None) (sym is) unheard;
  room = subst (λ (defs : List TableDef). length defs < MAX_TABLES) (sym is) room;
}

module _ (tables : List CountedTable) (after : List StoredTable) (s : StoredTable) (are_after : AreTables after) (same : IsPermutation (s ∷ stored_of tables) after) where
  -- rows of the old tables are rows of the new list of tables
  more_has : (row : Row) → IsOfTables (stored_of tables) row → IsOfTables after row
  more_has row h =
      let found = row_in (stored_of tables) row h in
      let is = still_found (stored_of tables) after row.name.table found.0 are_after (λ t has. has_permutation (s ∷ stored_of tables) after same t (inr has)) found.1.found in
      subst (λ (o : Option StoredTable). IsSomeAnd o (λ t. IsRowOf t.table row)) (sym is) found.1.fits

  more_rows : (rows : List Row) → AreRows (stored_of tables) rows → AreRows after rows
  more_rows rows of = record {
    of_tables = all_weaker (IsOfTables (stored_of tables)) (IsOfTables after) more_has rows of.of_tables;
    row_order = of.row_order;
    few_rows = of.few_rows;
  }

-- no row belongs to a table that does not exist
no_rows_of : (tables : List StoredTable) (rows : List Row) (name : List ℕ) → stored_named tables name ≡ None → AllByRecursion (IsOfTables tables) rows → rows_of rows name ≡ []
no_rows_of tables rows name none of =
    filter_none (λ (row : Row). bytes_eq row.name.table name) rows
    (all_weaker (IsOfTables tables) (λ (row : Row). bytes_eq row.name.table name ≡ false)
    (λ row h. false_from_ne_true (bytes_eq row.name.table name)
    (λ e. subst (λ (o : Option StoredTable). IsSomeAnd o (λ t. IsRowOf t.table row)) (ap (stored_named tables) (name_same row.name.table name e) ∙ none) h)) rows of)

-- a table inserted among others is one of them
has_insert : {A : Type 0} (xs : List A) (i : ℕ) (x : A) → Has (insert xs i x) x
has_insert [] zero x = inl refl
has_insert [] (suc i) x = inl refl
has_insert (y ∷ ys) zero x = inl refl
has_insert (y ∷ ys) (suc i) x = inr (has_insert ys i x)

-- a table was inserted at a place among the others, or at the end
insert_within : {A : Type 0} (xs : List A) (i : ℕ) (x : A) → i < length (insert xs i x) → i ≤ length xs
insert_within [] zero x within = omega arith
insert_within [] (suc i) x within = absurd (omega arith)
insert_within (y ∷ ys) zero x within = omega arith
insert_within (y ∷ ys) (suc i) x within = let rest = insert_within ys i x (omega arith) in omega arith

-- the table at the place is the new one
pub added_at : (tables : List CountedTable) (place : ℕ) (new c : CountedTable) → place < length (insert tables place new) → slice_get (insert tables place new) place ≡ Some c → c ≡ new
added_at tables place new c within at = sym (get_or_from_slice_get (insert tables place new) place c c at) ∙ get_or-insert_at tables place new c (insert_within tables place new within)

-- removing the new table again leaves the others
pub undone : {E : Type 0} (tables added left : List CountedTable) (place : ℕ) (c : CountedTable) (r : Result TableDef E) → table_named (catalog_of tables) c.stored.table.name ≡ None
    → added ≡ insert tables place c → OnOk r (left ≡ without_counted c.stored.table.name added) → (IsErr r ↔ (table_named (catalog_of added) c.stored.table.name ≡ None)) → left ≡ tables
undone tables added left place c (Ok t) new is rest refused = rest ∙ ap (without_counted c.stored.table.name) is ∙ taken_back tables c place new
undone tables added left place c (Err e) new is rest refused =
    let none : table_named (catalog_of (insert tables place c)) c.stored.table.name ≡ None = subst (λ (ts : List CountedTable). table_named (catalog_of ts) c.stored.table.name ≡ None) is (refused.0 refl) in
    let found = has_find (λ (o : CountedTable). bytes_eq o.stored.table.name c.stored.table.name) (insert tables place c) c (has_insert tables place c) (same_name c.stored.table.name) in
    absurd (none-some found.0.stored.table (sym none ∙ some_named (insert tables place c) c.stored.table.name found.0 (sym found.1)))

module _ (tables : List CountedTable) (place : ℕ) (c : CountedTable) (none : c.rows ≡ 0) (listed : IsListed tables) (new : IsNew tables c.stored)
    (placed : catalog_of (insert tables place c) ≡ with_table c.stored.table (catalog_of tables)) where
  whole : IsPermutation (c ∷ tables) (insert tables place c)
  whole = IsPermutation-insert tables place c

  stored_whole : IsPermutation (c.stored ∷ stored_of tables) (stored_of (insert tables place c))
  stored_whole = IsPermutation-map (λ (o : CountedTable). o.stored) (c ∷ tables) (insert tables place c) whole

  listed_whole : IsListed (insert tables place c)
  listed_whole = listed_more tables c place placed listed new.is_table new.number new.free new.unheard new.room

  are_whole : AreTables (stored_of (insert tables place c))
  are_whole = listed_are (insert tables place c) listed_whole

  -- the tables are held together with a new one, which has no rows
  held_more : (rows : List Row) (old db : Database) → IsHeld tables rows old → Creates c.stored old db → IsHeld (insert tables place c) rows db
  held_more rows old db held makes =
      let unheard = unnamed tables c.stored.table.name new.unheard in
      let counted : HasCount rows c = none ∙ ap length (sym (no_rows_of (stored_of tables) rows c.stored.table.name unheard held.are_rows.of_tables)) in
      record {
        are_rows = more_rows tables (stored_of (insert tables place c)) c.stored are_whole stored_whole rows held.are_rows;
        image = makes (stored_of tables) (stored_of (insert tables place c)) rows (listed_are tables listed) held.are_rows stored_whole are_whole held.image;
        counts = all-permutation (HasCount rows) (c ∷ tables) (insert tables place c) whole (counted, held.counts);
      }

  module _ {S : Type 0} (g : Ghosts S) (old after was later : Held S) (is_done : Bool) (it : Transacts (state g old) (state g after) is_done (Creates c.stored)) (fields : List CountedTable)
      (keeps : Keeps (state g old) (state g was) tables) (if_done : is_done ≡ true → (fields ≡ insert tables place c) × (later ≡ after)) (if_not : is_done ≡ false → (fields ≡ tables) × (later ≡ was)) where
    pub create_writes : Writes g (seen g old was tables) (seen g after later fields) is_done (with_table c.stored.table (catalog_of tables)) (rows_in (stored_of tables) (state g was).now)
    create_writes =
        let rows = rows_in (stored_of tables) (state g was).now in
        subst (λ (catalog : List TableDef). Writes g (seen g old was tables) (seen g after later fields) is_done catalog rows) placed
        (writes g old after (Creates c.stored) is_done it was later tables (insert tables place c) fields rows keeps listed_whole
        (λ usable db makes. held_more rows (state g was).now db (keeps.held usable.0) makes) if_done if_not)

    pub create_keeps : Keeps (state g after) (state g later) fields
    create_keeps =
        let rows = rows_in (stored_of tables) (state g was).now in
        keeps_on g old after (Creates c.stored) is_done it was later tables (insert tables place c) fields rows keeps listed_whole
        (λ usable db makes. held_more rows (state g was).now db (keeps.held usable.0) makes) if_done if_not
