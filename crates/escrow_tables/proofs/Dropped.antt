-- DROP TABLE: the held tables without one of them and its rows.
use Rattle.std.proofs.Common.{◌≡◌, ◌≤◌, ℕ, Bool, true, false, not, List, [], ◌∷◌, length, filter, Option, None, Some, Result, Ok, Err, refl, sym, ap, subst, ◌∙◌, inl, inr, arith, bytes_eq}
use Rattle.std.specs.Prelude.{◌↔◌, IsErr, IsSomeAnd, OnOk}
use Rattle.std.proofs.lemmas.Bool.{cases_Bool, not-true}
use Rattle.std.proofs.lemmas.Option.{none-some}
use Rattle.sqlite_trees.proofs.ListLemmas.{filter-filter, filter-map}
use Rattle.sqlite_trees.specs.declared.store.Store.{Ghosts}
use Rattle.sqlite.specs.Effect.{Database}
use Rattle.sqlite.specs.Held.{Held, state}
use Rattle.escrow_num.specs.declared.row.Row.{Row}
use Rattle.escrow_num.proofs.Ascending.{ascending_filter}
use Rattle.escrow_num.proofs.Items.{Has, all_has, has_all, has_filter}
use Rattle.escrow_num.proofs.Orders.{name_same}
use Rattle.escrow_schema.specs.declared.table.TableDef.{TableDef}
use Rattle.escrow_schema.specs.Catalog.{table_named, without_table}
use Rattle.escrow_schema.specs.Fit.{IsRowOf}
use Rattle.escrow_schema.specs.Stored.{IsListed, without_counted}
use Rattle.escrow_schema.proofs.Listed.{catalog_less, listed_less}
use Rattle.escrow_cells.specs.Calls.{Transacts}
use Rattle.escrow_schema.specs.declared.stored.StoredTable.{StoredTable}
use Rattle.escrow_rows.specs.Changes.{Drops, without_stored}
use Rattle.escrow_schema.specs.Rows.{without_rows_of, rows_of}
use Rattle.escrow_rows.specs.Image.{AreTables, AreRows, IsOfTables}
use Rattle.escrow_rows.specs.View.{rows_in}
use Rattle.escrow_rows.proofs.ImageTables.{found_without}
use Rattle.escrow_rows.proofs.ListedTables.{listed_are}
use Rattle.escrow_schema.specs.declared.counted_table.CountedTable.{CountedTable}
use Rattle.escrow_tables.specs.Calls.{Writes}
use Rattle.escrow_tables.specs.Inside.{HasCount, IsHeld, Keeps, catalog_of, stored_of}
use Rattle.escrow_tables.proofs.Named.{IsNamed}
use Rattle.escrow_tables.proofs.Writing.{keeps_on, seen, writes}

stored_without : (name : List ℕ) (tables : List CountedTable) → stored_of (without_counted name tables) ≡ without_stored name (stored_of tables)
stored_without name tables = sym (filter-map (λ (s : StoredTable). not (bytes_eq s.table.name name)) (λ (c : CountedTable). c.stored) tables)

-- if a table has the name, it is removed, and tables with other names remain
pub taken : {E : Type 0} (tables left : List CountedTable) (table : TableDef) (name : List ℕ) (r : Result TableDef E) → table_named (catalog_of tables) name ≡ Some table
    → OnOk r (left ≡ without_counted name tables) → (IsErr r ↔ (table_named (catalog_of tables) name ≡ None)) → left ≡ without_counted name tables
taken tables left table name (Ok t) is rest refused = rest
taken tables left table name (Err e) is rest refused = absurd (none-some table (sym (refused.0 refl) ∙ is))

-- filtering by a second test first never gives more items
fewer : {A : Type 0} (p q : A → Bool) (xs : List A) → length (filter p (filter q xs)) ≤ length (filter p xs)
fewer p q [] = omega arith
fewer p q (x ∷ xs) =
    let rest = fewer p q xs in
    elim (cases_Bool (q x)) [
      | inl kept ↦ rw kept (elim (cases_Bool (p x)) [ inl t ↦ rw t (omega arith) | inr f ↦ rw f rest ])
      | inr out ↦ rw out (elim (cases_Bool (p x)) [ inl t ↦ rw t (omega arith) | inr f ↦ rw f rest ])
    ]

-- rows of the other tables are rows of the remaining tables
fewer_rows : (name : List ℕ) (tables : List StoredTable) (rows : List Row) → AreRows tables rows → AreRows (without_stored name tables) (without_rows_of name rows)
fewer_rows name tables rows of =
    let kept : Row → Bool = λ row. not (bytes_eq row.name.table name) in
    let has : (row : Row) → Has (without_rows_of name rows) row → IsOfTables (without_stored name tables) row = λ row k.
    let passes = has_filter kept rows row k in
    subst (λ (o : Option StoredTable). IsSomeAnd o (λ s. IsRowOf s.table row)) (sym (found_without tables name row.name.table (not-true (bytes_eq row.name.table name) passes.1)))
    (all_has (IsOfTables tables) rows of.of_tables row passes.0) in
    record {
      of_tables = has_all (IsOfTables (without_stored name tables)) (without_rows_of name rows) has;
      row_order = ascending_filter _ kept rows of.row_order;
      few_rows = λ table. omega (arith, of.few_rows table, fewer (λ (row : Row). bytes_eq row.name.table table) kept rows);
    }

-- a table with another name keeps its rows
rows_of_other : (name other : List ℕ) (rows : List Row) → bytes_eq other name ≡ false → rows_of (without_rows_of name rows) other ≡ rows_of rows other
rows_of_other name other rows apart =
    filter-filter (λ (row : Row). bytes_eq row.name.table other) (λ (row : Row). not (bytes_eq row.name.table name))
    (λ row e. ap not (ap (λ (n : List ℕ). bytes_eq n name) (name_same row.name.table other e) ∙ apart)) rows

module _ (tables : List CountedTable) (name : List ℕ) (c : CountedTable) (named : IsNamed tables name c) (listed : IsListed tables) where
  are : AreTables (stored_of tables)
  are = listed_are tables listed

  -- the other tables are held with their rows
  held_less : (rows : List Row) (old db : Database) → IsHeld tables rows old → Drops c.stored old db → IsHeld (without_counted name tables) (without_rows_of name rows) db
  held_less rows old db held makes =
      let image = makes (stored_of tables) rows are held.are_rows named.stands held.image in
      let count : (t : CountedTable) → Has (without_counted name tables) t → HasCount (without_rows_of name rows) t = λ t k.
      let passes = has_filter (λ (o : CountedTable). not (bytes_eq o.stored.table.name name)) tables t k in
      all_has (HasCount rows) tables held.counts t passes.0
      ∙ ap length (sym (rows_of_other name t.stored.table.name rows (not-true (bytes_eq t.stored.table.name name) passes.1))) in
      record {
        are_rows = subst (λ (ts : List StoredTable). AreRows ts (without_rows_of name rows)) (sym (stored_without name tables)) (fewer_rows name (stored_of tables) rows held.are_rows);
        image = rw (stored_without name tables, ← named.name_is) image;
        counts = has_all (HasCount (without_rows_of name rows)) (without_counted name tables) count;
      }

  module _ {S : Type 0} (g : Ghosts S) (old new was later : Held S) (is_done : Bool) (it : Transacts (state g old) (state g new) is_done (Drops c.stored)) (fields : List CountedTable)
      (keeps : Keeps (state g old) (state g was) tables) (if_done : is_done ≡ true → (fields ≡ without_counted name tables) × (later ≡ new)) (if_not : is_done ≡ false → (fields ≡ tables) × (later ≡ was)) where
    pub drop_writes : Writes g (seen g old was tables) (seen g new later fields) is_done (without_table name (catalog_of tables)) (without_rows_of name (rows_in (stored_of tables) (state g was).now))
    drop_writes =
        let rows = rows_in (stored_of tables) (state g was).now in
        subst (λ (catalog : List TableDef). Writes g (seen g old was tables) (seen g new later fields) is_done catalog (without_rows_of name rows)) (catalog_less name tables)
        (writes g old new (Drops c.stored) is_done it was later tables (without_counted name tables) fields (without_rows_of name rows) keeps (listed_less name tables listed)
        (λ usable db makes. held_less rows (state g was).now db (keeps.held usable.0) makes) if_done if_not)

    pub drop_keeps : Keeps (state g new) (state g later) fields
    drop_keeps =
        let rows = rows_in (stored_of tables) (state g was).now in
        keeps_on g old new (Drops c.stored) is_done it was later tables (without_counted name tables) fields (without_rows_of name rows) keeps (listed_less name tables listed)
        (λ usable db makes. held_less rows (state g was).now db (keeps.held usable.0) makes) if_done if_not
