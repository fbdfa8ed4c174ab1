-- Tables by name, among the stored tables.
use Rattle.std.proofs.Common.{◌≡◌, ℕ, List, Option, Some, None, option_map, bytes_eq, sym, ap, ◌∙◌, subst}
use Rattle.std.specs.Prelude.{IsSomeAnd}
use Rattle.sqlite_trees.proofs.ListLemmas.{all_weaker}
use Rattle.escrow_num.specs.declared.row.Row.{Row}
use Rattle.escrow_num.proofs.Items.{Has, all_has, find_has}
use Rattle.escrow_num.proofs.Orders.{name_same}
use Rattle.escrow_schema.specs.declared.table.TableDef.{TableDef}
use Rattle.escrow_schema.specs.Catalog.{IsCatalog, table_named}
use Rattle.escrow_schema.specs.Definition.{IsTable}
use Rattle.escrow_schema.specs.Fit.{IsRowOf}
use Rattle.escrow_schema.specs.Stored.{counted_named}
use Rattle.escrow_schema.proofs.Listed.{find_through, named_table}
use Rattle.escrow_schema.specs.declared.stored.StoredTable.{StoredTable}
use Rattle.escrow_rows.specs.Changes.{Stands}
use Rattle.escrow_rows.specs.Image.{AreRows, stored_named, IsOfTables}
use Rattle.escrow_schema.specs.declared.counted_table.CountedTable.{CountedTable}
use Rattle.escrow_schema.specs.Rows.{AreRowsOf, HasTable}
use Rattle.escrow_tables.specs.Inside.{stored_of, catalog_of}

pub named_stored : (tables : List CountedTable) (name : List ℕ) → stored_named (stored_of tables) name ≡ option_map (λ (c : CountedTable). c.stored) (counted_named tables name)
named_stored tables name = find_through (λ (s : StoredTable). bytes_eq s.table.name name) (λ (c : CountedTable). c.stored) tables

-- what is known of the table with a name
pub record IsNamed (tables : List CountedTable) (name : List ℕ) (c : CountedTable) : Type 0 where
  pub has : Has tables c
  pub name_is : c.stored.table.name ≡ name
  pub in_catalog : table_named (catalog_of tables) name ≡ Some c.stored.table
  pub stands : Stands (stored_of tables) c.stored

pub is_named : (tables : List CountedTable) (name : List ℕ) (c : CountedTable) → Some c ≡ counted_named tables name → IsNamed tables name c
is_named tables name c e =
    let found = find_has (λ (c : CountedTable). bytes_eq c.stored.table.name name) tables c (sym e) in
    let same = name_same c.stored.table.name name found.1 in
    let stored : stored_named (stored_of tables) name ≡ Some c.stored = named_stored tables name ∙ ap (option_map (λ (c : CountedTable). c.stored)) (sym e) in
    record {
      has = found.0;
      name_is = same;
      in_catalog = named_table tables name ∙ ap (option_map (λ (c : CountedTable). c.stored.table)) (sym e);
      stands = subst (λ (n : List ℕ). stored_named (stored_of tables) n ≡ Some c.stored) (sym same) stored;
    }

-- some text defines it
pub named_is_table : (tables : List CountedTable) (name : List ℕ) (c : CountedTable) → IsCatalog (catalog_of tables) → IsNamed tables name c → IsTable c.stored.table
named_is_table tables name c catalog named =
    let found = find_has (λ (t : TableDef). bytes_eq t.name name) (catalog_of tables) c.stored.table named.in_catalog in
    all_has IsTable (catalog_of tables) catalog.tables c.stored.table found.0

-- a row belongs to a table of the catalog exactly if it belongs to a table of the store
both_tables : (row : Row) (o : Option CountedTable) → IsSomeAnd (option_map (λ (c : CountedTable). c.stored.table) o) (λ t. IsRowOf t row) → IsSomeAnd (option_map (λ (c : CountedTable). c.stored) o) (λ s. IsRowOf s.table row)
both_tables row None h = h
both_tables row (Some c) h = h

pub stored_has : (tables : List CountedTable) (row : Row) → HasTable (catalog_of tables) row → IsOfTables (stored_of tables) row
stored_has tables row h =
    let in_catalog = subst (λ (o : Option TableDef). IsSomeAnd o (λ t. IsRowOf t row)) (named_table tables row.name.table) h in
    subst (λ (o : Option StoredTable). IsSomeAnd o (λ s. IsRowOf s.table row)) (sym (named_stored tables row.name.table)) (both_tables row (counted_named tables row.name.table) in_catalog)

both_stored : (row : Row) (o : Option CountedTable) → IsSomeAnd (option_map (λ (c : CountedTable). c.stored) o) (λ s. IsRowOf s.table row) → IsSomeAnd (option_map (λ (c : CountedTable). c.stored.table) o) (λ t. IsRowOf t row)
both_stored row None h = h
both_stored row (Some c) h = h

pub catalog_has : (tables : List CountedTable) (row : Row) → IsOfTables (stored_of tables) row → HasTable (catalog_of tables) row
catalog_has tables row h =
    let in_store = subst (λ (o : Option StoredTable). IsSomeAnd o (λ s. IsRowOf s.table row)) (named_stored tables row.name.table) h in
    subst (λ (o : Option TableDef). IsSomeAnd o (λ t. IsRowOf t row)) (sym (named_table tables row.name.table)) (both_stored row (counted_named tables row.name.table) in_store)

-- rows that are held are rows of the catalog
pub rows_of_catalog : (tables : List CountedTable) (rows : List Row) → AreRows (stored_of tables) rows → AreRowsOf (catalog_of tables) rows
rows_of_catalog tables rows are = record {
  tables = all_weaker (IsOfTables (stored_of tables)) (HasTable (catalog_of tables)) (catalog_has tables) rows are.of_tables;
  row_order = are.row_order;
  few_rows = are.few_rows;
}

-- a row of a table in the catalog fits the table with its name
pub row_fits : (tables : List CountedTable) (row : Row) (c : CountedTable) → IsNamed tables row.name.table c → HasTable (catalog_of tables) row → IsRowOf c.stored.table row
row_fits tables row c named h = subst (λ (o : Option TableDef). IsSomeAnd o (λ t. IsRowOf t row)) named.in_catalog h
