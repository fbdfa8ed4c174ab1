-- The rows of TAB that were read, and the tables that they describe.
use Rattle.std.proofs.Common.{◌≡◌, ◌≤◌, ◌<◌, ◌+◌, ℕ, true, Result, Ok, Err, List, [], ◌∷◌, ◌++◌, length, map, take, get_or, refl, sym, ap, ap₂, ◌∙◌, subst, arith, IsPermutation, IsSorted}
use Rattle.std.specs.List.{AllByRecursion}
use Rattle.std.specs.Prelude.{IfOk}
use Rattle.std.proofs.lemmas.List.{length-map, map-append, take_more}
use Rattle.std.proofs.lemmas.List.Sorted.{IsPermutation-map, IsPermutation-sym, IsPermutation-trans, length_permutation}
use Rattle.sqlite_value.specs.Order.{Row as SqlRow}
use Rattle.sqlite_trees.proofs.ListLemmas.{all-append, all-map, all-permutation, all_weaker, IsPermutation-same}
use Rattle.sqlite.specs.Effect.{Database}
use Rattle.escrow_cells.specs.Read.{AreTabs}
use Rattle.escrow_cells.specs.Store.{IsStore, tabs}
use Rattle.escrow_schema.specs.declared.catalog.TheConstants.Catalog.{MAX_TABLES}
use Rattle.escrow_schema.specs.Catalog.{IsCatalog}
use Rattle.escrow_schema.specs.Definition.{IsTable}
use Rattle.escrow_schema.specs.declared.stored.StoredTable.{StoredTable}
use Rattle.escrow_rows.specs.Image.{AreTables, tab_row}
use Rattle.escrow_recover.specs.Inside.{AreTablesIn}
use Rattle.escrow_recover.specs.Tabs.{CanStand, IsTab, are_apart, by_name}
use Rattle.escrow_recover.proofs.Only.{same_tables}
use Rattle.escrow_recover.proofs.Together.{Together, apart_from, apart_test, are_tables, catalog_of, in_any_order, together}

-- the rows read so far are those of the tables, and each table is valid alone
pub record AreRead (rows : List SqlRow) (tables : List StoredTable) : Type 0 where
  pub rows_are : map tab_row tables ≡ rows
  pub each : AllByRecursion CanStand tables

-- one more row
pub one_more : (rows : List SqlRow) (tables new : List StoredTable) (i : ℕ) (row : SqlRow) (s : StoredTable) → i < length rows → row ≡ get_or rows i row
    → AreRead (take i rows) tables → CanStand s → row ≡ tab_row s → new ≡ tables ++ s ∷ [] → AreRead (take (i + 1) rows) new
one_more rows tables new i row s within at before can is added = record {
  rows_are = ap (map tab_row) added ∙ map-append tab_row tables (s ∷ [])
      ∙ ap₂ (λ (done : List SqlRow) (r : SqlRow). done ++ r ∷ []) before.rows_are (sym is ∙ at) ∙ sym (take_more rows i row within);
  each = subst (AllByRecursion CanStand) (sym added) (all-append CanStand tables (s ∷ []) before.each (can, tt));
}

-- the rows of tables that can be in a store together
module _ (rows : List SqlRow) (tables : List StoredTable) (are : AreTables tables) (same : IsPermutation (map tab_row tables) rows) where
  -- there are few rows
  pub few_rows : length rows ≤ MAX_TABLES
  few_rows = omega (arith, are.few, length_permutation (map tab_row tables) rows same, length-map tables tab_row)

  -- each row is that of a table
  pub each_tab : AllByRecursion IsTab rows
  each_tab = all-permutation IsTab (map tab_row tables) rows same (all-map IsTab tab_row tables (all_weaker CanStand (λ s. IsTab (tab_row s)) (λ s can. (s, can, refl)) tables (together tables are).each))

  -- the tables read from them are distinct
  pub read_apart : (read : List StoredTable) → AreRead rows read → are_apart read ≡ true
  read_apart read h =
      let defined = all_weaker CanStand (λ (s : StoredTable). IsTable s.table) (λ s k. k.defined) read h.each in
      let of_read = IsPermutation-same (map tab_row read) rows h.rows_are in
      apart_test read (in_any_order tables read (same_tables tables read rows are.defined defined same of_read) (together tables are)).are_apart

-- tables that were read, and are few and distinct, can be in a store together
module _ (rows : List SqlRow) (read : List StoredTable) (h : AreRead rows read) (few : length rows ≤ MAX_TABLES) (apart : are_apart read ≡ true) where
  read_together : Together read
  read_together = record {
    each = h.each;
    are_apart = apart_from read apart;
    few = omega (arith, few, ap (λ (rs : List SqlRow). length rs) h.rows_are, length-map read tab_row);
  }

  -- the same holds in any order; sorted, the tables are a catalog
  module _ (tables : List StoredTable) (same : IsPermutation read tables) where
    pub tables_are : AreTables tables
    tables_are = are_tables tables (in_any_order read tables same read_together)

    pub catalog_is : IsSorted by_name tables → IsCatalog (map (λ (s : StoredTable). s.table) tables)
    catalog_is = catalog_of tables (in_any_order read tables same read_together)

    pub rows_same : IsPermutation (map tab_row tables) rows
    rows_same = IsPermutation-sym rows (map tab_row tables) (subst (λ (rs : List SqlRow). IsPermutation rs (map tab_row tables)) h.rows_are (IsPermutation-map tab_row read tables same))

-- ---- the tables of a store

-- the rows of TAB that were read are those of the store's tables
pub rows_told : (tables : List StoredTable) (shown read : List SqlRow) (db : Database) → shown ≡ read → AreTabs (tabs db) read → AreTablesIn tables db → IsPermutation (map tab_row tables) shown
rows_told tables shown read db same told are =
    IsPermutation-trans (map tab_row tables) (tabs db) shown are.tabs_are (subst (IsPermutation (tabs db)) (sym same) told.same_tabs)

-- the tables of the rows that were read are those of the store
pub tables_found : {V E O : Type 0} (items : V → List StoredTable) (r : Result V E) (shown read : List SqlRow) (db : Database) → shown ≡ read → O × (IsStore db → AreTabs (tabs db) read)
    → IfOk r (λ v. AreTables (items v) × IsCatalog (map (λ (s : StoredTable). s.table) (items v))) → IfOk r (λ v. IsPermutation (map tab_row (items v)) shown)
    → IfOk r (λ v. O × (IsStore db → AreTablesIn (items v) db))
tables_found items (Err e) shown read db same found are rows = tt
tables_found items (Ok v) shown read db same found are rows = (
  found.0,
  λ store. record {
    are_tables = are.0;
    tabs_are = IsPermutation-trans (map tab_row (items v)) shown (tabs db) rows
        (IsPermutation-sym (tabs db) shown (subst (IsPermutation (tabs db)) (sym same) (found.1 store).same_tabs));
  },
)
