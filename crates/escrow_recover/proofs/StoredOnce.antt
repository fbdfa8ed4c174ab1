-- The rows of TAB determine the tables of a store.
use Rattle.std.proofs.Common.{◌≡◌, ℕ, ℤ, ◌∷◌, [], List, Some, map, refl, sym, ap, ap₂, ◌∙◌, subst, IsPermutation}
use Rattle.std.specs.Prelude.{IsTrue, Bool}
use Rattle.std.specs.Cmp.{IsTotalOrder}
use Rattle.std.specs.Cmp.Lexicographic.{slice_cmp}
use Rattle.std.specs.List.{AllByRecursion}
use Rattle.std.specs.Ordering.{is_lt, nat_cmp}
use Rattle.std.specs.declared.cmp.Ordering.{Ordering}
use Rattle.std.proofs.lemmas.Cmp.{nat_list_cmp_total, on_total}
use Rattle.sqlite_value.specs.declared.value.Value.{Value as Sql}
use Rattle.sqlite_value.specs.declared.value.Value.TheVariants as sql
use Rattle.sqlite_value.specs.Order.{Row as SqlRow, column}
use Rattle.sqlite_trees.proofs.ListLemmas.{all-map, all_from_map}
use Rattle.escrow_num.specs.Ascending.{IsAscending}
use Rattle.escrow_num.proofs.Orders.{before_trans, before_itself}
use Rattle.escrow_sql.specs.Parser.{Asks}
use Rattle.escrow_statement.specs.declared.statement.Request.TheVariants as requests
use Rattle.escrow_statement.specs.declared.statement.Statement.TheVariants as statements
use Rattle.escrow_sql.proofs.ParseLemmas.{asks_once}
use Rattle.escrow_schema.specs.Catalog.{IsCatalog, table_before}
use Rattle.escrow_schema.specs.Definition.{IsTable, definition_of}
use Rattle.escrow_schema.specs.Print.{canonical}
use Rattle.escrow_schema.specs.declared.stored.StoredTable.{StoredTable}
use Rattle.escrow_schema.specs.declared.table.TableDef.{TableDef}
use Rattle.escrow_recover.proofs.ReadBack.{read_back}
use Rattle.escrow_rows.specs.Image.{AreTables, tab_row}
use Rattle.escrow_rows.proofs.Order.{sorted_permutation}

-- a canonical text belongs to one table
canonical_once : (a b : TableDef) → IsTable a → IsTable b → canonical a ≡ canonical b → a ≡ b
canonical_once a b a_table b_table e =
    let read_a = read_back a a_table in
    let read_b = read_back b b_table in
    let asked = subst (λ (text : List ℕ). Asks text (requests.Statement (statements.Create read_a.0))) e read_a.1 in
    let once : requests.Statement (statements.Create read_a.0) ≡ requests.Statement (statements.Create read_b.0) = asks_once (canonical b) _ _ asked read_b.1 in
    let same : read_a.0 ≡ read_b.0 = cc in
    let defined : Some a ≡ Some b = sym read_a.2 ∙ ap definition_of same ∙ read_b.2 in
    cc

abbrev stored_table : ℤ → TableDef → StoredTable
stored_table id table = record { id = id; table = table }

-- equal rows of TAB come from equal tables
told_by_tabs : (ts us : List StoredTable) → AllByRecursion (λ s. IsTable s.table) ts → AllByRecursion (λ s. IsTable s.table) us → map tab_row ts ≡ map tab_row us → ts ≡ us
told_by_tabs [] [] ts_tables us_tables e = refl
told_by_tabs [] (b ∷ us) ts_tables us_tables e = absurd (cc)
told_by_tabs (a ∷ ts) [] ts_tables us_tables e = absurd (cc)
told_by_tabs (a ∷ ts) (b ∷ us) ts_tables us_tables e =
    let id : a.id ≡ b.id = cc in
    let text : canonical a.table ≡ canonical b.table = cc in
    let rest : map tab_row ts ≡ map tab_row us = cc in
    let table = canonical_once a.table b.table ts_tables.0 us_tables.0 text in
    let first : a ≡ b = ap₂ stored_table id table in
    ap₂ ◌∷◌ first (told_by_tabs ts us ts_tables.1 us_tables.1 rest)

-- the name in a row of TAB
abbrev text_in : Sql → List ℕ
text_in (sql.Text text) = text
text_in _ = []

abbrev by_tab : SqlRow → SqlRow → Ordering
by_tab a b = slice_cmp nat_cmp (text_in (column a 1)) (text_in (column b 1))

tab_total : IsTotalOrder by_tab
tab_total = on_total (λ (r : SqlRow). text_in (column r 1)) nat_list_cmp_total

abbrev tab_before : SqlRow → SqlRow → Bool
tab_before a b = is_lt (by_tab a b)

abbrev tables_of : List StoredTable → List TableDef
tables_of tables = map (λ s. s.table) tables

-- if tables are in order of name, their rows of TAB are too
tabs_ascend : (tables : List StoredTable) → IsAscending table_before (tables_of tables) → IsAscending tab_before (map tab_row tables)
tabs_ascend [] h = tt
tabs_ascend (s ∷ tables) h =
    let behind : AllByRecursion (λ (other : StoredTable). IsTrue (table_before s.table other.table)) tables = all_from_map _ (λ (other : StoredTable). other.table) tables h.0 in
    (all-map _ tab_row tables behind, tabs_ascend tables h.1)

-- the rows of TAB in a database come from one list of tables in order of name
pub stored_once : (ts us : List StoredTable) (tabs : List SqlRow) → AreTables ts → IsCatalog (tables_of ts) → IsPermutation (map tab_row ts) tabs
    → AreTables us → IsCatalog (tables_of us) → IsPermutation (map tab_row us) tabs → ts ≡ us
stored_once ts us tabs ts_are ts_catalog ts_tabs us_are us_catalog us_tabs =
    let one = sorted_permutation tab_before (before_trans by_tab tab_total) (before_itself by_tab tab_total) (map tab_row ts) tabs (tabs_ascend ts ts_catalog.order) ts_tabs in
    let other = sorted_permutation tab_before (before_trans by_tab tab_total) (before_itself by_tab tab_total) (map tab_row us) tabs (tabs_ascend us us_catalog.order) us_tabs in
    told_by_tabs ts us ts_are.defined us_are.defined (sym one ∙ other)
