-- A row of TAB determines its table: the canonical text of a table is read back, so no two tables share one.
use Rattle.std.proofs.Common.{◌≡◌, ℕ, ℤ, List, [], ◌∷◌, map, refl, sym, ap, ap₂, ◌∙◌, subst, IsPermutation}
use Rattle.std.specs.List.{AllByRecursion}
use Rattle.std.proofs.lemmas.List.Sorted.{IsPermutation-sym, IsPermutation-trans}
use Rattle.std.proofs.lemmas.Option.{same_Some}
use Rattle.sqlite_value.specs.Order.{Row as SqlRow}
use Rattle.sqlite_trees.proofs.ListLemmas.{all-permutation, pull_back}
use Rattle.sqlite.specs.Effect.{Database}
use Rattle.escrow_sql.proofs.ParseLemmas.{asks_once}
use Rattle.escrow_statement.specs.declared.statement.Request.TheVariants as requests
use Rattle.escrow_statement.specs.declared.statement.Statement.TheVariants as statements
use Rattle.escrow_schema.specs.declared.table.TableDef.{TableDef}
use Rattle.escrow_schema.specs.Definition.{IsTable, definition_of}
use Rattle.escrow_schema.specs.Print.{canonical}
use Rattle.escrow_recover.proofs.ReadBack.{read_back}
use Rattle.escrow_schema.specs.declared.stored.StoredTable.{StoredTable}
use Rattle.escrow_rows.specs.Image.{tab_row}
use Rattle.escrow_recover.specs.Inside.{AreTablesIn}
use Rattle.escrow_recover.specs.Tabs.{Defines}

-- a text defines at most one table
pub one_definition : (text : List ℕ) (a b : TableDef) → Defines text a → Defines text b → a ≡ b
one_definition text a b (x, p, d) (y, q, e) =
    let asked : requests.Statement (statements.Create x) ≡ requests.Statement (statements.Create y) =
    asks_once text (requests.Statement (statements.Create x)) (requests.Statement (statements.Create y)) p q in
    let one : x ≡ y = cc in
    same_Some a b (sym d ∙ ap definition_of one ∙ e)

-- the canonical text of a table defines it
pub canonical_defines : (table : TableDef) → IsTable table → Defines (canonical table) table
canonical_defines table is = read_back table is

pub defined_by : (text : List ℕ) (table : TableDef) → IsTable table → text ≡ canonical table → Defines text table
defined_by text table is e = subst (λ (t : List ℕ). Defines t table) (sym e) (canonical_defines table is)

-- tables with the same canonical text are equal
one_text : (a b : TableDef) → IsTable a → IsTable b → canonical a ≡ canonical b → a ≡ b
one_text a b p q e = one_definition (canonical a) a b (canonical_defines a p) (subst (λ (text : List ℕ). Defines text b) (sym e) (canonical_defines b q))

-- tables with the same row of TAB are equal
one_row : (s t : StoredTable) → IsTable s.table → IsTable t.table → tab_row s ≡ tab_row t → s ≡ t
one_row s t p q e =
    let ids : s.id ≡ t.id = cc in
    let texts : canonical s.table ≡ canonical t.table = cc in
    ap₂ (λ (id : ℤ) (table : TableDef). record { id = id; table = table }) ids (one_text s.table t.table p q texts)

-- lists of tables with the same rows of TAB, in order, are equal
one_each : (xs ys : List StoredTable) → AllByRecursion (λ (s : StoredTable). IsTable s.table) xs → AllByRecursion (λ (s : StoredTable). IsTable s.table) ys → map tab_row xs ≡ map tab_row ys → xs ≡ ys
one_each [] [] p q e = refl
one_each [] (y ∷ ys) p q e = absurd (cc)
one_each (x ∷ xs) [] p q e = absurd (cc)
one_each (x ∷ xs) (y ∷ ys) p q e =
    let first : tab_row x ≡ tab_row y = cc in
    let rest : map tab_row xs ≡ map tab_row ys = cc in
    ap₂ (λ (z : StoredTable) (zs : List StoredTable). z ∷ zs) (one_row x y p.0 q.0 first) (one_each xs ys p.1 q.1 rest)

-- tables with the same rows of TAB are the same, in any order
pub same_tables : (tables others : List StoredTable) (rows : List SqlRow)
    → AllByRecursion (λ (s : StoredTable). IsTable s.table) tables → AllByRecursion (λ (s : StoredTable). IsTable s.table) others
    → IsPermutation (map tab_row tables) rows → IsPermutation (map tab_row others) rows → IsPermutation tables others
same_tables tables others rows p q first second =
    let both = IsPermutation-trans (map tab_row tables) rows (map tab_row others) first (IsPermutation-sym (map tab_row others) rows second) in
    let pulled = pull_back tab_row (map tab_row tables) (map tab_row others) both tables refl in
    let all = all-permutation (λ (s : StoredTable). IsTable s.table) tables pulled.0 pulled.1 p in
    subst (IsPermutation tables) (one_each pulled.0 others all q (sym pulled.2)) pulled.1

-- a store has only one list of tables, in any order
pub only_tables : (tables others : List StoredTable) (db : Database) → AreTablesIn tables db → AreTablesIn others db → IsPermutation tables others
only_tables tables others db h k = same_tables tables others _ h.are_tables.defined k.are_tables.defined h.tabs_are k.tabs_are
