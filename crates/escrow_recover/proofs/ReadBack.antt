-- The canonical text of a table is read back as that table.
use Rattle.std.proofs.Common.{ℕ, ◌≤◌, List, [], ◌∷◌, ◌++◌, length, map, arith, length-append}
use Rattle.std.specs.Prelude.{All}
use Rattle.std.specs.List.{AllByRecursion}
use Rattle.std.proofs.lemmas.List.{length-map}
use Rattle.escrow_num.specs.Scale.{IsScale}
use Rattle.escrow_statement.specs.declared.statement.Item.{Item}
use Rattle.escrow_sql.proofs.Writing.{asks_written}
use Rattle.escrow_sql.proofs.WritingLists.{each_append}
use Rattle.escrow_sql.specs.Parser.{Asks}
use Rattle.escrow_sql.specs.Statement.{item}
use Rattle.escrow_statement.specs.declared.statement.Request.TheVariants as requests
use Rattle.escrow_statement.specs.declared.statement.Statement.TheVariants as statements
use Rattle.escrow_schema.specs.declared.column.Column.{Column}
use Rattle.escrow_schema.specs.declared.table.TableDef.{TableDef}
use Rattle.escrow_schema.specs.Column.{names_of, reservables, scales_of}
use Rattle.escrow_schema.specs.Definition.{IsTable}
use Rattle.escrow_recover.specs.ReadBack.{ReadsBack}
use Rattle.escrow_schema.specs.Print.{canonical, check_words, columns_words, declared_checks}
use Rattle.escrow_schema.proofs.ColumnsLemmas.{reservable_types, reservables_written, scales_typed}
use Rattle.escrow_schema.proofs.DefinedLemmas.{defined}
use Rattle.escrow_schema.proofs.ListLemmas.{both_parts}
use Rattle.escrow_schema.proofs.RuleLemmas.{follows_rules}
use Rattle.escrow_recover.proofs.PrintLength.{IsShort, checks_short, columns_short, length-columns_words, table_length}
use Rattle.escrow_schema.proofs.PrintBack.{Sound, follows_tree, sound}
use Rattle.escrow_schema.proofs.PrintTree.{check_item, columns_tree, items_tree, tree_of}
use Rattle.escrow_recover.proofs.PrintWrites.{writes_checks, writes_columns, writes_table}

-- there is an item if there is a column
some_item : (columns : List Column) (key : ℕ) (rest : List Item) → 1 ≤ length columns → 1 ≤ length (columns_tree columns 0 key ++ rest)
some_item [] key rest some = absurd (omega arith)
some_item (column ∷ columns) key rest some = omega arith

-- the text is a request for CREATE TABLE with the tree
asks_tree : (table : TableDef) → Sound table → Asks (canonical table) (requests.Statement (statements.Create (tree_of table)))
asks_tree table s =
    let names = names_of (reservables table.columns) in
    let scales = scales_of (reservables table.columns) in
    let scaled : All IsScale scales = (scales_typed (reservables table.columns) (reservable_types table.columns s.columns.types)).1 in
    let written = reservables_written table.columns s.columns.names in
    let columns = columns_words table.columns 0 table.key in
    let checks = map (check_words names scales) (declared_checks table) in
    let few : length (columns ++ checks) ≤ 62 =
    omega (arith, s.columns.most, s.few, length-append columns checks, length-columns_words table.columns 0 table.key, length-map (declared_checks table) (check_words names scales)) in
    let short : AllByRecursion IsShort (columns ++ checks) =
    both_parts IsShort columns checks (columns_short table.columns 0 table.key s.columns.names s.columns.types)
    (checks_short names scales (declared_checks table) written (omega (arith, s.columns.reserved, length-map (reservables table.columns) (λ (c : Column). c.name))) scaled s.declared) in
    let each = each_append item columns checks (columns_tree table.columns 0 table.key) (map (check_item names scales) (declared_checks table))
    (writes_columns table.columns 0 table.key s.columns.names s.columns.types) (writes_checks names scales (declared_checks table) written scaled s.declared) in
    asks_written (writes_table table.name (columns ++ checks) (items_tree table) s.name (some_item table.columns table.key (map (check_item names scales) (declared_checks table)) s.columns.some) each)
    (table_length table.name (columns ++ checks) s.name short few)

pub read_back : (table : TableDef) → IsTable table → ReadsBack table (canonical table)
read_back table (text, e) =
    let h = follows_rules text table e in
    let s = sound text table e h in
    (tree_of table, asks_tree table s, defined (tree_of table) table (follows_tree text table table.checks s h.distinct_checks h))
