-- The parts of a table that a text defines.
use Rattle.std.proofs.Common.{◌≡◌, ℕ, true, ◌&&◌, Some, option_and_then, List, ◌++◌, subst, refl}
use Rattle.std.proofs.lemmas.Bool.{and_parts}
use Rattle.std.proofs.lemmas.Option.{option_and_then_some, cond_some}
use Rattle.escrow_statement.specs.declared.statement.CreateText.{CreateText}
use Rattle.escrow_checks.specs.declared.check.Check.{Check}
use Rattle.escrow_checks.specs.Checks.{checks_of}
use Rattle.escrow_checks.specs.WrittenName.{is_written_name}
use Rattle.escrow_schema.specs.declared.column.Column.{Column}
use Rattle.escrow_schema.specs.declared.table.TableDef.{TableDef}
use Rattle.escrow_schema.specs.Column.{reservables, names_of, scales_of}
use Rattle.escrow_schema.specs.Definition.{definition_of, table_of, table_with, column_texts, columns_of, key_place, are_columns, are_distinct, check_names, checks_in, range_checks}
use Rattle.escrow_schema.proofs.ListLemmas.{some_under}

-- the text's columns, key and checks, and the rules that they follow
pub record Parts (text : CreateText) (table : TableDef) : Type 0 where
  pub name : table.name ≡ text.table
  pub written_name : is_written_name text.table ≡ true
  pub columns : columns_of (column_texts text.items) ≡ Some table.columns
  pub key : key_place text.items table.columns ≡ Some table.key
  pub follow : are_columns table.columns table.key ≡ true
  pub written : List Check
  pub from_texts : checks_of (names_of (reservables table.columns)) (scales_of (reservables table.columns)) (checks_in text.items) ≡ Some written
  pub checks : table.checks ≡ written ++ range_checks table.columns
  pub distinct : are_distinct (check_names table.checks) ≡ true

with_checks : (text : CreateText) (columns : List Column) (key : ℕ) (written : List Check) (table : TableDef)
    → columns_of (column_texts text.items) ≡ Some columns → key_place text.items columns ≡ Some key
    → is_written_name text.table ≡ true → are_columns columns key ≡ true
    → checks_of (names_of (reservables columns)) (scales_of (reservables columns)) (checks_in text.items) ≡ Some written
    → table_with text.table columns key written ≡ Some table → Parts text table
with_checks text columns key written table at place writable follow from made =
    let made_of : TableDef = record { name = text.table; columns = columns; key = key; checks = written ++ range_checks columns } in
    let whole = cond_some (are_distinct (check_names (written ++ range_checks columns))) made_of table made in
    subst (Parts text) whole.1 (record { name = refl; written_name = writable; columns = at; key = place; follow = follow; written = written; from_texts = from; checks = refl; distinct = whole.0 })

with_key : (text : CreateText) (columns : List Column) (key : ℕ) (table : TableDef)
    → columns_of (column_texts text.items) ≡ Some columns → key_place text.items columns ≡ Some key
    → table_of text columns key ≡ Some table → Parts text table
with_key text columns key table at place made =
    let checks = checks_of (names_of (reservables columns)) (scales_of (reservables columns)) (checks_in text.items) in
    let tested = some_under (is_written_name text.table && are_columns columns key) (option_and_then (table_with text.table columns key) checks) table made in
    let rules = and_parts (is_written_name text.table) (are_columns columns key) tested.0 in
    option_and_then_some (table_with text.table columns key) checks table tested.1
    (λ written from whole. with_checks text columns key written table at place rules.0 rules.1 from whole)

-- a table that a text defines has these parts
pub parts : (text : CreateText) (table : TableDef) → definition_of text ≡ Some table → Parts text table
parts text table e =
    option_and_then_some (λ columns. option_and_then (table_of text columns) (key_place text.items columns)) (columns_of (column_texts text.items)) table e
    (λ columns at made. option_and_then_some (table_of text columns) (key_place text.items columns) table made
    (λ key place whole. with_key text columns key table at place whole))
