-- Believed: the rules of definitions, one by one.
use Rattle.std.specs.Prelude.{◌≡◌, ◌≤◌, false, Some, List, ◌∷◌, [], ◌++◌, length, slice_get, bytes_eq, IsTrue}
use Rattle.std.specs.List.{AllByRecursion, IsDistinct}
use Rattle.escrow_statement.specs.declared.statement.CreateText.{CreateText}
use Rattle.escrow_checks.specs.declared.check.Check.{Check}
use Rattle.escrow_checks.specs.declared.coefficients.TheConstants.Coefficients.{MAX_LEN}
use Rattle.escrow_checks.specs.declared.condition.TheConstants.{MAX_CHECKS}
use Rattle.escrow_checks.specs.Checks.{checks_of}
use Rattle.escrow_checks.specs.DeclaredCheck.{IsDeclared}
use Rattle.escrow_checks.specs.WrittenName.{is_written_name}
use Rattle.escrow_schema.specs.declared.column.Column.{Column}
use Rattle.escrow_schema.specs.declared.table.TableDef.{TableDef}
use Rattle.escrow_schema.specs.declared.table.TheConstants.TableDef.{MIN_COLUMNS, MAX_COLUMNS}
use Rattle.escrow_schema.specs.Column.{is_numeric, reservables, names_of, scales_of}
use Rattle.escrow_schema.specs.Definition.{check_names, checks_in, column_texts, columns_of, key_names, range_checks}

-- a table follows the rules for its text; by a law (DefinitionsFollowRules), it does exactly if the text defines it
pub record FollowsRules (text : CreateText) (table : TableDef) : Type 0 where
  -- its name and its columns are those of the text, in order, 2 to 30 of them
  pub name : table.name ≡ text.table
  pub columns : columns_of (column_texts text.items) ≡ Some table.columns
  pub enough_columns : MIN_COLUMNS ≤ length table.columns
  pub few_columns : length table.columns ≤ MAX_COLUMNS
  -- a statement can write the names, and no two columns have the same name
  pub written_names : AllByRecursion (λ name. IsTrue (is_written_name name)) (table.name ∷ names_of table.columns)
  pub distinct_columns : IsDistinct bytes_eq (names_of table.columns)
  -- one name is written as key, once, and it is that of the key column, which isn't RESERVABLE
  pub key : Column
  pub key_there : slice_get table.columns table.key ≡ Some key
  pub one_key : key_names text.items ≡ key.name ∷ []
  pub plain_key : key.reservable ≡ false
  -- 1 to 10 columns are RESERVABLE, and each of these is of numbers
  pub some_reservable : 1 ≤ length (reservables table.columns)
  pub few_reservable : length (reservables table.columns) ≤ MAX_LEN
  pub number_reservable : AllByRecursion (λ column. IsTrue (is_numeric column.kind)) (reservables table.columns)
  -- its checks are at most 32 declared ones, in order, with one check for each condition of a CHECK; after them the
  -- range of each RESERVABLE column; no two have the same name
  pub declared : List Check
  pub of_text : checks_of (names_of (reservables table.columns)) (scales_of (reservables table.columns))
      (checks_in text.items) ≡ Some declared
  pub few_declared : length declared ≤ MAX_CHECKS
  -- each declared one is over the RESERVABLE columns, with coefficients, a scale, limits and a name that CHECKs may
  -- give
  pub good_declared : AllByRecursion
      (IsDeclared (names_of (reservables table.columns)) (scales_of (reservables table.columns))) declared
  pub checks : table.checks ≡ declared ++ range_checks table.columns
  pub distinct_checks : IsDistinct bytes_eq (check_names table.checks)
