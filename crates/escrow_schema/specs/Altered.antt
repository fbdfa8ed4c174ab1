-- Believed: the table that an ALTER TABLE makes from one, and the tables of a database with it.
use Rattle.std.specs.Prelude.{ℕ, if◌then◌else◌, Option, option_map, option_and_then, Result, List, [], ◌∷◌, map, position, remove, bytes_eq}
use Rattle.std.specs.Option.{ok_or}
use Rattle.escrow_num.specs.declared.refusal.Refusal.{Refusal}
use Rattle.escrow_num.specs.declared.refusal.Refusal.TheVariants as refusal
use Rattle.escrow_statement.specs.declared.statement.CheckText.{CheckText}
use Rattle.escrow_statement.specs.declared.statement.TableChange.{TableChange}
use Rattle.escrow_statement.specs.declared.statement.TableChange.TheVariants as change
use Rattle.escrow_checks.specs.Checks.{checks_behind}
use Rattle.escrow_schema.specs.declared.table.TableDef.{TableDef}
use Rattle.escrow_schema.specs.Column.{reservables, names_of, scales_of}
use Rattle.escrow_schema.specs.Definition.{table_with}
use Rattle.escrow_schema.specs.Print.{declared_checks}

-- a table with the checks of one more CHECK, after the declared ones and before those of the ranges, if all of them
-- together follow the rules
abbrev pub with_check : TableDef → CheckText → Option TableDef
with_check table text =
    option_and_then (table_with table.name table.columns table.key)
    (checks_behind (names_of (reservables table.columns)) (scales_of (reservables table.columns))
    (declared_checks table) (text ∷ []))

-- the place of the declared check of a name; the check of a range isn't a declared one
abbrev pub declared_place : TableDef → List ℕ → Option ℕ
declared_place table name = position (λ check. bytes_eq check.name name) (declared_checks table)

-- a table without the check at a place
abbrev pub without_check_at : TableDef → ℕ → TableDef
without_check_at table place = record table { checks = remove table.checks place }

-- a table without the declared check of a name, if there is one
abbrev pub without_check : TableDef → List ℕ → Option TableDef
without_check table name = option_map (without_check_at table) (declared_place table name)

-- the table that a change makes from one, or why it makes none: an added CHECK breaks a rule (22), or the constraint to
-- drop doesn't exist (27)
abbrev pub altered : TableDef → TableChange → Result TableDef Refusal
altered table (change.Add text) = ok_or (with_check table text) refusal.BadDefinition
altered table (change.Drop name) = ok_or (without_check table name) refusal.NoSuchConstraint

-- the tables of a database, with one replaced by a table of the same name
abbrev pub with_altered : TableDef → List TableDef → List TableDef
with_altered table catalog = map (λ other. if bytes_eq other.name table.name then table else other) catalog
