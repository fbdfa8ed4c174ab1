-- Believed: the row that an INSERT makes, and the values of a row.
use Rattle.std.specs.Prelude.{◌≡◌, ℕ, ℤ, pos, ◌+◌, ◌==◌, ◌||◌, ◌&&◌, if◌then◌else◌, IsSomeAnd, bytes_eq, length, Option, Some, None, option_map, option_and_then, List, [], ◌∷◌, ◌++◌, map, take, drop, slice_get, IsTrue}
use Rattle.std.specs.List.{AllZip}
use Rattle.escrow_num.specs.declared.value.Value.{Value}
use Rattle.escrow_num.specs.declared.value.Value.TheVariants as value
use Rattle.escrow_num.specs.declared.row.Row.{Row}
use Rattle.escrow_statement.specs.declared.statement.InsertText.{InsertText}
use Rattle.escrow_statement.specs.declared.statement.Literal.{Literal}
use Rattle.escrow_schema.specs.declared.column.Column.{Column}
use Rattle.escrow_schema.specs.declared.table.TableDef.{TableDef}
use Rattle.escrow_schema.specs.Column.{fits, reservables, value_in}
use Rattle.escrow_schema.specs.Definition.{are_distinct, key_column}

-- the values of literals, one for each column, if each fits its column's type
abbrev pub values_in : List Column → List Literal → Option (List Value)
values_in [] [] = Some []
values_in [] (literal ∷ literals) = None
values_in (column ∷ columns) [] = None
values_in (column ∷ columns) (literal ∷ literals) =
    option_and_then (λ v. option_map (λ values. v ∷ values) (values_in columns literals)) (value_in column.kind literal)

-- there is a value for each column, and each fits its column's type
abbrev pub FitColumns : List Column → List Value → Type 0
FitColumns columns values = AllZip (λ column v. IsTrue (fits column.kind v)) columns values

-- a value's number
abbrev pub number_in : Value → ℤ
number_in (value.Number z) = z
number_in (value.Text t) = pos 0

-- the amounts of the RESERVABLE columns, in column order
abbrev pub amounts_of : List Column → List Value → List ℤ
amounts_of [] values = []
amounts_of (column ∷ columns) [] = []
amounts_of (column ∷ columns) (v ∷ values) =
    if column.reservable then number_in v ∷ amounts_of columns values else amounts_of columns values

-- the values of the columns that are neither RESERVABLE nor the key. The first of the columns has this place
abbrev pub plain_of : List Column → List Value → ℕ → ℕ → List Value
plain_of [] values place key = []
plain_of (column ∷ columns) [] place key = []
plain_of (column ∷ columns) (v ∷ values) place key =
    if column.reservable || place == key then plain_of columns values (place + 1) key
    else v ∷ plain_of columns values (place + 1) key

-- the row of these values
abbrev pub row_with : TableDef → List Value → Option Row
row_with table values = option_map (λ key. record {
  name = record { table = table.name; key = key };
  amounts = amounts_of table.columns values;
  plain = plain_of table.columns values 0 table.key;
}) (slice_get values table.key)

-- the row that literals make, if they fit the table
abbrev pub fitted : TableDef → List Literal → Option Row
fitted table literals = option_and_then (row_with table) (values_in table.columns literals)

-- the literal beside a name in a list of names
abbrev pub literal_beside : List (List ℕ) → List Literal → List ℕ → Option Literal
literal_beside [] literals name = None
literal_beside (other ∷ names) [] name = None
literal_beside (other ∷ names) (literal ∷ literals) name =
    if bytes_eq other name then Some literal else literal_beside names literals name

-- the literals beside the names of columns, in the order of the columns, if each has one
abbrev pub literals_beside : List (List ℕ) → List Literal → List Column → Option (List Literal)
literals_beside names literals [] = Some []
literals_beside names literals (column ∷ columns) =
    option_and_then (λ literal. option_map (λ more. literal ∷ more) (literals_beside names literals columns))
    (literal_beside names literals column.name)

-- the literals in the order of the columns: as written if no columns are named. Otherwise each column must be named
-- once, and has the literal beside its name
abbrev pub in_column_order : List Column → Option (List (List ℕ)) → List Literal → Option (List Literal)
in_column_order columns None literals = Some literals
in_column_order columns (Some names) literals =
    if are_distinct names && length names == length columns && length names == length literals
    then literals_beside names literals columns else None

-- the row that an INSERT makes, if its columns and its literals fit the table
abbrev pub inserted_row : TableDef → InsertText → Option Row
inserted_row table text = option_and_then (fitted table) (in_column_order table.columns text.columns text.values)

-- the columns that are neither RESERVABLE nor the key, in order. The first of the columns has this place
abbrev pub plains : List Column → ℕ → ℕ → List Column
plains [] place key = []
plains (column ∷ columns) place key =
    if column.reservable || place == key then plains columns (place + 1) key
    else column ∷ plains columns (place + 1) key

-- a row of a table: it has the table's name, a key and plain values that fit its columns' types, and an amount for each
-- RESERVABLE column
pub record IsRowOf (table : TableDef) (row : Row) : Type 0 where
  pub table_name : row.name.table ≡ table.name
  pub key : IsSomeAnd (key_column table) (λ column. IsTrue (fits column.kind row.name.key))
  pub plain : FitColumns (plains table.columns 0 table.key) row.plain
  pub amounts : length row.amounts ≡ length (reservables table.columns)

-- the values of columns, in their order: the next amount for each RESERVABLE one, the key at its place, the next plain
-- value for each other. The first of the columns has this place
abbrev pub values_from : List Column → ℕ → ℕ → Value → List ℤ → List Value → List Value
values_from [] place at key amounts plain = []
values_from (column ∷ columns) place at key amounts plain =
    if column.reservable then map value.Number (take 1 amounts)
    ++ values_from columns (place + 1) at key (drop 1 amounts) plain
    else (if place == at then key ∷ values_from columns (place + 1) at key amounts plain
    else take 1 plain ++ values_from columns (place + 1) at key amounts (drop 1 plain))

-- the values of a row, in column order
abbrev pub values_of : TableDef → Row → List Value
values_of table row = values_from table.columns 0 table.key row.name.key row.amounts row.plain
