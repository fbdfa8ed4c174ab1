-- Believed: which table a CREATE TABLE defines.
use Rattle.std.specs.Prelude.{◌≡◌, ℕ, neg_ℤ, Bool, true, false, ◌&&◌, not, nat_le, if◌then◌else◌, Option, Some, None, option_map, option_and_then, unwrap_or, List, [], ◌∷◌, ◌++◌, length, map, filter, filter_map, position, slice_get, codes, bytes_eq}
use Rattle.std.specs.List.{list_any, list_all, flat_map}
use Rattle.escrow_statement.specs.declared.statement.CreateText.{CreateText}
use Rattle.escrow_statement.specs.declared.statement.Item.{Item}
use Rattle.escrow_statement.specs.declared.statement.Item.TheVariants as item
use Rattle.escrow_statement.specs.declared.statement.CheckText.{CheckText}
use Rattle.escrow_statement.specs.declared.statement.ColumnText.{ColumnText}
use Rattle.escrow_statement.specs.declared.statement.ColumnMark.{ColumnMark}
use Rattle.escrow_statement.specs.declared.statement.ColumnMark.TheVariants as mark
use Rattle.escrow_checks.specs.declared.check.Check.{Check}
use Rattle.escrow_checks.specs.declared.coefficients.TheConstants.Coefficients.{MAX_LEN}
use Rattle.escrow_checks.specs.Checks.{checks_of, unit_of}
use Rattle.escrow_checks.specs.WrittenName.{is_written_name}
use Rattle.escrow_schema.specs.declared.column.Column.{Column}
use Rattle.escrow_schema.specs.declared.table.TableDef.{TableDef}
use Rattle.escrow_schema.specs.declared.table.TheConstants.TableDef.{MIN_COLUMNS, MAX_COLUMNS}
use Rattle.escrow_schema.specs.Column.{type_of, is_numeric, scale_of, top_of, reservables, names_of, scales_of}

-- whether a mark is PRIMARY KEY
abbrev pub is_key_mark : ColumnMark → Bool
is_key_mark mark.PrimaryKey = true
is_key_mark mark.Reservable = false
is_key_mark mark.NotNull = false
is_key_mark (mark.Check text) = false

-- whether a mark is RESERVABLE; if it is written twice it means the same
abbrev pub is_reservable_mark : ColumnMark → Bool
is_reservable_mark mark.PrimaryKey = false
is_reservable_mark mark.Reservable = true
is_reservable_mark mark.NotNull = false
is_reservable_mark (mark.Check text) = false

-- the CHECK in a mark, if it is a CHECK
abbrev pub check_of_mark : ColumnMark → List CheckText
check_of_mark mark.PrimaryKey = []
check_of_mark mark.Reservable = []
check_of_mark mark.NotNull = []
check_of_mark (mark.Check text) = text ∷ []

-- the column of an item, if it is a column
abbrev pub column_text : Item → Option ColumnText
column_text (item.Column text) = Some text
column_text (item.Check text) = None
column_text (item.PrimaryKey name) = None

-- the columns among items, in order
abbrev pub column_texts : List Item → List ColumnText
column_texts items = filter_map column_text items

-- the CHECKs of an item, in order: those among a column's marks, or the item itself
abbrev pub checks_of_item : Item → List CheckText
checks_of_item (item.Column text) = flat_map check_of_mark text.marks
checks_of_item (item.Check text) = text ∷ []
checks_of_item (item.PrimaryKey name) = []

-- all CHECKs of a text, in order
abbrev pub checks_in : List Item → List CheckText
checks_in items = flat_map checks_of_item items

-- the names that an item writes as key: its column's, once for each mark PRIMARY KEY, or the one after PRIMARY KEY
abbrev pub keys_of : Item → List (List ℕ)
keys_of (item.Column text) = map (λ mark. text.name) (filter is_key_mark text.marks)
keys_of (item.Check text) = []
keys_of (item.PrimaryKey name) = name ∷ []

-- the names that are written as key
abbrev pub key_names : List Item → List (List ℕ)
key_names items = flat_map keys_of items

-- the item of a list that has exactly one
abbrev pub only_one : {A : Type 0} → List A → Option A
only_one [] = None
only_one (x ∷ []) = Some x
only_one (x ∷ y ∷ xs) = None

-- the place of the column of a name
abbrev pub place_of_column : List Column → List ℕ → Option ℕ
place_of_column columns name = position (λ column. bytes_eq column.name name) columns

-- the place of the key: exactly one name is written as key, and a column has this name
abbrev pub key_place : List Item → List Column → Option ℕ
key_place items columns = option_and_then (place_of_column columns) (only_one (key_names items))

-- the column that a text declares, if its type is valid
abbrev pub column_of : ColumnText → Option Column
column_of text =
    option_map (λ kind. record { name = text.name; kind = kind; reservable = list_any is_reservable_mark text.marks })
    (type_of text.kind)

-- the columns that texts declare, in order, if each type is valid
abbrev pub columns_of : List ColumnText → Option (List Column)
columns_of [] = Some []
columns_of (text ∷ texts) =
    option_and_then (λ column. option_map (λ columns. column ∷ columns) (columns_of texts)) (column_of text)

-- whether all names differ
abbrev pub are_distinct : List (List ℕ) → Bool
are_distinct [] = true
are_distinct (name ∷ names) = not (list_any (λ other. bytes_eq name other) names) && are_distinct names

-- the check of a RESERVABLE column's range: from its type's least to its type's greatest, in units
abbrev pub range_check : List (List ℕ) → Column → Check
range_check names column = record {
  name = codes "RANGE_" ++ column.name;
  coeffs = unit_of names column.name;
  scale = scale_of column.kind;
  span = record { lo = Some (neg_ℤ (top_of column.kind)); hi = Some (top_of column.kind) };
}

-- the checks of all ranges, in column order
abbrev pub range_checks : List Column → List Check
range_checks columns = map (range_check (names_of (reservables columns))) (reservables columns)

-- whether the column at a place isn't RESERVABLE
abbrev pub is_plain_at : List Column → ℕ → Bool
is_plain_at columns place = unwrap_or (option_map (λ column. not column.reservable) (slice_get columns place)) false

-- the rules on columns. There are 2 to 30, with distinct names that a statement can write. The key isn't RESERVABLE. 1
-- to 10 columns are RESERVABLE, and each of these is of numbers
abbrev pub are_columns : List Column → ℕ → Bool
are_columns columns key =
    nat_le MIN_COLUMNS (length columns) && nat_le (length columns) MAX_COLUMNS
    && are_distinct (names_of columns) && list_all is_written_name (names_of columns)
    && is_plain_at columns key
    && nat_le 1 (length (reservables columns)) && nat_le (length (reservables columns)) MAX_LEN
    && list_all (λ column. is_numeric column.kind) (reservables columns)

-- the names of a list of checks
abbrev pub check_names : List Check → List (List ℕ)
check_names checks = map (λ check. check.name) checks

-- the table of these columns, this key and these declared checks, which come before those of the ranges, if no two
-- checks have the same name
abbrev pub table_with : List ℕ → List Column → ℕ → List Check → Option TableDef
table_with name columns key written =
    let checks = written ++ range_checks columns in
    if are_distinct (check_names checks)
    then Some (record { name = name; columns = columns; key = key; checks = checks }) else None

-- the table of these columns and this key, if its name, the columns and the CHECKs follow the rules
abbrev pub table_of : CreateText → List Column → ℕ → Option TableDef
table_of text columns key =
    if is_written_name text.table && are_columns columns key
    then option_and_then (table_with text.table columns key)
    (checks_of (names_of (reservables columns)) (scales_of (reservables columns)) (checks_in text.items))
    else None

-- the table that a CREATE TABLE defines, or nothing if it breaks a rule
abbrev pub definition_of : CreateText → Option TableDef
definition_of text =
    option_and_then (λ columns. option_and_then (table_of text columns) (key_place text.items columns))
    (columns_of (column_texts text.items))

-- a table that some text defines
abbrev pub IsTable : TableDef → Type 0
IsTable table = (text : CreateText) × (definition_of text ≡ Some table)

-- the key column of a table
abbrev pub key_column : TableDef → Option Column
key_column table = slice_get table.columns table.key

-- the scale of the key's type: that of the table's keys, or 0 if they are texts
abbrev pub key_scale : TableDef → ℕ
key_scale table = unwrap_or (option_map (λ column. scale_of column.kind) (key_column table)) 0
