-- Helps: what private contracts say of columns. No contract of a public call uses it.
use Rattle.std.specs.Prelude.{◌≡◌, ◌≤◌, true, List, length, All}
use Rattle.std.specs.List.{list_all}
use Rattle.escrow_num.specs.declared.scale.TheConstants.Scale.{MAX}
use Rattle.escrow_checks.specs.declared.coefficients.TheConstants.Coefficients.{MAX_LEN}
use Rattle.escrow_checks.specs.WrittenName.{is_written_name}
use Rattle.escrow_schema.specs.declared.column.Column.{Column}
use Rattle.escrow_schema.specs.declared.column.ColumnType.{ColumnType}
use Rattle.escrow_schema.specs.declared.column.ColumnType.TheVariants.{Number, Varchar2}
use Rattle.escrow_schema.specs.declared.column.TheConstants.ColumnType.{MAX_DIGITS, MAX_BYTES}
use Rattle.escrow_schema.specs.Column.{names_of}
use Rattle.escrow_schema.specs.Definition.{are_distinct}

-- a valid type: numbers of 1 to 15 digits, with at most 6 of them after the point, and no more than there are; or texts
-- of at most 1 to 255 bytes
abbrev pub IsType : ColumnType → Type 0
IsType (Number digits scale) = (1 ≤ digits) × (digits ≤ MAX_DIGITS) × (scale ≤ MAX) × (scale ≤ digits)
IsType (Varchar2 bytes) = (1 ≤ bytes) × (bytes ≤ MAX_BYTES)

-- each of the columns has a valid type
abbrev pub TypedColumns : List Column → Type 0
TypedColumns columns = All (λ column. IsType column.kind) columns

-- columns that can each have a range check: at most 10, with distinct names that a statement can write, each of a valid
-- type
abbrev pub CanRange : List Column → Type 0
CanRange columns =
    (length columns ≤ MAX_LEN) × (are_distinct (names_of columns) ≡ true)
    × (list_all is_written_name (names_of columns) ≡ true) × TypedColumns columns
