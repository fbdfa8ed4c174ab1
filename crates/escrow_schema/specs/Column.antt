-- Believed: what a column's type is and which values it holds.
use Rattle.std.specs.Prelude.{ℕ, ℤ, pos, neg_ℤ, ◌-◌, ◌^◌, Bool, true, false, ◌&&◌, int_div, int_le, nat_le, unsigned_abs, if◌then◌else◌, Option, Some, None, option_map, option_and_then, unwrap_or, List, length, map, filter}
use Rattle.escrow_num.specs.Decimal.{units_at}
use Rattle.escrow_num.specs.Scale.{unit_at}
use Rattle.escrow_num.specs.declared.scale.TheConstants.Scale.{MAX}
use Rattle.escrow_num.specs.declared.value.Value.{Value}
use Rattle.escrow_num.specs.declared.value.Value.TheVariants as value
use Rattle.escrow_statement.specs.declared.statement.TypeText.{TypeText}
use Rattle.escrow_statement.specs.declared.statement.TypeText.TheVariants as text
use Rattle.escrow_statement.specs.declared.statement.Literal.{Literal}
use Rattle.escrow_statement.specs.declared.statement.Literal.TheVariants as literal
use Rattle.escrow_schema.specs.declared.column.Column.{Column}
use Rattle.escrow_schema.specs.declared.column.ColumnType.{ColumnType}
use Rattle.escrow_schema.specs.declared.column.ColumnType.TheVariants.{Number, Varchar2}
use Rattle.escrow_schema.specs.declared.column.TheConstants.ColumnType.{MAX_DIGITS, MAX_BYTES}

-- TYPES

-- a precision p from 1 to 15, and a scale s from 0 to 6 that isn't above it
abbrev pub is_size : ℤ → ℤ → Bool
is_size p s = int_le (pos 1) p && int_le p (pos MAX_DIGITS) && int_le (pos 0) s && int_le s (pos MAX) && int_le s p

-- the type of numbers of p digits in all, of which s are after the point
abbrev pub number_type : ℤ → ℤ → Option ColumnType
number_type p s = if is_size p s then Some (Number (unsigned_abs p) (unsigned_abs s)) else None

-- the type that is written. NUMBER(p,s) has these digits and this scale; NUMBER(p) has scale 0; NUMBER and INTEGER are
-- NUMBER(15). VARCHAR2(n) holds n bytes, from 1 to 255
abbrev pub type_of : TypeText → Option ColumnType
type_of text.Integer = Some (Number MAX_DIGITS 0)
type_of (text.Number None) = Some (Number MAX_DIGITS 0)
type_of (text.Number (Some size)) = number_type size.digits (unwrap_or size.scale (pos 0))
type_of (text.Varchar2 n) =
    if int_le (pos 1) n && int_le n (pos MAX_BYTES) then Some (Varchar2 (unsigned_abs n)) else None

-- whether a type is one of numbers
abbrev pub is_numeric : ColumnType → Bool
is_numeric (Number digits scale) = true
is_numeric (Varchar2 bytes) = false

-- the scale of a type: its numbers are whole units of 10^-scale; texts have scale 0
abbrev pub scale_of : ColumnType → ℕ
scale_of (Number digits scale) = scale
scale_of (Varchar2 bytes) = 0

-- the greatest number of a type of numbers, in units; the least is as far below zero
abbrev pub top_of : ColumnType → ℤ
top_of (Number digits scale) = pos (10 ^ digits - 1)
top_of (Varchar2 bytes) = pos 0

-- VALUES

-- whether a value fits a type. A number of units fits a type of numbers from its least to its greatest. A text fits a
-- type of texts if it has 1 byte to as many as the type holds
abbrev pub fits : ColumnType → Value → Bool
fits (Number digits scale) (value.Number z) =
    int_le (neg_ℤ (top_of (Number digits scale))) z && int_le z (top_of (Number digits scale))
fits (Number digits scale) (value.Text t) = false
fits (Varchar2 bytes) (value.Number z) = false
fits (Varchar2 bytes) (value.Text t) = nat_le 1 (length t) && nat_le (length t) bytes

-- the value of a literal at a scale: a number in units, if it is a whole number of them and they are an amount; nothing
-- is rounded
abbrev pub value_at : ℕ → Literal → Option Value
value_at scale (literal.Number z) = option_map value.Number (units_at scale z)
value_at scale (literal.Text t) = Some (value.Text t)

-- the value of a literal in a column of a type, if it is one at the type's scale, and fits
abbrev pub value_in : ColumnType → Literal → Option Value
value_in kind l = option_and_then (λ v. if fits kind v then Some v else None) (value_at (scale_of kind) l)

-- the value of a literal at a scale, with a number cut to whole units. If value_at gives a value it is this one, and
-- nothing was cut
abbrev pub truncated_value : ℕ → Literal → Value
truncated_value scale (literal.Number z) = value.Number (int_div z (pos (unit_at scale)))
truncated_value scale (literal.Text t) = value.Text t

-- whether a value is a number, which takes no memory
abbrev pub is_number : Value → Bool
is_number (value.Number z) = true
is_number (value.Text t) = false

-- COLUMNS

-- the RESERVABLE columns, in order
abbrev pub reservables : List Column → List Column
reservables columns = filter (λ column. column.reservable) columns

-- the names of columns, in their order
abbrev pub names_of : List Column → List (List ℕ)
names_of columns = map (λ column. column.name) columns

-- the scales of the columns' types, in their order
abbrev pub scales_of : List Column → List ℕ
scales_of columns = map (λ column. scale_of column.kind) columns
