-- Believed: when values and the names of rows are the same, and their order.
use Rattle.std.specs.Prelude.{Bool, false, ◌&&◌, bytes_eq}
use Rattle.std.specs.Ordering.{nat_cmp, int_cmp, int_eq, ordering_then}
use Rattle.std.specs.declared.cmp.Ordering.{Ordering}
use Rattle.std.specs.declared.cmp.Ordering.TheVariants.{Less, Greater}
use Rattle.std.specs.Cmp.Lexicographic.{slice_cmp}
use Rattle.escrow_num.specs.declared.value.RowName.{RowName}
use Rattle.escrow_num.specs.declared.value.Value.{Value}
use Rattle.escrow_num.specs.declared.value.Value.TheVariants.{Number, Text}

-- whether two values are equal
abbrev pub value_eq : Value → Value → Bool
value_eq (Number a) (Number b) = int_eq a b
value_eq (Text a) (Text b) = bytes_eq a b
value_eq (Number a) (Text b) = false
value_eq (Text a) (Number b) = false

-- numbers are in their order, texts in the order of their bytes, and numbers come before texts
abbrev pub value_cmp : Value → Value → Ordering
value_cmp (Number a) (Number b) = int_cmp a b
value_cmp (Text a) (Text b) = slice_cmp nat_cmp a b
value_cmp (Number a) (Text b) = Less
value_cmp (Text a) (Number b) = Greater

-- whether two names name the same row: one table, and one key
abbrev pub same_row : RowName → RowName → Bool
same_row a b = bytes_eq a.table b.table && value_eq a.key b.key

-- rows are in order of their tables' names, and in a table in order of their keys
abbrev pub row_cmp : RowName → RowName → Ordering
row_cmp a b = ordering_then (slice_cmp nat_cmp a.table b.table) (value_cmp a.key b.key)
