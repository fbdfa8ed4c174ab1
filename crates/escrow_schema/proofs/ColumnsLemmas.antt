-- The columns that a CREATE TABLE writes.
use Rattle.std.proofs.Common.{◌≡◌, ℕ, ℤ, ◌≤◌, pos, negsuc, true, false, ◌&&◌, not, nat_le, int_le, unsigned_abs, Some, None, option_map, List, [], ◌∷◌, sym, subst, refl, ◌∙◌, bytes_eq, lit≤, inl, inr}
use Rattle.std.specs.Prelude.{unwrap_or}
use Rattle.std.specs.List.{AllByRecursion, list_any, list_all}
use Rattle.std.proofs.lemmas.List.{length-map}
use Rattle.std.proofs.lemmas.List.Elements.{All-from_recursion}
use Rattle.std.proofs.lemmas.Option.{option_and_then_some, cond_some, same_Some}
use Rattle.std.proofs.lemmas.Bool.{or_parts, and_parts, or_from, not-true, not_from_false, and_from, cases_Bool, leb-true}
use Rattle.escrow_num.specs.Scale.{IsScale}
use Rattle.escrow_statement.specs.declared.statement.TypeText.{TypeText}
use Rattle.escrow_statement.specs.declared.statement.TypeText.TheVariants as text
use Rattle.escrow_statement.specs.declared.statement.ColumnText.{ColumnText}
use Rattle.escrow_checks.specs.Scales.{AreScales}
use Rattle.escrow_checks.specs.WrittenName.{is_written_name}
use Rattle.escrow_schema.specs.declared.column.Column.{Column}
use Rattle.escrow_schema.specs.declared.column.ColumnType.{ColumnType}
use Rattle.escrow_schema.specs.declared.column.ColumnType.TheVariants.{Number, Varchar2}
use Rattle.escrow_schema.specs.Column.{is_size, number_type, type_of, scale_of, reservables, names_of, scales_of}
use Rattle.escrow_schema.specs.Definition.{are_distinct, column_of, columns_of, is_reservable_mark}
use Rattle.escrow_schema.specs.Typed.{IsType}
use Rattle.escrow_schema.proofs.ListLemmas.{mapped_some}

-- a size from 1 to a limit
sized : (p : ℤ) (most : ℕ) → (int_le (pos 1) p && int_le p (pos most)) ≡ true → (1 ≤ unsigned_abs p) × (unsigned_abs p ≤ most)
sized (pos n) most e = let h = and_parts (nat_le 1 n) (nat_le n most) e in (leb-true 1 n h.0, leb-true n most h.1)
sized (negsuc n) most e = absurd (cc)

-- a scale from 0 to 6 that is at most a precision
scaled : (p s : ℤ) → int_le (pos 1) p ≡ true → int_le (pos 0) s ≡ true → int_le s (pos 6) ≡ true → int_le s p ≡ true
    → (unsigned_abs s ≤ 6) × (unsigned_abs s ≤ unsigned_abs p)
scaled (pos p) (pos s) positive zero most within = (leb-true s 6 most, leb-true s p within)
scaled (negsuc p) s positive zero most within = absurd (cc)
scaled (pos p) (negsuc s) positive zero most within = absurd (cc)

-- a written size is that of a type
number_typed : (p s : ℤ) (kind : ColumnType) → number_type p s ≡ Some kind → IsType kind
number_typed p s kind e =
    let made = cond_some (is_size p s) (Number (unsigned_abs p) (unsigned_abs s)) kind e in
    let within = and_parts (int_le (pos 1) p && int_le p (pos 15) && int_le (pos 0) s && int_le s (pos 6)) (int_le s p) made.0 in
    let most = and_parts (int_le (pos 1) p && int_le p (pos 15) && int_le (pos 0) s) (int_le s (pos 6)) within.0 in
    let zero = and_parts (int_le (pos 1) p && int_le p (pos 15)) (int_le (pos 0) s) most.0 in
    let digits = sized p 15 zero.0 in
    let positive = and_parts (int_le (pos 1) p) (int_le p (pos 15)) zero.0 in
    let scale = scaled p s positive.0 zero.1 most.1 within.1 in
    subst IsType made.1 (digits.0, digits.1, scale.0, scale.1)

-- a written type is a type
pub written_type : (t : TypeText) (kind : ColumnType) → type_of t ≡ Some kind → IsType kind
written_type text.Integer kind e = subst IsType (same_Some (Number 15 0) kind e) (lit≤ tt, lit≤ tt, lit≤ tt, lit≤ tt)
written_type (text.Number None) kind e = subst IsType (same_Some (Number 15 0) kind e) (lit≤ tt, lit≤ tt, lit≤ tt, lit≤ tt)
written_type (text.Number (Some size)) kind e = number_typed size.digits (unwrap_or size.scale (pos 0)) kind e
written_type (text.Varchar2 n) kind e =
    let made = cond_some (int_le (pos 1) n && int_le n (pos 255)) (Varchar2 (unsigned_abs n)) kind e in
    subst IsType made.1 (sized n 255 made.0)

abbrev pub HasType : Column → Type 0
HasType column = IsType column.kind

written_column : (t : ColumnText) (column : Column) → column_of t ≡ Some column → HasType column
written_column t column e =
    mapped_some (λ kind. record { name = t.name; kind = kind; reservable = list_any is_reservable_mark t.marks }) (type_of t.kind) column e
    (λ kind at made. subst HasType made (written_type t.kind kind at))

-- written columns have types
pub written_columns : (texts : List ColumnText) (columns : List Column) → columns_of texts ≡ Some columns → AllByRecursion HasType columns
written_columns [] columns e = subst (AllByRecursion HasType) (same_Some [] columns e) tt
written_columns (t ∷ texts) columns e =
    option_and_then_some (λ column. option_map (λ rest. column ∷ rest) (columns_of texts)) (column_of t) columns e
    (λ column one more. mapped_some (λ rest. column ∷ rest) (columns_of texts) columns more
    (λ rest others whole. subst (AllByRecursion HasType) whole (written_column t column one, written_columns texts rest others)))

-- RESERVABLE columns have types if all columns have
pub reservable_types : (columns : List Column) → AllByRecursion HasType columns → AllByRecursion HasType (reservables columns)
reservable_types [] h = tt
reservable_types (column ∷ columns) h =
    elim (cases_Bool column.reservable) [
      | inl e ↦ rw e (h.0, reservable_types columns h.1)
      | inr e ↦ rw e (reservable_types columns h.1)
    ]

-- a type's scale is a scale
scale_typed : (kind : ColumnType) → IsType kind → IsScale (scale_of kind)
scale_typed (Number digits scale) is = is.2
scale_typed (Varchar2 bytes) is = lit≤ tt

each_scale : (columns : List Column) → AllByRecursion HasType columns → AllByRecursion IsScale (scales_of columns)
each_scale [] h = tt
each_scale (column ∷ columns) h = (scale_typed column.kind h.0, each_scale columns h.1)

-- the scales of typed columns are scales, one for each name
pub scales_typed : (columns : List Column) → AllByRecursion HasType columns → AreScales (names_of columns) (scales_of columns)
scales_typed columns h =
    let scales = length-map columns (λ (column : Column). scale_of column.kind) in
    let names = length-map columns (λ (column : Column). column.name) in
    (scales ∙ sym names, All-from_recursion IsScale (scales_of columns) (each_scale columns h))

-- a name that no column has is not that of a RESERVABLE column
fewer_names : (name : List ℕ) (columns : List Column) → list_any (λ other. bytes_eq name other) (names_of columns) ≡ false → list_any (λ other. bytes_eq name other) (names_of (reservables columns)) ≡ false
fewer_names name [] h = refl
fewer_names name (column ∷ columns) h =
    let parts = or_parts (bytes_eq name column.name) (list_any (λ other. bytes_eq name other) (names_of columns)) h in
    let rest = fewer_names name columns parts.1 in
    elim (cases_Bool column.reservable) [
      | inl e ↦ rw e (or_from (bytes_eq name column.name) (list_any (λ other. bytes_eq name other) (names_of (reservables columns))) parts.0 rest)
      | inr e ↦ rw e rest
    ]

-- if all columns are distinct, so are the RESERVABLE ones
pub reservables_distinct : (columns : List Column) → are_distinct (names_of columns) ≡ true → are_distinct (names_of (reservables columns)) ≡ true
reservables_distinct [] h = refl
reservables_distinct (column ∷ columns) h =
    let parts = and_parts (not (list_any (λ other. bytes_eq column.name other) (names_of columns))) (are_distinct (names_of columns)) h in
    let rest = reservables_distinct columns parts.1 in
    let none = fewer_names column.name columns (not-true (list_any (λ other. bytes_eq column.name other) (names_of columns)) parts.0) in
    elim (cases_Bool column.reservable) [
      | inl e ↦ rw e (and_from (not (list_any (λ other. bytes_eq column.name other) (names_of (reservables columns)))) (are_distinct (names_of (reservables columns))) (not_from_false (list_any (λ other. bytes_eq column.name other) (names_of (reservables columns))) none) rest)
      | inr e ↦ rw e rest
    ]

-- if a statement can write the names of all columns, it can write those of the RESERVABLE ones
pub reservables_written : (columns : List Column) → list_all is_written_name (names_of columns) ≡ true → list_all is_written_name (names_of (reservables columns)) ≡ true
reservables_written [] h = refl
reservables_written (column ∷ columns) h =
    let parts = and_parts (is_written_name column.name) (list_all is_written_name (names_of columns)) h in
    let rest = reservables_written columns parts.1 in
    elim (cases_Bool column.reservable) [
      | inl e ↦ rw e (and_from (is_written_name column.name) (list_all is_written_name (names_of (reservables columns))) parts.0 rest)
      | inr e ↦ rw e rest
    ]
