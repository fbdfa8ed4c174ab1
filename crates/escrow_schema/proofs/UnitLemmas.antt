-- The coefficients of one column among columns of distinct names.
use Rattle.std.proofs.Common.{◌≡◌, ℕ, zero, suc, ℤ, pos, ◌<◌, ◌≤◌, true, false, ◌&&◌, not, nat_le, bytes_eq, List, [], ◌∷◌, length, set, get_or, replicate, sym, ap, ◌∙◌, subst, refl, arith}
use Rattle.std.specs.Prelude.{codes, neg_ℤ, ◌++◌, Some, is_none}
use Rattle.escrow_num.specs.Name.{spells_name}
use Rattle.escrow_num.specs.declared.name.TheConstants.Name.{MAX_WRITTEN}
use Rattle.escrow_statement.specs.Word.{reserved}
use Rattle.std.proofs.lemmas.List.{get_or_read}
use Rattle.escrow_num.specs.declared.span.Span.{Span}
use Rattle.escrow_checks.specs.declared.check.Check.{Check}
use Rattle.std.specs.List.{list_any, list_all}
use Rattle.std.proofs.lemmas.Bool.{or_parts, and_parts, not-true, leb-true}
use Rattle.escrow_checks.specs.Checks.{unit_of}
use Rattle.escrow_checks.specs.WrittenName.{is_written_name}
use Rattle.escrow_schema.specs.declared.column.Column.{Column}
use Rattle.escrow_schema.specs.Column.{names_of, scale_of, top_of}
use Rattle.escrow_schema.specs.Definition.{are_distinct, range_check}
use Rattle.escrow_schema.specs.Typed.{CanRange}
use Rattle.escrow_schema.proofs.DistinctLemmas.{same_name, either_order}

-- a column that is not among the names has only zero coefficients
unit_other : (columns : List Column) (name : List ℕ) → list_any (λ other. bytes_eq name other) (names_of columns) ≡ false → unit_of (names_of columns) name ≡ replicate (length columns) (pos 0)
unit_other [] name none = refl
unit_other (column ∷ columns) name none =
    let parts = or_parts (bytes_eq name column.name) (list_any (λ other. bytes_eq name other) (names_of columns)) none in
    let apart : bytes_eq column.name name ≡ false = either_order column.name name ∙ parts.0 in
    rw apart (ap (λ rest. pos 0 ∷ rest) (unit_other columns name parts.1))

-- the name at an index differs from a name that is not among them
pub at_apart : (columns : List Column) (name : List ℕ) (place : ℕ) (d : Column) → list_any (λ other. bytes_eq name other) (names_of columns) ≡ false → place < length columns → bytes_eq name (get_or columns place d).name ≡ false
at_apart [] name place d none within = absurd (omega arith)
at_apart (column ∷ columns) name zero d none within = (or_parts (bytes_eq name column.name) (list_any (λ other. bytes_eq name other) (names_of columns)) none).0
at_apart (column ∷ columns) name (suc place) d none within =
    at_apart columns name place d (or_parts (bytes_eq name column.name) (list_any (λ other. bytes_eq name other) (names_of columns)) none).1 (omega arith)

-- if names are distinct, the coefficients of the column at an index are 1 there and 0 elsewhere
pub unit_at : (columns : List Column) (place : ℕ) (d : Column) → are_distinct (names_of columns) ≡ true → place < length columns
    → unit_of (names_of columns) (get_or columns place d).name ≡ set (replicate (length columns) (pos 0)) place (pos 1)
unit_at [] place d apart within = absurd (omega arith)
unit_at (column ∷ columns) zero d apart within =
    let parts = and_parts (not (list_any (λ other. bytes_eq column.name other) (names_of columns))) (are_distinct (names_of columns)) apart in
    let none = not-true (list_any (λ other. bytes_eq column.name other) (names_of columns)) parts.0 in
    rw (same_name column.name) (ap (λ rest. pos 1 ∷ rest) (unit_other columns column.name none))
unit_at (column ∷ columns) (suc place) d apart within =
    let parts = and_parts (not (list_any (λ other. bytes_eq column.name other) (names_of columns))) (are_distinct (names_of columns)) apart in
    let none = not-true (list_any (λ other. bytes_eq column.name other) (names_of columns)) parts.0 in
    let other = at_apart columns column.name place d none (omega arith) in
    rw other (ap (λ rest. pos 0 ∷ rest) (unit_at columns place d parts.1 (omega arith)))

-- a name that a statement can write is short
pub short_from : (name : List ℕ) → is_written_name name ≡ true → length name ≤ MAX_WRITTEN
unfolding is_written_name
short_from name h = leb-true (length name) MAX_WRITTEN (and_parts (spells_name name) (nat_le (length name) MAX_WRITTEN) (and_parts (spells_name name && nat_le (length name) MAX_WRITTEN) (is_none (reserved name)) h).0).1

-- each of such names is short
pub short_at : (columns : List Column) (place : ℕ) (d : Column) → list_all is_written_name (names_of columns) ≡ true → place < length columns → length (get_or columns place d).name ≤ MAX_WRITTEN
short_at [] place d writable within = absurd (omega arith)
short_at (column ∷ columns) zero d writable within = short_from column.name (and_parts (is_written_name column.name) (list_all is_written_name (names_of columns)) writable).0
short_at (column ∷ columns) (suc place) d writable within =
    short_at columns place d (and_parts (is_written_name column.name) (list_all is_written_name (names_of columns)) writable).1 (omega arith)

-- the limits of a column
abbrev pub limits_of : Column → Span
limits_of column = record { lo = Some (neg_ℤ (top_of column.kind)); hi = Some (top_of column.kind) }

-- a name, coefficients, a scale and limits of a column's range check make that check
pub ranged : (columns : List Column) (place : ℕ) (column d : Column) (name : List ℕ) (coeffs : List ℤ) (scale : ℕ) (span : Span)
    → CanRange columns → place < length columns → column ≡ get_or columns place column
    → name ≡ codes "RANGE_" ++ (get_or columns place column).name → coeffs ≡ set (replicate (length columns) (pos 0)) place (pos 1)
    → scale ≡ scale_of column.kind → span ≡ limits_of column
    → let check : Check = record { name = name; coeffs = coeffs; scale = scale; span = span } in check ≡ range_check (names_of columns) (get_or columns place d)
ranged columns place column d name coeffs scale span can within at named one own limits =
    let unit : unit_of (names_of columns) column.name ≡ coeffs =
    ap (λ (c : Column). unit_of (names_of columns) c.name) at ∙ (unit_at columns place column can.1 within ∙ sym one) in
    let called : name ≡ codes "RANGE_" ++ column.name = named ∙ ap (λ (c : Column). codes "RANGE_" ++ c.name) (sym at) in
    let same : column ≡ get_or columns place d = get_or_read columns place column within at d in
    let check : Check = record { name = name; coeffs = coeffs; scale = scale; span = span } in
    let made : check ≡ range_check (names_of columns) column = rw (called, ← unit, own, limits) refl in
    subst (λ (c : Column). check ≡ range_check (names_of columns) c) same made

-- the name at an index is short
pub short_name : (columns : List Column) (place : ℕ) (column : Column) → CanRange columns → place < length columns → column ≡ get_or columns place column → length column.name ≤ MAX_WRITTEN
short_name columns place column can within at = subst (λ (c : Column). length c.name ≤ MAX_WRITTEN) (sym at) (short_at columns place column can.2 within)
