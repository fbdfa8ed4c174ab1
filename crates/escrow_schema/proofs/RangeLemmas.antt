-- Numbers that meet the range check of each RESERVABLE column fit its type.
use Rattle.std.proofs.Common.{◌≡◌, ℕ, ℤ, pos, negsuc, neg_ℤ, ◌*ℤ◌, ◌≤ℤ◌, true, false, bytes_eq, List, [], ◌∷◌, length, map, sym, ◌∙◌, subst, refl, arith, inl, inr}
use Rattle.std.specs.Prelude.{int_le}
use Rattle.std.specs.List.{list_any, AllByRecursion}
use Rattle.std.proofs.Math.IntN.{zero-*ℤ, +ℤ_idl}
use Rattle.std.proofs.lemmas.Bool.{or_parts, and_parts, and_from, leb-true, false≢true}
use Rattle.std.proofs.lemmas.Bool.Decides.{leb_tells}
use Rattle.std.proofs.lemmas.Int.{ints}
use Rattle.escrow_num.specs.Amount.{IsAmount}
use Rattle.escrow_num.specs.declared.value.Value.TheVariants as value
use Rattle.escrow_checks.specs.Form.{form}
use Rattle.escrow_checks.specs.Checks.{unit_of}
use Rattle.escrow_checks.specs.Grant.{Meets}
use Rattle.escrow_schema.specs.declared.column.Column.{Column}
use Rattle.escrow_schema.specs.declared.column.ColumnType.{ColumnType}
use Rattle.escrow_schema.specs.declared.column.ColumnType.TheVariants.{Number, Varchar2}
use Rattle.escrow_schema.specs.Column.{top_of, fits, is_numeric, names_of}
use Rattle.escrow_schema.specs.Definition.{are_distinct, range_check}
use Rattle.escrow_schema.specs.Fit.{FitColumns}
use Rattle.escrow_schema.specs.Typed.{IsType}
use Rattle.escrow_schema.proofs.DistinctLemmas.{either_order, first_apart, same_name}
use Rattle.escrow_schema.proofs.ColumnLemmas.{power_within, power_positive}

times_one : (a : ℤ) → pos 1 *ℤ a ≡ a
times_one (pos n) = omega (arith, ints)
times_one (negsuc n) = omega (arith, ints)

-- the form of a column whose name is not among the names is zero
pub form-unit_other : (names : List (List ℕ)) (name : List ℕ) (numbers : List ℤ) → list_any (λ other. bytes_eq name other) names ≡ false → form (unit_of names name) numbers ≡ pos 0
form-unit_other [] name numbers none = refl
form-unit_other (x ∷ names) name [] none = refl
form-unit_other (x ∷ names) name (a ∷ rest) none =
    let parts = or_parts (bytes_eq name x) (list_any (λ other. bytes_eq name other) names) none in
    let apart : bytes_eq x name ≡ false = either_order x name ∙ parts.0 in
    rw (apart, zero-*ℤ, form-unit_other names name rest parts.1) refl

-- the form of the first column is its number
pub form-unit_first : (names : List (List ℕ)) (name : List ℕ) (a : ℤ) (rest : List ℤ) → list_any (λ other. bytes_eq name other) names ≡ false → form (unit_of (name ∷ names) name) (a ∷ rest) ≡ a
form-unit_first names name a rest none = rw (same_name name, form-unit_other names name rest none, times_one a) (omega (arith, ints))

-- the form of another column is the form over the remaining names
pub form-unit_rest : (first : List ℕ) (names : List (List ℕ)) (name : List ℕ) (a : ℤ) (rest : List ℤ) → bytes_eq first name ≡ false → form (unit_of (first ∷ names) name) (a ∷ rest) ≡ form (unit_of names name) rest
form-unit_rest first names name a rest apart = rw (apart, zero-*ℤ) (+ℤ_idl (form (unit_of names name) rest))

-- numbers between a column's limits
abbrev Between : ColumnType → ℤ → Type 0
Between kind z = (neg_ℤ (top_of kind) ≤ℤ z) × (z ≤ℤ top_of kind)

-- a number between the limits of a type is an amount
amount_between : (kind : ColumnType) (z : ℤ) → IsType kind → Between kind z → IsAmount z
amount_between (Number digits scale) z small h =
    let top = power_within digits small.1 in
    let positive = power_positive digits in
    (omega (arith, ints), omega (arith, ints))
amount_between (Varchar2 bytes) z small h = (omega (arith, ints), omega (arith, ints))

-- a test of two numbers, and what its result says
pub int_le_true : (a b : ℤ) → int_le a b ≡ true → a ≤ℤ b
int_le_true (pos a) (pos b) e = let h = leb-true a b e in omega (arith, ints)
int_le_true (pos a) (negsuc b) e = absurd (false≢true e)
int_le_true (negsuc a) (pos b) e = omega (arith, ints)
int_le_true (negsuc a) (negsuc b) e = let h = leb-true b a e in omega (arith, ints)

pub int_le_from : (a b : ℤ) → a ≤ℤ b → int_le a b ≡ true
int_le_from (pos a) (pos b) h = elim (leb_tells a b) [ inl t ↦ t.0 | inr f ↦ (let less = f.1 in absurd (omega (arith, ints))) ]
int_le_from (pos a) (negsuc b) h = absurd (omega (arith, ints))
int_le_from (negsuc a) (pos b) h = refl
int_le_from (negsuc a) (negsuc b) h = elim (leb_tells b a) [ inl t ↦ t.0 | inr f ↦ (let less = f.1 in absurd (omega (arith, ints))) ]

-- a number fits a numeric type exactly if it is between the type's limits
between : (kind : ColumnType) (z : ℤ) → fits kind (value.Number z) ≡ true → Between kind z
between (Number digits scale) z e =
    let top = top_of (Number digits scale) in
    let parts = and_parts (int_le (neg_ℤ top) z) (int_le z top) e in
    (int_le_true (neg_ℤ top) z parts.0, int_le_true z top parts.1)
between (Varchar2 bytes) z e = absurd (false≢true e)

fits_between : (kind : ColumnType) (z : ℤ) → is_numeric kind ≡ true → Between kind z → fits kind (value.Number z) ≡ true
fits_between (Number digits scale) z numeric h =
    let top = top_of (Number digits scale) in
    and_from (int_le (neg_ℤ top) z) (int_le z top) (int_le_from (neg_ℤ top) z h.0) (int_le_from z top h.1)
fits_between (Varchar2 bytes) z numeric h = absurd (false≢true numeric)

-- the checks of the other columns hold of the numbers after the first
rest_meets : (first : List ℕ) (names : List (List ℕ)) (a : ℤ) (rest : List ℤ) (columns : List Column)
    → list_any (λ other. bytes_eq first other) (names_of columns) ≡ false
    → AllByRecursion (λ check. Meets check (a ∷ rest)) (map (range_check (first ∷ names)) columns)
    → AllByRecursion (λ check. Meets check rest) (map (range_check names) columns)
rest_meets first names a rest [] none h = tt
rest_meets first names a rest (column ∷ columns) none h =
    let parts = or_parts (bytes_eq first column.name) (list_any (λ other. bytes_eq first other) (names_of columns)) none in
    let same = form-unit_rest first names column.name a rest parts.0 in
    (subst (Between column.kind) same h.0, rest_meets first names a rest columns parts.1 h.1)

-- the converse
meets_rest : (first : List ℕ) (names : List (List ℕ)) (a : ℤ) (rest : List ℤ) (columns : List Column)
    → list_any (λ other. bytes_eq first other) (names_of columns) ≡ false
    → AllByRecursion (λ check. Meets check rest) (map (range_check names) columns)
    → AllByRecursion (λ check. Meets check (a ∷ rest)) (map (range_check (first ∷ names)) columns)
meets_rest first names a rest [] none h = tt
meets_rest first names a rest (column ∷ columns) none h =
    let parts = or_parts (bytes_eq first column.name) (list_any (λ other. bytes_eq first other) (names_of columns)) none in
    let same = form-unit_rest first names column.name a rest parts.0 in
    (subst (Between column.kind) (sym same) h.0, meets_rest first names a rest columns parts.1 h.1)

-- numbers that meet the range checks of columns fit their types
pub fit_in_range : (columns : List Column) (numbers : List ℤ)
    → are_distinct (names_of columns) ≡ true → AllByRecursion (λ column. is_numeric column.kind ≡ true) columns → length numbers ≡ length columns
    → AllByRecursion (λ check. Meets check numbers) (map (range_check (names_of columns)) columns)
    → FitColumns columns (map value.Number numbers)
fit_in_range [] [] apart numeric same h = tt
fit_in_range [] (a ∷ rest) apart numeric same h = absurd (omega arith)
fit_in_range (column ∷ columns) [] apart numeric same h = absurd (omega arith)
fit_in_range (column ∷ columns) (a ∷ rest) apart numeric same h =
    let parts = first_apart column.name (names_of columns) apart in
    let here : Between column.kind a = subst (Between column.kind) (form-unit_first (names_of columns) column.name a rest parts.0) h.0 in
    let shorter : length rest ≡ length columns = omega arith in
    (fits_between column.kind a numeric.0 here, fit_in_range columns rest parts.1 numeric.1 shorter (rest_meets column.name (names_of columns) a rest columns parts.0 h.1))

-- numbers that fit the types meet the range checks
pub range_met : (columns : List Column) (numbers : List ℤ)
    → are_distinct (names_of columns) ≡ true
    → FitColumns columns (map value.Number numbers)
    → AllByRecursion (λ check. Meets check numbers) (map (range_check (names_of columns)) columns)
range_met [] numbers apart h = tt
range_met (column ∷ columns) [] apart h = absurd h
range_met (column ∷ columns) (a ∷ rest) apart h =
    let parts = first_apart column.name (names_of columns) apart in
    let here : Between column.kind a = between column.kind a h.0 in (
      subst (Between column.kind) (sym (form-unit_first (names_of columns) column.name a rest parts.0)) here,
      meets_rest column.name (names_of columns) a rest columns parts.0 (range_met columns rest parts.1 h.1),
    )

-- numbers that fit types are amounts
pub fitting_amounts : (columns : List Column) (numbers : List ℤ) → AllByRecursion (λ column. IsType column.kind) columns
    → FitColumns columns (map value.Number numbers) → AllByRecursion IsAmount numbers
fitting_amounts columns [] types h = tt
fitting_amounts [] (a ∷ rest) types h = absurd h
fitting_amounts (column ∷ columns) (a ∷ rest) types h =
    (amount_between column.kind a types.0 (between column.kind a h.0), fitting_amounts columns rest types.1 h.1)
