-- The columns whose amounts are not zero are listed one after another.
use Rattle.std.proofs.Common.{◌≡◌, ℕ, zero, suc, ◌+◌, ℤ, pos, ◌+ℤ◌, ◌*ℤ◌, ◌<◌, ◌≤◌, min, List, [], ◌∷◌, length, get_or, set, take, refl, sym, ap, ◌∙◌, subst, arith, add-one}
use Rattle.std.specs.List.{fold}
use Rattle.std.proofs.lemmas.Int.{ints}
use Rattle.std.proofs.lemmas.List.{take_more_set}
use Rattle.std.proofs.lemmas.List.Sums.{fold-append}
use Rattle.std.proofs.Math.IntN.{zero-*ℤ, *ℤ-zero}
use Rattle.escrow_checks.specs.Form.{form}
use Rattle.escrow_checks.specs.declared.coefficients.TheConstants.Coefficients.{MAX_LEN}
use Rattle.escrow_checks.proofs.FormLemmas.{form-none}
use Rattle.escrow_checks.specs.Listed.{with_column, SumsTo, AreListed}

form_suc : (coeffs amounts : List ℤ) (i : ℕ) → i < length amounts
    → form coeffs (take (suc i) amounts) ≡ form coeffs (take i amounts) +ℤ (get_or coeffs i (pos 0) *ℤ get_or amounts i (pos 0))
form_suc coeffs [] i below = absurd (omega arith)
form_suc [] (a ∷ amounts) i below = omega (arith, ints, zero-*ℤ (get_or (a ∷ amounts) i (pos 0)))
form_suc (c ∷ coeffs) (a ∷ amounts) zero below = omega (arith, ints, form-none coeffs)
form_suc (c ∷ coeffs) (a ∷ amounts) (suc i) below = omega (arith, ints, form_suc coeffs amounts i (omega arith))

-- the form with one more amount
form_more : (coeffs amounts : List ℤ) (i : ℕ) → i < length amounts
    → form coeffs (take (i + 1) amounts) ≡ form coeffs (take i amounts) +ℤ (get_or coeffs i (pos 0) *ℤ get_or amounts i (pos 0))
form_more coeffs amounts i below = rw add-one (form_suc coeffs amounts i below)

-- amounts past the coefficients add nothing
form_past : (coeffs amounts : List ℤ) (n : ℕ) → min (length amounts) (length coeffs) ≤ n → form coeffs (take n amounts) ≡ form coeffs amounts
form_past [] amounts n past = refl
form_past (c ∷ coeffs) [] zero past = refl
form_past (c ∷ coeffs) [] (suc n) past = refl
form_past (c ∷ coeffs) (d ∷ amounts) zero past = absurd (omega arith)
form_past (c ∷ coeffs) (d ∷ amounts) (suc n) past = ap (λ (z : ℤ). (c *ℤ d) +ℤ z) (form_past coeffs amounts n (omega arith))

-- a column whose amount is zero is not listed
pub listed_past : (amounts : List ℤ) (columns : List ℕ) (i : ℕ) (amount : ℤ) → i < length amounts → amount ≡ get_or amounts i amount → amount ≡ pos 0
    → SumsTo amounts columns (take i amounts) → SumsTo amounts columns (take (i + 1) amounts)
listed_past amounts columns i amount below is none are coeffs few =
    let there : pos 0 ≡ get_or amounts i (pos 0) = subst (λ (z : ℤ). z ≡ get_or amounts i z) none is in
    omega (arith, ints, are coeffs few, form_more coeffs amounts i below, ap (λ (z : ℤ). get_or coeffs i (pos 0) *ℤ z) there, *ℤ-zero (get_or coeffs i (pos 0)))

-- any other column is listed
pub listed_more : (amounts : List ℤ) (columns : List ℕ) (count i : ℕ) → i < length amounts → count < length columns
    → SumsTo amounts (take count columns) (take i amounts) → SumsTo amounts (take (count + 1) (set columns count i)) (take (i + 1) amounts)
listed_more amounts columns count i below room are coeffs few =
    ap (fold (with_column coeffs amounts) (pos 0)) (take_more_set columns count i room) ∙ fold-append (with_column coeffs amounts) (pos 0) (take count columns) (i ∷ [])
    ∙ ap (λ (z : ℤ). z +ℤ (get_or coeffs i (pos 0) *ℤ get_or amounts i (pos 0))) (are coeffs few) ∙ sym (form_more coeffs amounts i below)

-- all columns that a check may have a coefficient for were looked at
pub listed_all : (amounts : List ℤ) (columns : List ℕ) (n : ℕ) → min (length amounts) MAX_LEN ≤ n → SumsTo amounts columns (take n amounts) → AreListed amounts columns
listed_all amounts columns n past are coeffs few = are coeffs few ∙ form_past coeffs amounts n (omega arith)
