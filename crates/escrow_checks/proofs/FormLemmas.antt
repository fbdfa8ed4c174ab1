-- The form is linear.
use Rattle.std.proofs.Common.{◌≡◌, suc, ◌≤◌, ℤ, pos, ◌+ℤ◌, List, [], ◌∷◌, length, refl, ap, ◌∙◌, arith}
use Rattle.std.proofs.lemmas.Int.{ints}
use Rattle.escrow_checks.specs.Form.{form, changed, all_changed}
use Rattle.escrow_checks.proofs.Products.{*ℤ-sum}

-- changes leave the number of amounts
pub length-changed : (amounts changes : List ℤ) → length (changed amounts changes) ≡ length amounts
length-changed [] changes = refl
length-changed (a ∷ rest) [] = refl
length-changed (a ∷ rest) (c ∷ changes) = ap suc (length-changed rest changes)

pub length-all_changed : (amounts : List ℤ) (chosen : List (List ℤ)) → length (all_changed amounts chosen) ≡ length amounts
length-all_changed amounts [] = refl
length-all_changed amounts (changes ∷ chosen) = length-all_changed (changed amounts changes) chosen ∙ length-changed amounts changes

-- the form of no changes
pub form-none : (coeffs : List ℤ) → form coeffs [] ≡ pos 0
form-none [] = refl
form-none (c ∷ cs) = refl

-- the form is linear: it grows by the form of the changes
pub form-changed : (coeffs amounts changes : List ℤ) → length coeffs ≤ length amounts → form coeffs (changed amounts changes) ≡ form coeffs amounts +ℤ form coeffs changes
form-changed [] amounts changes fits = refl
form-changed (c ∷ cs) [] changes fits = absurd (omega arith)
form-changed (c ∷ cs) (a ∷ rest) [] fits = omega (arith, ints)
form-changed (c ∷ cs) (a ∷ rest) (d ∷ changes) fits =
    omega (arith, ints, form-changed cs rest changes (omega arith), *ℤ-sum c a d)
