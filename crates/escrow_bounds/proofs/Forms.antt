-- The forms of a place when one reservation more or less is counted.
use Rattle.std.proofs.Common.{◌≡◌, ℕ, zero, suc, ◌+◌, ℤ, ◌<◌, true, false, Option, Some, None, List, [], ◌∷◌, ◌++◌, length, get_or, drop, map, refl, sym, ap, ap₂, ◌∙◌, subst, arith, add-one, drop-cons}
use Rattle.std.specs.List.{AllByRecursion}
use Rattle.std.specs.Prelude.{is_some, slice_get}
use Rattle.std.proofs.lemmas.List.{get_or-map}
use Rattle.std.proofs.lemmas.Simd.{map-map}
use Rattle.escrow_num.specs.declared.refusal.Violation.{Violation}
use Rattle.escrow_num.proofs.Items.{all_at}
use Rattle.escrow_checks.specs.declared.check.Check.{Check}
use Rattle.escrow_checks.specs.Form.{form as form_of, IsCovered}
use Rattle.escrow_checks.specs.Grant.{broken_by, broken}
use Rattle.escrow_checks.specs.Spread.{IsSpread}
use Rattle.escrow_bounds.specs.Counts.{HaveSums}
use Rattle.escrow_bounds.specs.Place.{checks_of, Tracked}
use Rattle.escrow_bounds.specs.Recounting.{counted_before, counted_after, AreRecounted}
use Rattle.escrow_bounds.specs.declared.sums.Counting.{Counting}
use Rattle.escrow_bounds.proofs.Steps.{AllStepped}

-- ---- one form

-- the check stays, and one reservation more or less is counted
abbrev pub Recount : Counting → List ℤ → Tracked → Tracked → Type 0
Recount kind changes old new =
    (new.check ≡ old.check)
    × ((before after : List (List ℤ)) → IsSpread old.check.coeffs (counted_before kind before changes after) old.spread → IsSpread old.check.coeffs (counted_after kind before changes after) new.spread)

-- if all forms have their sums, so has the form at a place
pub sums_at : (forms : List Tracked) (reservations : List (List ℤ)) (place : ℕ) (form : Tracked) → place < length forms → form ≡ get_or forms place form → HaveSums forms reservations
    → IsSpread form.check.coeffs reservations form.spread
sums_at forms reservations place form below at sums =
    all_at (λ (other : Tracked). IsSpread other.check.coeffs reservations other.spread) forms place form below at sums

-- ---- all forms

checks_same : (Step : Tracked → Tracked → Type 0) → ((x y : Tracked) → Step x y → y.check ≡ x.check) → (old new : List Tracked) → AllStepped Step old new → checks_of new ≡ checks_of old
checks_same Step is [] [] all = refl
checks_same Step is [] (y ∷ ys) all = absurd all
checks_same Step is (x ∷ xs) [] all = absurd all
checks_same Step is (x ∷ xs) (y ∷ ys) all = ap₂ (λ (c : Check) (cs : List Check). c ∷ cs) (is x y all.0) (checks_same Step is xs ys all.1)

sums_after : (Step : Tracked → Tracked → Type 0) (reservations after : List (List ℤ))
    → ((x y : Tracked) → Step x y → IsSpread x.check.coeffs reservations x.spread → IsSpread y.check.coeffs after y.spread)
    → (old new : List Tracked) → AllStepped Step old new → HaveSums old reservations → HaveSums new after
sums_after Step reservations after is [] [] all sums = tt
sums_after Step reservations after is [] (y ∷ ys) all sums = absurd all
sums_after Step reservations after is (x ∷ xs) [] all sums = absurd all
sums_after Step reservations after is (x ∷ xs) (y ∷ ys) all sums = (is x y all.0 sums.0, sums_after Step reservations after is xs ys all.1 sums.1)

pub are_recounted : (kind : Counting) (changes : List ℤ) (old new : List Tracked) → AllStepped (Recount kind changes) old new → AreRecounted kind changes old new
are_recounted kind changes old new all = (
  checks_same (Recount kind changes) (λ x y step. step.0) old new all,
  λ before after sums.
      let reservations = counted_after kind before changes after in
      sums_after (Recount kind changes) (counted_before kind before changes after) reservations
      (λ x y step known. subst (λ (check : Check). IsSpread check.coeffs reservations y.spread) (sym step.0) (step.1 before after known)) old new all sums,
)

-- ---- one more form

pub sums_push : (forms : List Tracked) (reservations : List (List ℤ)) (form : Tracked) → HaveSums forms reservations → IsSpread form.check.coeffs reservations form.spread
    → HaveSums (forms ++ form ∷ []) reservations
sums_push [] reservations form sums is = (is, tt)
sums_push (first ∷ forms) reservations form sums is = (sums.0, sums_push forms reservations form sums.1 is)

-- ---- the check of the form at a place

pub check_at : (forms : List Tracked) (place : ℕ) (form : Tracked) → place < length forms → form ≡ get_or forms place form → slice_get (checks_of forms) place ≡ Some form.check
check_at [] place form below at = absurd (omega arith)
check_at (first ∷ forms) zero form below at = ap (λ (f : Tracked). Some f.check) (sym at)
check_at (first ∷ forms) (suc place) form below at = check_at forms place form (omega arith) at

pub covered_at : (forms : List Tracked) (amounts : List ℤ) (place : ℕ) (form : Tracked) → place < length forms → form ≡ get_or forms place form
    → AllByRecursion (λ (check : Check). IsCovered check.coeffs amounts) (checks_of forms) → IsCovered form.check.coeffs amounts
covered_at [] amounts place form below at all = absurd (omega arith)
covered_at (first ∷ forms) amounts zero form below at all = subst (λ (f : Tracked). IsCovered f.check.coeffs amounts) (sym at) all.0
covered_at (first ∷ forms) amounts (suc place) form below at all = covered_at forms amounts place form (omega arith) at all.1

-- ---- the verdict, form by form

-- the first broken check from a place on is the check there, or a later one
pub broken_here : (forms : List Tracked) (place : ℕ) (form : Tracked) (amounts changes : List ℤ) (reservations : List (List ℤ)) (found : Option Violation)
    → place < length forms → form ≡ get_or forms place form → found ≡ broken_by form.check amounts changes reservations → is_some found ≡ true
    → found ≡ broken (checks_of (drop place forms)) amounts changes reservations
broken_here forms place form amounts changes reservations None below at is some = absurd (cc)
broken_here forms place form amounts changes reservations (Some violation) below at is some =
    rw (drop-cons forms place form, ← at, ← is) refl

pub broken_past : (forms : List Tracked) (place : ℕ) (form : Tracked) (amounts changes : List ℤ) (reservations : List (List ℤ)) (found : Option Violation)
    → place < length forms → form ≡ get_or forms place form → found ≡ broken_by form.check amounts changes reservations → is_some found ≡ false
    → broken (checks_of (drop (place + 1) forms)) amounts changes reservations ≡ broken (checks_of (drop place forms)) amounts changes reservations
broken_past forms place form amounts changes reservations (Some violation) below at is none = absurd (cc)
broken_past forms place form amounts changes reservations None below at is none =
    rw (drop-cons forms place form, ← at, ← is, add-one) refl

-- ---- the values of forms at amounts

-- the value of each check's form
abbrev pub values_at : List ℤ → List Check → List ℤ
values_at amounts checks = map (λ (check : Check). form_of check.coeffs amounts) checks

-- the value at a place is that of the form there
pub value_at : (forms : List Tracked) (amounts values : List ℤ) (place : ℕ) (form : Tracked) (value : ℤ) → place < length forms → form ≡ get_or forms place form
    → value ≡ get_or values place value → values ≡ values_at amounts (checks_of forms) → value ≡ form_of form.check.coeffs amounts
value_at forms amounts values place form value below at read are =
    let value_of : Check → ℤ = λ check. form_of check.coeffs amounts in
    read ∙ ap (λ (vs : List ℤ). get_or vs place value) (are ∙ map-map value_of (λ (f : Tracked). f.check) forms)
    ∙ get_or-map (λ (f : Tracked). value_of f.check) forms place form value below ∙ ap (λ (f : Tracked). value_of f.check) (sym at)
