-- When reservations end, or belong to other rows, the sums move inwards.
use Rattle.std.proofs.Common.{◌≡◌, ℤ, pos, ◌+ℤ◌, ◌≤ℤ◌, Bool, true, false, cond, not, List, [], ◌∷◌, ◌++◌, map, filter, None, refl, ap, ◌∙◌, arith}
use Rattle.std.specs.Prelude.{All}
use Rattle.std.proofs.lemmas.Int.{ints, clamps}
use Rattle.std.proofs.lemmas.List.Elements.{All-head, All-tail}
use Rattle.escrow_checks.specs.declared.check.Check.{Check}
use Rattle.escrow_checks.specs.Form.{form, IsCovered, changed, all_changed}
use Rattle.escrow_checks.specs.Spread.{falls, rises}
use Rattle.escrow_checks.specs.Grant.{AlwaysMeets, broken_by}
use Rattle.escrow_checks.proofs.FormLemmas.{form-changed, length-changed, length-all_changed, form-none}
use Rattle.escrow_checks.proofs.SpreadLemmas.{falls-push, rises-push}
use Rattle.escrow_checks.proofs.ReachedLemmas.{le_refl}
use Rattle.escrow_checks.proofs.InsideLemmas.{inside_moves, always_from_sums, sums_from_always}
use Rattle.escrow_checks.proofs.GrantLemmas.{inside_if_granted}

-- the first low value is not below the second, and the first high value not above the second
abbrev pub IsWithin : ℤ → ℤ → ℤ → ℤ → Type 0
IsWithin low' high' low high = (low ≤ℤ low') × (high' ≤ℤ high)

commit_within : {R : Type 0} (coeffs amounts : List ℤ) (changes_of : R → List ℤ) (ends : R → Bool) (reservations : List R) → IsCovered coeffs amounts
    → IsWithin (form coeffs (all_changed amounts (map changes_of (filter ends reservations))) +ℤ falls coeffs (map changes_of (filter (λ r. not (ends r)) reservations)))
    (form coeffs (all_changed amounts (map changes_of (filter ends reservations))) +ℤ rises coeffs (map changes_of (filter (λ r. not (ends r)) reservations)))
    (form coeffs amounts +ℤ falls coeffs (map changes_of reservations)) (form coeffs amounts +ℤ rises coeffs (map changes_of reservations))
commit_within coeffs amounts changes_of ends [] covered = (le_refl _, le_refl _)
commit_within coeffs amounts changes_of ends (r ∷ reservations) covered =
    let with_r = changed amounts (changes_of r) in
    let kept = commit_within coeffs amounts changes_of ends reservations covered in
    let applied = commit_within coeffs with_r changes_of ends reservations (omega (arith, length-changed amounts (changes_of r), covered)) in
    let moved = form-changed coeffs amounts (changes_of r) covered in
    elim (ends r) as (λ b.
    let gone = all_changed amounts (map changes_of (cond b (r ∷ filter ends reservations) (filter ends reservations))) in
    let left = map changes_of (cond (not b) (r ∷ filter (λ q. not (ends q)) reservations) (filter (λ q. not (ends q)) reservations)) in
    IsWithin (form coeffs gone +ℤ falls coeffs left) (form coeffs gone +ℤ rises coeffs left)
    (form coeffs amounts +ℤ falls coeffs (map changes_of (r ∷ reservations))) (form coeffs amounts +ℤ rises coeffs (map changes_of (r ∷ reservations)))) [
      | true ↦ (omega (arith, ints, clamps, applied.0, moved), omega (arith, ints, clamps, applied.1, moved))
      | false ↦ (omega (arith, ints, clamps, kept.0), omega (arith, ints, clamps, kept.1))
    ]

pub any_choice_can_commit : {R : Type 0} (check : Check) (amounts : List ℤ) (changes_of : R → List ℤ) (ends : R → Bool) (reservations : List R)
    → IsCovered check.coeffs amounts
    → AlwaysMeets check amounts (map changes_of reservations)
    → AlwaysMeets check (all_changed amounts (map changes_of (filter ends reservations))) (map changes_of (filter (λ r. not (ends r)) reservations))
any_choice_can_commit check amounts changes_of ends reservations covered always =
    always_from_sums check (all_changed amounts (map changes_of (filter ends reservations))) (map changes_of (filter (λ r. not (ends r)) reservations)) (omega (arith, length-all_changed amounts (map changes_of (filter ends reservations)), covered))
    (let within = commit_within check.coeffs amounts changes_of ends reservations covered in
    inside_moves check.span _ _ _ _ within.0 within.1 (sums_from_always check amounts (map changes_of reservations) covered always))

-- with fewer open reservations, a form falls less and rises less
filter_within : {R : Type 0} (coeffs : List ℤ) (changes_of : R → List ℤ) (stays : R → Bool) (reservations : List R)
    → IsWithin (falls coeffs (map changes_of (filter stays reservations))) (rises coeffs (map changes_of (filter stays reservations)))
    (falls coeffs (map changes_of reservations)) (rises coeffs (map changes_of reservations))
filter_within coeffs changes_of stays [] = (le_refl _, le_refl _)
filter_within coeffs changes_of stays (r ∷ reservations) =
    let rest = filter_within coeffs changes_of stays reservations in
    elim (stays r) as (λ b.
    let left = map changes_of (cond b (r ∷ filter stays reservations) (filter stays reservations)) in
    IsWithin (falls coeffs left) (rises coeffs left) (falls coeffs (map changes_of (r ∷ reservations))) (rises coeffs (map changes_of (r ∷ reservations)))) [
      | true ↦ (omega (arith, ints, clamps, rest.0), omega (arith, ints, clamps, rest.1))
      | false ↦ (omega (arith, ints, clamps, rest.0), omega (arith, ints, clamps, rest.1))
    ]

pub any_choice_can_stay : {R : Type 0} (check : Check) (amounts : List ℤ) (changes_of : R → List ℤ) (stays : R → Bool) (reservations : List R)
    → IsCovered check.coeffs amounts
    → AlwaysMeets check amounts (map changes_of reservations)
    → AlwaysMeets check amounts (map changes_of (filter stays reservations))
any_choice_can_stay check amounts changes_of stays reservations covered always =
    always_from_sums check amounts (map changes_of (filter stays reservations)) covered
    (let within = filter_within check.coeffs changes_of stays reservations in
    inside_moves check.span _ _ _ _ (omega (arith, ints, within.0)) (omega (arith, ints, within.1)) (sums_from_always check amounts (map changes_of reservations) covered always))

-- ---- reservations of other rows

pub other_rows_stay_safe : (check : Check) (amounts : List ℤ) (reservations : List (List ℤ)) → IsCovered check.coeffs amounts
    → AlwaysMeets check amounts reservations → AlwaysMeets check amounts (reservations ++ [] ∷ [])
other_rows_stay_safe check amounts reservations covered always =
    let coeffs = check.coeffs in
    let none = form-none coeffs in
    always_from_sums check amounts (reservations ++ [] ∷ []) covered
    (inside_moves check.span _ _ _ _
    (omega (arith, ints, clamps, falls-push coeffs reservations [], none)) (omega (arith, ints, clamps, rises-push coeffs reservations [], none))
    (sums_from_always check amounts reservations covered always))

-- reservations of other rows add nothing
sums-none : (coeffs : List ℤ) (reservations : List (List ℤ)) → All (λ changes. changes ≡ []) reservations
    → (falls coeffs reservations ≡ pos 0) × (rises coeffs reservations ≡ pos 0)
sums-none coeffs [] all = (refl, refl)
sums-none coeffs (changes ∷ reservations) all =
    let first : changes ≡ [] = All-head (λ changes. changes ≡ []) changes reservations all in
    let none : form coeffs changes ≡ pos 0 = ap (form coeffs) first ∙ form-none coeffs in
    let rest = sums-none coeffs reservations (All-tail (λ changes. changes ≡ []) changes reservations all) in
    (omega (arith, ints, clamps, rest.0, none), omega (arith, ints, clamps, rest.1, none))

pub new_row_is_safe : (check : Check) (amounts : List ℤ) (reservations : List (List ℤ)) → IsCovered check.coeffs amounts
    → broken_by check amounts [] [] ≡ None → All (λ changes. changes ≡ []) reservations → AlwaysMeets check amounts reservations
new_row_is_safe check amounts reservations covered granted all =
    let coeffs = check.coeffs in
    let moved = form-changed coeffs amounts [] covered in
    let none = form-none coeffs in
    let sums = sums-none coeffs reservations all in
    always_from_sums check amounts reservations covered
    (inside_moves check.span _ _ _ _ (omega (arith, ints, sums.0, moved, none)) (omega (arith, ints, sums.1, moved, none)) (inside_if_granted check amounts [] [] granted))
