-- Names that are distinct, by the test and as a fact.
use Rattle.std.proofs.Common.{◌≡◌, ℕ, zero, suc, ◌<◌, true, false, true≢false, not, bytes_eq, Some, List, [], ◌∷◌, slice_get, sym, ap, subst, ◌∙◌, refl, arith, inl, inr}
use Rattle.std.specs.List.{AllByRecursion, IsDistinct, list_any}
use Rattle.std.proofs.lemmas.Bool.{and_cases, and_from, and_left, and_parts, and_right, cases_lt, not-false, not-true, not_from_false, not_from_true, or_from, or_parts}
use Rattle.std.proofs.lemmas.Bool.Decides.{same_from_decides}
use Rattle.std.proofs.lemmas.Map.Keys.{any_passes_from_place}
use Rattle.std.proofs.lemmas.Option.{none-some, same_Some}
use Rattle.std.proofs.lemmas.Slice.Eq.{bytes_eq-Decides}
use Rattle.escrow_schema.specs.Definition.{are_distinct}
use Rattle.escrow_schema.proofs.ListLemmas.{some_passes}

-- a name equals itself
pub same_name : (name : List ℕ) → bytes_eq name name ≡ true
same_name name = (bytes_eq-Decides name name).1 refl

-- comparing two names is symmetric
pub either_order : (a b : List ℕ) → bytes_eq a b ≡ bytes_eq b a
either_order a b =
    same_from_decides (bytes_eq a b) (bytes_eq b a) (bytes_eq-Decides a b) (λ e. sym ((bytes_eq-Decides b a).0 e), λ e. (bytes_eq-Decides b a).1 (sym e))

-- no other name equals the first one
pub first_apart : (name : List ℕ) (names : List (List ℕ)) → are_distinct (name ∷ names) ≡ true → (list_any (λ other. bytes_eq name other) names ≡ false) × (are_distinct names ≡ true)
first_apart name names apart =
    let parts = and_parts (not (list_any (λ other. bytes_eq name other) names)) (are_distinct names) apart in
    (not-true (list_any (λ other. bytes_eq name other) names) parts.0, parts.1)

-- names that pass the test are distinct
apart_from : (name : List ℕ) (names : List (List ℕ)) → list_any (λ other. bytes_eq name other) names ≡ false → AllByRecursion (λ other. bytes_eq name other ≡ false) names
apart_from name [] e = tt
apart_from name (other ∷ names) e = let parts = or_parts (bytes_eq name other) (list_any (λ other. bytes_eq name other) names) e in (parts.0, apart_from name names parts.1)

pub distinct_from : (names : List (List ℕ)) → are_distinct names ≡ true → IsDistinct bytes_eq names
unfolding IsDistinct
distinct_from [] e = tt
distinct_from (name ∷ names) e = let parts = first_apart name names e in (apart_from name names parts.0, distinct_from names parts.1)

-- distinct names pass the test
are_apart : (name : List ℕ) (names : List (List ℕ)) → AllByRecursion (λ other. bytes_eq name other ≡ false) names → list_any (λ other. bytes_eq name other) names ≡ false
are_apart name [] h = refl
are_apart name (other ∷ names) h = or_from (bytes_eq name other) (list_any (λ other. bytes_eq name other) names) h.0 (are_apart name names h.1)

pub distinct_back : (names : List (List ℕ)) → IsDistinct bytes_eq names → are_distinct names ≡ true
unfolding IsDistinct
distinct_back [] h = refl
distinct_back (name ∷ names) h =
    and_from (not (list_any (λ other. bytes_eq name other) names)) (are_distinct names)
    (not_from_false (list_any (λ other. bytes_eq name other) names) (are_apart name names h.0)) (distinct_back names h.1)

-- if a name is at two indices, the names are not distinct
pub not_apart : (names : List (List ℕ)) (i k : ℕ) (name : List ℕ) → i < k → slice_get names i ≡ Some name → slice_get names k ≡ Some name → are_distinct names ≡ false
not_apart [] i k name below at there = absurd (none-some name at)
not_apart (n ∷ names) zero zero name below at there = absurd (omega arith)
not_apart (n ∷ names) zero (suc k) name below at there =
    let same : bytes_eq n name ≡ true = subst (λ (x : List ℕ). bytes_eq n x ≡ true) (same_Some n name at) (same_name n) in
    and_left (not (list_any (λ other. bytes_eq n other) names)) (are_distinct names)
    (not_from_true (list_any (λ other. bytes_eq n other) names) (any_passes_from_place (λ other. bytes_eq n other) names k name there same))
not_apart (n ∷ names) (suc i) zero name below at there = absurd (omega arith)
not_apart (n ∷ names) (suc i) (suc k) name below at there =
    and_right (not (list_any (λ other. bytes_eq n other) names)) (are_distinct names) (not_apart names i k name (omega arith) at there)

-- if names are not distinct, one is at two indices
pub two_places : (names : List (List ℕ)) → are_distinct names ≡ false
    → (i : ℕ) × (k : ℕ) × (name : List ℕ) × (i < k) × (slice_get names i ≡ Some name) × (slice_get names k ≡ Some name)
two_places [] e = absurd (true≢false e)
two_places (n ∷ names) e =
    elim (and_cases (not (list_any (λ other. bytes_eq n other) names)) (are_distinct names) e) [
      | inl again ↦ (let found = some_passes (λ other. bytes_eq n other) names (not-false (list_any (λ other. bytes_eq n other) names) again) in
          let same : n ≡ found.0 = (bytes_eq-Decides n found.0).0 found.3 in
          (0, suc found.1, n, (omega arith), refl, found.2 ∙ ap (λ (x : List ℕ). Some x) (sym same)))
      | inr later ↦ (let found = two_places names later in
          let below : found.0 < found.1 = found.3 in
          (suc found.0, suc found.1, found.2, (omega arith), found.4, found.5))
    ]

-- each of distinct names is at one index
pub one_place : (names : List (List ℕ)) → are_distinct names ≡ true → (i k : ℕ) (name : List ℕ) → slice_get names i ≡ Some name → slice_get names k ≡ Some name → i ≡ k
one_place names apart i k name at there =
    elim (cases_lt i k) [
      | inl below ↦ absurd (true≢false (sym apart ∙ not_apart names i k name below at there))
      | inr up_to ↦ elim (cases_lt k i) [
        | inl below ↦ absurd (true≢false (sym apart ∙ not_apart names k i name below there at))
        | inr other ↦ omega arith
      ]
    ]
