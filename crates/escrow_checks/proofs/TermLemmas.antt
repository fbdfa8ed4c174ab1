-- Terms one by one: their sums, and the columns that they name.
use Rattle.std.proofs.Common.{◌≡◌, ℕ, ◌+◌, ◌*◌, ◌^◌, ◌<◌, ◌≤◌, Bool, ◌&&◌, ℤ, pos, neg_ℤ, ◌+ℤ◌, ◌≤ℤ◌, to_z, of_z, SFits, List, [], ◌∷◌, ◌++◌, length, drop, get_or, refl, ap, ap₂, ◌∙◌, sym, arith}
use Rattle.std.specs.List.{list_all, flat_map}
use Rattle.std.proofs.lemmas.List.{at_drop_more, at_drop_all}
use Rattle.std.proofs.lemmas.List.Folds.{list_all-append}
use Rattle.std.proofs.lemmas.Grind.{flat_map-append}
use Rattle.std.specs.Int.{w128}
use Rattle.std.specs.Int.RustNames.{unsigned_abs}
use Rattle.std.proofs.lemmas.Int.{ints, to_z-of_z, fits_signed_from_abs}
use Rattle.escrow_num.specs.Amount.{IsAmount}
use Rattle.escrow_statement.specs.declared.statement.Term.{Term}
use Rattle.escrow_checks.specs.Contribution.{IsTermSum}
use Rattle.escrow_checks.specs.Condition.{total}
use Rattle.escrow_checks.specs.Checks.{columns_in}

-- the next term comes before the total of the rest
pub total-next : (worth : Term → ℤ) (terms : List Term) (i : ℕ) (t : Term) → i < length terms → t ≡ get_or terms i t
    → total worth (drop i terms) ≡ worth t +ℤ total worth (drop (i + 1) terms)
total-next worth terms i t below is =
    at_drop_more (total worth) terms i t below ∙ ap (λ (u : Term). worth u +ℤ total worth (drop (i + 1) terms)) (sym is)

-- the sum so far, which with the remaining terms gives the total
abbrev pub IsSumTo : (Term → ℤ) → List Term → ℕ → ℤ → Type 0
IsSumTo worth terms i sum = (sum +ℤ total worth (drop i terms) ≡ total worth terms) × (neg_ℤ (pos (10 ^ 15 * i)) ≤ℤ sum) × (sum ≤ℤ pos (10 ^ 15 * i))

-- adding the next term in 128 bits gives the next sum
pub sum_next : (worth : Term → ℤ) (terms : List Term) (i : ℕ) (t : Term) (held sum w next : ℤ) → i < length terms → t ≡ get_or terms i t → w ≡ worth t → IsAmount w → held ≡ sum → IsTermSum sum → next ≡ sum +ℤ w
    → IsSumTo worth terms i held → IsSumTo worth terms (i + 1) (to_z w128 (of_z w128 next))
sum_next worth terms i t held sum w next below is same within is_held small adds before =
    let size : unsigned_abs next ≤ 10 ^ 15 * 2 ^ 65 = grind (arith, ints, within, small, adds) in
    let fits : SFits w128 next = fits_signed_from_abs w128 next (omega arith) in
    rw (to_z-of_z w128 next fits) (
      omega (arith, ints, before.0, total-next worth terms i t below is),
      omega (arith, ints, before.1, within),
      omega (arith, ints, before.2, within),
    )

-- after the last term, the sum is the total
pub sum_all : (worth : Term → ℤ) (terms : List Term) (i : ℕ) (sum : ℤ) → length terms ≤ i → IsSumTo worth terms i sum → sum ≡ total worth terms
sum_all worth terms i sum past known = omega (arith, ints, at_drop_all (total worth) terms i past, known.0)

-- testing every name in terms, term by term
list_all-columns : (test : List ℕ → Bool) (terms : List Term) → list_all test (flat_map columns_in terms) ≡ list_all (λ term. list_all test (columns_in term)) terms
list_all-columns test [] = refl
list_all-columns test (t ∷ terms) = list_all-append test (columns_in t) (flat_map columns_in terms) ∙ ap (λ b. list_all test (columns_in t) && b) (list_all-columns test terms)

-- the same for the terms on both sides
pub all_columns : (test : List ℕ → Bool) (left right : List Term)
    → list_all test (flat_map columns_in (left ++ right)) ≡ (list_all (λ term. list_all test (columns_in term)) left && list_all (λ term. list_all test (columns_in term)) right)
all_columns test left right =
    ap (list_all test) (flat_map-append columns_in left right)
    ∙ list_all-append test (flat_map columns_in left) (flat_map columns_in right)
    ∙ ap₂ (λ (a b : Bool). a && b) (list_all-columns test left) (list_all-columns test right)
