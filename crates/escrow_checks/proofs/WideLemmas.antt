-- No sum of a check exceeds 128 bits.
use Rattle.std.proofs.Common.{◌≡◌, ◌*◌, ◌^◌, ℤ, pos, neg_ℤ, ◌+ℤ◌, ◌≤ℤ◌, List, [], ◌∷◌, length, arith}
use Rattle.std.specs.Prelude.{All}
use Rattle.std.proofs.lemmas.Int.{ints}
use Rattle.std.proofs.lemmas.List.Elements.{All-head, All-tail}
use Rattle.escrow_num.specs.Amount.{IsAmount}
use Rattle.escrow_checks.specs.Coefficients.{AreCoefficients, IsCoefficient}
use Rattle.escrow_checks.specs.Contribution.{IsContribution}
use Rattle.escrow_checks.specs.Extremes.{greatest, least}
use Rattle.escrow_checks.specs.Form.{IsCovered, changed, form}
use Rattle.escrow_checks.specs.Laws.{SumsAreWide}
use Rattle.escrow_checks.specs.Spread.{AreContributions, falls, rises}
use Rattle.escrow_checks.proofs.ExtremesLemmas.{greatest_is, least_is}
use Rattle.escrow_checks.proofs.FormLemmas.{form-changed, length-changed}
use Rattle.escrow_checks.proofs.Products.{product_bound}
use Rattle.escrow_checks.proofs.SpreadLemmas.{falls_within, rises_within}

-- the bound of a form with this number of products
form_bounded : (coeffs amounts : List ℤ) → All IsCoefficient coeffs → All IsAmount amounts
    → (neg_ℤ (pos (10 ^ 27 * length coeffs)) ≤ℤ form coeffs amounts) × (form coeffs amounts ≤ℤ pos (10 ^ 27 * length coeffs))
form_bounded [] amounts are all = (omega (arith, ints), omega (arith, ints))
form_bounded (c ∷ coeffs) [] are all = (omega (arith, ints), omega (arith, ints))
form_bounded (c ∷ coeffs) (a ∷ amounts) are all =
    let first = product_bound c a (All-head IsCoefficient c coeffs are) (All-head IsAmount a amounts all) in
    let rest = form_bounded coeffs amounts (All-tail IsCoefficient c coeffs are) (All-tail IsAmount a amounts all) in
    (omega (arith, ints, first.0, rest.0), omega (arith, ints, first.1, rest.1))

form_within : (coeffs amounts : List ℤ) → AreCoefficients coeffs → All IsAmount amounts → IsContribution (form coeffs amounts)
form_within coeffs amounts are all =
    let bound = form_bounded coeffs amounts are.1 all in
    (omega (arith, ints, bound.0, are.0), omega (arith, ints, bound.1, are.0))

contributions : (coeffs : List ℤ) (reservations : List (List ℤ)) → AreCoefficients coeffs → All (λ listed. All IsAmount listed) reservations → AreContributions coeffs reservations
contributions coeffs [] are all = tt
contributions coeffs (changes ∷ reservations) are all =
    (form_within coeffs changes are (All-head (λ listed. All IsAmount listed) changes reservations all), contributions coeffs reservations are (All-tail (λ listed. All IsAmount listed) changes reservations all))

pub sums_are_wide : SumsAreWide
sums_are_wide coeffs amounts changes reservations are covered all all' every few =
    let first = form_within coeffs amounts are all in
    let added = form_within coeffs changes are all' in
    let each = contributions coeffs reservations are every in
    let low = falls_within coeffs reservations each in
    let high = rises_within coeffs reservations each in
    let covered_new : IsCovered coeffs (changed amounts changes) = omega (arith, length-changed amounts changes, covered) in
    let moved : form coeffs (changed amounts changes) ≡ form coeffs amounts +ℤ form coeffs changes = form-changed coeffs amounts changes covered in
    let least_at : least coeffs (changed amounts changes) reservations ≡ form coeffs (changed amounts changes) +ℤ falls coeffs reservations = least_is coeffs (changed amounts changes) reservations covered_new in
    let greatest_at : greatest coeffs (changed amounts changes) reservations ≡ form coeffs (changed amounts changes) +ℤ rises coeffs reservations = greatest_is coeffs (changed amounts changes) reservations covered_new in (
      (omega (arith, ints, first.0), omega (arith, ints, first.1)),
      (omega (arith, ints, added.0), omega (arith, ints, added.1)),
      (omega (arith, ints, first.0, added.0, low.0, moved, least_at, few), omega (arith, ints, first.1, added.1, low.1, moved, least_at)),
      (omega (arith, ints, first.0, added.0, high.0, moved, greatest_at), omega (arith, ints, first.1, added.1, high.1, moved, greatest_at, few)),
    )
