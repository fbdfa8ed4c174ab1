-- A row always meets a check exactly if the extremes are within its limits.
use Rattle.std.proofs.Common.{ℤ, ◌+ℤ◌, ◌≤ℤ◌, List, Option, Some, None, arith}
use Rattle.std.specs.Prelude.{IfSome}
use Rattle.std.proofs.lemmas.Int.{ints}
use Rattle.std.proofs.lemmas.List.Elements.{All-contains}
use Rattle.escrow_num.specs.declared.span.Span.{Span}
use Rattle.escrow_checks.specs.declared.check.Check.{Check}
use Rattle.escrow_checks.specs.Form.{form, IsCovered, all_changed}
use Rattle.escrow_checks.specs.Sublists.{sublists}
use Rattle.escrow_checks.specs.Extremes.{least, greatest}
use Rattle.escrow_checks.specs.Spread.{falls, rises}
use Rattle.escrow_checks.specs.Grant.{Meets, AlwaysMeets}
use Rattle.escrow_checks.proofs.ExtremesLemmas.{least_is, greatest_is}
use Rattle.escrow_checks.proofs.ReachedLemmas.{least_below, greatest_above, least_reached, greatest_reached}

-- the limits admit both values
abbrev pub Inside : Span → ℤ → ℤ → Type 0
Inside span low high = IfSome span.lo (λ lo. lo ≤ℤ low) × IfSome span.hi (λ hi. high ≤ℤ hi)

pub raise_low : (o : Option ℤ) (x y : ℤ) → x ≤ℤ y → IfSome o (λ lo. lo ≤ℤ x) → IfSome o (λ lo. lo ≤ℤ y)
raise_low None x y h k = tt
raise_low (Some lo) x y h k = omega (arith, ints)

pub lower_high : (o : Option ℤ) (x y : ℤ) → y ≤ℤ x → IfSome o (λ hi. x ≤ℤ hi) → IfSome o (λ hi. y ≤ℤ hi)
lower_high None x y h k = tt
lower_high (Some hi) x y h k = omega (arith, ints)

pub inside_moves : (span : Span) (low high low' high' : ℤ) → low ≤ℤ low' → high' ≤ℤ high → Inside span low high → Inside span low' high'
inside_moves span low high low' high' up down inside = (raise_low span.lo low low' up inside.0, lower_high span.hi high high' down inside.1)

pub always_from_inside : (check : Check) (amounts : List ℤ) (reservations : List (List ℤ)) → Inside check.span (least check.coeffs amounts reservations) (greatest check.coeffs amounts reservations) → AlwaysMeets check amounts reservations
always_from_inside check amounts reservations inside = λ k d h.
    inside_moves check.span _ _ _ _ (least_below check.coeffs amounts reservations k d h) (greatest_above check.coeffs amounts reservations k d h) inside

pub inside_from_always : (check : Check) (amounts : List ℤ) (reservations : List (List ℤ)) → AlwaysMeets check amounts reservations → Inside check.span (least check.coeffs amounts reservations) (greatest check.coeffs amounts reservations)
inside_from_always check amounts reservations always =
    let low = least_reached check.coeffs amounts reservations in
    let high = greatest_reached check.coeffs amounts reservations in
    let at_low : Meets check (all_changed amounts low.0) = All-contains (λ chosen. Meets check (all_changed amounts chosen)) (sublists reservations) low.0 always low.1 in
    let at_high : Meets check (all_changed amounts high.0) = All-contains (λ chosen. Meets check (all_changed amounts chosen)) (sublists reservations) high.0 always high.1 in
    (raise_low check.span.lo _ _ (omega (arith, ints, low.2)) at_low.0, lower_high check.span.hi _ _ (omega (arith, ints, high.2)) at_high.1)

-- the same from the sums of falls and of rises
pub always_from_sums : (check : Check) (amounts : List ℤ) (reservations : List (List ℤ)) → IsCovered check.coeffs amounts
    → Inside check.span (form check.coeffs amounts +ℤ falls check.coeffs reservations) (form check.coeffs amounts +ℤ rises check.coeffs reservations) → AlwaysMeets check amounts reservations
always_from_sums check amounts reservations covered inside =
    always_from_inside check amounts reservations (rw (least_is check.coeffs amounts reservations covered, greatest_is check.coeffs amounts reservations covered) inside)

pub sums_from_always : (check : Check) (amounts : List ℤ) (reservations : List (List ℤ)) → IsCovered check.coeffs amounts
    → AlwaysMeets check amounts reservations → Inside check.span (form check.coeffs amounts +ℤ falls check.coeffs reservations) (form check.coeffs amounts +ℤ rises check.coeffs reservations)
sums_from_always check amounts reservations covered always =
    let inside = inside_from_always check amounts reservations always in
    rw (least_is check.coeffs amounts reservations covered, greatest_is check.coeffs amounts reservations covered) at inside
