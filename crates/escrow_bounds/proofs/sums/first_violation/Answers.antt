use Rattle.std.proofs.Common.{◌≡◌, ◌<◌, ℤ, List, length, get_or, map, ap, sym, ◌∙◌, arith}
use Rattle.std.specs.List.{AllByRecursion}
use Rattle.escrow_checks.specs.declared.check.Check.{Check}
use Rattle.escrow_checks.specs.Form.{form, IsCovered}
use Rattle.escrow_checks.specs.Grant.{broken_by}
use Rattle.escrow_bounds.specs.Counts.{HaveSums}
use Rattle.escrow_bounds.specs.Listed.{listed, tracked, all_tracked}
use Rattle.escrow_bounds.specs.Place.{Tracked, checks_of}
use Rattle.escrow_bounds.proofs.Forms.{sums_at, covered_at, value_at, broken_here, broken_past}
use Rattle.escrow_bounds.proofs.Listing.{tracked_at, sum_listed, listed_is, length-tracked}
use Rattle.escrow_bounds.proofs.sums.first_violation.Goals as goal
use Rattle.escrow_bounds.proofs.sums.first_violation.Goals.{After-violation_from-violation}

-- the form at the place
abbrev form_there : (c : After-violation_from-violation) → Tracked
form_there c = tracked c.args.list.now c.index-sums-i.result

is_there : (c : After-violation_from-violation) → tracked c.args.list.now c.index-sums-i.result ≡ get_or (all_tracked c.args.list.now c.args.sums.now) c.loop-i.i (tracked c.args.list.now c.index-sums-i.result)
is_there c = tracked_at c.args.list.now c.args.sums.now c.loop-i.i c.index-sums-i.result c.loop-i-test.true c.index-sums-i.is

below : (c : After-violation_from-violation) → c.loop-i.i < length (all_tracked c.args.list.now c.args.sums.now)
below c = let many = length-tracked c.args.list.now c.args.sums.now in omega (arith, many, c.loop-i-test.true)

-- the violation of the check at the place, if there is one
here : (c : After-violation_from-violation) (amounts : List ℤ) (reservations : List (List ℤ)) → c.args.values.now ≡ map (λ (check : Check). form check.coeffs amounts) (checks_of (all_tracked c.args.list.now c.args.sums.now))
    → AllByRecursion (λ (check : Check). IsCovered check.coeffs amounts) (checks_of (all_tracked c.args.list.now c.args.sums.now)) → HaveSums (all_tracked c.args.list.now c.args.sums.now) reservations
    → c.violation_from-violation.result ≡ broken_by (listed c.args.list.now c.index-sums-i.result.check) amounts c.args.changes.now reservations
here c amounts reservations values covered sums =
    let list = c.args.list.now in
    let forms = all_tracked list c.args.sums.now in
    let form_at = tracked list c.index-sums-i.result in
    let i = c.loop-i.i in
    let within = sum_listed list c.args.sums.now i c.index-sums-i.result c.loop-i-test.true c.index-sums-i.is c.requires.listed in
    let read : c.index-list-sum.result ≡ listed list c.index-sums-i.result.check = listed_is list c.index-sums-i.result.check c.index-list-sum.result within c.index-list-sum.is in
    let value = value_at forms amounts c.args.values.now i form_at c.index-values-i.result (below c) (is_there c) c.index-values-i.is values in
    let fits = covered_at forms amounts i form_at (below c) (is_there c) covered in
    let spread = sums_at forms reservations i form_at (below c) (is_there c) sums in
    (rw read at c.violation_from-violation.ensures) amounts reservations value fits spread
    ∙ ap (λ (changes : List ℤ). broken_by (listed list c.index-sums-i.result.check) amounts changes reservations) c.of-changed.ensures

pub returns-then-is_some : goal.returns-then-is_some
returns-then-is_some c = λ amounts reservations values covered sums.
    let at = (goal.at.returns-then-is_some c).After-violation_from-violation in
    broken_here (all_tracked c.args.list.now c.args.sums.now) c.loop-i.i (form_there at) amounts c.args.changes.now reservations c.violation_from-violation.result (below at) (is_there at) (here at amounts reservations values covered sums) (sym c.is_some.ensures ∙ c.if-is_some.true)
    ∙ c.loop-i.invariant amounts reservations values covered sums

pub loop-i-preserved : goal.loop-i-preserved
loop-i-preserved c = λ amounts reservations values covered sums.
    let at = (goal.at.loop-i-preserved c).After-violation_from-violation in
    broken_past (all_tracked c.args.list.now c.args.sums.now) c.loop-i.i (form_there at) amounts c.args.changes.now reservations c.violation_from-violation.result (below at) (is_there at) (here at amounts reservations values covered sums) (sym c.is_some.ensures ∙ c.if-is_some.false)
    ∙ c.loop-i.invariant amounts reservations values covered sums
