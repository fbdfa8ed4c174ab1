use Rattle.std.proofs.Common.{◌≡◌, ◌<◌, ℤ, List, length, get_or, subst, ◌∙◌, arith}
use Rattle.std.specs.Prelude.{Some, slice_get}
use Rattle.std.proofs.lemmas.Option.{slice_get_within}
use Rattle.escrow_checks.specs.declared.check.Check.{Check}
use Rattle.escrow_checks.specs.Extremes.{least, greatest}
use Rattle.escrow_checks.specs.Form.{IsCovered}
use Rattle.escrow_checks.specs.Spread.{IsSpread}
use Rattle.escrow_bounds.specs.Counts.{Counts}
use Rattle.escrow_bounds.specs.Inside.{place_of}
use Rattle.escrow_bounds.specs.Listed.{listed, tracked, all_tracked}
use Rattle.escrow_bounds.specs.Place.{Place}
use Rattle.escrow_bounds.proofs.Kept.{worst_is}
use Rattle.escrow_bounds.proofs.Listing.{length-tracked, tracked_at, sum_listed, listed_is}
use Rattle.escrow_bounds.proofs.place.Place.worst.Goals as goal

pub returns : goal.returns
returns c = λ form reservations.
    let low = c.extremes.result.0 in
    let high = c.extremes.result.1 in
    let list = c.self.inside.list.value in
    let sums = c.self.inside.sums.items in
    let sum = c.index-sum.result.now in
    let check = c.index-as_slice-sum.result in
    let amounts = c.deref-2.result.now in
    subst (λ (kept : Place). slice_get kept.checks c.args.check ≡ Some form → Counts kept reservations → (low ≡ least form.check.coeffs kept.amounts reservations) × (high ≡ greatest form.check.coeffs kept.amounts reservations))
    c.self.view_is
    (λ at counts.
    let below : c.args.check < length sums = omega (arith, length-tracked list sums, slice_get_within (all_tracked list sums) c.args.check form at) in
    let is = tracked_at list sums c.args.check sum below c.index-sum.ensures in
    let within = sum_listed list sums c.args.check sum below c.index-sum.ensures c.self.invariant.3 in
    let read : check ≡ listed list sum.check = listed_is list sum.check check within (subst (λ (checks : List Check). check ≡ get_or checks sum.check check) (c.as_slice.ensures ∙ c.deref.ensures) c.index-as_slice-sum.is) in
    worst_is (place_of c.self.inside) c.args.check (tracked list sum) form amounts reservations low high c.self.invariant.0 is c.deref-2.ensures.value at counts
    (subst (λ (k : Check). (rs : List (List ℤ)) → IsCovered k.coeffs amounts → IsSpread k.coeffs rs sum.spread → low ≡ least k.coeffs amounts rs) read c.extremes.ensures.least)
    (subst (λ (k : Check). (rs : List (List ℤ)) → IsCovered k.coeffs amounts → IsSpread k.coeffs rs sum.spread → high ≡ greatest k.coeffs amounts rs) read c.extremes.ensures.greatest))
