use Rattle.std.specs.Borrow.{Bor}
use Rattle.std.specs.Prelude.{◌≤◌, IsSome, List, length, map}
use Rattle.std.proofs.Common.{refl, sym, subst, arith}
use Rattle.std.proofs.lemmas.List.{take_all}
use Rattle.escrow_num.specs.declared.reservation.Reservation.{Reservation}
use Rattle.escrow_num.proofs.Items.{all_at}
use Rattle.escrow_bounds.specs.Bounds.{place_at}
use Rattle.escrow_bounds.proofs.Filling.{length-shown, shown_at}
use Rattle.escrow_reserved.specs.Reserved.{AreAmounts}
use Rattle.escrow_reserved.proofs.Counting.{amounts_more}
use Rattle.escrow_reserved.proofs.reserved.Reserved.amounts_of.Goals as goal

-- the reservations that the references refer to
abbrev shown : List (Bor Reservation) → List Reservation
shown reservations = map (λ r. r.now) reservations

pub loop-r-init : goal.loop-r-init
loop-r-init c = rw c.in_ok-all.ensures.items refl

pub amounts_at-requires : goal.amounts_at-requires
amounts_at-requires c =
    let at = shown_at c.args.reservations.now c.loop-r.r-index c.r-item.result c.loop-r-test.true c.r-item.is in
    all_at (λ (r : Reservation). IsSome (place_at c.args.self.now.places r.row)) (shown c.args.reservations.now) c.loop-r.r-index c.r-item.result.now at.0 at.1 c.requires

pub loop-r-preserved : goal.loop-r-preserved
loop-r-preserved c =
    let at = shown_at c.args.reservations.now c.loop-r.r-index c.r-item.result c.loop-r-test.true c.r-item.is in
    rw c.in_ok-push.ensures.items
    (amounts_more (λ amounts. amounts.now) c.args.self.now.places (shown c.args.reservations.now) c.loop-r.all.items c.loop-r.r-index c.r-item.result.now c.amounts_at.result at.0 at.1
    (sym c.amounts_at.ensures) c.loop-r.invariant)

pub returns : goal.returns
returns c =
    let all = shown c.args.reservations.now in
    let past : length all ≤ c.loop-r.r-index = omega (arith, length-shown c.args.reservations.now, c.loop-r-test.false) in
    subst (λ (rs : List Reservation). AreAmounts c.args.self.now.places rs (map (λ amounts. amounts.now) c.loop-r.all.items)) (take_all c.loop-r.r-index all past) c.loop-r.invariant
