use Rattle.std.proofs.Common.{◌∙◌, ◌≤◌, List, ap, arith, length, map, take}
use Rattle.std.specs.Prelude.{Option, ℤ, [], ◌∷◌, option_map}
use Rattle.std.specs.Borrow.{Bor}
use Rattle.escrow_num.specs.declared.reservation.Reservation.{Reservation}
use Rattle.escrow_num.proofs.Items.{all_at}
use Rattle.escrow_bounds.proofs.Filling.{length-shown, shown_at}
use Rattle.escrow_machine.specs.Walked.{IsShort}
use Rattle.escrow_reserved.specs.Read.{committed_to, read_at}
use Rattle.escrow_reserved.proofs.Reading.{all_committed, next_committed, none_committed, one_committed}
use Rattle.escrow_reserved.proofs.recent.Recent.commit.Goals as goal

-- the reservations that the references refer to
abbrev shown : List (Bor Reservation) → List Reservation
shown reservations = map (λ r. r.now) reservations

pub loop-r-init : goal.loop-r-init
loop-r-init c = λ name. none_committed name (read_at c.args.self.now name)

pub commit_one-requires : goal.commit_one-requires
commit_one-requires c =
    let at = shown_at c.args.reservations.now c.loop-r.r-index c.r-item.result c.loop-r-test.true c.r-item.is in
    all_at IsShort (shown c.args.reservations.now) c.loop-r.r-index c.r-item.result.now at.0 at.1 c.requires

pub loop-r-preserved : goal.loop-r-preserved
loop-r-preserved c = λ name.
    let at = shown_at c.args.reservations.now c.loop-r.r-index c.r-item.result c.loop-r-test.true c.r-item.is in
    let r = c.r-item.result.now in
    one_committed c.loop-r.self c.commit_one.new.self r c.commit_one.ensures.own c.commit_one.ensures.others name
    ∙ ap (option_map (committed_to name (r ∷ []))) (c.loop-r.invariant name)
    ∙ next_committed name (shown c.args.reservations.now) c.loop-r.r-index r (read_at c.args.self.now name) at.0 at.1

pub returns : goal.returns
returns c = λ name.
    let all = shown c.args.reservations.now in
    let past : length all ≤ c.loop-r.r-index = omega (arith, length-shown c.args.reservations.now, c.loop-r-test.false) in
    c.loop-r.invariant name ∙ all_committed name all c.loop-r.r-index (read_at c.args.self.now name) past
