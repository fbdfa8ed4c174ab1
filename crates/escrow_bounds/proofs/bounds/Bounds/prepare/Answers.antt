use Rattle.std.specs.Borrow.{Bor}
use Rattle.std.proofs.Common.{List, ◌≤◌, length, map, sym, subst, arith}
use Rattle.escrow_num.specs.declared.reservation.Reservation.{Reservation}
use Rattle.escrow_bounds.specs.Altered.{ArePrepared}
use Rattle.escrow_bounds.specs.Bounds.{Bounds}
use Rattle.escrow_bounds.proofs.Filling.{shown_at, length-shown, open_there, filled_room, filled_next, prepared}
use Rattle.escrow_bounds.proofs.bounds.Bounds.prepare.Goals as goal

-- the reservations that the references refer to
abbrev shown : List (Bor Reservation) → List Reservation
shown reservations = map (λ r. r.now) reservations

pub take_over-requires-clause-placed : goal.take_over-requires-clause-placed
take_over-requires-clause-placed c =
    let i = c.loop-r.r-index in
    let at = shown_at c.args.reservations.now i c.r-item.result c.loop-r-test.true c.r-item.is in
    open_there c.args.self.now (shown c.args.reservations.now) i c.r-item.result.now at.0 at.1 c.requires.counting c.requires.counted

pub take_over-requires-clause-room : goal.take_over-requires-clause-room
take_over-requires-clause-room c =
    let held = shown c.args.reservations.now in
    let i = c.loop-r.r-index in
    let at = shown_at c.args.reservations.now i c.r-item.result c.loop-r-test.true c.r-item.is in
    filled_room c.args.table c.args.checks.now held i c.args.self.now c.loop-r.filled c.r-item.result.now at.0 at.1 (c.requires.many c.r-item.result.now.row) c.loop-r.invariant

pub loop-r-preserved : goal.loop-r-preserved
loop-r-preserved c =
    let i = c.loop-r.r-index in
    let at = shown_at c.args.reservations.now i c.r-item.result c.loop-r-test.true c.r-item.is in
    filled_next c.args.table c.args.checks.now (shown c.args.reservations.now) i c.args.self.now c.loop-r.filled c.take_over.new.self c.r-item.result.now at.0 at.1 c.in_ok-take_over.ensures c.loop-r.invariant

pub returns-clause-prepared : goal.returns-clause-prepared
returns-clause-prepared c =
    let held = shown c.args.reservations.now in
    let i = c.loop-r.r-index in
    let past : length held ≤ i = omega (arith, length-shown c.args.reservations.now, c.loop-r-test.false) in
    subst (λ (places : Bounds). ArePrepared c.args.table c.args.checks.now held c.args.self.now places) (sym c.new.ensures)
    (prepared c.args.table c.args.checks.now held i c.args.self.now c.loop-r.filled past c.requires.counted c.requires.counting c.loop-r.invariant)
