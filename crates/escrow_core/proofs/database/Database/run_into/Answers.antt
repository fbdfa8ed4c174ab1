use Rattle.std.proofs.Common.{◌≡◌, ◌∙◌, refl, arith, take}
use Rattle.std.proofs.lemmas.List.{take_all, take_more}
use Rattle.sqlite.specs.Held.{state}
use Rattle.sqlite.specs.State.{HasCleanDisk}
use Rattle.escrow_core.proofs.Batches.{batch_places}
use Rattle.escrow_core.proofs.Leaving.{AreServedAll, batch_settles, lasts_behind, left_behind, nothing_left}
use Rattle.escrow_core.proofs.Serving.{still_clean}
use Rattle.escrow_core.proofs.database.Database.run_into.Goals as goal

pub loop-event-init : goal.loop-event-init
loop-event-init g c = record {
  as_many = omega arith;
  capacity = refl;
  batch = rw c.new-held.ensures (nothing_left (state g.S.Store c.args.self.now.store) c.args.self.now.state c.args.replies.now.items);
}

pub serve_next-requires-clause-places : goal.serve_next-requires-clause-places
serve_next-requires-clause-places g c =
    let at = c.loop-event in
    rw at.replies.ok.0
    (batch_places (HasCleanDisk (state g.S.Store at.self.store)) c.args.self.now.state (take at.event-index c.args.events.now) c.args.replies.now.items at.replies.items at.held at.self.state at.invariant.batch.batch)

pub loop-event-preserved : goal.loop-event-preserved
loop-event-preserved g c =
    let events = c.args.events.now in
    let i = c.loop-event.event-index in
    record {
      as_many = omega (arith, c.serve_next.ensures.len, c.loop-event.invariant.as_many);
      capacity = c.serve_next.ensures.capacity ∙ c.loop-event.invariant.capacity;
      batch = rw (take_more events i c.event-item.result c.loop-event-test.true, ← c.event-item.is)
          (c.serve_next.ensures.batch c.args.self.now.store c.args.self.now.state (take i events) c.args.replies.now.items c.loop-event.invariant.batch);
    }

pub settle_all-requires-clause-places : goal.settle_all-requires-clause-places
settle_all-requires-clause-places g c =
    let at = c.loop-event in
    rw (c.places.ensures.value, at.replies.ok.0)
    (batch_places (HasCleanDisk (state g.S.Store at.self.store)) c.args.self.now.state (take at.event-index c.args.events.now) c.args.replies.now.items at.replies.items at.held at.self.state at.invariant.batch.batch)

pub returns : goal.returns
returns g c =
    let at = c.loop-event in
    let events = c.args.events.now in
    let new = c.settle_all.new in
    let all : take at.event-index events ≡ events = take_all at.event-index events (omega (arith, c.loop-event-test.false)) in
    let settled = rw (c.plan.ensures, c.places.ensures.value) at c.settle_all.ensures.settled in
    let it : AreServedAll (state g.S.Store c.args.self.now.store) (state g.S.Store new.self.store) c.args.self.now.state events c.args.replies.now.items new.replies.items new.self.state =
    batch_settles (state g.S.Store c.args.self.now.store) (state g.S.Store at.self.store) (state g.S.Store new.self.store) c.args.self.now.state events c.args.replies.now.items at.replies.items at.held at.self.state
    new.self.state new.replies.items (rw all at at.invariant.batch) c.settle_all.ensures.usable settled in
    let served = it.served in
    record {
      served = (served.answers, served.as_many, served.is_replies, served.ran);
      clean = still_clean _ _ _ it.left;
      capacity = c.settle_all.ensures.capacity ∙ at.invariant.capacity;
      left = rw (← c.self.view_is) c.is_at_rest.ensures.left;
      usable = it.usable;
      durable = lasts_behind (state g.S.Store c.args.self.now.store) (state g.S.Store new.self.store) c.args.self.now.state events c.args.replies.now.items new.replies.items new.self.state it;
      crash = left_behind (state g.S.Store c.args.self.now.store) (state g.S.Store new.self.store) c.args.self.now.state events c.args.replies.now.items new.replies.items new.self.state it;
    }
