use Rattle.std.proofs.Common.{◌≡◌, ◌≤◌, ◌+◌, ◌∷◌, [], ℕ, List, length, drop, arith, refl, subst}
use Rattle.std.proofs.lemmas.List.{take_all}
use Rattle.sqlite.specs.Held.{state}
use Rattle.escrow_num.specs.declared.session.End.{End}
use Rattle.escrow_machine.specs.Settle.{after_ends}
use Rattle.escrow_machine.proofs.Settling.{counts_end, counts_fit, counts_next, ends_next, stops}
use Rattle.escrow_core.specs.Ends.{left_after}
use Rattle.escrow_core.proofs.Ending.{ends_survive}
use Rattle.escrow_core.proofs.Lasting.{entry_fails, entry_lasts, lasts_end, lasts_stop, one_part, part_lasts}
use Rattle.escrow_core.proofs.Parts.{left_more}
use Rattle.escrow_core.proofs.Serving.{still_clean}
use Rattle.escrow_core.proofs.database.Database.settle_each.Goals as goal

pub add-requires : goal.add-requires
add-requires g c =
    let plan = c.args.plan.now in
    let entry = c.index-plan-place.result in
    let so_far = c.loop-place in
    counts_fit c.args.self.now.state plan (drop so_far.place plan) so_far.self.state.reservations so_far.settled entry.0 c.in-Ok.count c.next_id.ensures.kept.orderly so_far.invariant.counts c.in-Ok.ensures.count

pub returns-in-Err : goal.returns-in-Err
returns-in-Err g c =
    let so_far = c.loop-place in
    record {
      ok = λ _. tt;
      counts = tt;
      left = tt;
      stays = λ _. tt;
      stop = λ clean.
          let before = so_far.invariant.ended (still_clean _ _ _ c.finish.ensures.crash clean) in
          stops c.args.plan.now (record { place = so_far.place; cause = c.in-Err.cause }) c.index-plan-place.result c.args.self.now.state so_far.self.state c.finish.new.self.state
          c.loop-place-test.true c.index-plan-place.is before c.in-Err.ensures.failed c.in-Err.ensures.commit c.in-Err.ensures.held;
      within = c.loop-place-test.true;
      usable = λ still. so_far.invariant.usable (c.finish.ensures.usable still);
      crash =
          ends_survive (state g.S.Store c.args.self.now.store) (state g.S.Store so_far.self.store) (state g.S.Store c.finish.new.self.store) c.args.plan.now so_far.place c.index-plan-place.result
          c.args.self.now.state so_far.self.state c.loop-place-test.true c.index-plan-place.is so_far.invariant.ended so_far.invariant.usable so_far.invariant.crash c.finish.ensures.crash;
      durable =
          let plan = c.args.plan.now in
          let entry = c.index-plan-place.result in
          let old = state g.S.Store c.args.self.now.store in
          let mid = state g.S.Store so_far.self.store in
          let new = state g.S.Store c.finish.new.self.store in
          lasts_stop old new plan so_far.place c.args.self.now.state (omega (arith, c.loop-place-test.true))
          (part_lasts old mid new plan so_far.place (entry ∷ []) 0 so_far.place c.args.self.now.state so_far.self.state (one_part plan so_far.place entry c.loop-place-test.true c.index-plan-place.is) (omega arith) (omega arith)
          so_far.invariant.ended (still_clean _ _ _ c.finish.ensures.crash) so_far.invariant.lasts (entry_fails mid new entry so_far.self.state c.finish.ensures.crash));
    }

pub loop-place-preserved : goal.loop-place-preserved
loop-place-preserved g c =
    let plan = c.args.plan.now in
    let s = c.args.self.now.state in
    let entry = c.index-plan-place.result in
    let so_far = c.loop-place in
    let new = c.finish.new.self.state in
    record {
      left = left_more plan so_far.place entry s.reservations so_far.self.state.reservations new.reservations c.loop-place-test.true c.index-plan-place.is so_far.invariant.left c.in-Ok.ensures.left;
      stays = λ clean was_open.
          c.in-Ok.ensures.stays clean (so_far.invariant.stays (still_clean _ _ _ c.finish.ensures.crash clean) was_open);
      usable = λ still. so_far.invariant.usable (c.finish.ensures.usable still);
      crash =
          ends_survive (state g.S.Store c.args.self.now.store) (state g.S.Store so_far.self.store) (state g.S.Store c.finish.new.self.store) plan so_far.place entry s so_far.self.state
          c.loop-place-test.true c.index-plan-place.is so_far.invariant.ended so_far.invariant.usable so_far.invariant.crash c.finish.ensures.crash;
      ended = λ clean.
          ends_next plan so_far.place entry s so_far.self.state new c.loop-place-test.true c.index-plan-place.is
          (so_far.invariant.ended (still_clean _ _ _ c.finish.ensures.crash clean)) (c.in-Ok.ensures.done clean);
      lasts =
          let old = state g.S.Store c.args.self.now.store in
          let mid = state g.S.Store so_far.self.store in
          let at = state g.S.Store c.finish.new.self.store in
          part_lasts old mid at plan so_far.place (entry ∷ []) 1 (so_far.place + 1) s so_far.self.state (one_part plan so_far.place entry c.loop-place-test.true c.index-plan-place.is) (omega arith) refl
          so_far.invariant.ended (still_clean _ _ _ c.finish.ensures.crash) so_far.invariant.lasts (entry_lasts mid at entry so_far.self.state new c.in-Ok.ensures.done c.in-Ok.ensures.durable);
      counts = rw c.add.ensures
          (counts_next plan s.reservations so_far.place entry so_far.self.state.reservations new.reservations so_far.settled c.in-Ok.count
          c.loop-place-test.true c.index-plan-place.is c.in-Ok.ensures.count c.in-Ok.ensures.left so_far.invariant.counts);
    }

pub returns : goal.returns
returns g c =
    let plan = c.args.plan.now in
    let s = c.args.self.now.state in
    let so_far = c.loop-place in
    let past : length plan ≤ so_far.place = omega (arith, c.loop-place-test.false) in
    let all = take_all so_far.place plan past in
    record {
      ok = λ clean. subst (λ (p : List (ℕ × End)). so_far.self.state ≡ after_ends s p) all (so_far.invariant.ended clean);
      counts = counts_end plan s.reservations so_far.place so_far.self.state.reservations so_far.settled past so_far.invariant.counts;
      left = subst (λ (p : List (ℕ × End)). so_far.self.state.reservations ≡ left_after p s.reservations) all so_far.invariant.left;
      stays = so_far.invariant.stays;
      stop = λ _. tt;
      within = tt;
      usable = so_far.invariant.usable;
      crash = so_far.invariant.crash;
      durable = lasts_end (state g.S.Store c.args.self.now.store) (state g.S.Store so_far.self.store) plan so_far.place s past so_far.invariant.lasts;
    }
