use Rattle.std.proofs.Common.{◌+◌, ◌-◌, ◌≤◌, arith, drop, le_refl, length, refl, take}
use Rattle.sqlite.specs.Held.{state}
use Rattle.escrow_machine.proofs.Settling.{counts_end, ends_all}
use Rattle.escrow_core.proofs.Lasting.{end_lasts, lasts_end, lasts_stop, part_lasts, stop_lasts}
use Rattle.escrow_core.proofs.Parts.{IsPart, part_counts, part_done, part_fits, part_of, part_stops, part_survives, part_within}
use Rattle.escrow_core.proofs.Serving.{still_clean}
use Rattle.escrow_core.proofs.database.Database.settle.Goals as goal

pub add_all-requires : goal.add_all-requires
add_all-requires g c =
    let plan = c.args.plan.now in
    let s = c.args.self.now.state in
    let so_far = c.loop-place in
    let i = so_far.place in
    let part = take c.part_len.result (take (length plan - i) (drop i plan)) in
    let done = c.in-Ok.done in
    let next =
    part_counts plan s.reservations i part so_far.self.state.reservations c.settle_part.new.self.state.reservations so_far.settled done
    (record { committed = so_far.settled.committed + done.committed; released = so_far.settled.released + done.released })
    (part_of plan i c.part_len.result c.part_len.ensures.within) c.in-Ok.ensures.counts c.in-Ok.ensures.left refl refl so_far.invariant.counts in
    let fits = part_fits s plan (drop (i + length part) plan) c.settle_part.new.self.state.reservations _ c.next_id.ensures.kept.orderly next in
    omega (arith, fits)

pub returns-in-Err-clause-stop : goal.returns-in-Err-clause-stop
returns-in-Err-clause-stop g c = λ clean.
    let plan = c.args.plan.now in
    let so_far = c.loop-place in
    let i = so_far.place in
    part_stops plan i (take c.part_len.result (take (length plan - i) (drop i plan))) c.in-Err.stop.cause c.in-Err.stop c.args.self.now.state so_far.self.state c.settle_part.new.self.state
    (part_of plan i c.part_len.result c.part_len.ensures.within) (so_far.invariant.ended (still_clean _ _ _ c.settle_part.ensures.crash clean)) c.in-Err.ensures.within (c.in-Err.ensures.stop clean)

pub returns-in-Err-clause-crash : goal.returns-in-Err-clause-crash
returns-in-Err-clause-crash g c =
    let plan = c.args.plan.now in
    let so_far = c.loop-place in
    let i = so_far.place in
    part_survives (state g.S.Store c.args.self.now.store) (state g.S.Store so_far.self.store) (state g.S.Store c.settle_part.new.self.store) plan i (take c.part_len.result (take (length plan - i) (drop i plan)))
    c.args.self.now.state so_far.self.state (part_of plan i c.part_len.result c.part_len.ensures.within) so_far.invariant.ended so_far.invariant.usable so_far.invariant.crash c.settle_part.ensures.crash

pub returns-in-Err-clause-durable : goal.returns-in-Err-clause-durable
returns-in-Err-clause-durable g c =
    let plan = c.args.plan.now in
    let so_far = c.loop-place in
    let i = so_far.place in
    let part = take c.part_len.result (take (length plan - i) (drop i plan)) in
    let p : IsPart plan i part = part_of plan i c.part_len.result c.part_len.ensures.within in
    let at = c.in-Err.stop.place in
    let within : at ≤ length part = omega (arith, c.in-Err.ensures.within) in
    let all = part_within plan i part p so_far.invariant.within in
    let old = state g.S.Store c.args.self.now.store in
    let mid = state g.S.Store so_far.self.store in
    let new = state g.S.Store c.settle_part.new.self.store in
    lasts_stop old new plan (i + at) c.args.self.now.state (omega (arith, all, within))
    (part_lasts old mid new plan i part at (i + at) c.args.self.now.state so_far.self.state p within refl so_far.invariant.ended (still_clean _ _ _ c.settle_part.ensures.crash) so_far.invariant.lasts
    (stop_lasts mid new part at so_far.self.state within c.in-Err.ensures.durable))

pub returns-clause-durable : goal.returns-clause-durable
returns-clause-durable g c =
    let plan = c.args.plan.now in
    let so_far = c.loop-place in
    let past : length plan ≤ so_far.place = omega (arith, c.loop-place-test.false) in
    lasts_end (state g.S.Store c.args.self.now.store) (state g.S.Store so_far.self.store) plan so_far.place c.args.self.now.state past so_far.invariant.lasts

pub loop-place-preserved : goal.loop-place-preserved
loop-place-preserved g c =
    let plan = c.args.plan.now in
    let s = c.args.self.now.state in
    let so_far = c.loop-place in
    let i = so_far.place in
    let part = take c.part_len.result (take (length plan - i) (drop i plan)) in
    let p : IsPart plan i part = part_of plan i c.part_len.result c.part_len.ensures.within in
    let new = c.settle_part.new.self in
    record {
      within = part_within plan i part p so_far.invariant.within;
      ended = λ clean. part_done plan i part s so_far.self.state new.state p (so_far.invariant.ended (still_clean _ _ _ c.settle_part.ensures.crash clean)) (c.in-Ok.ensures.ok clean);
      stays = λ clean was_open. c.in-Ok.ensures.stays clean (so_far.invariant.stays (still_clean _ _ _ c.settle_part.ensures.crash clean) was_open);
      usable = λ still. so_far.invariant.usable (c.settle_part.ensures.usable still);
      crash =
          part_survives (state g.S.Store c.args.self.now.store) (state g.S.Store so_far.self.store) (state g.S.Store new.store) plan i part s so_far.self.state p so_far.invariant.ended so_far.invariant.usable
          so_far.invariant.crash c.settle_part.ensures.crash;
      lasts =
          let old = state g.S.Store c.args.self.now.store in
          let mid = state g.S.Store so_far.self.store in
          let at = state g.S.Store new.store in
          part_lasts old mid at plan i part (length part) (i + length part) s so_far.self.state p (le_refl (length part)) refl so_far.invariant.ended (still_clean _ _ _ c.settle_part.ensures.crash) so_far.invariant.lasts
          (end_lasts mid at part so_far.self.state c.in-Ok.ensures.durable);
      counts =
          part_counts plan s.reservations i part so_far.self.state.reservations new.state.reservations so_far.settled c.in-Ok.done c.add_all.new.settled p c.in-Ok.ensures.counts c.in-Ok.ensures.left
          c.add_all.ensures.committed c.add_all.ensures.released so_far.invariant.counts;
    }

pub returns-clause-ok : goal.returns-clause-ok
returns-clause-ok g c = λ clean.
    let plan = c.args.plan.now in
    let so_far = c.loop-place in
    let past : length plan ≤ so_far.place = omega (arith, c.loop-place-test.false) in
    ends_all plan so_far.place c.args.self.now.state so_far.self.state past (so_far.invariant.ended clean)

pub returns-clause-counts : goal.returns-clause-counts
returns-clause-counts g c =
    let plan = c.args.plan.now in
    let so_far = c.loop-place in
    let past : length plan ≤ so_far.place = omega (arith, c.loop-place-test.false) in
    counts_end plan c.args.self.now.state.reservations so_far.place so_far.self.state.reservations so_far.settled past so_far.invariant.counts
