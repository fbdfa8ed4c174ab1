use Rattle.std.proofs.Common.{◌+◌, ◌-◌, ◌<◌, ◌≤◌, refl, arith, drop, length, take, sym, ap, ◌∙◌}
use Rattle.std.proofs.lemmas.List.{drop-drop, length-drop, take_rest}
use Rattle.std.proofs.lemmas.Option.{slice_get_within, slice_get_read}
use Rattle.std.proofs.lemmas.Bool.{ltb-true}
use Rattle.sqlite.specs.Held.{state}
use Rattle.escrow_num.specs.declared.session.End.TheVariants as end
use Rattle.escrow_machine.proofs.Settling.{settled_is_the_run}
use Rattle.escrow_core.proofs.HeldSettling.{left_begins, left_ends, left_stops}
use Rattle.escrow_core.proofs.database.Database.settle_all.Goals as goal

pub loop-stop-init : goal.loop-stop-init
loop-stop-init g c = record {
  within = omega arith;
  len = refl;
  capacity = refl;
  so_far = left_begins (state g.S.Store c.args.self.now.store) c.args.plan.now c.args.places.now c.args.self.now.state c.args.replies.now.items;
}

pub returns-in_default-get-clause-settled : goal.returns-in_default-get-clause-settled
returns-in_default-get-clause-settled g c =
    let plan = c.args.plan.now in
    let places = c.args.places.now in
    let at = c.loop-stop in
    let place = c.in-Err.stop.place in
    left_ends (state g.S.Store c.args.self.now.store) (state g.S.Store at.self.store) (state g.S.Store c.settle.new.self.store) plan places c.args.self.now.state c.args.replies.now.items
    (drop at.done plan) (drop at.done places) at.self.state at.replies.items at.invariant.so_far c.settle.ensures.usable (rw (take_rest plan at.done) at c.settle.ensures.crash) c.settle.new.self.state
    (λ clean.
    let stop = rw (take_rest plan at.done) at (c.in-Err.ensures.stop clean) in
    let within = slice_get_within (drop at.done plan) place (stop.session, end.Commit) stop.entry in
    let none = rw (take_rest places at.done) at c.in_default-get.ensures.lookup in
    let as_long = length-drop at.done plan ∙ ap (λ n. n - at.done) c.requires.pairs ∙ sym (length-drop at.done places) in
    let past : length (drop at.done places) ≤ place = none.3 in
    absurd (omega (arith, within, as_long, past)))
    (λ clean.
    let stop = rw (take_rest plan at.done) at (c.in-Err.ensures.stop clean) in
    let within = slice_get_within (drop at.done plan) place (stop.session, end.Commit) stop.entry in
    let none = rw (take_rest places at.done) at c.in_default-get.ensures.lookup in
    let as_long = length-drop at.done plan ∙ ap (λ n. n - at.done) c.requires.pairs ∙ sym (length-drop at.done places) in
    let past : length (drop at.done places) ≤ place = none.3 in
    absurd (omega (arith, within, as_long, past)))

pub loop-stop-preserved : goal.loop-stop-preserved
loop-stop-preserved g c =
    let plan = c.args.plan.now in
    let places = c.args.places.now in
    let at = c.loop-stop in
    let place = c.in-Err.stop.place in
    let rest = drop at.done plan in
    let left = drop at.done places in
    let some = rw (take_rest places at.done) at c.in-Some.ensures.lookup in
    let below : place < length left = ltb-true place (length left) (sym some.0) in
    let found = slice_get_read left (length left) place c.in-Some.place.now refl below some.1 in
    let fewer = length-drop at.done places in
    record {
      within = omega (arith, below, fewer, c.requires.pairs, at.invariant.within);
      len = c.refuse.ensures.len ∙ at.invariant.len;
      capacity = c.refuse.ensures.capacity ∙ at.invariant.capacity;
      so_far = rw (← drop-drop (place + 1) at.done plan, ← drop-drop (place + 1) at.done places, c.refuse.ensures.items)
          (left_stops (state g.S.Store c.args.self.now.store) (state g.S.Store at.self.store) (state g.S.Store c.settle.new.self.store) plan places c.args.self.now.state c.args.replies.now.items
          rest left at.self.state at.replies.items at.invariant.so_far c.settle.ensures.usable (rw (take_rest plan at.done) at c.settle.ensures.crash)
          place c.in-Some.place.now c.in-Err.stop.cause c.settle.new.self.state
          (length-drop at.done plan ∙ ap (λ n. n - at.done) c.requires.pairs ∙ sym (length-drop at.done places))
          found
          (λ clean. let stop = rw (take_rest plan at.done) at (c.in-Err.ensures.stop clean) in ((stop.session, end.Commit), stop.entry, stop.done ∙ settled_is_the_run at.self.state (take place rest)))
          (rw (take_rest plan at.done) at c.in-Err.ensures.durable));
    }

pub returns-clause-settled : goal.returns-clause-settled
returns-clause-settled g c =
    let plan = c.args.plan.now in
    let places = c.args.places.now in
    let at = c.loop-stop in
    left_ends (state g.S.Store c.args.self.now.store) (state g.S.Store at.self.store) (state g.S.Store c.settle.new.self.store) plan places c.args.self.now.state c.args.replies.now.items
    (drop at.done plan) (drop at.done places) at.self.state at.replies.items at.invariant.so_far c.settle.ensures.usable (rw (take_rest plan at.done) at c.settle.ensures.crash) c.settle.new.self.state
    (λ clean. rw (take_rest plan at.done) at (c.in_default.ensures.ok clean) ∙ settled_is_the_run at.self.state (drop at.done plan))
    (rw (take_rest plan at.done) at c.in_default.ensures.durable)

pub returns-in_default-get-clause-usable : goal.returns-in_default-get-clause-usable
returns-in_default-get-clause-usable g c still = c.loop-stop.invariant.so_far.usable (c.settle.ensures.usable still)

pub returns-clause-usable : goal.returns-clause-usable
returns-clause-usable g c still = c.loop-stop.invariant.so_far.usable (c.settle.ensures.usable still)
