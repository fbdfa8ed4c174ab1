use Rattle.std.proofs.Common.{◌+◌, ◌++◌, drop, arith}
use Rattle.escrow_bounds.proofs.Ending.{next_counted, ended_none, ended_next, ended_last, counted_last}
use Rattle.escrow_bounds.proofs.bounds.Bounds.remove_all.Goals as goal

pub loop-r-init : goal.loop-r-init
loop-r-init c = record {
  counts = λ rest counts. counts;
  ends = ended_none c.args.end c.args.self.now;
  counting = λ all. all;
}

pub remove_one-requires-clause-counted : goal.remove_one-requires-clause-counted
remove_one-requires-clause-counted c =
    let ended = c.args.reservations.now in
    let i = c.loop-r.r-index in
    let rest = c.requires.counted.0 in
    (drop (i + 1) ended ++ rest, next_counted c.loop-r.self ended rest i c.r-item.result c.loop-r-test.true c.r-item.is (c.loop-r.invariant.counts rest c.requires.counted.1))

pub loop-r-preserved : goal.loop-r-preserved
loop-r-preserved c =
    let ended = c.args.reservations.now in
    let i = c.loop-r.r-index in
    let r = c.r-item.result in
    record {
      counts = λ rest counts. c.remove_one.ensures.counts (drop (i + 1) ended ++ rest) (next_counted c.loop-r.self ended rest i r c.loop-r-test.true c.r-item.is (c.loop-r.invariant.counts rest counts));
      ends = ended_next c.args.end c.args.self.now c.loop-r.self c.remove_one.new.self ended i r c.loop-r-test.true c.r-item.is c.loop-r.invariant.ends c.remove_one.ensures.ends;
      counting = λ all. c.remove_one.ensures.counting (c.loop-r.invariant.counting all);
    }

pub returns-clause-counts : goal.returns-clause-counts
returns-clause-counts c = λ rest counts.
    counted_last c.loop-r.self c.args.reservations.now rest c.loop-r.r-index (omega (arith, c.loop-r-test.false)) (c.loop-r.invariant.counts rest counts)

pub returns-clause-ends : goal.returns-clause-ends
returns-clause-ends c = ended_last c.args.end c.args.self.now c.loop-r.self c.args.reservations.now c.loop-r.r-index (omega (arith, c.loop-r-test.false)) c.loop-r.invariant.ends
