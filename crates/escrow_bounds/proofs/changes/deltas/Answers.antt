use Rattle.std.proofs.Common.{◌<◌, pos, unwrap_or, length, ◌∙◌, arith}
use Rattle.std.proofs.lemmas.List.{length-set, take_more_set}
use Rattle.escrow_bounds.proofs.Moving.{counted_push}
use Rattle.escrow_bounds.proofs.changes.deltas.Goals as goal

pub loop-i-preserved : goal.loop-i-preserved
loop-i-preserved c =
    let i = c.loop-i.i in
    let few = c.loop-i.invariant.few in
    let below : i < length c.loop-i.amounts = omega (arith, c.loop-i-test.true, c.loop-i.invariant.long, few) in
    record {
      few = few;
      long = length-set c.loop-i.amounts i _ ∙ c.loop-i.invariant.long;
      done = rw c.unwrap_or.ensures (take_more_set c.loop-i.amounts i (unwrap_or c.index-changes-i.result (pos 0)) below
          ∙ counted_push c.args.changes.now i c.index-changes-i.result _ c.loop-i-test.true c.index-changes-i.is c.loop-i.invariant.done);
    }
