use Rattle.std.proofs.Common.{arith}
use Rattle.escrow_num.proofs.DigitLemmas.{trimmed-less, trimmed-none, trimmed-stays}
use Rattle.escrow_num.proofs.digits.trimmed.Goals as goal
use Rattle.escrow_num.proofs.digits.trimmed.Goals.{then-loop-len-test+else-digits-len-eq48, else-loop-len-test}

pub loop-len-preserved : goal.loop-len-preserved
loop-len-preserved c = record {
  within = omega arith;
  same = trimmed-less c.args.digits.now c.loop-len.len c.loop-len-test.true c.loop-len.invariant.within c.if-digits-len-eq48.true c.loop-len.invariant.same;
}

pub returns : goal.returns
returns c =
    elim c.loop-len-test.branch [
      | then-loop-len-test+else-digits-len-eq48 w ↦ trimmed-stays c.args.digits.now c.loop-len.len w.loop-len-test.true c.loop-len.invariant.within w.if-digits-len-eq48.false c.loop-len.invariant.same
      | else-loop-len-test w ↦ trimmed-none c.args.digits.now c.loop-len.len w.loop-len-test.false c.loop-len.invariant.same
    ]
