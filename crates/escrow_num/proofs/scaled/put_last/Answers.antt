use Rattle.std.proofs.Common.{◌-◌, ◌/◌, ◌++◌, ap, arith, drop, ◌∙◌}
use Rattle.std.proofs.Common.{List, ℕ}
use Rattle.escrow_num.specs.Scaled.{last_digits}
use Rattle.escrow_num.proofs.ScaledLemmas.{digits-moved, none-left, none-written, rest-moved}
use Rattle.escrow_num.proofs.scaled.put_last.Goals as goal

pub loop-left-preserved : goal.loop-left-preserved
loop-left-preserved c = record {
  place = omega arith;
  fewer = omega arith;
  rest = rest-moved c.loop-left.left c.loop-left.rest c.loop-left-test.true ∙ c.loop-left.invariant.rest;
  written =
      ap (λ (ds : List ℕ). last_digits (c.loop-left.left - 1) (c.loop-left.rest / 10) ++ ds) c.put-at.ensures.written ∙
      digits-moved c.loop-left.left c.loop-left.rest (drop c.loop-left.at c.loop-left.bytes) c.loop-left-test.true ∙ c.loop-left.invariant.written;
}

pub returns-clause-rest : goal.returns-clause-rest
returns-clause-rest c = none-left c.loop-left.left c.loop-left.rest _ c.loop-left-test.false c.loop-left.invariant.rest

pub returns-clause-written : goal.returns-clause-written
returns-clause-written c = none-written c.loop-left.left c.loop-left.rest c.loop-left.at (c.args.end - c.args.digits) c.loop-left.bytes _ c.loop-left-test.false (omega arith) c.loop-left.invariant.written
