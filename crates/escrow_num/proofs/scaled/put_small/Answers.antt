use Rattle.std.proofs.Common.{ap, arith, drop, length, ◌∙◌}
use Rattle.std.proofs.lemmas.Fmt.{decimal_digit}
use Rattle.escrow_num.proofs.ScaledLemmas.{decimal-last, has_place, digit_written}
use Rattle.escrow_num.proofs.scaled.put_small.Goals as goal

pub put-at-requires : goal.put-at-requires
put-at-requires c = (has_place c.loop-rest.invariant (omega arith), omega arith)

pub loop-rest-preserved : goal.loop-rest-preserved
loop-rest-preserved c = digit_written c.loop-rest.invariant c.loop-rest-test.true (omega arith) c.put-at.ensures.start c.put-at.ensures.written

pub put-requires : goal.put-requires
put-requires c = (has_place c.loop-rest.invariant (omega arith), omega arith)

pub returns-clause-start : goal.returns-clause-start
returns-clause-start c = omega (arith, ap length (decimal_digit c.loop-rest.rest c.loop-rest-test.false))

pub returns-clause-written : goal.returns-clause-written
returns-clause-written c = c.put.ensures.written ∙ decimal-last c.loop-rest.rest (drop c.loop-rest.at c.loop-rest.bytes) c.loop-rest-test.false ∙ c.loop-rest.invariant.written
