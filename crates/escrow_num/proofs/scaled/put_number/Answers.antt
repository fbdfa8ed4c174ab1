use Rattle.std.proofs.Common.{arith}
use Rattle.escrow_num.proofs.ScaledLemmas.{has_place, digit_written}
use Rattle.escrow_num.proofs.scaled.put_number.Goals as goal

pub put-at-requires : goal.put-at-requires
put-at-requires c = (has_place c.loop-rest.invariant (omega arith), omega arith)

pub loop-rest-preserved : goal.loop-rest-preserved
loop-rest-preserved c = digit_written c.loop-rest.invariant (omega arith) (omega arith) c.put-at.ensures.start c.put-at.ensures.written
