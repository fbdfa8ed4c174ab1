use Rattle.escrow_num.proofs.ScaledLemmas.{IsWritten}
use Rattle.escrow_num.proofs.scaled.put_number.Given as goal

abbrev pub invariant-loop-rest : goal.invariant-loop-rest
invariant-loop-rest l = IsWritten l.fn.bytes l.fn.number l.fn.end l.bytes l.rest l.at

abbrev pub decreases-loop-rest : goal.decreases-loop-rest
decreases-loop-rest l = l.rest
