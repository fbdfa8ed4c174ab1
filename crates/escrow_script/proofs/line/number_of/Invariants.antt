use Rattle.escrow_script.proofs.LineLemmas.{AreRead}
use Rattle.escrow_script.proofs.line.number_of.Given as goal

abbrev pub invariant-loop-digit : goal.invariant-loop-digit
invariant-loop-digit l = AreRead l.digits l.digit-index l.number
