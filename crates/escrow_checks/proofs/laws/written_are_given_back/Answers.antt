use Rattle.escrow_checks.proofs.ScaledLemmas.{written_are_given_back}
use Rattle.escrow_checks.proofs.laws.written_are_given_back.Goals as goal

pub returns : goal.returns
returns c = written_are_given_back
