use Rattle.escrow_checks.proofs.ConditionLemmas.{mean_the_same}
use Rattle.escrow_checks.proofs.laws.checks_mean_their_texts.Goals as goal

pub returns : goal.returns
returns c = mean_the_same
