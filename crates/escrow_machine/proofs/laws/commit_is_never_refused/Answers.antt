use Rattle.escrow_machine.proofs.LawsSteps.{commit_answers}
use Rattle.escrow_machine.proofs.laws.commit_is_never_refused.Goals as goal

pub returns : goal.returns
returns c = commit_answers
