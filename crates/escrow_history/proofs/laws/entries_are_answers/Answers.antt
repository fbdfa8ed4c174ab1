use Rattle.escrow_history.proofs.NeverFull.{entries_are_answers}
use Rattle.escrow_history.proofs.laws.entries_are_answers.Goals as goal

pub returns : goal.returns
returns c = entries_are_answers
