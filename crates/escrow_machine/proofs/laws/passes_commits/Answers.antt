use Rattle.escrow_machine.proofs.LawsPass.{passes_commits}
use Rattle.escrow_machine.proofs.laws.passes_commits.Goals as goal

pub returns : goal.returns
returns c = passes_commits
