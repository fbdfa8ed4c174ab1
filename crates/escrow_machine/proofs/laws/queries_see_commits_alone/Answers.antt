use Rattle.escrow_machine.proofs.LawsSteps.{queries_see_commits_alone}
use Rattle.escrow_machine.proofs.laws.queries_see_commits_alone.Goals as goal

pub returns : goal.returns
returns c = queries_see_commits_alone
