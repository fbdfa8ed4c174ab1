use Rattle.escrow_machine.proofs.LawsHeld.{held_commits_may_come_last}
use Rattle.escrow_machine.proofs.laws.held_commits_may_come_last.Goals as goal

pub returns : goal.returns
returns c = held_commits_may_come_last
