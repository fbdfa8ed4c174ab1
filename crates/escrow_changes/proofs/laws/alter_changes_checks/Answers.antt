use Rattle.escrow_changes.proofs.Altered.{alter_changes_checks}
use Rattle.escrow_changes.proofs.laws.alter_changes_checks.Goals as goal

pub returns : goal.returns
returns c = alter_changes_checks
