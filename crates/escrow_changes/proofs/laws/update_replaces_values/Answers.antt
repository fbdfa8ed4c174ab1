use Rattle.escrow_changes.proofs.Replaced.{update_replaces_values}
use Rattle.escrow_changes.proofs.laws.update_replaces_values.Goals as goal

pub returns : goal.returns
returns c = update_replaces_values
