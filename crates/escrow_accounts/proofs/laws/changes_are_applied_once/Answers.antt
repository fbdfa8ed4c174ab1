use Rattle.escrow_accounts.proofs.Reached.{changes_are_applied_once}
use Rattle.escrow_accounts.proofs.laws.changes_are_applied_once.Goals as goal

pub returns : goal.returns
returns c = changes_are_applied_once
