use Rattle.escrow_schema.proofs.AssignedLemmas.{changes_as_assigned}
use Rattle.escrow_schema.proofs.laws.changes_as_assigned.Goals as goal

pub returns : goal.returns
returns c = changes_as_assigned
