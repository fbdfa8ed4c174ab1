use Rattle.escrow_schema.proofs.AssignedLemmas.{new_values_as_assigned}
use Rattle.escrow_schema.proofs.laws.new_values_as_assigned.Goals as goal

pub returns : goal.returns
returns c = new_values_as_assigned
