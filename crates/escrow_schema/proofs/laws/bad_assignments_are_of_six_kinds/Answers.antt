use Rattle.escrow_schema.proofs.BadAssignmentLemmas.{bad_assignments_are_of_six_kinds}
use Rattle.escrow_schema.proofs.laws.bad_assignments_are_of_six_kinds.Goals as goal

pub returns : goal.returns
returns c = bad_assignments_are_of_six_kinds
