use Rattle.escrow_outcomes.proofs.Once.{output_is_a_function}
use Rattle.escrow_outcomes.proofs.laws.output_is_a_function.Goals as goal

pub returns : goal.returns
returns c = output_is_a_function
