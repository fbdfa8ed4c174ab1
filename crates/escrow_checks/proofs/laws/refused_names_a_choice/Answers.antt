use Rattle.escrow_checks.proofs.GrantLemmas.{refused_names_a_choice}
use Rattle.escrow_checks.proofs.laws.refused_names_a_choice.Goals as goal

pub returns : goal.returns
returns c = refused_names_a_choice
