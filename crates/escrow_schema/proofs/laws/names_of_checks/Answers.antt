use Rattle.escrow_schema.proofs.LawLemmas.{names_of_checks}
use Rattle.escrow_schema.proofs.laws.names_of_checks.Goals as goal

pub returns : goal.returns
returns c = names_of_checks
