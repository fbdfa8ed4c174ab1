use Rattle.escrow_schema.proofs.LawLemmas.{few_checks}
use Rattle.escrow_schema.proofs.laws.few_checks.Goals as goal

pub returns : goal.returns
returns c = few_checks
