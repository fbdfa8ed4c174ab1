use Rattle.escrow_schema.proofs.LawLemmas.{checks_keep_amounts}
use Rattle.escrow_schema.proofs.laws.checks_keep_amounts.Goals as goal

pub returns : goal.returns
returns c = checks_keep_amounts
