use Rattle.escrow_schema.proofs.LawLemmas.{definitions_follow_rules}
use Rattle.escrow_schema.proofs.laws.definitions_follow_rules.Goals as goal

pub returns : goal.returns
returns c = definitions_follow_rules
