use Rattle.escrow_shards.proofs.Asking.{is_answer}
use Rattle.escrow_shards.proofs.shard.served.Goals as goal

pub returns-clause-answers : goal.returns-clause-answers
returns-clause-answers c = is_answer _
