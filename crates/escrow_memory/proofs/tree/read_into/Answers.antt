use Rattle.std.proofs.Common.{◌∙◌}
use Rattle.std.proofs.lemmas.Result.{on_ok_weaker}
use Rattle.sqlite_record.proofs.AffinityLemmas.{widen-zero}
use Rattle.escrow_memory.proofs.tree.read_into.Goals as goal

pub returns : goal.returns
returns c = on_ok_weaker c.decode_into.result (λ read. read ∙ rw c.clear-2.ensures (widen-zero _)) c.decode_into.ensures
