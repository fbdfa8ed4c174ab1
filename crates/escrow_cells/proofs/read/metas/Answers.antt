use Rattle.std.proofs.Common.{rules}
use Rattle.escrow_cells.proofs.Reading.{metas_shown}
use Rattle.escrow_cells.proofs.ReadTexts.{selecting, metas_select}
use Rattle.escrow_cells.proofs.Streaming.{taken_answers}
use Rattle.escrow_cells.proofs.read.metas.Goals as goal

pub read_each-requires : goal.read_each-requires
read_each-requires g c = selecting metas_select

pub returns-clause-rows : goal.returns-clause-rows
returns-clause-rows g c clean = taken_answers g.K.Sink.has_taken _ _ _ _ _ _ (metas_shown _ _) (λ has. has) (c.read_each.ensures.taken clean) (search rules)
