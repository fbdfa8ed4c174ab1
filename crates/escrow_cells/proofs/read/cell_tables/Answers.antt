use Rattle.std.proofs.Common.{rules}
use Rattle.escrow_cells.proofs.Reading.{owners_shown}
use Rattle.escrow_cells.proofs.ReadTexts.{selecting, owners_select}
use Rattle.escrow_cells.proofs.Streaming.{taken_answers}
use Rattle.escrow_cells.proofs.read.cell_tables.Goals as goal

pub read_each-requires : goal.read_each-requires
read_each-requires g c = selecting owners_select

pub returns-clause-rows : goal.returns-clause-rows
returns-clause-rows g c clean = taken_answers g.K.Sink.has_taken _ _ _ _ _ _ (owners_shown _ _) (λ has. has) (c.read_each.ensures.taken clean) (search rules)
