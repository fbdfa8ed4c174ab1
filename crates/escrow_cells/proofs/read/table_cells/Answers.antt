use Rattle.std.proofs.Common.{rules}
use Rattle.sqlite_value.specs.declared.value.Value.TheVariants.{Int}
use Rattle.escrow_cells.proofs.Reading.{table_shown}
use Rattle.escrow_cells.proofs.ReadTexts.{selecting, table_select}
use Rattle.escrow_cells.proofs.Streaming.{taken_answers}
use Rattle.escrow_cells.proofs.read.table_cells.Goals as goal

pub read_each-requires : goal.read_each-requires
read_each-requires g c = selecting table_select

pub returns-clause-rows : goal.returns-clause-rows
returns-clause-rows g c clean = taken_answers g.K.Sink.has_taken _ _ _ _ _ _ (table_shown (Int c.args.table) _ _) (λ store. store.tables) (c.read_each.ensures.taken clean) (search rules)
