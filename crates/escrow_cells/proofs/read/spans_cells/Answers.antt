use Rattle.std.proofs.Common.{rules}
use Rattle.sqlite_value.specs.declared.value.Value.TheVariants.{Int}
use Rattle.escrow_cells.proofs.Reading.{spans_shown}
use Rattle.escrow_cells.proofs.ReadTexts.{selecting, spans_select}
use Rattle.escrow_cells.proofs.Streaming.{taken_answers}
use Rattle.escrow_cells.proofs.read.spans_cells.Goals as goal

pub read_each-requires : goal.read_each-requires
read_each-requires g c = selecting spans_select

pub returns-clause-rows : goal.returns-clause-rows
returns-clause-rows g c clean =
    taken_answers g.K.Sink.has_taken _ _ _ _ _ _ (spans_shown c.args.first c.args.last (Int c.args.table) _ _) (λ store. store.tables) (c.read_each.ensures.taken clean) (search rules)
