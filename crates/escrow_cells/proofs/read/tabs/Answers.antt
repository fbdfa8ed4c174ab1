use Rattle.std.proofs.lemmas.Result.{IfOk-weaker}
use Rattle.escrow_cells.proofs.ReadTexts.{reads, tabs_select}
use Rattle.escrow_cells.proofs.Reading.{tabs_shown}
use Rattle.escrow_cells.proofs.read.tabs.Goals as goal

pub read_all-requires : goal.read_all-requires
read_all-requires g c = reads tabs_select

pub returns-clause-rows : goal.returns-clause-rows
returns-clause-rows g c clean = IfOk-weaker _ _ _ (λ rows. tabs_shown _ _ _) (c.read_all.ensures.shown clean)
