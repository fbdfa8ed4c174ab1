use Rattle.std.proofs.Common.{refl}
use Rattle.escrow_cells.specs.Tables.{cell_tree}
use Rattle.escrow_cells.proofs.Numbering.{rise_tells}
use Rattle.escrow_cells.proofs.Reading.{ids_shown}
use Rattle.escrow_cells.proofs.ReadTexts.{selecting, cell_ids_select}
use Rattle.escrow_cells.proofs.numbered.are_cells_numbered.Goals as goal

pub numbers_rise-requires : goal.numbers_rise-requires
numbers_rise-requires g c = selecting cell_ids_select

pub returns-clause-numbered : goal.returns-clause-numbered
returns-clause-numbered g c clean = rise_tells _ _ _ _ (ids_shown cell_tree cell_ids_select _ _ refl) (c.numbers_rise.ensures.rise clean)
