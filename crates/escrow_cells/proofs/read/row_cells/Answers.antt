use Rattle.std.proofs.Common.{rules}
use Rattle.sqlite_value.specs.declared.value.Value.TheVariants.{Int}
use Rattle.escrow_cells.specs.Step.{kept}
use Rattle.escrow_cells.proofs.Inside.{bound_kept}
use Rattle.escrow_cells.proofs.Reading.{row_shown, all_answers}
use Rattle.escrow_cells.proofs.ReadTexts.{reads, row_select}
use Rattle.escrow_cells.proofs.read.row_cells.Goals as goal

pub read_all-requires : goal.read_all-requires
read_all-requires g c = reads row_select

pub returns-clause-rows : goal.returns-clause-rows
returns-clause-rows g c clean = all_answers (λ rows. rows.items) _ _ _ _ (row_shown (Int c.args.table) (kept c.args.key) _ _) (c.read_all.ensures.shown clean) (search (rules, bound_kept))
