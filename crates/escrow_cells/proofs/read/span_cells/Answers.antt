use Rattle.std.proofs.Common.{rules}
use Rattle.sqlite_value.specs.declared.value.Value.TheVariants.{Int}
use Rattle.escrow_cells.specs.Step.{kept}
use Rattle.escrow_cells.proofs.Inside.{bound_kept}
use Rattle.escrow_cells.proofs.Reading.{span_shown, all_answers}
use Rattle.escrow_cells.proofs.ReadTexts.{reads, span_select}
use Rattle.escrow_cells.proofs.read.span_cells.Goals as goal

pub read_all-requires : goal.read_all-requires
read_all-requires g c = reads span_select

pub returns-clause-rows : goal.returns-clause-rows
returns-clause-rows g c clean = all_answers (λ rows. rows.items) _ _ _ _ (span_shown c.args.first c.args.last (Int c.args.table) (kept c.args.key) _ _) (c.read_all.ensures.shown clean) (search (rules, bound_kept))
