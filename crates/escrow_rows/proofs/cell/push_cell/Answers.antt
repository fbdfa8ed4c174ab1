use Rattle.std.proofs.Common.{◌+◌, pos, fold, sym}
use Rattle.escrow_cells.specs.Step.{done, kept}
use Rattle.escrow_rows.proofs.Puts.{no_value}
use Rattle.escrow_rows.proofs.cell.push_cell.Goals as goal

pub returns-in_default-clause-puts : goal.returns-in_default-clause-puts
returns-in_default-clause-puts c = λ before. rw c.in_default.is (sym (no_value c.args.table (kept c.args.key) (pos (c.args.place + 1)) (fold done before c.args.steps.now.items)))
