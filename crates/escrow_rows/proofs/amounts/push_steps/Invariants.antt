use Rattle.std.proofs.Common.{◌≤◌, fold, drop}
use Rattle.escrow_cells.specs.Step.{Contents, done}
use Rattle.escrow_rows.specs.Image.{stored}
use Rattle.escrow_rows.specs.Inside.{on_cells, new_amounts, amounts_on}
use Rattle.escrow_rows.proofs.Pushes.{Leaves}
use Rattle.escrow_rows.proofs.amounts.push_steps.Given as goal

abbrev pub invariant-loop-i : goal.invariant-loop-i
invariant-loop-i l = record {
  left : (c : Contents) → Leaves l.new.table.now.id (stored l.new.key.now) l.i (new_amounts (drop l.i l.new.table.now.table.columns) (drop l.at l.new.amounts)) (fold done c l.steps.items) (on_cells (amounts_on l.new) (fold done c l.initial.steps.items));
  few : l.at ≤ l.i;
}
