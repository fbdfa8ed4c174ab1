use Rattle.std.proofs.Common.{◌≤◌, fold, drop}
use Rattle.std.specs.List.{AllByRecursion}
use Rattle.escrow_cells.specs.Step.{Contents, done}
use Rattle.escrow_rows.specs.Image.{stored}
use Rattle.escrow_rows.specs.Inside.{SetsCellOf, on_cells, new_plain, plain_on}
use Rattle.escrow_rows.proofs.Pushes.{Leaves}
use Rattle.escrow_rows.proofs.plain.plain_steps.Given as goal

abbrev pub invariant-loop-i : goal.invariant-loop-i
invariant-loop-i l = record {
  left : (c : Contents) → Leaves l.table.id (stored l.key) l.i (new_plain (drop l.i l.table.table.columns) l.i l.table.table.key (drop l.at l.values)) (fold done c l.steps.items) (on_cells (plain_on l.table l.key l.values) c);
  few : l.at ≤ l.i;
  sets : AllByRecursion (SetsCellOf l.table l.key) l.steps.items;
}
