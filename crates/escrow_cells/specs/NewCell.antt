-- Helps: what private contracts say of a new cell. No contract of a public call uses it.
use Rattle.escrow_cells.specs.declared.new_cell.NewCell.{NewCell}
use Rattle.escrow_cells.specs.declared.step.Step.{Step}
use Rattle.escrow_cells.specs.declared.step.Step.TheVariants as step

-- the step that inserts a new cell
abbrev pub step_of : NewCell → Step
step_of c = step.InsertCell c.table c.key c.place c.value
