-- Helps: what private contracts say of a list of steps. No contract of a public call uses it.
use Rattle.std.specs.Prelude.{◌≡◌, List, ◌++◌, fold, IsPermutation}
use Rattle.sqlite_value.specs.Order.{Row as SqlRow}
use Rattle.escrow_cells.specs.declared.step.Step.{Step}
use Rattle.escrow_cells.specs.Step.{Contents, done}

-- the steps insert these cells into CELL, and leave TAB unchanged
pub record PutsCells (cells : List SqlRow) (steps : List Step) : Type 0 where
  pub cells_are : (c : Contents) → IsPermutation (cells ++ c.cells) (fold done c steps).cells
  pub tabs_are : (c : Contents) → (fold done c steps).tabs ≡ c.tabs
