use Rattle.std.proofs.Common.{◌≡◌, fold, take}
use Rattle.escrow_cells.specs.Step.{Contents, done}
use Rattle.escrow_rows.specs.Inside.{all_on}
use Rattle.escrow_rows.proofs.amounts.all_steps.Given as goal

abbrev pub invariant-loop-new : goal.invariant-loop-new
invariant-loop-new l = (c : Contents) → fold done c l.steps.items ≡ all_on (take l.new-index l.news) c
