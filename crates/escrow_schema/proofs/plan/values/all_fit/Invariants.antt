use Rattle.std.proofs.Common.{◌≡◌, drop}
use Rattle.std.specs.Prelude.{is_some}
use Rattle.escrow_schema.specs.Fit.{plains}
use Rattle.escrow_schema.specs.Plan.{new_values_of}
use Rattle.escrow_schema.proofs.plan.values.all_fit.Given as goal

abbrev pub invariant-loop-i : goal.invariant-loop-i
invariant-loop-i l = is_some (new_values_of (plains (drop l.i l.columns) l.i l.key) l.assigns) ≡ is_some (new_values_of (plains l.columns 0 l.key) l.assigns)
