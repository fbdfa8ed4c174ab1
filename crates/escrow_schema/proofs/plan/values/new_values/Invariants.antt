use Rattle.std.proofs.Common.{◌≡◌, ◌++◌, drop}
use Rattle.escrow_schema.specs.Assigned.{values_assigned}
use Rattle.escrow_schema.specs.Fit.{plains}
use Rattle.escrow_schema.proofs.plan.values.new_values.Given as goal

abbrev pub invariant-loop-i : goal.invariant-loop-i
invariant-loop-i l = l.values.items ++ values_assigned (plains (drop l.i l.columns) l.i l.key) l.assigns ≡ values_assigned (plains l.columns 0 l.key) l.assigns
