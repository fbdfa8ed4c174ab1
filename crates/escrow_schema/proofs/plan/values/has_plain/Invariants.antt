use Rattle.std.proofs.Common.{◌≡◌, drop}
use Rattle.escrow_schema.specs.Fit.{plains}
use Rattle.escrow_schema.specs.Plan.{has_column}
use Rattle.escrow_schema.proofs.plan.values.has_plain.Given as goal

abbrev pub invariant-loop-i : goal.invariant-loop-i
invariant-loop-i l = has_column (plains (drop l.i l.columns) l.i l.key) l.name ≡ has_column (plains l.columns 0 l.key) l.name
