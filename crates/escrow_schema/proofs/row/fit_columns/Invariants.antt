use Rattle.std.proofs.Common.{◌≡◌, drop, length}
use Rattle.std.specs.Prelude.{◌↔◌}
use Rattle.escrow_schema.specs.Fit.{FitColumns}
use Rattle.escrow_schema.proofs.row.fit_columns.Given as goal

abbrev pub invariant-loop-i : goal.invariant-loop-i
invariant-loop-i l = (length l.columns ≡ length l.values) × (FitColumns (drop l.i l.columns) (drop l.i l.values) ↔ FitColumns l.columns l.values)
