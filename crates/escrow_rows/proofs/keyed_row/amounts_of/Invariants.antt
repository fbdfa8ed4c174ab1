use Rattle.std.proofs.Common.{◌≡◌, ◌++◌, drop, length}
use Rattle.escrow_schema.specs.Fit.{amounts_of}
use Rattle.escrow_rows.proofs.keyed_row.amounts_of.Given as goal

abbrev pub invariant-loop-i : goal.invariant-loop-i
invariant-loop-i l = (length l.columns ≡ length l.values) × (l.amounts.items ++ amounts_of (drop l.i l.columns) (drop l.i l.values) ≡ amounts_of l.columns l.values)
