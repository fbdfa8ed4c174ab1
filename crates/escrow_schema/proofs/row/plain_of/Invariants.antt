use Rattle.std.proofs.Common.{◌≡◌, ◌++◌, drop, length}
use Rattle.escrow_schema.specs.Fit.{plain_of}
use Rattle.escrow_schema.proofs.row.plain_of.Given as goal

abbrev pub invariant-loop-i : goal.invariant-loop-i
invariant-loop-i l = (length l.columns ≡ length l.values) × (l.plain.items ++ plain_of (drop l.i l.columns) (drop l.i l.values) l.i l.key ≡ plain_of l.columns l.values 0 l.key)
