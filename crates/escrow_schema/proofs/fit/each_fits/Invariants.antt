use Rattle.std.proofs.Common.{◌≡◌, drop}
use Rattle.std.specs.Prelude.{is_some}
use Rattle.escrow_schema.specs.Asked.{values_at}
use Rattle.escrow_schema.proofs.fit.each_fits.Given as goal

abbrev pub invariant-loop-i : goal.invariant-loop-i
invariant-loop-i l = is_some (values_at l.text.columns l.text.values l.i (drop l.i l.columns)) ≡ is_some (values_at l.text.columns l.text.values 0 l.columns)
