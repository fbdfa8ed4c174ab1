use Rattle.std.proofs.Common.{◌≡◌, drop}
use Rattle.escrow_schema.specs.Asked.{values_at}
use Rattle.escrow_schema.proofs.ListLemmas.{after}
use Rattle.escrow_schema.proofs.fit.values_at.Given as goal

abbrev pub invariant-loop-i : goal.invariant-loop-i
invariant-loop-i l = after l.values.items (values_at l.text.columns l.text.values l.i (drop l.i l.columns)) ≡ values_at l.text.columns l.text.values 0 l.columns
