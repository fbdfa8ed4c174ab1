use Rattle.std.proofs.Common.{◌≡◌, drop}
use Rattle.escrow_schema.specs.Fit.{literal_beside}
use Rattle.escrow_schema.proofs.fit.literal_beside.Given as goal

abbrev pub invariant-loop-i : goal.invariant-loop-i
invariant-loop-i l = literal_beside (drop l.i l.names) (drop l.i l.literals) l.name ≡ literal_beside l.names l.literals l.name
