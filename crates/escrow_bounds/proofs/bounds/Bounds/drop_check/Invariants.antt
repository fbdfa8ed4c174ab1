use Rattle.std.proofs.Common.{◌≡◌, length}
use Rattle.escrow_bounds.proofs.Altering.{EntryStep}
use Rattle.escrow_bounds.proofs.Steps.{Stepped}
use Rattle.escrow_bounds.proofs.bounds.Bounds.drop_check.Given as goal

abbrev pub invariant-loop-i : goal.invariant-loop-i
invariant-loop-i l = record {
  stepped : Stepped (EntryStep l.table l.index) l.i l.initial.self-inside.places.entries l.self-inside.places.entries;
  all : length l.self-inside.places.entries ≡ l.i-end;
}
