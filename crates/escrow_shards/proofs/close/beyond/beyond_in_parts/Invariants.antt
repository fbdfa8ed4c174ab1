use Rattle.std.proofs.Common.{ℕ}
use Rattle.escrow_shards.specs.Whole.{IsOfSessions}
use Rattle.escrow_shards.proofs.NoPass.{AllLeft, NoneLeft}
use Rattle.escrow_shards.proofs.close.beyond.beyond_in_parts.Given as goal

abbrev pub invariant-loop-part : goal.invariant-loop-part
invariant-loop-part g l = record {
  all : AllLeft l.database l.parts (IsOfSessions l.sessions) l.part-index;
  none : (k : ℕ) → NoneLeft l.database l.parts l.part-index k;
}
