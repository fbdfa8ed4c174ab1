use Rattle.std.proofs.Common.{◌≡◌, vec_len}
use Rattle.escrow_free.proofs.drains.Drains.drain_long.Given as goal

abbrev pub invariant-loop-database : goal.invariant-loop-database
invariant-loop-database g l = vec_len l.self.last_drained ≡ vec_len l.fn.self.last_drained
