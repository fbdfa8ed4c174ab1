use Rattle.std.proofs.Common.{◌≡◌, ◌≤◌, ◌-◌, drop, length}
use Rattle.std.specs.Vec.{vec_len, vec_capacity}
use Rattle.sqlite.specs.Held.{state}
use Rattle.escrow_core.proofs.HeldSettling.{IsLeftSoFar}
use Rattle.escrow_core.proofs.database.Database.settle_all.Given as goal

abbrev pub invariant-loop-stop : goal.invariant-loop-stop
invariant-loop-stop g l = record {
  within : l.done ≤ length l.plan;
  len : vec_len l.replies ≡ vec_len l.initial.replies;
  capacity : vec_capacity l.replies ≡ vec_capacity l.initial.replies;
  so_far : IsLeftSoFar (state g.S.Store l.initial.self.store) (state g.S.Store l.self.store) l.plan l.places l.initial.self.state l.initial.replies.items (drop l.done l.plan) (drop l.done l.places) l.self.state l.replies.items;
}

abbrev pub decreases-loop-stop : goal.decreases-loop-stop
decreases-loop-stop g l = length l.plan - l.done
