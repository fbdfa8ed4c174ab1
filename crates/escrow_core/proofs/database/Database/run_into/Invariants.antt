use Rattle.std.proofs.Common.{◌≡◌, ◌+◌, take, vec_len}
use Rattle.std.specs.Vec.{vec_capacity}
use Rattle.sqlite.specs.Held.{state}
use Rattle.escrow_core.specs.Beside.{IsLeftBatch}
use Rattle.escrow_core.proofs.database.Database.run_into.Given as goal

abbrev pub invariant-loop-event : goal.invariant-loop-event
invariant-loop-event g l = record {
  as_many : vec_len l.replies ≡ vec_len l.initial.replies + l.event-index;
  capacity : vec_capacity l.replies ≡ vec_capacity l.initial.replies;
  batch : IsLeftBatch (state g.S.Store l.initial.self.store) (state g.S.Store l.self.store) l.initial.self.state (take l.event-index l.events) l.initial.replies.items l.replies.items l.held l.self.state;
}
