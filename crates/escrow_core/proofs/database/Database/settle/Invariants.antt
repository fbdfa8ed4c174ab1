use Rattle.std.proofs.Common.{◌≡◌, ◌≤◌, ◌-◌, drop, length, take}
use Rattle.std.specs.Prelude.{IsTrue}
use Rattle.sqlite.specs.Held.{state}
use Rattle.sqlite.specs.State.{HasCleanDisk, Survives}
use Rattle.escrow_rows.specs.Answers.{IsUsable}
use Rattle.escrow_machine.specs.Settle.{after_ends}
use Rattle.escrow_machine.proofs.Settling.{CountsSoFar}
use Rattle.escrow_core.specs.Serves.{AreAfterEnds}
use Rattle.escrow_core.proofs.Lasting.{LastsTo}
use Rattle.escrow_core.proofs.database.Database.settle.Given as goal

abbrev pub invariant-loop-place : goal.invariant-loop-place
invariant-loop-place g l = record {
  within : l.place ≤ length l.plan;
  ended : HasCleanDisk (state g.S.Store l.self.store) → l.self.state ≡ after_ends l.initial.self.state (take l.place l.plan);
  stays : HasCleanDisk (state g.S.Store l.self.store) → IsTrue (state g.S.Store l.initial.self.store).is_open → IsTrue (state g.S.Store l.self.store).is_open;
  usable : IsUsable (state g.S.Store l.self.store) → IsUsable (state g.S.Store l.initial.self.store);
  crash : Survives (state g.S.Store l.initial.self.store) (state g.S.Store l.self.store) (λ trees. IsTrue (state g.S.Store l.initial.self.store).is_open × AreAfterEnds l.plan l.initial.self.state trees);
  lasts : LastsTo (state g.S.Store l.initial.self.store) (state g.S.Store l.self.store) l.plan l.place l.initial.self.state;
  counts : CountsSoFar l.plan l.initial.self.state.reservations (drop l.place l.plan) l.self.state.reservations l.settled;
}

abbrev pub decreases-loop-place : goal.decreases-loop-place
decreases-loop-place g l = length l.plan - l.place
