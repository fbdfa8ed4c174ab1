-- Helps: definitions for transactions that end together.
use Rattle.std.specs.Prelude.{◌≡◌, ℕ, ◌<◌, ◌==◌, false, IsTrue, Some, Result, IfOk, IfErr, OnOk, List, [], ◌∷◌, length, slice_get}
use Rattle.std.specs.List.{list_any}
use Rattle.sqlite.specs.Held.{state}
use Rattle.sqlite.specs.State.{HasCleanDisk, Survives}
use Rattle.sqlite_trees.specs.declared.store.Store.{Ghosts}
use Rattle.escrow_num.specs.declared.reservation.Reservation.{Reservation}
use Rattle.escrow_num.specs.declared.session.End.{End}
use Rattle.escrow_num.specs.declared.session.End.TheVariants as end
use Rattle.escrow_journal.specs.Reservations.{own, others}
use Rattle.escrow_rows.specs.Answers.{IsUsable}
use Rattle.escrow_machine.specs.declared.settled.Settled.{Settled}
use Rattle.escrow_machine.specs.declared.settled.Stop.{Stop}
use Rattle.escrow_machine.specs.Settle.{AreCounts, IsStop, after_ends, committed_by}
use Rattle.escrow_core.specs.Database.{Database}
use Rattle.escrow_core.specs.Left.{Lasts}
use Rattle.escrow_core.specs.Serves.{AreAfterAtLeast, AreAfterEnds, done_of}

-- each entry of a plan is a COMMIT, and no session is named twice
abbrev pub AreCommits : List (ℕ × End) → Type 0
AreCommits [] = Unit {0}
AreCommits (entry ∷ plan) =
    (entry.1 ≡ end.Commit) × (list_any (λ later. later.0 == entry.0) plan ≡ false) × AreCommits plan

-- a group: each entry is a COMMIT, no session is named twice, and the first one holds a reservation
pub record IsGroup (reservations : List Reservation) (plan : List (ℕ × End)) : Type 0 where
  pub commits : AreCommits plan
  pub holds : (entry : ℕ × End) → slice_get plan 0 ≡ Some entry → 0 < length (own entry.0 reservations)

-- the reservations that remain after the transactions of a plan have ended
abbrev pub left_after : List (ℕ × End) → List Reservation → List Reservation
left_after [] reservations = reservations
left_after (entry ∷ plan) reservations = left_after plan (others entry.0 reservations)

-- A plan was settled, or stopped at a COMMIT that failed. A store that a fault has shut stays shut. After a crash the
-- disk has what it might have had before, or what some first entries of the plan make, if the store was open. Once a
-- reservation was committed, it has what at least the entries that were done make.
pub record Settles {S : Type 0} (g : Ghosts S) (plan : List (ℕ × End)) (old : Database S) (result : Result Settled Stop)
    (new : Database S) : Type 0 where
  pub ok : HasCleanDisk (state g new.store) → OnOk result (new.state ≡ after_ends old.state plan)
  pub counts : IfOk result (λ done. AreCounts plan old.state.reservations done)
  pub left : OnOk result (new.state.reservations ≡ left_after plan old.state.reservations)
  pub stays : HasCleanDisk (state g new.store)
      → OnOk result (IsTrue (state g old.store).is_open → IsTrue (state g new.store).is_open)
  pub stop : HasCleanDisk (state g new.store) → IfErr result (λ stop. IsStop plan old.state stop new.state)
  pub within : IfErr result (λ stop. stop.place < length plan)
  pub usable : IsUsable (state g new.store) → IsUsable (state g old.store)
  pub crash : Survives (state g old.store) (state g new.store)
      (λ trees. IsTrue (state g old.store).is_open × AreAfterEnds plan old.state trees)
  pub durable : Lasts (state g old.store) (state g new.store)
      (committed_by (done_of plan result) old.state.reservations ≡ [])
      (AreAfterAtLeast (length (done_of plan result)) plan old.state)
