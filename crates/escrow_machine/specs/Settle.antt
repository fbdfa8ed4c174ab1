-- Believed: how a plan of ends changes a state.
use Rattle.std.specs.Prelude.{◌≡◌, ℕ, ◌<◌, ◌==◌, Bool, true, false, Option, Some, None, option_map, is_none, List, [], ◌∷◌, length, filter, find, take, slice_get}
use Rattle.escrow_num.specs.declared.reservation.Reservation.{Reservation}
use Rattle.escrow_num.specs.declared.session.End.{End}
use Rattle.escrow_num.specs.declared.session.End.TheVariants as end
use Rattle.escrow_statement.specs.declared.statement.Statement.TheVariants as statement
use Rattle.escrow_journal.specs.Reservations.{own}
use Rattle.escrow_machine.specs.declared.settled.Settled.{Settled}
use Rattle.escrow_machine.specs.declared.settled.Stop.{Stop}
use Rattle.escrow_machine.specs.State.{State}
use Rattle.escrow_schema.specs.Rows.{applied}
use Rattle.escrow_machine.specs.Step.{step}

-- how a plan ends a session's transaction, if it names the session: the session's first entry decides
abbrev pub end_of : List (ℕ × End) → ℕ → Option End
end_of plan session = option_map (λ entry. entry.1) (find (λ entry. session == entry.0) plan)

-- whether a transaction ends by a commit
abbrev pub is_commit : Option End → Bool
is_commit (Some end.Commit) = true
is_commit (Some end.Rollback) = false
is_commit None = false

-- whether a transaction ends by a rollback
abbrev pub is_rollback : Option End → Bool
is_rollback (Some end.Commit) = false
is_rollback (Some end.Rollback) = true
is_rollback None = false

-- the reservations of the sessions that a plan commits, in their order
abbrev pub committed_by : List (ℕ × End) → List Reservation → List Reservation
committed_by plan reservations = filter (λ r. is_commit (end_of plan r.session)) reservations

-- the reservations of the sessions that a plan rolls back, in their order
abbrev pub released_by : List (ℕ × End) → List Reservation → List Reservation
released_by plan reservations = filter (λ r. is_rollback (end_of plan r.session)) reservations

-- THE STATE AFTER A PLAN. The reservations of the sessions that it commits are applied to the rows. No session that it
-- names has a reservation or a savepoint left
abbrev pub settled : List (ℕ × End) → State → State
settled plan s = record s {
  rows = applied s.rows (committed_by plan s.reservations);
  reservations = filter (λ r. is_none (end_of plan r.session)) s.reservations;
  savepoints = filter (λ p. is_none (end_of plan p.session)) s.savepoints;
}

-- how many reservations a plan commits and releases
pub record AreCounts (plan : List (ℕ × End)) (reservations : List Reservation) (done : Settled) : Type 0 where
  pub committed : done.committed ≡ length (committed_by plan reservations)
  pub released : done.released ≡ length (released_by plan reservations)

-- a plan stopped: its entries before the place are done, and the entry at the place commits a session that then holds a
-- reservation
pub record IsStop (plan : List (ℕ × End)) (s : State) (stop : Stop) (new : State) : Type 0 where
  pub done : new ≡ settled (take stop.place plan) s
  pub session : ℕ
  pub entry : slice_get plan stop.place ≡ Some (session, end.Commit)
  pub holds : 0 < length (own session new.reservations)

-- THE MACHINE'S WAY: the state after its step that ends a session's transaction
abbrev pub after_end : State → ℕ → End → State
after_end s session end.Commit = (step s session statement.Commit).1
after_end s session end.Rollback = (step s session statement.Rollback).1

-- the state after the transactions of several sessions end, one after another
abbrev pub after_ends : State → List (ℕ × End) → State
after_ends s [] = s
after_ends s (ending ∷ ends) = after_ends (after_end s ending.0 ending.1) ends
