-- Believed: what a proxy may do that works without one of the rules, and runs in which it does.
use Rattle.std.specs.Prelude.{◌≡◌, ℕ, ◌<◌, Option, Some, None, List, [], ◌∷◌, ◌++◌}
use Rattle.escrow_num.specs.declared.reservation.Reservation.{Reservation}
use Rattle.escrow_num.specs.declared.session.End.{End}
use Rattle.escrow_num.specs.declared.session.End.TheVariants as end
use Rattle.escrow_num.specs.declared.value.RowName.{RowName}
use Rattle.escrow_schema.specs.Rows.{applied, without_row}
use Rattle.escrow_machine.specs.Settle.{end_of, after_end}
use Rattle.escrow_machine.specs.State.{opened}
use Rattle.escrow_protocol.specs.Protocol.{noting, written, running, aborted, deleted, Moment, Protocol, amounts_in, left_with}
use Rattle.escrow_protocol.specs.Step.{Event, serve, IsServing, May, ending, with_one, with_changes, later, still, after}

-- the rules that may be taken away, one at a time
pub data Rule : Type 0 where
  -- 1: the server commits only what PostgreSQL has committed
  postgres_first : Rule
  -- 2: it drops only what PostgreSQL can't commit any more
  dropped_when_dead : Rule
  -- 3: a transaction commits only if all that it was granted is noted
  answered_first : Rule
  -- 5: before it is told of the end, the server goes back to what is alive
  gone_back : Rule
  -- 7: a note tests its epoch
  epoch_tested : Rule
  -- 7: it does so behind its write
  written_first : Rule
  -- 8 and 10: no epoch outlives a crash
  epoch_lost : Rule
  -- 9: a new owner sets its epoch, and then waits until no transaction holds the lock of a journal
  fenced : Rule
  -- 11: a fold takes all that the journal has of a key
  folded_whole : Rule
  -- 14: a row that an owner holds isn't deleted
  kept_if_held : Rule
  -- 18: a note is worth one call
  noted_once : Rule
  -- a new owner reserves the holds again before it serves
  held_again_first : Rule

-- what may happen besides without a rule
abbrev pub Slip : Rule → Protocol → Protocol → Type 0
-- the server commits a transaction whose COMMIT may only be sent
Slip postgres_first s new =
    (session : ℕ) × (notes : List Reservation) × IsServing s × (s.now.transactions s.epoch session ≡ running notes)
    × (new ≡ still (record s.now { server = after_end s.now.server session end.Commit }) s)
-- it drops a transaction whose connection is lost
Slip dropped_when_dead s new =
    (session : ℕ) × (notes : List Reservation) × IsServing s × (s.now.transactions s.epoch session ≡ running notes)
    × (new ≡ still (record s.now { server = after_end s.now.server session end.Rollback }) s)
-- COMMIT is sent behind a note, and done. The connection is lost before the note is answered, and the transaction
-- counts as rolled back
Slip answered_first s new =
    (epoch session : ℕ) × (notes : List Reservation) × (r : Reservation)
    × (s.now.transactions epoch session ≡ written notes r)
    × (new ≡ later (with_one epoch session aborted (with_changes (notes ++ r ∷ []) s.now)) s)
-- a transaction takes back its last notes, and the server isn't asked to go back
Slip gone_back s new =
    (session : ℕ) × (notes gone : List Reservation) × (s.now.transactions s.epoch session ≡ running (notes ++ gone))
    × (new ≡ still (with_one s.epoch session (left_with notes) s.now) s)
-- a note passes whatever its epoch
Slip epoch_tested s new =
    (epoch session : ℕ) × (notes : List Reservation) × (r : Reservation)
    × (s.now.transactions epoch session ≡ written notes r)
    × (new ≡ still (with_one epoch session (running (notes ++ r ∷ [])) s.now) s)
-- a note that was tested when it was granted is written later
Slip written_first s new =
    (epoch session : ℕ) × (notes : List Reservation) × (r : Reservation)
    × (s.now.transactions epoch session ≡ noting notes r)
    × (new ≡ still (with_one epoch session (running (notes ++ r ∷ [])) s.now) s)
-- a crash loses commits, the epoch stays, and the owner doesn't notice it
Slip epoch_lost s new =
    (lost : List Moment) × (left : Moment) × (older : List Moment) × (lost ++ left ∷ older ≡ s.now ∷ s.before)
    × (new ≡ record s {
      now = record s.now { rows = left.rows; journal = left.journal; history = left.history };
      before = older;
    })
-- it loads at once, or has looked for holders before it has set its epoch
Slip fenced s new =
    (ends : List (ℕ × End)) × (0 < s.epoch) × ¬ (s.now.served ≡ s.epoch)
    × ((session : ℕ) → end_of ends session ≡ ending (s.now.transactions s.now.served session))
    × (new ≡ after s (serve ends))
-- a fold takes one row of a journal
Slip folded_whole s new =
    (first : List Reservation) × (r : Reservation) × (rest : List Reservation) × (s.now.journal ≡ first ++ r ∷ rest)
    × (new ≡ later (record s.now { rows = applied s.now.rows (r ∷ []); journal = first ++ rest }) s)
-- a row is deleted, and the server goes on with it
Slip kept_if_held s new =
    (key : RowName) × (new ≡ later
    (record s.now { rows = without_row key s.now.rows; history = s.now.history ++ deleted key ∷ [] }) s)
-- a transaction sends a note again
Slip noted_once s new =
    (epoch session : ℕ) × (notes : List Reservation) × (r : Reservation)
    × (s.now.transactions epoch session ≡ running (notes ++ r ∷ []))
    × (new ≡ still (with_one epoch session (running (notes ++ r ∷ r ∷ [])) s.now) s)
-- it loads the rows, and forgets the holds, which stand in PostgreSQL
Slip held_again_first s new =
    (ends : List (ℕ × End)) × May s (serve ends)
    × (new ≡ still (record s.now { served = s.epoch; server = opened s.now.server.catalog (amounts_in s.now) }) s)

-- a run of events, in which a step that names none is a slip
abbrev pub IsWrongRun : Rule → Protocol → List (Option Event) → Protocol → Type 0
IsWrongRun rule s [] new = new ≡ s
IsWrongRun rule s (Some event ∷ steps) new = May s event × IsWrongRun rule (after s event) steps new
IsWrongRun rule s (None ∷ steps) new = (mid : Protocol) × Slip rule s mid × IsWrongRun rule mid steps new
