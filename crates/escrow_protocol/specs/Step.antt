-- Believed: the events of the protocol, the rules under which each may come, what it changes, and runs of events.
use Rattle.std.specs.Prelude.{◌≡◌, ◌⊎◌, ℕ, ◌==◌, ◌<◌, Bool, true, false, not, if◌then◌else◌, Option, Some, None, List, [], ◌∷◌, ◌++◌, filter, length, map}
use Rattle.std.specs.List.{AllByRecursion}
use Rattle.escrow_num.specs.declared.reservation.Reservation.{Reservation}
use Rattle.escrow_num.specs.declared.row.Row.{Row}
use Rattle.escrow_num.specs.declared.session.End.{End}
use Rattle.escrow_num.specs.declared.session.End.TheVariants as end
use Rattle.escrow_num.specs.declared.value.RowName.{RowName}
use Rattle.escrow_num.specs.Order.{same_row}
use Rattle.escrow_num.specs.Session.{IsSession}
use Rattle.escrow_statement.specs.declared.statement.Statement.TheVariants as statement
use Rattle.escrow_statement.specs.declared.statement.InsertText.{InsertText}
use Rattle.escrow_statement.specs.declared.statement.UpdateText.{UpdateText}
use Rattle.escrow_checks.specs.Grant.{broken}
use Rattle.escrow_schema.specs.declared.table.TableDef.{TableDef}
use Rattle.escrow_schema.specs.declared.table.TheConstants.TableDef.{MAX_ROWS}
use Rattle.escrow_schema.specs.Catalog.{table_named}
use Rattle.escrow_schema.specs.Fit.{inserted_row}
use Rattle.escrow_schema.specs.Rows.{row_named, rows_of, applied, with_row, without_row}
use Rattle.escrow_journal.specs.Reservations.{own}
use Rattle.escrow_machine.specs.declared.reply.Reply.TheVariants as reply
use Rattle.escrow_machine.specs.Asked.{reservation_of}
use Rattle.escrow_machine.specs.Settle.{end_of, settled, after_end}
use Rattle.escrow_machine.specs.State.{is_reserved}
use Rattle.escrow_machine.specs.Step.{step}
use Rattle.escrow_protocol.specs.Protocol.{Transaction, idle, noting, written, running, holding, committed, aborted, reserved, inserted, deleted, Moment, Protocol, amounts_in, noted, may_abort, holds_lock, left_with, with_transaction}

-- THE EVENTS

pub data Event : Type 0 where
  -- The owner's server grants this reservation for an UPDATE of a session, whose transaction has these notes.
  grant : (session : ℕ) → (text : UpdateText) → (r : Reservation) → (notes : List Reservation) → Event
  -- The transaction of an epoch and a session, which has these notes, writes its note of what was granted last.
  write : (epoch : ℕ) → (session : ℕ) → (notes : List Reservation) → (r : Reservation) → Event
  -- The note passes its test.
  pass : (epoch : ℕ) → (session : ℕ) → (notes : List Reservation) → (r : Reservation) → Event
  -- The owner makes a mark: a savepoint of this name in its server's session.
  mark : (session : ℕ) → (name : List ℕ) → Event
  -- The transaction of a session takes back all but these notes, as by ROLLBACK TO. The server goes back to a mark.
  back : (session : ℕ) → (name : List ℕ) → (notes : List Reservation) → (gone : List Reservation) → Event
  -- A note fails, and is taken back alone. The server goes back to a mark.
  fail : (session : ℕ) → (name : List ℕ) → (notes : List Reservation) → (r : Reservation) → Event
  -- A transaction commits.
  commit : (epoch : ℕ) → (session : ℕ) → (notes : List Reservation) → Event
  -- A transaction aborts: a ROLLBACK, an error, a note that doesn't pass, a lost connection, a backend that is ended.
  abort : (epoch : ℕ) → (session : ℕ) → Event
  -- A transaction commits, and leaves its notes as a hold.
  hold : (epoch : ℕ) → (session : ℕ) → (notes : List Reservation) → Event
  -- Somebody's transaction commits that has taken a hold: the changes of the hold are committed with it.
  take : (epoch : ℕ) → (session : ℕ) → (notes : List Reservation) → Event
  -- Somebody's transaction commits that has released a hold.
  release : (epoch : ℕ) → (session : ℕ) → (notes : List Reservation) → Event
  -- The owner tells its server COMMIT for a session.
  tell : (session : ℕ) → (notes : List Reservation) → Event
  -- The owner tells its server ROLLBACK for a session.
  drop : (session : ℕ) → Event
  -- Somebody folds the row of a key. It comes here when the fold has its snapshot: what commits after that stays in the
  -- journal. A transaction that folds itself commits here at that moment too. If a crash loses a fold, it hasn't come.
  fold : (key : RowName) → Event
  -- A client's transaction commits that has inserted a row, or deleted the row of a key. Nobody holds the row: its
  -- owner's server hasn't loaded it, or has given it up. What the server would load changes with it.
  insert : (text : InsertText) → (row : Row) → Event
  delete : (key : RowName) → Event
  -- A new owner sets its epoch. The one before has died, was stopped, or doesn't know it yet.
  take_over : (epoch : ℕ) → Event
  -- The new owner loads the rows, reserves the holds again, and serves. The last owner's transactions have ended so.
  serve : (ends : List (ℕ × End)) → Event
  -- An owner that has lost its place grants what it likes.
  stale : (epoch : ℕ) → (session : ℕ) → (r : Reservation) → (notes : List Reservation) → Event
  -- PostgreSQL crashes, or stops, or a standby is promoted. These moments are lost; this one is left, and those before
  -- it. Of the transactions that ran at that moment some stay, and may commit: they were prepared, or their commit
  -- record is written.
  crash : (lost : List Moment) → (left : Moment) → (older : List Moment) → (stay : ℕ → ℕ → Bool) → Event

-- THE RULES, with their numbers in gateway/proxy/PROTOCOL.md

-- the owner of the epoch that PostgreSQL shows has loaded the rows
pub record IsServing (s : Protocol) : Type 0 where
  pub somebody : 0 < s.epoch
  pub loaded : s.now.served ≡ s.epoch

-- an epoch is chosen at random: no owner and no transaction has had it (rule 8)
pub record IsFresh (s : Protocol) (epoch : ℕ) : Type 0 where
  pub somebody : 0 < epoch
  pub new : ¬ (epoch ≡ s.now.served)
  pub unused : (session : ℕ) → s.now.transactions epoch session ≡ idle

-- an INSERT is accepted: its literals make this row of a table with room, the key is new, and the row meets the checks
pub record IsAccepted (catalog : List TableDef) (rows : List Row) (text : InsertText) (row : Row) : Type 0 where
  pub table : TableDef
  pub named : table_named catalog table.name ≡ Some table
  pub made : inserted_row table text ≡ Some row
  pub room : length (rows_of rows table.name) < MAX_ROWS
  pub new : row_named rows row.name ≡ None
  pub meets : broken table.checks row.amounts [] [] ≡ None

-- how a transaction of the last owner has ended when the next one loads. A hold goes on
abbrev pub ending : Transaction → Option End
ending idle = None
ending (holding notes) = None
ending (committed notes) = Some end.Commit
ending _ = Some end.Rollback

-- what must hold when an event comes
abbrev pub May : Protocol → Event → Type 0
-- The owner alone grants, and its server, which is the machine, decides. All that was granted before is noted (rule 5).
May s (grant session text r notes) =
    IsServing s × IsSession session × (noted (s.now.transactions s.epoch session) ≡ Some notes)
    × (reservation_of s.now.server session text ≡ Some r)
    × ((step s.now.server session (statement.Update text)).0 ≡ reply.Reserved r.id)
-- What is written was granted, and is written once (rules 17 to 19).
May s (write epoch session notes r) = s.now.transactions epoch session ≡ noting notes r
-- A note is tested behind its write (rule 7). It passes if PostgreSQL shows its epoch, which is somebody's (rules 8 and
-- 10).
May s (pass epoch session notes r) =
    (s.now.transactions epoch session ≡ written notes r) × (epoch ≡ s.epoch) × (0 < s.epoch)
May s (mark session name) = IsServing s × IsSession session
-- The server then holds of the session just what is alive (rules 5 and 6). Here it goes back at once. In fact it goes
-- back later, but before its next grant to the session, and before it is told of the end. Until then it holds more than
-- here, so it grants no more than here: see `back_refuses_nothing` of the machine's laws.
May s (back session name notes gone) =
    IsServing s × IsSession session × (s.now.transactions s.epoch session ≡ running (notes ++ gone))
    × (own session (step s.now.server session (statement.RollbackTo name)).1.reservations ≡ notes)
May s (fail session name notes r) =
    IsServing s × IsSession session
    × ((s.now.transactions s.epoch session ≡ noting notes r) ⊎ (s.now.transactions s.epoch session ≡ written notes r))
    × (own session (step s.now.server session (statement.RollbackTo name)).1.reservations ≡ notes)
-- A transaction commits only if all that it was granted is noted (rule 3).
May s (commit epoch session notes) = s.now.transactions epoch session ≡ running notes
May s (abort epoch session) = may_abort (s.now.transactions epoch session) ≡ true
May s (hold epoch session notes) = s.now.transactions epoch session ≡ running notes
May s (take epoch session notes) = s.now.transactions epoch session ≡ holding notes
May s (release epoch session notes) = s.now.transactions epoch session ≡ holding notes
-- The server commits only what PostgreSQL has committed (rules 1 and 4).
May s (tell session notes) = IsServing s × (s.now.transactions s.epoch session ≡ committed notes)
-- The server drops only what PostgreSQL can't commit any more (rules 2, 4 and 6).
May s (drop session) = IsServing s × (s.now.transactions s.epoch session ≡ aborted)
-- Anybody may fold, at any moment (rules 12 and 13). That it takes all of a key, `after_fold` says (rule 11).
May s (fold key) = Unit {0}
May s (insert text row) = IsAccepted s.now.server.catalog s.now.rows text row
-- A row is deleted only if nobody holds it, so that nothing of it is open, and the journal has nothing of it (rules 14
-- and 16). A change of its key deletes and inserts.
May s (delete key) =
    (is_reserved s.now.server key ≡ false) × AllByRecursion (λ r. same_row r.row key ≡ false) s.now.journal
May s (take_over epoch) = IsFresh s epoch
-- A new owner loads after it has set its epoch, and only when no transaction holds the lock of a journal (rule 9).
May s (serve ends) =
    (0 < s.epoch) × ¬ (s.now.served ≡ s.epoch)
    × ((epoch session : ℕ) → holds_lock (s.now.transactions epoch session) ≡ false)
    × ((session : ℕ) → end_of ends session ≡ ending (s.now.transactions s.now.served session))
May s (stale epoch session r notes) = ¬ (epoch ≡ s.epoch) × (noted (s.now.transactions epoch session) ≡ Some notes)
May s (crash lost left older stay) = lost ++ left ∷ older ≡ s.now ∷ s.before

-- WHAT AN EVENT CHANGES

-- another transaction at an epoch and a session
abbrev pub with_one : ℕ → ℕ → Transaction → Moment → Moment
with_one epoch session new m = record m { transactions = with_transaction epoch session new m.transactions }

-- the session of the owner's server goes back to a mark, and its transaction has these notes left
abbrev pub gone_back_to : ℕ → List ℕ → List Reservation → Protocol → Moment
gone_back_to session name notes s =
    record (with_one s.epoch session (left_with notes) s.now)
    { server = (step s.now.server session (statement.RollbackTo name)).1 }

-- these changes are committed
abbrev pub with_changes : List Reservation → Moment → Moment
with_changes changes m = record m { journal = m.journal ++ changes; history = m.history ++ map reserved changes }

-- all that the journal has of a key is in its row
abbrev pub after_fold : RowName → Moment → Moment
after_fold key m = record m {
  rows = applied m.rows (filter (λ r. same_row key r.row) m.journal);
  journal = filter (λ r. not (same_row key r.row)) m.journal;
}

-- a row is inserted, or deleted
abbrev pub with_inserted : Row → Moment → Moment
with_inserted row m = record m {
  rows = with_row row m.rows;
  history = m.history ++ inserted row ∷ [];
  server = record m.server { rows = with_row row m.server.rows };
}

abbrev pub with_deleted : RowName → Moment → Moment
with_deleted key m = record m {
  rows = without_row key m.rows;
  history = m.history ++ deleted key ∷ [];
  server = record m.server { rows = without_row key m.server.rows };
}

-- the transactions of a new owner are the holds, and the last owner's transactions are none any more
abbrev pub held_again : Transaction → Transaction
held_again (holding notes) = holding notes
held_again _ = idle

abbrev pub without_hold : Transaction → Transaction
without_hold (holding notes) = aborted
without_hold other = other

-- A transaction after a crash is what it was at the moment that is left, unless it ran and doesn't stay. One that began
-- later is aborted, so that its epoch isn't taken for unused.
abbrev pub crashed : Bool → Transaction → Transaction → Transaction
crashed stays idle idle = idle
crashed true (running notes) since = running notes
crashed stays (holding notes) since = holding notes
crashed stays (committed notes) since = committed notes
crashed stays _ since = aborted

-- PostgreSQL has committed something: a later moment
abbrev pub later : Moment → Protocol → Protocol
later m s = record s { now = m; before = s.now ∷ s.before }

-- it has committed nothing
abbrev pub still : Moment → Protocol → Protocol
still m s = record s { now = m }

-- the state after an event
abbrev pub after : Protocol → Event → Protocol
after s (grant session text r notes) =
    still (record (with_one s.epoch session (noting notes r) s.now)
    { server = (step s.now.server session (statement.Update text)).1 }) s
after s (write epoch session notes r) = still (with_one epoch session (written notes r) s.now) s
after s (pass epoch session notes r) = still (with_one epoch session (running (notes ++ r ∷ [])) s.now) s
after s (mark session name) =
    still (record s.now { server = (step s.now.server session (statement.Savepoint name)).1 }) s
after s (back session name notes gone) = still (gone_back_to session name notes s) s
after s (fail session name notes r) = still (gone_back_to session name notes s) s
after s (commit epoch session notes) = later (with_one epoch session (committed notes) (with_changes notes s.now)) s
after s (abort epoch session) = still (with_one epoch session aborted s.now) s
after s (hold epoch session notes) = later (with_one epoch session (holding notes) s.now) s
after s (take epoch session notes) = later (with_one epoch session (committed notes) (with_changes notes s.now)) s
after s (release epoch session notes) = later (with_one epoch session aborted s.now) s
after s (tell session notes) =
    still (record (with_one s.epoch session idle s.now) { server = after_end s.now.server session end.Commit }) s
after s (drop session) =
    still (record (with_one s.epoch session idle s.now) { server = after_end s.now.server session end.Rollback }) s
after s (fold key) = later (after_fold key s.now) s
after s (insert text row) = later (with_inserted row s.now) s
after s (delete key) = later (with_deleted key s.now) s
after s (take_over epoch) = record s { epoch = epoch }
-- Its rows are D with J, since a load folds. What is open is what was held; sessions and ids go on, though a server may
-- number anew.
after s (serve ends) = still (record s.now {
  transactions = λ epoch session.
      if epoch == s.epoch then held_again (s.now.transactions s.now.served session)
      else without_hold (s.now.transactions epoch session);
  served = s.epoch;
  server = record (settled ends s.now.server) { rows = amounts_in s.now };
}) s
after s (stale epoch session r notes) = still (with_one epoch session (noting notes r) s.now) s
-- The epoch is lost, and the server's state is that of the moment that is left: nobody reads it.
after s (crash lost left older stay) = record s {
  now =
      record left {
        transactions = λ epoch session.
            crashed (stay epoch session) (left.transactions epoch session) (s.now.transactions epoch session);
      };
  before = older;
  epoch = 0;
}

-- a run of events, one after another
abbrev pub IsRun : Protocol → List Event → Protocol → Type 0
IsRun s [] new = new ≡ s
IsRun s (event ∷ events) new = May s event × IsRun (after s event) events new
