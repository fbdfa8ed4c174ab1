-- Believed: the state of the protocol by which transactions of PostgreSQL reserve, and what is read from it.
use Rattle.std.specs.Prelude.{ℕ, Bool, true, false, ◌==◌, ◌&&◌, if◌then◌else◌, Option, Some, None, List, [], ◌∷◌}
use Rattle.escrow_num.specs.declared.row.Row.{Row}
use Rattle.escrow_num.specs.declared.reservation.Reservation.{Reservation}
use Rattle.escrow_num.specs.declared.value.RowName.{RowName}
use Rattle.escrow_schema.specs.declared.table.TableDef.{TableDef}
use Rattle.escrow_schema.specs.Rows.{applied, with_row, without_row}
use Rattle.escrow_machine.specs.State.{State, opened}

-- A transaction of PostgreSQL, as the protocol sees it. A note is a row that it has written into a journal: one
-- reservation that the owner's server has granted to it.
pub data Transaction : Type 0 where
  -- it has reserved nothing
  idle : Transaction
  -- it has these notes. One more reservation is granted, and its note is on its way, so it can't commit
  noting : (notes : List Reservation) → (r : Reservation) → Transaction
  -- its note of this reservation is written, so it holds the lock of the journal. The note isn't tested yet
  written : (notes : List Reservation) → (r : Reservation) → Transaction
  -- all that it was granted is noted. It may commit or abort at any moment. Nobody has to know whether its COMMIT is
  -- sent, whether its commit record is written and not visible yet, or whether it is prepared
  running : (notes : List Reservation) → Transaction
  -- it is committed, and has left its notes as a hold: they stand in a row of their own, and not in a journal
  holding : (notes : List Reservation) → Transaction
  -- its changes are committed, and later snapshots see them. Its owner's server isn't told
  committed : (notes : List Reservation) → Transaction
  -- it can't commit any more. Its owner's server isn't told
  aborted : Transaction

-- What a transaction of a client changes in the rows when it commits.
pub data Change : Type 0 where
  -- a reservation's changes are added to its row
  reserved : (r : Reservation) → Change
  -- a row is new
  inserted : (row : Row) → Change
  -- the row of a key is gone
  deleted : (key : RowName) → Change

-- the rows after a change, and after several, one after another
abbrev pub done : Change → List Row → List Row
done (reserved r) rows = applied rows (r ∷ [])
done (inserted row) rows = with_row row rows
done (deleted key) rows = without_row key rows

abbrev pub all_done : List Row → List Change → List Row
all_done rows [] = rows
all_done rows (change ∷ changes) = all_done (done change rows) changes

-- What PostgreSQL's snapshots show at a moment, and what has become of the transactions. A crash leaves an earlier
-- moment.
pub record Moment : Type 0 where
  -- the rows of the tables, D
  pub rows : List Row
  -- the committed rows of the journals, J: the changes that no fold has moved into the rows
  pub journal : List Reservation
  -- all changes of the committed transactions, in the order of their commits. The protocol never reads it
  pub history : List Change
  -- each transaction, by the epoch of the owner that grants to it, and by its session of that owner's server
  pub transactions : ℕ → ℕ → Transaction
  -- the epoch of the last owner that has loaded the rows, or 0
  pub served : ℕ
  -- what this owner's server holds: the rows V, and the open reservations O. It has all rows here; a real one loads
  -- each when it is first asked for. An owner that has died is one that does nothing more: then nobody reads what it
  -- held
  pub server : State

-- the protocol
pub record Protocol : Type 0 where
  pub now : Moment
  -- the moments before each of PostgreSQL's commits, the last one first
  pub before : List Moment
  -- the epoch that PostgreSQL shows. 0 is nobody's
  pub epoch : ℕ

-- PostgreSQL with these tables and rows. Nobody has reserved anything
abbrev pub installed : List TableDef → List Row → Protocol
installed catalog rows = record {
  now =
      record {
        rows = rows;
        journal = [];
        history = [];
        transactions = λ epoch session. idle;
        served = 0;
        server = opened catalog rows;
      };
  before = [];
  epoch = 0;
}

-- the rows with the journal: what `escrow.now` shows
abbrev pub amounts_in : Moment → List Row
amounts_in m = applied m.rows m.journal

-- the transaction of a reservation of the server
abbrev pub transaction_of : Moment → Reservation → Transaction
transaction_of m r = m.transactions m.served r.session

-- the notes of a transaction, if it may be granted one more reservation
abbrev pub noted : Transaction → Option (List Reservation)
noted idle = Some []
noted (running notes) = Some notes
noted _ = None

-- whether a transaction's changes are committed, and its owner's server isn't told
abbrev pub is_committed : Transaction → Bool
is_committed (committed notes) = true
is_committed _ = false

-- whether a transaction's changes may still be committed: by itself, or by somebody who takes the hold
abbrev pub may_commit : Transaction → Bool
may_commit (running notes) = true
may_commit (holding notes) = true
may_commit _ = false

-- whether a transaction may abort
abbrev pub may_abort : Transaction → Bool
may_abort (noting notes r) = true
may_abort (written notes r) = true
may_abort (running notes) = true
may_abort _ = false

-- whether a transaction holds the lock of a journal, from its first note's write up to its end
abbrev pub holds_lock : Transaction → Bool
holds_lock (noting (first ∷ notes) r) = true
holds_lock (written notes r) = true
holds_lock (running notes) = true
holds_lock _ = false

-- a transaction that has taken back all but these notes: with none left it is as if it had reserved nothing
abbrev pub left_with : List Reservation → Transaction
left_with [] = idle
left_with (first ∷ notes) = running (first ∷ notes)

-- the transactions with another one at an epoch and a session
abbrev pub with_transaction : ℕ → ℕ → Transaction → (ℕ → ℕ → Transaction) → ℕ → ℕ → Transaction
with_transaction epoch session new transactions e s = if (e == epoch) && (s == session) then new else transactions e s
