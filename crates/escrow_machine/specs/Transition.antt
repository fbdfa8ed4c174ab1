-- Believed: the table of statements.
use Rattle.std.specs.Prelude.{ℕ, nat_le, Option, is_some, is_none, option_map, option_and_then, unwrap_or, List, [], ◌∷◌, length}
use Rattle.escrow_num.specs.declared.refusal.Refusal.{Refusal}
use Rattle.escrow_num.specs.declared.refusal.Refusal.TheVariants as refusal
use Rattle.escrow_num.specs.Refusal.{refuse_if}
use Rattle.escrow_statement.specs.declared.statement.Statement.{Statement}
use Rattle.escrow_statement.specs.declared.statement.Statement.TheVariants as statement
use Rattle.escrow_statement.specs.declared.statement.CreateText.{CreateText}
use Rattle.escrow_statement.specs.declared.statement.InsertText.{InsertText}
use Rattle.escrow_statement.specs.declared.statement.RowText.{RowText}
use Rattle.escrow_statement.specs.declared.statement.TableChange.{TableChange}
use Rattle.escrow_statement.specs.declared.statement.TableChange.TheVariants as change
use Rattle.escrow_journal.specs.Open.{grant_refusal, open_after_grant, savepoint_refusal, open_after_savepoint, released, open_after_rollback_to, open_after_end}
use Rattle.escrow_journal.specs.Reservations.{own}
use Rattle.escrow_journal.specs.Savepoints.{savepoint_of}
use Rattle.escrow_schema.specs.declared.catalog.TheConstants.Catalog.{MAX_TABLES}
use Rattle.escrow_schema.specs.declared.plan.Plan.{Plan}
use Rattle.escrow_schema.specs.declared.plan.Plan.TheVariants as plan
use Rattle.escrow_schema.specs.Catalog.{table_named, with_table, without_table}
use Rattle.escrow_schema.specs.Definition.{definition_of}
use Rattle.escrow_schema.specs.declared.table.TheConstants.TableDef.{MAX_ROWS}
use Rattle.escrow_machine.specs.declared.reply.Reply.{Reply}
use Rattle.escrow_machine.specs.declared.reply.Reply.TheVariants as reply
use Rattle.escrow_machine.specs.Altered.{table_with_check, added_violation, drop_refusal_of, table_altered, after_alter}
use Rattle.escrow_machine.specs.Asked.{new_row, insert_violation, plan_of, plan_refusal_of, row_name, reservation_from, violation_of, named_by, key_refusal_of, select_refusal_of, select_reply, show_reply}
use Rattle.escrow_machine.specs.Bounds.{bounds_reply}
use Rattle.escrow_machine.specs.Journal.{journal_reply}
use Rattle.escrow_machine.specs.State.{State, open_in, with_open, is_open, is_reserved, is_row_full, is_table_reserved}
use Rattle.escrow_schema.specs.Rows.{row_named, rows_of, applied, with_row, without_row, without_rows_of, with_plain}

-- How the machine answers a statement of a session: its refusals in their order, first those that are given whatever
-- memory there is; then the reply and the next state, if no refusal applies.
pub record Transition : Type 0 where
  pub early : List (Option Refusal)
  pub late : List (Option Refusal)
  pub reply : Reply
  pub next : State

-- the state with the table that a text defines added to its catalog
abbrev pub after_create : State → CreateText → State
after_create s text =
    record s { catalog = unwrap_or (option_map (λ table. with_table table s.catalog) (definition_of text)) s.catalog }

-- the state without a table and its rows
abbrev pub after_drop : State → List ℕ → State
after_drop s name = record s { catalog = without_table name s.catalog; rows = without_rows_of name s.rows }

-- the state with the row that an INSERT makes added to its rows
abbrev pub after_insert : State → InsertText → State
after_insert s text = record s { rows = unwrap_or (option_map (λ row. with_row row s.rows) (new_row s text)) s.rows }

-- the state without the row that a DELETE names
abbrev pub after_delete : State → RowText → State
after_delete s text = record s { rows = without_row (named_by s.catalog text.table text.row) s.rows }

-- the late refusals of an ALTER TABLE, by its change: to add checks, or to drop one
abbrev pub alter_refusals : State → List ℕ → TableChange → List (Option Refusal)
alter_refusals s table (change.Add text) =
    refuse_if (is_none (table_with_check s table text)) refusal.BadDefinition
    ∷ option_map refusal.Check (added_violation s table text)
    ∷ []
alter_refusals s table (change.Drop check) = []

-- the late refusals of an UPDATE, by its plan: to reserve changes, or to replace plain values
abbrev pub update_refusals : State → ℕ → List ℕ → Plan → List (Option Refusal)
update_refusals s session table (plan.Reserve key changes) =
    refuse_if (is_none (row_named s.rows (row_name table key))) refusal.NoSuchRow
    ∷ refuse_if (is_row_full s (row_name table key)) refusal.TooManyReservations
    ∷ grant_refusal session (open_in s)
    ∷ option_map refusal.Check (violation_of s (reservation_from s session (row_name table key) changes))
    ∷ []
update_refusals s session table (plan.Plain key values) =
    refuse_if (is_open session s) refusal.TransactionOpen
    ∷ refuse_if (is_none (row_named s.rows (row_name table key))) refusal.NoSuchRow
    ∷ []

-- the reply to an UPDATE, by its plan
abbrev pub update_reply : State → Plan → Reply
update_reply s (plan.Reserve key changes) = reply.Reserved s.next_id
update_reply s (plan.Plain key values) = reply.Updated

-- the state after an UPDATE, by its plan: with one reservation more, or with other plain values in the row
abbrev pub after_update : State → ℕ → List ℕ → Plan → State
after_update s session table (plan.Reserve key changes) =
    with_open s (open_after_grant session (row_name table key) changes (open_in s))
after_update s session table (plan.Plain key values) = record s { rows = with_plain (row_name table key) values s.rows }

-- the session's reservations are applied to the committed rows, and its transaction has ended
abbrev pub after_commit : State → ℕ → State
after_commit s session =
    record (with_open s (open_after_end session (open_in s))) { rows = applied s.rows (own session s.reservations) }

-- the session's reservations are dropped, and its transaction has ended
abbrev pub after_rollback : State → ℕ → State
after_rollback s session = with_open s (open_after_end session (open_in s))

-- the session has a savepoint of a name, the last of its own
abbrev pub after_savepoint : State → ℕ → List ℕ → State
after_savepoint s session name = with_open s (open_after_savepoint session name (open_in s))

-- the session has gone back to its savepoint of a name
abbrev pub after_rollback_to : State → ℕ → List ℕ → State
after_rollback_to s session name = with_open s (open_after_rollback_to session name (open_in s))

-- THE TABLE OF STATEMENTS: the transition of each
unfoldable pub transition_of : State → ℕ → Statement → Transition
transition_of s session (statement.Create text) = record {
  early = refuse_if (is_open session s) refusal.TransactionOpen
      ∷ refuse_if (is_some (table_named s.catalog text.table)) refusal.TableExists
      ∷ [];
  late = refuse_if (is_none (definition_of text)) refusal.BadDefinition
      ∷ refuse_if (nat_le MAX_TABLES (length s.catalog)) refusal.TooManyTables
      ∷ [];
  reply = reply.Created text.table;
  next = after_create s text;
}
transition_of s session (statement.Drop name) = record {
  early = refuse_if (is_open session s) refusal.TransactionOpen
      ∷ refuse_if (is_none (table_named s.catalog name)) refusal.NoSuchTable
      ∷ refuse_if (is_table_reserved s name) refusal.TableReserved
      ∷ [];
  late = [];
  reply = reply.Dropped name;
  next = after_drop s name;
}
transition_of s session (statement.Alter text) = record {
  early = refuse_if (is_open session s) refusal.TransactionOpen
      ∷ refuse_if (is_none (table_named s.catalog text.table)) refusal.NoSuchTable
      ∷ drop_refusal_of s text.table text.change
      ∷ [];
  late = alter_refusals s text.table text.change;
  reply = reply.Altered text.table;
  next = after_alter s (table_altered s text.table text.change);
}
transition_of s session (statement.Insert text) = record {
  early = refuse_if (is_open session s) refusal.TransactionOpen
      ∷ refuse_if (is_none (table_named s.catalog text.table)) refusal.NoSuchTable
      ∷ refuse_if (is_none (new_row s text)) refusal.BadValue
      ∷ [];
  late = refuse_if (is_some (option_and_then (λ row. row_named s.rows row.name) (new_row s text))) refusal.RowExists
      ∷ refuse_if (nat_le MAX_ROWS (length (rows_of s.rows text.table))) refusal.TableFull
      ∷ option_map refusal.Check (insert_violation s text)
      ∷ [];
  reply = reply.Inserted;
  next = after_insert s text;
}
-- an UPDATE without a plan is refused early
transition_of s session (statement.Update text) = record {
  early = refuse_if (is_none (table_named s.catalog text.table)) refusal.NoSuchTable
      ∷ plan_refusal_of s text
      ∷ [];
  late = unwrap_or (option_map (update_refusals s session text.table) (plan_of s text)) [];
  reply = unwrap_or (option_map (update_reply s) (plan_of s text)) reply.Updated;
  next = unwrap_or (option_map (after_update s session text.table) (plan_of s text)) s;
}
transition_of s session (statement.Delete text) = record {
  early = refuse_if (is_open session s) refusal.TransactionOpen
      ∷ refuse_if (is_none (table_named s.catalog text.table)) refusal.NoSuchTable
      ∷ key_refusal_of s text.table text.row
      ∷ [];
  late = refuse_if (is_none (row_named s.rows (named_by s.catalog text.table text.row))) refusal.NoSuchRow
      ∷ refuse_if (is_reserved s (named_by s.catalog text.table text.row)) refusal.RowReserved
      ∷ [];
  reply = reply.Deleted;
  next = after_delete s text;
}
transition_of s session (statement.Select text) = record {
  early = refuse_if (is_none (table_named s.catalog text.table)) refusal.NoSuchTable
      ∷ select_refusal_of s text
      ∷ [];
  late = [];
  reply = select_reply s text;
  next = s;
}
transition_of s session (statement.ShowTable name) = record {
  early = refuse_if (is_none (table_named s.catalog name)) refusal.NoSuchTable
      ∷ [];
  late = [];
  reply = show_reply s name;
  next = s;
}
transition_of s session (statement.ShowBounds text) = record {
  early = refuse_if (is_none (table_named s.catalog text.table)) refusal.NoSuchTable
      ∷ key_refusal_of s text.table text.row
      ∷ [];
  late = refuse_if (is_none (row_named s.rows (named_by s.catalog text.table text.row))) refusal.NoSuchRow
      ∷ [];
  reply = bounds_reply s text;
  next = s;
}
transition_of s session (statement.ShowJournal table) = record {
  early = option_and_then (λ name. refuse_if (is_none (table_named s.catalog name)) refusal.NoSuchTable) table
      ∷ [];
  late = [];
  reply = journal_reply s table;
  next = s;
}
transition_of s session (statement.Savepoint name) = record {
  early = savepoint_refusal session name (open_in s)
      ∷ [];
  late = [];
  reply = reply.Savepoint name;
  next = after_savepoint s session name;
}
transition_of s session statement.Commit = record {
  early = [];
  late = [];
  reply = reply.Committed (length (own session s.reservations));
  next = after_commit s session;
}
transition_of s session statement.Rollback = record {
  early = [];
  late = [];
  reply = reply.RolledBack (length (own session s.reservations));
  next = after_rollback s session;
}
transition_of s session (statement.RollbackTo name) = record {
  early = refuse_if (is_none (savepoint_of session name s.savepoints)) refusal.NoSuchSavepoint
      ∷ [];
  late = [];
  reply = reply.RolledBackTo name (unwrap_or (released session name (open_in s)) 0);
  next = after_rollback_to s session name;
}
