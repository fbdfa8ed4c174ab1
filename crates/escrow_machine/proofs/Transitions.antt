-- The transition of each statement, one lemma for each statement: the laws of steps rest on them.
use Rattle.std.specs.Prelude.{◌≡◌, ℕ, ◌<◌, unwrap_or, option_map, option_and_then, Option, Some, None, List, [], length}
use Rattle.std.specs.List.{AllByRecursion}
use Rattle.std.proofs.Common.{refl, sym, ap, subst, le_refl, ◌∙◌}
use Rattle.escrow_num.specs.declared.refusal.Refusal.{Refusal}
use Rattle.escrow_num.specs.declared.row.Row.{Row}
use Rattle.escrow_statement.specs.declared.statement.Statement.{Statement}
use Rattle.escrow_statement.specs.declared.statement.Statement.TheVariants as statement
use Rattle.escrow_statement.specs.declared.statement.AlterText.{AlterText}
use Rattle.escrow_statement.specs.declared.statement.CreateText.{CreateText}
use Rattle.escrow_statement.specs.declared.statement.InsertText.{InsertText}
use Rattle.escrow_statement.specs.declared.statement.RowText.{RowText}
use Rattle.escrow_statement.specs.declared.statement.SelectText.{SelectText}
use Rattle.escrow_statement.specs.declared.statement.TableChange.{TableChange}
use Rattle.escrow_statement.specs.declared.statement.TableChange.TheVariants as change
use Rattle.escrow_schema.specs.declared.table.TableDef.{TableDef}
use Rattle.escrow_schema.specs.Altered.{with_check, without_check, with_altered}
use Rattle.escrow_schema.specs.Catalog.{table_named, with_table, without_table}
use Rattle.escrow_schema.specs.declared.table.TheConstants.TableDef.{MAX_ROWS}
use Rattle.escrow_machine.specs.declared.reply.Reply.{Reply}
use Rattle.escrow_machine.specs.declared.reply.Reply.TheVariants as reply
use Rattle.escrow_machine.specs.Altered.{table_altered, after_alter}
use Rattle.escrow_machine.specs.Asked.{new_row, named_by, select_reply, show_reply}
use Rattle.escrow_machine.specs.Bounds.{bounds_in, bounds_reply}
use Rattle.escrow_machine.specs.Laws.{ShowsAfter}
use Rattle.escrow_machine.specs.Reply.{failure_of}
use Rattle.escrow_machine.specs.Accepted.{IsAccepted}
use Rattle.escrow_journal.specs.Reservations.{own}
use Rattle.escrow_machine.specs.State.{State}
use Rattle.escrow_schema.specs.Rows.{row_named, rows_of, applied, with_row, without_row, without_rows_of}
use Rattle.escrow_machine.specs.Transition.{transition_of, alter_refusals, after_create, after_drop, after_insert, after_delete, after_commit, after_rollback}
use Rattle.escrow_machine.specs.Valid.{IsValid}
use Rattle.escrow_machine.proofs.Accepted.{create_stands, insert_stands, drop_stands, alter_stands, add_unbroken, delete_stands}
use Rattle.escrow_machine.proofs.Queries.{shows_just}
use Rattle.escrow_machine.proofs.ValidAlter.{name_found, add_check_valid, drop_check_valid}
use Rattle.escrow_machine.proofs.ValidCreate.{create_valid}
use Rattle.escrow_machine.proofs.ValidDelete.{delete_valid}
use Rattle.escrow_machine.proofs.ValidDrop.{drop_valid}
use Rattle.escrow_machine.proofs.ValidEnds.{commit_valid, rollback_valid}
use Rattle.escrow_machine.proofs.ValidInsert.{insert_valid}
use Rattle.escrow_machine.proofs.TransitionSavepoints.{savepoint_transition, back_transition}
use Rattle.escrow_machine.proofs.TransitionWords.{IsTransition}
use Rattle.escrow_machine.proofs.TransitionUpdate.{update_transition}

create_transition : (s : State) (session : ℕ) (text : CreateText) → IsTransition s session (statement.Create text) (transition_of s session (statement.Create text))
unfolding transition_of
create_transition s session text = record {
  answers = λ r e. absurd (cc);
  succeeds = refl;
  seen = λ accepted.
      let stands = create_stands s session text accepted in
      (stands.table, stands.defines, shows_just (after_create s text) (with_table stands.table s.catalog) s.rows (rw stands.defines refl) refl);
  ids = λ _. le_refl _;
  next = λ _ id e. absurd (cc);
  valid = λ accepted valid of_session.
      let stands = create_stands s session text accepted in
      rw stands.defines (create_valid s text stands.table valid stands.defines stands.new stands.room);
}

drop_transition : (s : State) (session : ℕ) (name : List ℕ) → IsTransition s session (statement.Drop name) (transition_of s session (statement.Drop name))
unfolding transition_of
drop_transition s session name = record {
  answers = λ r e. absurd (cc);
  succeeds = refl;
  seen = λ _. shows_just (after_drop s name) (without_table name s.catalog) (without_rows_of name s.rows) refl refl;
  ids = λ _. le_refl _;
  next = λ _ id e. absurd (cc);
  valid = λ accepted valid _. drop_valid s name valid (drop_stands s session name accepted).free;
}

-- an altered table leaves the state valid
altered_valid : (s : State) (name : List ℕ) (asked : TableChange) (table made : TableDef) → IsValid s → table_named s.catalog name ≡ Some table
    → table_altered s name asked ≡ Some made → AllByRecursion (λ (o : Option Refusal). o ≡ None) (alter_refusals s name asked) → IsValid (record s { catalog = with_altered made s.catalog })
altered_valid s name (change.Add text) table made valid named makes safe =
    add_check_valid s name text table made valid named (ap (option_and_then (λ (t : TableDef). with_check t text)) (sym named) ∙ makes) (add_unbroken s name text safe)
altered_valid s name (change.Drop check) table made valid named makes safe =
    drop_check_valid s name check table made valid named (ap (option_and_then (λ (t : TableDef). without_check t check)) (sym named) ∙ makes)

alter_transition : (s : State) (session : ℕ) (text : AlterText) → IsTransition s session (statement.Alter text) (transition_of s session (statement.Alter text))
unfolding transition_of
alter_transition s session text = record {
  answers = λ r e. absurd (cc);
  succeeds = refl;
  seen = λ accepted.
      let stands = alter_stands s session text accepted in (
        stands.made,
        stands.makes,
        shows_just (after_alter s (table_altered s text.table text.change)) (with_altered stands.made s.catalog) s.rows
            (ap (λ (o : Option TableDef). (after_alter s o).catalog) stands.makes) refl,
      );
  ids = λ _. le_refl _;
  next = λ _ id e. absurd (cc);
  valid = λ accepted valid _.
      let stands = alter_stands s session text accepted in
      subst (λ (o : Option TableDef). IsValid (after_alter s o)) (sym stands.makes)
      (altered_valid s text.table text.change stands.table stands.made valid stands.named stands.makes stands.safe);
}

some_same : {A : Type 0} {x y : A} → Some x ≡ Some y → x ≡ y
some_same e = cc

-- an inserted row leaves the state valid
pub inserted_valid : (s : State) (session : ℕ) (text : InsertText) (row : Row) → IsValid s → IsAccepted s session (statement.Insert text)
    → new_row s text ≡ Some row → IsValid (record s { rows = with_row row s.rows })
inserted_valid s session text row valid accepted made =
    let stands = insert_stands s session text accepted in
    let same : stands.row ≡ row = some_same (sym stands.made ∙ made) in
    let name : stands.table.name ≡ text.table = name_found s.catalog text.table stands.table stands.named in
    let named : table_named s.catalog stands.table.name ≡ Some stands.table = subst (λ (n : List ℕ). table_named s.catalog n ≡ Some stands.table) (sym name) stands.named in
    let room : length (rows_of s.rows stands.table.name) < MAX_ROWS = subst (λ (n : List ℕ). length (rows_of s.rows n) < MAX_ROWS) (sym name) stands.room in
    subst (λ (r : Row). IsValid (record s { rows = with_row r s.rows })) same
    (insert_valid s stands.table text stands.row valid named stands.fits stands.new room stands.safe)

insert_transition : (s : State) (session : ℕ) (text : InsertText) → IsTransition s session (statement.Insert text) (transition_of s session (statement.Insert text))
unfolding transition_of
insert_transition s session text = record {
  answers = λ r e. absurd (cc);
  succeeds = refl;
  seen = λ accepted.
      let stands = insert_stands s session text accepted in
      (stands.row, stands.made, shows_just (after_insert s text) s.catalog (with_row stands.row s.rows) refl (rw stands.made refl));
  ids = λ _. le_refl _;
  next = λ _ id e. absurd (cc);
  valid = λ accepted valid of_session.
      let stands = insert_stands s session text accepted in
      rw stands.made (inserted_valid s session text stands.row valid accepted stands.made);
}

delete_transition : (s : State) (session : ℕ) (text : RowText) → IsTransition s session (statement.Delete text) (transition_of s session (statement.Delete text))
unfolding transition_of
delete_transition s session text = record {
  answers = λ r e. absurd (cc);
  succeeds = refl;
  seen = λ _. shows_just (after_delete s text) s.catalog (without_row (named_by s.catalog text.table text.row) s.rows) refl refl;
  ids = λ _. le_refl _;
  next = λ _ id e. absurd (cc);
  valid = λ accepted valid _. delete_valid s (named_by s.catalog text.table text.row) valid (delete_stands s session text accepted).free;
}

-- a reply that shows a table, whichever table it is
shown_as : (P : Reply → Type 0) (f : TableDef → Reply) (o : Option TableDef) (none : Reply) → P none → ((table : TableDef) → P (f table))
    → P (unwrap_or (option_map f o) none)
shown_as P f None none at_none each = at_none
shown_as P f (Some table) none at_none each = each table

-- a reply that shows something is no refusal, no failure and no reservation
abbrev IsShow : Reply → Type 0
IsShow answer = ((r : Refusal) → ¬ (answer ≡ reply.Refused r)) × (failure_of answer ≡ None) × ((id : ℕ) → ¬ (answer ≡ reply.Reserved id))

select_shows : (s : State) (text : SelectText) → IsShow (select_reply s text)
select_shows s text =
    shown_as IsShow _ (table_named s.catalog text.table) (reply.Rows [] [])
    (λ r e. absurd (cc), refl, λ id e. absurd (cc)) (λ table. (λ r e. absurd (cc), refl, λ id e. absurd (cc)))

table_shows : (s : State) (name : List ℕ) → IsShow (show_reply s name)
table_shows s name =
    shown_as IsShow _ (table_named s.catalog name) (reply.Table [])
    (λ r e. absurd (cc), refl, λ id e. absurd (cc)) (λ table. (λ r e. absurd (cc), refl, λ id e. absurd (cc)))

-- a reply that shows a row, whichever table and row they are
shown_of_row : (P : Reply → Type 0) (f : TableDef → Row → Reply) (o : Option TableDef) (row : Option Row) (none : Reply) → P none
    → ((table : TableDef) (r : Row) → P (f table r)) → P (unwrap_or (option_and_then (λ (table : TableDef). option_map (f table) row) o) none)
shown_of_row P f None row none at_none each = at_none
shown_of_row P f (Some table) None none at_none each = at_none
shown_of_row P f (Some table) (Some r) none at_none each = each table r

bounds_show : (s : State) (text : RowText) → IsShow (bounds_reply s text)
bounds_show s text =
    shown_of_row IsShow (λ table row. bounds_in s.reservations table row.name row.amounts) (table_named s.catalog text.table) (row_named s.rows (named_by s.catalog text.table text.row)) (reply.Bounds [] [])
    (λ r e. absurd (cc), refl, λ id e. absurd (cc)) (λ table row. (λ r e. absurd (cc), refl, λ id e. absurd (cc)))

-- a statement that shows something leaves the state unchanged
shown_transition : (s : State) (session : ℕ) (asked : Statement) (early late : List (Option Refusal)) (answer : Reply) → IsShow answer → ShowsAfter s session asked s
    → IsTransition s session asked (record { early = early; late = late; reply = answer; next = s })
shown_transition s session asked early late answer shows seen = record {
  answers = shows.0;
  succeeds = shows.1;
  seen = λ _. seen;
  ids = λ _. le_refl _;
  next = λ _ id e. absurd (shows.2 id e);
  valid = λ _ valid _. valid;
}

select_transition : (s : State) (session : ℕ) (text : SelectText) → IsTransition s session (statement.Select text) (transition_of s session (statement.Select text))
unfolding transition_of
select_transition s session text = shown_transition s session (statement.Select text) _ _ _ (select_shows s text) (shows_just s s.catalog s.rows refl refl)

show_transition : (s : State) (session : ℕ) (name : List ℕ) → IsTransition s session (statement.ShowTable name) (transition_of s session (statement.ShowTable name))
unfolding transition_of
show_transition s session name = shown_transition s session (statement.ShowTable name) _ _ _ (table_shows s name) (shows_just s s.catalog s.rows refl refl)

bounds_transition : (s : State) (session : ℕ) (text : RowText) → IsTransition s session (statement.ShowBounds text) (transition_of s session (statement.ShowBounds text))
unfolding transition_of
bounds_transition s session text = shown_transition s session (statement.ShowBounds text) _ _ _ (bounds_show s text) (shows_just s s.catalog s.rows refl refl)

journal_transition : (s : State) (session : ℕ) (table : Option (List ℕ)) → IsTransition s session (statement.ShowJournal table) (transition_of s session (statement.ShowJournal table))
unfolding transition_of
journal_transition s session table =
    shown_transition s session (statement.ShowJournal table) _ _ _ (λ r e. absurd (cc), refl, λ id e. absurd (cc)) (shows_just s s.catalog s.rows refl refl)

commit_transition : (s : State) (session : ℕ) → IsTransition s session statement.Commit (transition_of s session statement.Commit)
unfolding transition_of
commit_transition s session = record {
  answers = λ r e. absurd (cc);
  succeeds = refl;
  seen = λ _. shows_just (after_commit s session) s.catalog (applied s.rows (own session s.reservations)) refl refl;
  ids = λ _. le_refl _;
  next = λ _ id e. absurd (cc);
  valid = λ _ valid _. commit_valid s session valid;
}

rollback_transition : (s : State) (session : ℕ) → IsTransition s session statement.Rollback (transition_of s session statement.Rollback)
unfolding transition_of
rollback_transition s session = record {
  answers = λ r e. absurd (cc);
  succeeds = refl;
  seen = λ _. (shows_just (after_rollback s session) s.catalog s.rows refl refl, refl);
  ids = λ _. le_refl _;
  next = λ _ id e. absurd (cc);
  valid = λ _ valid _. rollback_valid s session valid;
}

-- ALL STATEMENTS
pub is_transition : (s : State) (session : ℕ) (asked : Statement) → IsTransition s session asked (transition_of s session asked)
is_transition s session (statement.Create text) = create_transition s session text
is_transition s session (statement.Drop name) = drop_transition s session name
is_transition s session (statement.Alter text) = alter_transition s session text
is_transition s session (statement.Insert text) = insert_transition s session text
is_transition s session (statement.Update text) = update_transition s session text
is_transition s session (statement.Delete text) = delete_transition s session text
is_transition s session (statement.Select text) = select_transition s session text
is_transition s session (statement.ShowTable name) = show_transition s session name
is_transition s session (statement.ShowJournal table) = journal_transition s session table
is_transition s session (statement.ShowBounds text) = bounds_transition s session text
is_transition s session (statement.Savepoint name) = savepoint_transition s session name
is_transition s session statement.Commit = commit_transition s session
is_transition s session statement.Rollback = rollback_transition s session
is_transition s session (statement.RollbackTo name) = back_transition s session name
