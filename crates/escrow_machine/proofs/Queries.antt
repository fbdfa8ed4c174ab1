-- What queries show of a state: only its committed tables and rows.
use Rattle.std.specs.Prelude.{◌≡◌, ℕ, is_none, unwrap_or, option_map, Option, Some, None, List, [], ◌∷◌}
use Rattle.std.proofs.Common.{refl, sym, ap₂, ◌∙◌}
use Rattle.escrow_num.specs.declared.refusal.Refusal.{Refusal}
use Rattle.escrow_num.specs.declared.refusal.Refusal.TheVariants as refusal
use Rattle.escrow_num.specs.declared.reservation.Reservation.{Reservation}
use Rattle.escrow_num.specs.declared.reservation.Savepoint.{Savepoint}
use Rattle.escrow_num.specs.declared.row.Row.{Row}
use Rattle.escrow_num.specs.Refusal.{refuse_if, first_refusal}
use Rattle.escrow_statement.specs.declared.statement.Statement.{Statement}
use Rattle.escrow_statement.specs.declared.statement.Statement.TheVariants as statement
use Rattle.escrow_statement.specs.declared.statement.SelectText.{SelectText}
use Rattle.escrow_schema.specs.declared.table.TableDef.{TableDef}
use Rattle.escrow_schema.specs.Catalog.{table_named}
use Rattle.escrow_machine.specs.declared.reply.Reply.{Reply}
use Rattle.escrow_machine.specs.declared.reply.Reply.TheVariants as reply
use Rattle.escrow_machine.specs.Asked.{select_reply, select_refusal_of, show_reply}
use Rattle.escrow_machine.specs.Laws.{IsQuery, ShowsJust}
use Rattle.escrow_machine.specs.State.{State, opened}
use Rattle.escrow_machine.specs.Step.{step}
use Rattle.escrow_machine.specs.Transition.{transition_of}

-- the reply of a query that may be refused
reply_part : (s : State) (o : Option Refusal) (done : Reply)
    → (let answered : Reply × State = unwrap_or (option_map (λ (r : Refusal). (reply.Refused r, s)) o) (done, s) in answered.0) ≡ unwrap_or (option_map reply.Refused o) done
reply_part s None done = refl
reply_part s (Some r) done = refl

-- the state with other reservations, savepoints and next id
abbrev beside : State → List Reservation → List Savepoint → ℕ → State
beside s reservations savepoints next_id = record s { reservations = reservations; savepoints = savepoints; next_id = next_id }

select_alike : (s : State) (session other : ℕ) (text : SelectText) (reservations : List Reservation) (savepoints : List Savepoint) (next_id : ℕ)
    → (step (beside s reservations savepoints next_id) other (statement.Select text)).0 ≡ (step s session (statement.Select text)).0
unfolding transition_of
select_alike s session other text reservations savepoints next_id =
    let o = first_refusal (refuse_if (is_none (table_named s.catalog text.table)) refusal.NoSuchTable ∷ select_refusal_of s text ∷ []) in
    reply_part (beside s reservations savepoints next_id) o (select_reply s text) ∙ sym (reply_part s o (select_reply s text))

show_alike : (s : State) (session other : ℕ) (name : List ℕ) (reservations : List Reservation) (savepoints : List Savepoint) (next_id : ℕ)
    → (step (beside s reservations savepoints next_id) other (statement.ShowTable name)).0 ≡ (step s session (statement.ShowTable name)).0
unfolding transition_of
show_alike s session other name reservations savepoints next_id =
    let o = first_refusal (refuse_if (is_none (table_named s.catalog name)) refusal.NoSuchTable ∷ []) in
    reply_part (beside s reservations savepoints next_id) o (show_reply s name) ∙ sym (reply_part s o (show_reply s name))

-- a query has the same reply whatever is open, and whichever session asks
pub query_alike : (s : State) (session other : ℕ) (asked : Statement) (reservations : List Reservation) (savepoints : List Savepoint) (next_id : ℕ) → IsQuery asked
    → (step (beside s reservations savepoints next_id) other asked).0 ≡ (step s session asked).0
query_alike s session other (statement.Select text) reservations savepoints next_id query = select_alike s session other text reservations savepoints next_id
query_alike s session other (statement.ShowTable name) reservations savepoints next_id query = show_alike s session other name reservations savepoints next_id
query_alike s session other _ reservations savepoints next_id query = absurd query

-- a state therefore shows just its own tables and rows
pub shows_just : (s : State) (tables : List TableDef) (committed : List Row) → s.catalog ≡ tables → s.rows ≡ committed → ShowsJust s tables committed
shows_just s tables committed catalog rows = record {
  catalog = catalog;
  rows = rows;
  answers = λ asker query is_query.
      sym (query_alike s asker asker query [] [] 1 is_query)
      ∙ ap₂ (λ (ts : List TableDef) (rs : List Row). (step (opened ts rs) asker query).0) catalog rows;
}
