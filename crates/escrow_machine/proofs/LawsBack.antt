-- ROLLBACK TO a savepoint: directly after it was made, and what would be granted before it.
use Rattle.std.specs.Prelude.{◌≡◌, ℕ, ℤ, ◌<◌, ◌≤◌, ◌==◌, Bool, false, not, is_none, nat_le, option_map, unwrap_or, Option, Some, None, List, [], ◌∷◌, length, map, filter}
use Rattle.std.specs.List.{AllByRecursion}
use Rattle.std.proofs.Common.{refl, sym, ap, ap₂, ◌∙◌, subst, arith}
use Rattle.std.proofs.lemmas.Bool.{and_right, not_from_false, false_from_ne_true, leb-true, lt-leb}
use Rattle.escrow_num.specs.declared.refusal.Refusal.{Refusal}
use Rattle.escrow_num.specs.declared.refusal.Refusal.TheVariants as refusal
use Rattle.escrow_num.specs.declared.reservation.Reservation.{Reservation}
use Rattle.escrow_num.specs.declared.reservation.Savepoint.{Savepoint}
use Rattle.escrow_num.specs.declared.row.Row.{Row}
use Rattle.escrow_num.specs.declared.value.RowName.{RowName}
use Rattle.escrow_num.specs.declared.value.Value.{Value}
use Rattle.escrow_num.specs.Order.{same_row}
use Rattle.escrow_num.specs.Refusal.{refuse_if, first_refusal}
use Rattle.escrow_num.specs.Reservation.{deltas}
use Rattle.escrow_num.proofs.Ascending.{ascending_filter}
use Rattle.escrow_num.proofs.Items.{Has, all_has}
use Rattle.escrow_statement.specs.declared.statement.Statement.TheVariants as statement
use Rattle.escrow_statement.specs.declared.statement.UpdateText.{UpdateText}
use Rattle.escrow_checks.specs.Grant.{broken}
use Rattle.escrow_checks.specs.declared.spread.TheConstants.Spread.{MAX_OPEN}
use Rattle.escrow_schema.specs.declared.plan.Plan.{Plan}
use Rattle.escrow_schema.specs.declared.plan.Plan.TheVariants as plan
use Rattle.escrow_schema.specs.declared.table.TableDef.{TableDef}
use Rattle.escrow_schema.specs.Catalog.{table_named}
use Rattle.escrow_journal.specs.declared.journal.TheConstants.Journal.{MAX_RESERVATIONS}
use Rattle.escrow_journal.specs.Reservations.{own, savepoint_before}
use Rattle.escrow_journal.specs.Savepoints.{is_named, savepoint_of, without_savepoint, through, is_after, after, not_after}
use Rattle.escrow_machine.specs.declared.reply.Reply.{Reply}
use Rattle.escrow_machine.specs.declared.reply.Reply.TheVariants as reply
use Rattle.escrow_machine.specs.Asked.{plan_of, plan_refusal_of, row_name, reservation_from, violation_of}
use Rattle.escrow_machine.specs.Laws.{BackAtOnceChangesNothing, BackRefusesNothing}
use Rattle.escrow_machine.specs.Accepted.{IsAccepted}
use Rattle.escrow_machine.specs.State.{State, open_in, on_row}
use Rattle.escrow_schema.specs.Rows.{row_named, changes_to}
use Rattle.escrow_machine.specs.Step.{step}
use Rattle.escrow_machine.specs.Transition.{transition_of, after_savepoint, after_rollback_to, update_refusals, update_reply}
use Rattle.escrow_machine.specs.Valid.{IsValid, IsReservationIn}
use Rattle.escrow_machine.proofs.Accepted.{reserve_stands}
use Rattle.escrow_machine.proofs.Choices.{IsChoice, choice_filter, choice_map}
use Rattle.escrow_machine.proofs.Filters.{filter_all, filter_none}
use Rattle.escrow_machine.proofs.Granted.{fewer_grant}
use Rattle.escrow_machine.proofs.LawsGrants.{choice_of_image, granted_none, granted_plan}
use Rattle.escrow_machine.proofs.LawsSteps.{step_has}
use Rattle.escrow_machine.proofs.Lengths.{length-filter_filter}
use Rattle.escrow_journal.proofs.Free.{unrefused}
use Rattle.escrow_machine.proofs.Refusals.{all_passed}
use Rattle.escrow_machine.proofs.SavepointNames.{none_named, found_put, through_put}
use Rattle.escrow_machine.proofs.ValidEnds.{returned_to, back_has}

-- the step of a ROLLBACK TO a savepoint that exists
pub back_step : (s : State) (session : ℕ) (name : List ℕ) (p : Savepoint) → savepoint_of session name s.savepoints ≡ Some p
    → step s session (statement.RollbackTo name) ≡ (reply.RolledBackTo name (length (after p s.reservations)), returned_to s p)
unfolding transition_of
back_step s session name p found = rw found refl

-- the savepoint that a SAVEPOINT makes
abbrev pub made_in : State → ℕ → List ℕ → Savepoint
made_in s session name = record { session = session; name = name; id = s.next_id }

-- no reservation was made after it yet
none_after : (s : State) (session : ℕ) (name : List ℕ) → IsValid s → (r : Reservation) → Has s.reservations r → is_after (made_in s session name) r ≡ false
none_after s session name valid r h =
    let below : r.id < s.next_id = (all_has (IsReservationIn s.catalog s.next_id) s.reservations valid.orderly.reservations_in r h).below in
    and_right (r.session == session) (nat_le s.next_id r.id)
    (false_from_ne_true (nat_le s.next_id r.id) (λ t. let up_to = leb-true s.next_id r.id t in absurd (omega arith)))

pub all_stay : (s : State) (session : ℕ) (name : List ℕ) → IsValid s → not_after (made_in s session name) s.reservations ≡ s.reservations
all_stay s session name valid =
    let p = made_in s session name in
    filter_all (λ (r : Reservation). not (is_after p r)) s.reservations (λ r h. not_from_false (is_after p r) (none_after s session name valid r h))

-- its name finds it
pub made_found : (s : State) (session : ℕ) (name : List ℕ) → savepoint_of session name (after_savepoint s session name).savepoints ≡ Some (made_in s session name)
made_found s session name = found_put (made_in s session name) (without_savepoint session name s.savepoints) (none_named session name s.savepoints)

-- a ROLLBACK TO it, directly after it was made, drops nothing
back_at_once : (s : State) (session : ℕ) (name : List ℕ) → IsValid s
    → step (after_savepoint s session name) session (statement.RollbackTo name) ≡ (reply.RolledBackTo name 0, after_savepoint s session name)
back_at_once s session name valid =
    let p = made_in s session name in
    let t : State = after_savepoint s session name in
    let other : Savepoint → Bool = λ q. not (is_named session name q) in
    let none : after p s.reservations ≡ [] = filter_none (is_after p) s.reservations (none_after s session name valid) in
    let kept : through session name t.savepoints ≡ t.savepoints =
    through_put p (without_savepoint session name s.savepoints) (ascending_filter savepoint_before other s.savepoints valid.orderly.savepoint_order)
    (none_named session name s.savepoints) in
    let same : returned_to t p ≡ t =
    ap₂ (λ (rs : List Reservation) (ps : List Savepoint). record t { reservations = rs; savepoints = ps }) (all_stay s session name valid) kept in
    back_step t session name p (made_found s session name)
    ∙ ap₂ (λ (n : ℕ) (u : State). (reply.RolledBackTo name n, u)) (ap length none) same

pub back_at_once_changes_nothing : BackAtOnceChangesNothing
unfolding transition_of
back_at_once_changes_nothing s session name valid =
    step_has (λ (p : Reply × State). p.0 ≡ reply.Savepoint name
    → (p.1 ≡ record s { savepoints = p.1.savepoints }) × (step p.1 session (statement.RollbackTo name) ≡ (reply.RolledBackTo name 0, p.1)))
    s session (statement.Savepoint name) (λ _ _ e. absurd (cc)) (λ _ _. (refl, back_at_once s session name valid))

-- WHAT WOULD BE GRANTED

-- if none of several refusals applies, there is no first one
none_applies : (refusals : List (Option Refusal)) → AllByRecursion (λ o. o ≡ None) refusals → first_refusal refusals ≡ None
none_applies [] all = refl
none_applies (o ∷ rest) all = ap (λ (x : Option Refusal). first_refusal (x ∷ rest)) all.0 ∙ none_applies rest all.1

-- a state with other rows, reservations and savepoints, but with the same catalog and next id
abbrev pub beside : State → List Row → List Reservation → List Savepoint → State
beside s rows reservations savepoints = record s { rows = rows; reservations = reservations; savepoints = savepoints }

-- the row exists, and the changes to it break no check of the table beside the reservations
abbrev pub BreaksNone : TableDef → RowName → List ℤ → List Row → List Reservation → Type 0
BreaksNone table name changes rows reservations =
    (row : Row) × (row_named rows name ≡ Some row) × (broken table.checks row.amounts changes (map (changes_to row) reservations) ≡ None)

-- an accepted UPDATE is also accepted beside other rows and reservations, if the session holds no more of them,
-- and changes that broke nothing still break nothing
late_beside : (s : State) (rows : List Row) (reservations : List Reservation) (savepoints : List Savepoint) (session : ℕ) (text : UpdateText) (key : Value) (changes : List (Option ℤ))
    → length (own session reservations) ≤ length (own session s.reservations) → ((name : RowName) → length (on_row name reservations) ≤ length (on_row name s.reservations))
    → ((table : TableDef) (name : RowName) → BreaksNone table name (deltas changes) s.rows s.reservations → BreaksNone table name (deltas changes) rows reservations)
    → plan_of s text ≡ Some (plan.Reserve key changes) → IsAccepted s session (statement.Update text)
    → AllByRecursion (λ o. o ≡ None) (update_refusals (beside s rows reservations savepoints) session text.table (plan.Reserve key changes))
late_beside s rows reservations savepoints session text key changes fewer fewer_on still is accepted =
    let stands = reserve_stands s session text key changes is accepted in
    let name = row_name text.table key in
    let t : State = beside s rows reservations savepoints in
    let found = still stands.table name (stands.row, stands.found, stands.safe) in
    let unbroken : violation_of t (reservation_from s session name changes) ≡ None = rw (stands.named, found.1) found.2 in (
      rw found.1 refl,
      (
        rw (not_full (fewer_on name) stands.row_room) refl,
        (
          unrefused session (open_in t) (record { room = le_lt fewer stands.free.room; more_ids = stands.free.more_ids }),
          (ap (option_map refusal.Check) unbroken, tt),
        ),
      ),
    )
  where
    le_lt : length (own session reservations) ≤ length (own session s.reservations) → length (own session s.reservations) < MAX_RESERVATIONS
        → length (own session reservations) < MAX_RESERVATIONS
    le_lt few room = omega arith

    not_full : {fewer held : ℕ} → fewer ≤ held → held < MAX_OPEN → nat_le MAX_OPEN fewer ≡ false
    not_full {fewer} {held} few room = lt-leb MAX_OPEN fewer (omega arith)

pub accepted_beside : (s : State) (rows : List Row) (reservations : List Reservation) (savepoints : List Savepoint) (session : ℕ) (text : UpdateText) (key : Value) (changes : List (Option ℤ))
    → length (own session reservations) ≤ length (own session s.reservations) → ((name : RowName) → length (on_row name reservations) ≤ length (on_row name s.reservations))
    → ((table : TableDef) (name : RowName) → BreaksNone table name (deltas changes) s.rows s.reservations → BreaksNone table name (deltas changes) rows reservations)
    → plan_of s text ≡ Some (plan.Reserve key changes) → IsAccepted s session (statement.Update text)
    → IsAccepted (beside s rows reservations savepoints) session (statement.Update text)
unfolding transition_of
accepted_beside s rows reservations savepoints session text key changes fewer fewer_on still is accepted =
    let t : State = beside s rows reservations savepoints in
    let unknown = refuse_if (is_none (table_named s.catalog text.table)) refusal.NoSuchTable in
    let before = unwrap_or (option_map (update_refusals s session text.table) (plan_of s text)) [] in
    let later = unwrap_or (option_map (update_refusals t session text.table) (plan_of s text)) [] in
    let none = all_passed (unknown ∷ plan_refusal_of s text ∷ before) accepted in
    let late : AllByRecursion (λ o. o ≡ None) later =
    subst (λ (o : Option Plan). AllByRecursion (λ r. r ≡ None) (unwrap_or (option_map (update_refusals t session text.table) o) [])) (sym is)
    (late_beside s rows reservations savepoints session text key changes fewer fewer_on still is accepted) in
    none_applies (unknown ∷ plan_refusal_of s text ∷ later) (none.0, (none.1.0, late))

-- a reservation that breaks nothing beside all open ones breaks nothing beside some of them
fewer_break : (keep : Reservation → Bool) (s : State) (table : TableDef) (name : RowName) (changes : List ℤ)
    → BreaksNone table name changes s.rows s.reservations → BreaksNone table name changes s.rows (filter keep s.reservations)
fewer_break keep s table name changes stands =
    let row = stands.0 in (
      row,
      stands.1,
      fewer_grant table.checks row.amounts changes (map (changes_to row) s.reservations) (map (changes_to row) (filter keep s.reservations)) stands.2
          (λ chosen choice.
          let from = choice_of_image (changes_to row) (filter keep s.reservations) chosen choice in
          subst (IsChoice (map (changes_to row) s.reservations)) from.2
          (choice_map (changes_to row) s.reservations from.0 (choice_filter keep s.reservations from.0 from.1))),
    )

-- the reply to an accepted reservation
pub reserved_reply : (s : State) (session : ℕ) (text : UpdateText) (key : Value) (changes : List (Option ℤ)) → plan_of s text ≡ Some (plan.Reserve key changes)
    → (transition_of s session (statement.Update text)).reply ≡ reply.Reserved s.next_id
unfolding transition_of
reserved_reply s session text key changes is = ap (λ (o : Option Plan). unwrap_or (option_map (update_reply s) o) reply.Updated) is

accepted_reply : (s : State) (session : ℕ) (text : UpdateText) → IsAccepted s session (statement.Update text)
    → (step s session (statement.Update text)).0 ≡ (transition_of s session (statement.Update text)).reply
accepted_reply s session text accepted =
    let transition = transition_of s session (statement.Update text) in
    ap (λ (o : Option Refusal). let answered : Reply × State = unwrap_or (option_map (λ (r : Refusal). (reply.Refused r, s)) o) (transition.reply, transition.next) in answered.0) accepted

granted_beside : (s : State) (keep : Reservation → Bool) (savepoints : List Savepoint) (session : ℕ) (text : UpdateText) (id : ℕ)
    → (step s session (statement.Update text)).0 ≡ reply.Reserved id
    → (step (beside s s.rows (filter keep s.reservations) savepoints) session (statement.Update text)).0 ≡ reply.Reserved id
granted_beside s keep savepoints session text id granted =
    let left : List Reservation = filter keep s.reservations in
    let t : State = beside s s.rows left savepoints in
    let none = granted_none s session text id granted in
    let is = granted_plan s session text id none.1 in
    accepted_reply t session text
    (accepted_beside s s.rows left savepoints session text is.0 is.1 (length-filter_filter (λ (r : Reservation). r.session == session) keep s.reservations)
    (λ name. length-filter_filter (λ (r : Reservation). same_row name r.row) keep s.reservations)
    (λ table name. fewer_break keep s table name (deltas is.1)) is.2 none.0)
    ∙ reserved_reply t session text is.0 is.1 is.2
    ∙ sym (reserved_reply s session text is.0 is.1 is.2)
    ∙ none.1

-- the state after an accepted ROLLBACK TO
back_next : (s : State) (session : ℕ) (name : List ℕ) → (transition_of s session (statement.RollbackTo name)).next ≡ after_rollback_to s session name
unfolding transition_of
back_next s session name = refl

pub back_refuses_nothing : BackRefusesNothing
back_refuses_nothing s session other name text id granted =
    let Granted : State → Type 0 = λ t. (step t other (statement.Update text)).0 ≡ reply.Reserved id in
    step_has (λ (p : Reply × State). Granted p.1) s session (statement.RollbackTo name) (λ _ _. granted)
    (λ _. subst Granted (sym (back_next s session name))
    (back_has Granted s session name granted
    (λ p. granted_beside s (λ r. not (is_after p r)) (through p.session p.name s.savepoints) other text id granted)))
