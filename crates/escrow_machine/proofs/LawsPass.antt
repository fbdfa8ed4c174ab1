-- A statement that may be served while another session's COMMIT is held back commutes with that COMMIT.
use Rattle.std.specs.Prelude.{◌≡◌, ℕ, ℤ, ◌+◌, ◌≤◌, ◌==◌, Bool, true, not, nat_le, is_none, option_map, unwrap_or, Option, Some, None, List, [], ◌∷◌, ◌++◌, length, map}
use Rattle.std.proofs.Common.{refl, sym, ap, ap₂, ◌∙◌, subst, arith}
use Rattle.std.proofs.lemmas.Bool.{cond-true, cond-false, and_parts, not_from_false, false_from_ne_true, eqb-true, false≢true}
use Rattle.std.proofs.lemmas.List.{append-nil}
use Rattle.std.proofs.lemmas.List.Elements.{filter-append}
use Rattle.escrow_num.specs.declared.refusal.Refusal.{Refusal}
use Rattle.escrow_num.specs.declared.refusal.Refusal.TheVariants as refusal
use Rattle.escrow_num.specs.declared.reservation.Reservation.{Reservation}
use Rattle.escrow_num.specs.declared.reservation.Savepoint.{Savepoint}
use Rattle.escrow_num.specs.declared.row.Row.{Row}
use Rattle.escrow_num.specs.declared.session.End.TheVariants as end
use Rattle.escrow_num.specs.declared.value.RowName.{RowName}
use Rattle.escrow_num.specs.declared.value.Value.{Value}
use Rattle.escrow_num.specs.Ascending.{IsAscending}
use Rattle.escrow_num.specs.Order.{same_row}
use Rattle.escrow_num.specs.Refusal.{refuse_if, first_refusal}
use Rattle.escrow_num.specs.Reservation.{deltas}
use Rattle.escrow_num.proofs.Ascending.{ascending_filter}
use Rattle.escrow_num.proofs.Items.{find_has}
use Rattle.escrow_statement.specs.declared.statement.Statement.{Statement}
use Rattle.escrow_statement.specs.declared.statement.Statement.TheVariants as statement
use Rattle.escrow_statement.specs.declared.statement.UpdateText.{UpdateText}
use Rattle.escrow_checks.specs.Form.{changed, all_changed}
use Rattle.escrow_schema.specs.declared.plan.Plan.{Plan}
use Rattle.escrow_schema.specs.declared.plan.Plan.TheVariants as plan
use Rattle.escrow_schema.specs.declared.table.TableDef.{TableDef}
use Rattle.escrow_schema.specs.Rows.{changes_to, row_after, applied}
use Rattle.escrow_journal.specs.declared.journal.TheConstants.Journal.{MAX_SAVEPOINTS}
use Rattle.escrow_journal.specs.Open as journal
use Rattle.escrow_journal.specs.Reservations.{own, others, own_savepoints, other_savepoints}
use Rattle.escrow_journal.specs.Savepoints.{is_named, savepoint_of, without_savepoint, put_savepoint, through, is_after, after, not_after}
use Rattle.escrow_machine.specs.declared.reply.Reply.{Reply}
use Rattle.escrow_machine.specs.declared.reply.Reply.TheVariants as reply
use Rattle.escrow_machine.specs.Accepted.{IsAccepted}
use Rattle.escrow_machine.specs.Asked.{plan_of, row_name, reservation_from}
use Rattle.escrow_machine.specs.Held.{is_grant, passes}
use Rattle.escrow_machine.specs.Laws.{PassesCommits}
use Rattle.escrow_machine.specs.State.{State, open_in, with_open}
use Rattle.escrow_machine.specs.Step.{refusals, step}
use Rattle.escrow_machine.specs.Transition.{transition_of, after_update, after_commit}
use Rattle.escrow_machine.proofs.Changes.{IsMerged, merge_choice, all_changed_later}
use Rattle.escrow_machine.proofs.Choices.{choice_map}
use Rattle.escrow_machine.proofs.Filters.{filters_commute, filter_within}
use Rattle.escrow_machine.proofs.Granted.{moved_grant}
use Rattle.escrow_machine.proofs.LawsBack.{BreaksNone, accepted_beside, reserved_reply, made_in}
use Rattle.escrow_machine.proofs.LawsEnds.{own_stay, same_state, transactions_commute}
use Rattle.escrow_machine.proofs.LawsGrants.{choice_of_image, granted_none, granted_plan}
use Rattle.escrow_machine.proofs.LawsSteps.{step_has}
use Rattle.escrow_machine.proofs.Lengths.{find_map, length-filter_filter}
use Rattle.escrow_machine.proofs.SavepointNames.{named_is, found_of_other}
use Rattle.escrow_machine.proofs.Savepoints.{session_up_to, by_session, put_by_session, put_kept, through_ascending, through_kept}
use Rattle.escrow_machine.proofs.Transitions.{is_transition}
use Rattle.escrow_machine.proofs.ValidEnds.{back_has}

-- WHAT MAY BE SERVED

granted_is : (answer : Reply) → is_grant answer ≡ true → (id : ℕ) × (answer ≡ reply.Reserved id)
granted_is (reply.Reserved id) t = (id, refl)
granted_is _ t = absurd (false≢true t)

-- a statement that leaves the next id unchanged grants nothing
grants_none : (s : State) (session : ℕ) (asked : Statement) → (transition_of s session asked).next.next_id ≡ s.next_id → ¬ (is_grant (step s session asked).0 ≡ true)
grants_none s session asked same =
    step_has (λ (p : Reply × State). ¬ (is_grant p.0 ≡ true)) s session asked (λ _ _ t. false≢true t) (λ accepted t.
    let granted = granted_is (transition_of s session asked).reply t in
    let more = ((is_transition s session asked).next accepted granted.0 granted.1).1 in
    absurd (omega arith))

-- such a statement is a granted UPDATE, or of one of four kinds
passing_has : (P : Statement → Type 0) (s : State) (session : ℕ)
    → ((text : UpdateText) (id : ℕ) → (step s session (statement.Update text)).0 ≡ reply.Reserved id → P (statement.Update text))
    → ((name : List ℕ) → P (statement.Savepoint name)) → P statement.Commit → P statement.Rollback → ((name : List ℕ) → P (statement.RollbackTo name))
    → (asked : Statement) → passes s session asked ≡ true → P asked
unfolding transition_of
passing_has P s session granted saved done dropped back (statement.Create text) may = absurd (grants_none s session (statement.Create text) refl may)
passing_has P s session granted saved done dropped back (statement.Drop name) may = absurd (grants_none s session (statement.Drop name) refl may)
passing_has P s session granted saved done dropped back (statement.Alter text) may = absurd (grants_none s session (statement.Alter text) refl may)
passing_has P s session granted saved done dropped back (statement.Insert text) may = absurd (grants_none s session (statement.Insert text) refl may)
passing_has P s session granted saved done dropped back (statement.Update text) may =
    let found = granted_is (step s session (statement.Update text)).0 may in
    granted text found.0 found.1
passing_has P s session granted saved done dropped back (statement.Delete text) may = absurd (grants_none s session (statement.Delete text) refl may)
passing_has P s session granted saved done dropped back (statement.Select text) may = absurd (grants_none s session (statement.Select text) refl may)
passing_has P s session granted saved done dropped back (statement.ShowTable name) may = absurd (grants_none s session (statement.ShowTable name) refl may)
passing_has P s session granted saved done dropped back (statement.ShowJournal table) may = absurd (grants_none s session (statement.ShowJournal table) refl may)
passing_has P s session granted saved done dropped back (statement.ShowBounds text) may = absurd (grants_none s session (statement.ShowBounds text) refl may)
passing_has P s session granted saved done dropped back (statement.Savepoint name) may = saved name
passing_has P s session granted saved done dropped back statement.Commit may = done
passing_has P s session granted saved done dropped back statement.Rollback may = dropped
passing_has P s session granted saved done dropped back (statement.RollbackTo name) may = back name

-- the state after a granted UPDATE
reserved_next : (s : State) (session : ℕ) (text : UpdateText) (key : Value) (changes : List (Option ℤ)) → plan_of s text ≡ Some (plan.Reserve key changes)
    → (transition_of s session (statement.Update text)).next ≡ after_update s session text.table (plan.Reserve key changes)
unfolding transition_of
reserved_next s session text key changes is = ap (λ (o : Option Plan). unwrap_or (option_map (after_update s session text.table) o) s) is

-- the savepoints are in order of session
abbrev pub IsInOrder : State → Type 0
IsInOrder s = IsAscending session_up_to s.savepoints

step_in_order : (s : State) (session : ℕ) (asked : Statement) → IsInOrder s → IsInOrder (transition_of s session asked).next → IsInOrder (step s session asked).1
step_in_order s session asked order next = step_has (λ (p : Reply × State). IsInOrder p.1) s session asked (λ _ _. order) (λ _. next)

update_in_order : (s : State) (session : ℕ) (text : UpdateText) (id : ℕ) → IsInOrder s → (step s session (statement.Update text)).0 ≡ reply.Reserved id
    → IsInOrder (step s session (statement.Update text)).1
update_in_order s session text id order granted =
    let is = granted_plan s session text id (granted_none s session text id granted).1 in
    step_in_order s session (statement.Update text) order (subst IsInOrder (sym (reserved_next s session text is.0 is.1 is.2)) order)

pub passing_in_order : (s : State) (session : ℕ) (asked : Statement) → IsInOrder s → passes s session asked ≡ true → IsInOrder (step s session asked).1
unfolding transition_of
passing_in_order s session asked order may =
    let other : Savepoint → Bool = λ p. not (p.session == session) in
    let ended = ascending_filter session_up_to other s.savepoints order in
    passing_has (λ a. IsInOrder (step s session a).1) s session
    (λ text id granted. update_in_order s session text id order granted)
    (λ name. step_in_order s session (statement.Savepoint name) order
    (put_by_session (made_in s session name) (without_savepoint session name s.savepoints)
    (ascending_filter session_up_to (λ (p : Savepoint). not (is_named session name p)) s.savepoints order)))
    ended ended
    (λ name. step_in_order s session (statement.RollbackTo name) order
    (back_has IsInOrder s session name order (λ p. through_ascending session_up_to p.session p.name s.savepoints order)))
    asked may

-- AFTER A COMMIT

-- a statement of another session has the same reply after the COMMIT, and both orders give the same state
abbrev Passes : State → ℕ → ℕ → Statement → Type 0
Passes s session other asked = step (after_commit s session) other asked ≡ ((step s other asked).0, after_commit (step s other asked).1 session)

-- a refusal with the state unchanged, or a reply and a new state
abbrev either : State → Reply → State → Option Refusal → Reply × State
either s done new o = unwrap_or (option_map (λ r. (reply.Refused r, s)) o) (done, new)

either_passes : (f : State → State) (s : State) (done : Reply) (new : State) (o : Option Refusal)
    → either (f s) done (f new) o ≡ ((either s done new o).0, f (either s done new o).1)
either_passes f s done new None = refl
either_passes f s done new (Some r) = refl

-- it commutes if it is refused alike, has the same reply, and its next state commutes with the COMMIT
alike : (s : State) (session other : ℕ) (asked : Statement) → let t : State = after_commit s session in
    first_refusal (refusals (transition_of t other asked)) ≡ first_refusal (refusals (transition_of s other asked))
    → (transition_of t other asked).reply ≡ (transition_of s other asked).reply
    → (transition_of t other asked).next ≡ after_commit (transition_of s other asked).next session
    → Passes s session other asked
alike s session other asked refused answered next =
    let t : State = after_commit s session in
    let behind = transition_of t other asked in
    let transition = transition_of s other asked in
    let first : Option Refusal = first_refusal (refusals transition) in
    ap (either t behind.reply behind.next) refused
    ∙ ap₂ (λ (answer : Reply) (new : State). either t answer new first) answered next
    ∙ either_passes (λ (u : State). after_commit u session) s transition.reply transition.next first

-- an item of another session is not one of this session
apart : (session other : ℕ) → ¬ (session ≡ other) → (n : ℕ) → n ≡ other → not (n == session) ≡ true
apart session other differ n same = ap not (false_from_ne_true (n == session) (λ u. differ (sym (eqb-true n session u) ∙ same)))

rollback_passes : (s : State) (session other : ℕ) → ¬ (session ≡ other) → Passes s session other statement.Rollback
unfolding transition_of
rollback_passes s session other differ =
    alike s session other statement.Rollback refl (ap (λ (rs : List Reservation). reply.RolledBack (length rs)) (own_stay session other s.reservations differ))
    (transactions_commute s session other end.Commit end.Rollback differ)

commit_passes : (s : State) (session other : ℕ) → ¬ (session ≡ other) → Passes s session other statement.Commit
unfolding transition_of
commit_passes s session other differ =
    alike s session other statement.Commit refl (ap (λ (rs : List Reservation). reply.Committed (length rs)) (own_stay session other s.reservations differ))
    (transactions_commute s session other end.Commit end.Commit differ)

-- a savepoint is put at the same place among the remaining ones as among all
savepoint_passes : (s : State) (session other : ℕ) (name : List ℕ) → IsInOrder s → ¬ (session ≡ other) → Passes s session other (statement.Savepoint name)
unfolding transition_of
savepoint_passes s session other name order differ =
    let new = made_in s other name in
    let keep : Savepoint → Bool = λ p. not (p.session == session) in
    let unnamed : Savepoint → Bool = λ p. not (is_named other name p) in
    let left : List Savepoint = without_savepoint other name s.savepoints in
    let commute : without_savepoint other name (other_savepoints session s.savepoints) ≡ other_savepoints session left = filters_commute unnamed keep s.savepoints in
    let counted : own_savepoints other (other_savepoints session left) ≡ own_savepoints other left =
    filter_within (λ (p : Savepoint). p.session == other) keep left (λ p t. apart session other differ p.session (eqb-true p.session other t)) in
    let put : other_savepoints session (put_savepoint new left) ≡ put_savepoint new (other_savepoints session left) =
    put_kept keep new left (apart session other differ other refl) (ascending_filter session_up_to unnamed s.savepoints order) in
    alike s session other (statement.Savepoint name)
    (ap (λ (ps : List Savepoint). first_refusal (refuse_if (nat_le MAX_SAVEPOINTS (length ps)) refusal.TooManySavepoints ∷ [])) (ap (own_savepoints other) commute ∙ counted))
    refl (same_state s _ _ _ _ _ _ refl refl (ap (put_savepoint new) commute ∙ sym put))

-- as many reservations came after a savepoint, and ROLLBACK TO it gives the same state
back_alike : (s : State) (session other : ℕ) (o : Option Savepoint) → ¬ (session ≡ other) → ((p : Savepoint) → o ≡ Some p → p.session ≡ other)
    → let t : State = after_commit s session in
    (unwrap_or (option_map (λ (p : Savepoint). length (after p t.reservations)) o) 0 ≡ unwrap_or (option_map (λ (p : Savepoint). length (after p s.reservations)) o) 0)
    × (with_open t (unwrap_or (option_map (journal.returned_to (open_in t)) o) (open_in t))
    ≡ after_commit (with_open s (unwrap_or (option_map (journal.returned_to (open_in s)) o) (open_in s))) session)
back_alike s session other None differ mine = (refl, refl)
back_alike s session other (Some p) differ mine =
    let keep : Reservation → Bool = λ r. not (r.session == session) in
    let early : Reservation → Bool = λ r. not (is_after p r) in
    let of_other : (r : Reservation) → is_after p r ≡ true → r.session ≡ other = λ r t.
    eqb-true r.session p.session (and_parts (r.session == p.session) (nat_le p.id r.id) t).0 ∙ mine p refl in
    let stay : own session (not_after p s.reservations) ≡ own session s.reservations =
    filter_within (λ (r : Reservation). r.session == session) early s.reservations
    (λ r t. not_from_false (is_after p r) (false_from_ne_true (is_after p r) (λ u. differ (sym (eqb-true r.session session t) ∙ of_other r u)))) in
    let left : other_savepoints session (through p.session p.name s.savepoints) ≡ through p.session p.name (other_savepoints session s.savepoints) =
    through_kept (λ (q : Savepoint). not (q.session == session)) p.session p.name s.savepoints
    (λ q t. apart session other differ q.session ((named_is p.session p.name q t).0 ∙ mine p refl)) in (
      ap length (filter_within (is_after p) keep s.reservations (λ r t. apart session other differ r.session (of_other r t))),
      same_state s _ _ _ _ _ _ (ap (applied s.rows) (sym stay)) (filters_commute early keep s.reservations) (sym left),
    )

back_passes : (s : State) (session other : ℕ) (name : List ℕ) → ¬ (session ≡ other) → Passes s session other (statement.RollbackTo name)
unfolding transition_of
back_passes s session other name differ =
    let t : State = after_commit s session in
    let found : savepoint_of other name t.savepoints ≡ savepoint_of other name s.savepoints = found_of_other other name session s.savepoints differ in
    let same = back_alike s session other (savepoint_of other name s.savepoints) differ
    (λ p e. (named_is other name p (find_has (is_named other name) s.savepoints p e).1).0) in
    alike s session other (statement.RollbackTo name)
    (ap (λ (o : Option Savepoint). first_refusal (refuse_if (is_none o) refusal.NoSuchSavepoint ∷ [])) found)
    (ap (λ (o : Option Savepoint). reply.RolledBackTo name (unwrap_or (option_map (λ (p : Savepoint). length (after p t.reservations)) o) 0)) found
    ∙ ap (reply.RolledBackTo name) same.0)
    (ap (λ (o : Option Savepoint). with_open t (unwrap_or (option_map (journal.returned_to (open_in t)) o) (open_in t))) found ∙ same.1)

-- changes that break nothing still break nothing once a session's reservations are applied,
-- since those and a choice of the others are a choice of all
committed_break : (s : State) (session : ℕ) (table : TableDef) (name : RowName) (changes : List ℤ) → BreaksNone table name changes s.rows s.reservations
    → BreaksNone table name changes (applied s.rows (own session s.reservations)) (others session s.reservations)
committed_break s session table name changes stands =
    let row = stands.0 in
    let f : Reservation → List ℤ = changes_to row in
    let mine : List Reservation = own session s.reservations in
    let left : List Reservation = others session s.reservations in (
      row_after mine row,
      find_map (λ (x : Row). same_row x.name name) (row_after mine) (λ _. refl) s.rows ∙ ap (option_map (row_after mine)) stands.1,
      moved_grant table.checks row.amounts (all_changed row.amounts (map f mine)) changes (map f s.reservations) (map f left) stands.2 (λ chosen choice.
          let from = choice_of_image f left chosen choice in
          let merged : IsMerged f mine from.0 s.reservations = merge_choice f (λ r. r.session == session) s.reservations from.0 from.1 in (
            map f merged.0,
            choice_map f s.reservations merged.0 merged.1,
            sym (merged.2 (changed row.amounts changes))
                ∙ ap (λ (zs : List ℤ). all_changed zs (map f from.0)) (all_changed_later row.amounts changes (map f mine))
                ∙ ap (all_changed (changed (all_changed row.amounts (map f mine)) changes)) from.2,
          )),
    )

-- a reservation of another session is granted after the COMMIT as before it
granted_alike : (s : State) (session other : ℕ) (table : List ℕ) (key : Value) (changes : List (Option ℤ)) → ¬ (session ≡ other)
    → after_update (after_commit s session) other table (plan.Reserve key changes) ≡ after_commit (after_update s other table (plan.Reserve key changes)) session
granted_alike s session other table key changes differ =
    let r : Reservation = reservation_from s other (row_name table key) changes in
    let mine : Reservation → Bool = λ x. x.session == session in
    let keep : Reservation → Bool = λ x. not (x.session == session) in
    let away : (other == session) ≡ (not true) = false_from_ne_true (other == session) (λ t. differ (sym (eqb-true other session t))) in
    let stay : own session (s.reservations ++ r ∷ []) ≡ own session s.reservations =
    filter-append mine s.reservations (r ∷ [])
    ∙ ap (λ (xs : List Reservation). own session s.reservations ++ xs) (cond-false (other == session) (r ∷ []) [] away)
    ∙ append-nil (own session s.reservations) in
    let push : others session (s.reservations ++ r ∷ []) ≡ others session s.reservations ++ r ∷ [] =
    filter-append keep s.reservations (r ∷ [])
    ∙ ap (λ (xs : List Reservation). others session s.reservations ++ xs) (cond-true (not (other == session)) (r ∷ []) [] (apart session other differ other refl)) in
    same_state (record s { next_id = s.next_id + 1 }) _ _ _ _ _ _ (ap (applied s.rows) (sym stay)) (sym push) refl

update_passes : (s : State) (session other : ℕ) (text : UpdateText) (id : ℕ) → ¬ (session ≡ other) → (step s other (statement.Update text)).0 ≡ reply.Reserved id
    → Passes s session other (statement.Update text)
update_passes s session other text id differ granted =
    let t : State = after_commit s session in
    let none = granted_none s other text id granted in
    let is = granted_plan s other text id none.1 in
    let same : length (own other (others session s.reservations)) ≡ length (own other s.reservations) = ap length (own_stay session other s.reservations differ) in
    let fewer : length (own other (others session s.reservations)) ≤ length (own other s.reservations) = omega arith in
    let accepted : IsAccepted t other (statement.Update text) =
    accepted_beside s (applied s.rows (own session s.reservations)) (others session s.reservations) (other_savepoints session s.savepoints) other text is.0 is.1 fewer
    (λ name. length-filter_filter (λ (r : Reservation). same_row name r.row) (λ r. not (r.session == session)) s.reservations)
    (λ table name. committed_break s session table name (deltas is.1)) is.2 none.0 in
    alike s session other (statement.Update text) (accepted ∙ sym none.0)
    (reserved_reply t other text is.0 is.1 is.2 ∙ sym (reserved_reply s other text is.0 is.1 is.2))
    (reserved_next t other text is.0 is.1 is.2
    ∙ granted_alike s session other text.table is.0 is.1 differ
    ∙ ap (λ (u : State). after_commit u session) (sym (reserved_next s other text is.0 is.1 is.2)))

-- every statement that may be served commutes with the COMMIT
pub passes_commit : (s : State) (session other : ℕ) (asked : Statement) → IsInOrder s → ¬ (session ≡ other) → passes s other asked ≡ true
    → step (after_commit s session) other asked ≡ ((step s other asked).0, after_commit (step s other asked).1 session)
passes_commit s session other asked order differ may =
    passing_has (Passes s session other) s other
    (λ text id granted. update_passes s session other text id differ granted)
    (λ name. savepoint_passes s session other name order differ)
    (commit_passes s session other differ) (rollback_passes s session other differ)
    (λ name. back_passes s session other name differ) asked may

pub passes_commits : PassesCommits
unfolding transition_of
passes_commits s session other asked valid differ may = passes_commit s session other asked (by_session s.savepoints valid.orderly.savepoint_order) differ may
