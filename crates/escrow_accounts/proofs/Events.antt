-- What the moves of an event say of the rows and the reservations after it.
use Rattle.std.specs.Prelude.{◌≡◌, ℕ, ◌+◌, ℤ, ◌+ℤ◌, pos, Bool, true, false, cond, not, ◌==◌, bytes_eq, Option, Some, None, option_map, option_and_then, unwrap_or, List, [], ◌∷◌, ◌++◌, length, map, filter}
use Rattle.std.specs.List.{AllByRecursion}
use Rattle.std.proofs.Common.{refl, sym, ap, subst, ◌∙◌, arith}
use Rattle.std.proofs.lemmas.Int.{ints}
use Rattle.escrow_num.specs.declared.reservation.Reservation.{Reservation}
use Rattle.escrow_num.specs.declared.reservation.Savepoint.{Savepoint}
use Rattle.escrow_num.specs.declared.row.Row.{Row}
use Rattle.escrow_num.specs.declared.value.RowName.{RowName}
use Rattle.escrow_num.specs.Order.{same_row}
use Rattle.escrow_num.proofs.Items.{has_filter}
use Rattle.escrow_statement.specs.declared.statement.Statement.{Statement}
use Rattle.escrow_statement.specs.declared.statement.Statement.TheVariants as statement
use Rattle.escrow_schema.specs.declared.plan.Plan.{Plan}
use Rattle.escrow_schema.specs.declared.plan.Plan.TheVariants as plan
use Rattle.escrow_schema.specs.Rows.{with_row, applied}
use Rattle.escrow_journal.specs.Open as journal
use Rattle.escrow_journal.specs.Reservations.{own, others}
use Rattle.escrow_journal.specs.Savepoints.{savepoint_of, is_after, after}
use Rattle.escrow_machine.specs.declared.event.Event.{Event}
use Rattle.escrow_machine.specs.declared.event.Event.TheVariants as event
use Rattle.escrow_machine.specs.declared.reply.Reply.{Reply}
use Rattle.escrow_machine.specs.Asked.{new_row, named_by, plan_of, row_name, reservation_from, reserved_by}
use Rattle.escrow_machine.specs.Event.{HasSession}
use Rattle.escrow_machine.specs.Reply.{is_refused}
use Rattle.escrow_machine.specs.State.{State, opened, open_in, with_open}
use Rattle.escrow_machine.specs.Step.{IsServed, IsRun}
use Rattle.escrow_machine.specs.Transition.{transition_of, after_drop, after_delete, after_update}
use Rattle.escrow_machine.specs.Valid.{IsValid}
use Rattle.escrow_machine.proofs.LawsSteps.{event_keeps_valid, restart_keeps_valid, run_keeps_valid}
use Rattle.escrow_accounts.specs.Book.{Move, put, taken, granted, committed, released, moves_of, after_event, book, total, worth, balance, granted_in, committed_in, released_in, number}
use Rattle.escrow_accounts.specs.Laws.{IsGoodRun}
use Rattle.escrow_accounts.proofs.Applied.{all_applied, open_takes}
use Rattle.escrow_accounts.proofs.Counting.{number_append, number_parts, granted_append, committed_append, released_append, balance_append, granted_of_taken, committed_of_taken, released_of_taken, granted_of_committed, committed_of_committed, released_of_committed, granted_of_released, committed_of_released, released_of_released, balance_of_released}
use Rattle.escrow_accounts.proofs.Kept.{with_row_total, gone_total, plain_total}
use Rattle.escrow_accounts.proofs.Served.{served_has, event_is, event_stays}

-- moves account for what becomes of a state
pub record Counted (s : State) (moves : List Move) (new : State) : Type 0 where
  pub units : (chosen : RowName → Bool) (column : ℕ) → total chosen column new.rows ≡ total chosen column s.rows +ℤ balance chosen column moves
  pub numbers : (kind : Reservation → Bool) → number kind s.reservations + number kind (granted_in moves)
      ≡ number kind (committed_in moves) + number kind (released_in moves) + number kind new.reservations

no_change : (a : ℤ) → a ≡ a +ℤ pos 0
no_change a = omega (arith, ints)

no_balance : (a b : ℤ) → b ≡ pos 0 → a ≡ a +ℤ b
no_balance a b e = omega (arith, ints)

-- NO MOVE

pub none_counted : (s new : State) → new.rows ≡ s.rows → new.reservations ≡ s.reservations → Counted s [] new
none_counted s new rows reservations = record {
  units = λ chosen column. ap (total chosen column) rows ∙ no_change (total chosen column s.rows);
  numbers = λ kind. let same : number kind new.reservations ≡ number kind s.reservations = ap (number kind) reservations in omega arith;
}

-- ONE STATEMENT

insert_counted : (s : State) (o : Option Row)
    → Counted s (unwrap_or (option_map (λ row. put row ∷ []) o) []) (record s { rows = unwrap_or (option_map (λ row. with_row row s.rows) o) s.rows })
insert_counted s None = none_counted s s refl refl
insert_counted s (Some row) = record { units = λ chosen column. with_row_total chosen column row s.rows; numbers = λ kind. omega arith }

gone_counted : (s new : State) (p : Row → Bool) → new.rows ≡ filter (λ row. not (p row)) s.rows → new.reservations ≡ s.reservations
    → Counted s (map taken (filter p s.rows)) new
gone_counted s new p left same = record {
  units = λ chosen column. ap (total chosen column) left ∙ gone_total chosen column p s.rows;
  numbers = λ kind.
      let stay : number kind new.reservations ≡ number kind s.reservations = ap (number kind) same in
      rw (granted_of_taken (filter p s.rows), committed_of_taken (filter p s.rows), released_of_taken (filter p s.rows)) (omega arith);
}

update_counted : (s : State) (session : ℕ) (table : List ℕ) (o : Option Plan)
    → Counted s (unwrap_or (option_map (λ r. granted r ∷ []) (option_and_then (reserved_by s session table) o)) [])
    (unwrap_or (option_map (after_update s session table) o) s)
update_counted s session table None = none_counted s s refl refl
update_counted s session table (Some (plan.Reserve key changes)) = record {
  units = λ chosen column. no_balance (total chosen column s.rows) (pos 0 +ℤ pos 0) refl;
  numbers = λ kind.
      let more : number kind (s.reservations ++ reservation_from s session (row_name table key) changes ∷ [])
      ≡ number kind s.reservations + number kind (reservation_from s session (row_name table key) changes ∷ []) =
      number_append kind s.reservations (reservation_from s session (row_name table key) changes ∷ []) in
      omega arith;
}
update_counted s session table (Some (plan.Plain key values)) = record {
  units = λ chosen column. plain_total chosen column (row_name table key) values s.rows ∙ no_change (total chosen column s.rows);
  numbers = λ kind. omega arith;
}

commit_counted : (s : State) (session : ℕ) → IsValid s
    → Counted s (map committed (own session s.reservations)) (record (with_open s (journal.open_after_end session (open_in s))) { rows = applied s.rows (own session s.reservations) })
commit_counted s session valid = record {
  units = λ chosen column.
      all_applied chosen column (own session s.reservations) s.rows valid.safe_rows.row_order
      (λ r h. open_takes s valid r (has_filter (λ (x : Reservation). x.session == session) s.reservations r h).0);
  numbers = λ kind.
      let parts : number kind (own session s.reservations) + number kind (others session s.reservations) ≡ number kind s.reservations =
      number_parts kind (λ (x : Reservation). x.session == session) s.reservations in
      rw (granted_of_committed (own session s.reservations), committed_of_committed (own session s.reservations), released_of_committed (own session s.reservations)) (omega arith);
}

-- reservations that pass a test are released
released_counted : (s new : State) (p : Reservation → Bool) → new.rows ≡ s.rows → new.reservations ≡ filter (λ r. not (p r)) s.reservations
    → Counted s (map released (filter p s.reservations)) new
released_counted s new p rows left = record {
  units = λ chosen column.
      ap (total chosen column) rows ∙ no_balance (total chosen column s.rows) (balance chosen column (map released (filter p s.reservations))) (balance_of_released chosen column (filter p s.reservations));
  numbers = λ kind.
      let parts : number kind (filter p s.reservations) + number kind (filter (λ r. not (p r)) s.reservations) ≡ number kind s.reservations = number_parts kind p s.reservations in
      let same : number kind new.reservations ≡ number kind (filter (λ r. not (p r)) s.reservations) = ap (number kind) left in
      rw (granted_of_released (filter p s.reservations), committed_of_released (filter p s.reservations), released_of_released (filter p s.reservations)) (omega arith);
}

back_counted : (s : State) (o : Option Savepoint)
    → Counted s (unwrap_or (option_map (λ p. map released (after p s.reservations)) o) [])
    (with_open s (unwrap_or (option_map (journal.returned_to (open_in s)) o) (open_in s)))
back_counted s None = none_counted s s refl refl
back_counted s (Some p) = released_counted s (with_open s (journal.returned_to (open_in s) p)) (is_after p) refl refl

-- EACH STATEMENT

pub transition_counted : (s : State) (session : ℕ) (asked : Statement) → IsValid s → Counted s (moves_of s (event.Statement session asked)) (transition_of s session asked).next
unfolding transition_of
transition_counted s session (statement.Create text) valid = none_counted s _ refl refl
transition_counted s session (statement.Drop name) valid = gone_counted s (after_drop s name) (λ row. bytes_eq row.name.table name) refl refl
transition_counted s session (statement.Alter text) valid = none_counted s _ refl refl
transition_counted s session (statement.Insert text) valid = insert_counted s (new_row s text)
transition_counted s session (statement.Update text) valid = update_counted s session text.table (plan_of s text)
transition_counted s session (statement.Delete text) valid = gone_counted s (after_delete s text) (λ row. same_row row.name (named_by s.catalog text.table text.row)) refl refl
transition_counted s session (statement.Select text) valid = none_counted s s refl refl
transition_counted s session (statement.ShowTable name) valid = none_counted s s refl refl
transition_counted s session (statement.ShowBounds text) valid = none_counted s s refl refl
transition_counted s session (statement.ShowJournal table) valid = none_counted s s refl refl
transition_counted s session (statement.Savepoint name) valid = none_counted s _ refl refl
transition_counted s session statement.Commit valid = commit_counted s session valid
transition_counted s session statement.Rollback valid =
    released_counted s (with_open s (journal.open_after_end session (open_in s))) (λ r. r.session == session) refl refl
transition_counted s session (statement.RollbackTo name) valid = back_counted s (savepoint_of session name s.savepoints)

-- EACH EVENT

all_released : (s : State) → Counted s (map released s.reservations) (opened s.catalog s.rows)
all_released s = record {
  units = λ chosen column. no_balance (total chosen column s.rows) (balance chosen column (map released s.reservations)) (balance_of_released chosen column s.reservations);
  numbers = λ kind. rw (granted_of_released s.reservations, committed_of_released s.reservations, released_of_released s.reservations) (omega arith);
}

event_counted : (s : State) (happened : Event) (answer : Reply) (new : State) → IsValid s → IsServed s happened answer new → is_refused answer ≡ false
    → Counted s (moves_of s happened) new
event_counted s (event.Statement session asked) answer new valid served done =
    served_has (λ _ after. Counted s (moves_of s (event.Statement session asked)) after) s session asked answer new served done (transition_counted s session asked valid)
event_counted s event.Restart answer new valid served done =
    subst (Counted s (map released s.reservations)) (sym (event_is s event.Restart answer new served done)) (all_released s)

served_valid : (s : State) (happened : Event) (answer : Reply) (new : State) → IsValid s → HasSession happened → IsServed s happened answer new → IsValid new
served_valid s happened answer new valid session served = run_keeps_valid s (happened ∷ []) (answer ∷ []) new valid (session, tt) (new, served, refl)

-- EACH RUN

then_more : (a b c w v : ℤ) → a ≡ b +ℤ v → b ≡ c +ℤ w → a ≡ c +ℤ (w +ℤ v)
then_more a b c w v first second = omega (arith, ints)

joined : (s mid new : State) (ms ns : List Move) → Counted s ms mid → Counted mid ns new → Counted s (ms ++ ns) new
joined s mid new ms ns first rest = record {
  units = λ chosen column.
      then_more (total chosen column new.rows) (total chosen column mid.rows) (total chosen column s.rows) (balance chosen column ms) (balance chosen column ns)
      (rest.units chosen column) (first.units chosen column)
      ∙ ap (λ (z : ℤ). total chosen column s.rows +ℤ z) (sym (balance_append chosen column ms ns));
  numbers = λ kind.
      let g : number kind (granted_in (ms ++ ns)) ≡ number kind (granted_in ms) + number kind (granted_in ns) =
      ap (number kind) (granted_append ms ns) ∙ number_append kind (granted_in ms) (granted_in ns) in
      let c : number kind (committed_in (ms ++ ns)) ≡ number kind (committed_in ms) + number kind (committed_in ns) =
      ap (number kind) (committed_append ms ns) ∙ number_append kind (committed_in ms) (committed_in ns) in
      let l : number kind (released_in (ms ++ ns)) ≡ number kind (released_in ms) + number kind (released_in ns) =
      ap (number kind) (released_append ms ns) ∙ number_append kind (released_in ms) (released_in ns) in
      let one : number kind s.reservations + number kind (granted_in ms) ≡ number kind (committed_in ms) + number kind (released_in ms) + number kind mid.reservations = first.numbers kind in
      let two : number kind mid.reservations + number kind (granted_in ns) ≡ number kind (committed_in ns) + number kind (released_in ns) + number kind new.reservations = rest.numbers kind in
      omega arith;
}

step_counted : (s : State) (happened : Event) (events : List Event) (answer : Reply) (answers : List Reply) (mid new : State) → IsValid s → HasSession happened
    → IsServed s happened answer mid → IsRun mid events answers new
    → ((t : State) → IsValid t → IsRun t events answers new → Counted t (book t events answers) new) → (b : Bool) → is_refused answer ≡ b
    → Counted s (cond b (book s events answers) (moves_of s happened ++ book (after_event s happened) events answers)) new
step_counted s happened events answer answers mid new valid session served run rest true refused =
    let same : mid ≡ s = event_stays s happened answer mid served refused in
    rest s valid (subst (λ (t : State). IsRun t events answers new) same run)
step_counted s happened events answer answers mid new valid session served run rest false done =
    let is : mid ≡ after_event s happened = event_is s happened answer mid served done in
    let first : Counted s (moves_of s happened) (after_event s happened) = subst (Counted s (moves_of s happened)) is (event_counted s happened answer mid valid served done) in
    let valid_after : IsValid (after_event s happened) = subst IsValid is (served_valid s happened answer mid valid session served) in
    joined s (after_event s happened) new (moves_of s happened) (book (after_event s happened) events answers) first
    (rest (after_event s happened) valid_after (subst (λ (t : State). IsRun t events answers new) is run))

pub run_counted : (s : State) (events : List Event) (answers : List Reply) (new : State) → IsValid s → AllByRecursion HasSession events
    → IsRun s events answers new → Counted s (book s events answers) new
run_counted s [] [] new valid sessions run = none_counted s new (ap (λ (t : State). t.rows) run) (ap (λ (t : State). t.reservations) run)
run_counted s [] (answer ∷ answers) new valid sessions run = absurd run
run_counted s (happened ∷ events) [] new valid sessions run = absurd run
run_counted s (happened ∷ events) (answer ∷ answers) new valid sessions run =
    step_counted s happened events answer answers run.0 new valid sessions.0 run.1 run.2
    (λ t valid_t run_t. run_counted t events answers new valid_t sessions.1 run_t) (is_refused answer) refl
