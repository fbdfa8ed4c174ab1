-- Ids of reservations: each is granted once.
use Rattle.std.specs.Prelude.{◌≡◌, ◌⊎◌, ◌≤◌, ◌<◌, ℕ, ◌+◌, ◌==◌, ℤ, Bool, true, false, cond, Option, Some, None, option_map, option_and_then, unwrap_or, IsTrue, List, [], ◌∷◌, ◌++◌, length, map, filter, bytes_eq}
use Rattle.std.specs.List.{AllByRecursion}
use Rattle.std.proofs.Common.{inl, inr, refl, sym, ap, subst, ◌∙◌, arith, le_refl}
use Rattle.std.proofs.lemmas.Bool.{cond_both, eqb-true, ltb-true, cases_lt, false_from_ne_true}
use Rattle.escrow_num.specs.declared.reservation.Reservation.{Reservation}
use Rattle.escrow_num.specs.declared.reservation.Savepoint.{Savepoint}
use Rattle.escrow_num.specs.declared.row.Row.{Row}
use Rattle.escrow_num.specs.Ascending.{IsAscending}
use Rattle.escrow_num.specs.Order.{same_row}
use Rattle.escrow_num.proofs.Items.{Has, all_has}
use Rattle.escrow_statement.specs.declared.statement.Statement.{Statement}
use Rattle.escrow_statement.specs.declared.statement.Statement.TheVariants as statement
use Rattle.escrow_schema.specs.declared.plan.Plan.{Plan}
use Rattle.escrow_schema.specs.declared.plan.Plan.TheVariants as plan
use Rattle.escrow_schema.specs.Rows.{with_row}
use Rattle.escrow_journal.specs.Open as journal
use Rattle.escrow_journal.specs.Reservations.{own, reservation_before}
use Rattle.escrow_journal.specs.Savepoints.{savepoint_of, after}
use Rattle.escrow_machine.specs.declared.event.Event.{Event}
use Rattle.escrow_machine.specs.declared.event.Event.TheVariants as event
use Rattle.escrow_machine.specs.declared.reply.Reply.{Reply}
use Rattle.escrow_machine.specs.Asked.{new_row, named_by, plan_of, row_name, reservation_from, reserved_by}
use Rattle.escrow_machine.specs.Laws.{IsNoRestart}
use Rattle.escrow_machine.specs.Reply.{is_refused}
use Rattle.escrow_machine.specs.State.{State, open_in, with_open}
use Rattle.escrow_machine.specs.Step.{IsServed, IsRun}
use Rattle.escrow_machine.specs.Transition.{transition_of, after_update}
use Rattle.escrow_machine.specs.Valid.{IsValid, IsReservationIn}
use Rattle.escrow_machine.proofs.Filters.{filter_none}
use Rattle.escrow_accounts.specs.Book.{Move, put, taken, granted, released, moves_of, after_event, book, granted_in, number}
use Rattle.escrow_accounts.specs.Laws.{has_id}
use Rattle.escrow_accounts.proofs.Counting.{number_append, granted_append, granted_of_taken, granted_of_committed, granted_of_released}
use Rattle.escrow_accounts.proofs.Served.{served_has, event_is, event_stays}

-- WHAT IS OPEN

-- none of the reservations has an id that all differ from
number_none : (id : ℕ) (rs : List Reservation) → ((r : Reservation) → Has rs r → ¬ (r.id ≡ id)) → number (has_id id) rs ≡ 0
number_none id rs differ =
    ap (λ (zs : List Reservation). length zs) (filter_none (has_id id) rs (λ r h. false_from_ne_true (has_id id r) (λ t. differ r h (eqb-true r.id id t))))

number_first : (b : Bool) (r : Reservation) (rest : List Reservation) (p : Reservation → Bool) → number p rest ≤ 1 → (b ≡ true → number p rest ≡ 0)
    → length (cond b (r ∷ filter p rest) (filter p rest)) ≤ 1
number_first true r rest p few none = let zero : length (filter p rest) ≡ 0 = none refl in omega arith
number_first false r rest p few none = few

ids_once : (id : ℕ) (rs : List Reservation) → IsAscending reservation_before rs → number (has_id id) rs ≤ 1
ids_once id [] order = omega arith
ids_once id (r ∷ rs) order =
    number_first (has_id id r) r rs (has_id id) (ids_once id rs order.1)
    (λ t. number_none id rs (λ q h same.
    let mine : r.id ≡ id = eqb-true r.id id t in
    let before : r.id < q.id = ltb-true r.id q.id (all_has (λ (x : Reservation). IsTrue (reservation_before r x)) rs order.0 q h) in
    absurd (omega arith)))

-- WHAT A STATEMENT GRANTS

-- nothing, and the next id doesn't fall; or one reservation, which takes the next id
abbrev Grants : State → List Move → State → Type 0
Grants s moves new =
    ((granted_in moves ≡ []) × (s.next_id ≤ new.next_id))
    ⊎ ((r : Reservation) × (granted_in moves ≡ r ∷ []) × (r.id ≡ s.next_id) × (new.next_id ≡ s.next_id + 1))

grants_insert : (s : State) (o : Option Row)
    → Grants s (unwrap_or (option_map (λ row. put row ∷ []) o) []) (record s { rows = unwrap_or (option_map (λ row. with_row row s.rows) o) s.rows })
grants_insert s None = inl (refl, le_refl _)
grants_insert s (Some row) = inl (refl, le_refl _)

grants_update : (s : State) (session : ℕ) (table : List ℕ) (o : Option Plan)
    → Grants s (unwrap_or (option_map (λ r. granted r ∷ []) (option_and_then (reserved_by s session table) o)) [])
    (unwrap_or (option_map (after_update s session table) o) s)
grants_update s session table None = inl (refl, le_refl _)
grants_update s session table (Some (plan.Reserve key changes)) = inr (reservation_from s session (row_name table key) changes, refl, refl, refl)
grants_update s session table (Some (plan.Plain key values)) = inl (refl, le_refl _)

grants_back : (s : State) (o : Option Savepoint)
    → Grants s (unwrap_or (option_map (λ p. map released (after p s.reservations)) o) [])
    (with_open s (unwrap_or (option_map (journal.returned_to (open_in s)) o) (open_in s)))
grants_back s None = inl (refl, le_refl _)
grants_back s (Some p) = inl (granted_of_released (after p s.reservations), le_refl _)

transition_grants : (s : State) (session : ℕ) (asked : Statement) → Grants s (moves_of s (event.Statement session asked)) (transition_of s session asked).next
unfolding transition_of
transition_grants s session (statement.Create text) = inl (refl, le_refl _)
transition_grants s session (statement.Drop name) = inl (granted_of_taken (filter (λ (row : Row). bytes_eq row.name.table name) s.rows), le_refl _)
transition_grants s session (statement.Alter text) = inl (refl, le_refl _)
transition_grants s session (statement.Insert text) = grants_insert s (new_row s text)
transition_grants s session (statement.Update text) = grants_update s session text.table (plan_of s text)
transition_grants s session (statement.Delete text) =
    inl (granted_of_taken (filter (λ (row : Row). same_row row.name (named_by s.catalog text.table text.row)) s.rows), le_refl _)
transition_grants s session (statement.Select text) = inl (refl, le_refl _)
transition_grants s session (statement.ShowTable name) = inl (refl, le_refl _)
transition_grants s session (statement.ShowBounds text) = inl (refl, le_refl _)
transition_grants s session (statement.ShowJournal table) = inl (refl, le_refl _)
transition_grants s session (statement.Savepoint name) = inl (refl, le_refl _)
transition_grants s session statement.Commit = inl (granted_of_committed (own session s.reservations), le_refl _)
transition_grants s session statement.Rollback = inl (granted_of_released (own session s.reservations), le_refl _)
transition_grants s session (statement.RollbackTo name) = grants_back s (savepoint_of session name s.savepoints)

event_grants : (s : State) (happened : Event) (answer : Reply) (new : State) → IsNoRestart happened → IsServed s happened answer new → is_refused answer ≡ false
    → Grants s (moves_of s happened) new
event_grants s (event.Statement session asked) answer new other served done =
    served_has (λ _ after. Grants s (moves_of s (event.Statement session asked)) after) s session asked answer new served done (transition_grants s session asked)
event_grants s event.Restart answer new other served done = absurd other

-- WHAT A RUN GRANTS

-- of an id at most one reservation is granted, and none of an id below the next one
record AreFresh (id next : ℕ) (moves : List Move) : Type 0 where
  once : number (has_id id) (granted_in moves) ≤ 1
  none : id < next → number (has_id id) (granted_in moves) ≡ 0

one_more : (id : ℕ) (r : Reservation) (rest : List Move) (next after : ℕ) → r.id ≡ next → after ≡ next + 1 → AreFresh id after rest
    → (b : Bool) → has_id id r ≡ b
    → (length (cond b (r ∷ filter (has_id id) (granted_in rest)) (filter (has_id id) (granted_in rest))) ≤ 1)
    × (id < next → length (cond b (r ∷ filter (has_id id) (granted_in rest)) (filter (has_id id) (granted_in rest))) ≡ 0)
one_more id r rest next after takes rises fresh true is =
    let mine : r.id ≡ id = eqb-true r.id id is in
    let none : length (filter (has_id id) (granted_in rest)) ≡ 0 = fresh.none (omega arith) in
    (omega arith, λ below. absurd (omega arith))
one_more id r rest next after takes rises fresh false is = (fresh.once, λ below. fresh.none (omega arith))

fresh_then : (id : ℕ) (s new : State) (ms ns : List Move) → Grants s ms new → AreFresh id new.next_id ns → AreFresh id s.next_id (ms ++ ns)
fresh_then id s new ms ns (inl nothing) fresh =
    let same : granted_in (ms ++ ns) ≡ granted_in ns = granted_append ms ns ∙ ap (λ (rs : List Reservation). rs ++ granted_in ns) nothing.0 in
    let number_same : number (has_id id) (granted_in (ms ++ ns)) ≡ number (has_id id) (granted_in ns) = ap (number (has_id id)) same in
    let once : number (has_id id) (granted_in ns) ≤ 1 = fresh.once in
    let rises : s.next_id ≤ new.next_id = nothing.1 in
    record { once = omega arith; none = λ below. number_same ∙ fresh.none (omega arith) }
fresh_then id s new ms ns (inr one) fresh =
    let r : Reservation = one.0 in
    let same : granted_in (ms ++ ns) ≡ r ∷ granted_in ns = granted_append ms ns ∙ ap (λ (rs : List Reservation). rs ++ granted_in ns) one.1 in
    let number_same : number (has_id id) (granted_in (ms ++ ns)) ≡ number (has_id id) (r ∷ granted_in ns) = ap (number (has_id id)) same in
    let more = one_more id r ns s.next_id new.next_id one.2 one.3 fresh (has_id id r) refl in
    let once : number (has_id id) (r ∷ granted_in ns) ≤ 1 = more.0 in
    record { once = omega arith; none = λ below. number_same ∙ more.1 below }

step_fresh : (id : ℕ) (s : State) (happened : Event) (events : List Event) (answer : Reply) (answers : List Reply) (mid new : State) → IsNoRestart happened
    → IsServed s happened answer mid → IsRun mid events answers new
    → ((t : State) → IsRun t events answers new → AreFresh id t.next_id (book t events answers)) → (b : Bool) → is_refused answer ≡ b
    → AreFresh id s.next_id (cond b (book s events answers) (moves_of s happened ++ book (after_event s happened) events answers))
step_fresh id s happened events answer answers mid new other served run rest true refused =
    rest s (subst (λ (t : State). IsRun t events answers new) (event_stays s happened answer mid served refused) run)
step_fresh id s happened events answer answers mid new other served run rest false done =
    let is : mid ≡ after_event s happened = event_is s happened answer mid served done in
    fresh_then id s (after_event s happened) (moves_of s happened) (book (after_event s happened) events answers)
    (subst (Grants s (moves_of s happened)) is (event_grants s happened answer mid other served done))
    (rest (after_event s happened) (subst (λ (t : State). IsRun t events answers new) is run))

run_fresh : (id : ℕ) (s : State) (events : List Event) (answers : List Reply) (new : State) → AllByRecursion IsNoRestart events → IsRun s events answers new
    → AreFresh id s.next_id (book s events answers)
run_fresh id s [] answers new none run = record { once = omega arith; none = λ _. refl }
run_fresh id s (happened ∷ events) [] new none run = absurd run
run_fresh id s (happened ∷ events) (answer ∷ answers) new none run =
    step_fresh id s happened events answer answers run.0 new none.0 run.1 run.2 (λ t run_t. run_fresh id t events answers new none.1 run_t) (is_refused answer) refl

-- what is open at the start, and what is granted
either : (n m a b : ℕ) → a ≤ 1 → (m ≤ n → a ≡ 0) → b ≤ 1 → (n < m → b ≡ 0) → a + b ≤ 1
either n m a b few old once fresh = elim (cases_lt n m) [
  | inl below ↦ (let none : b ≡ 0 = fresh below in omega arith)
  | inr above ↦ (let none : a ≡ 0 = old (omega arith) in omega arith)
]

pub once_in : (id : ℕ) (s : State) (events : List Event) (answers : List Reply) (new : State) → IsValid s → AllByRecursion IsNoRestart events
    → IsRun s events answers new → number (has_id id) s.reservations + number (has_id id) (granted_in (book s events answers)) ≤ 1
once_in id s events answers new valid none run =
    let fresh = run_fresh id s events answers new none run in
    either id s.next_id (number (has_id id) s.reservations) (number (has_id id) (granted_in (book s events answers)))
    (ids_once id s.reservations valid.orderly.reservation_order)
    (λ above. number_none id s.reservations (λ r h same.
    let below : r.id < s.next_id = (all_has (IsReservationIn s.catalog s.next_id) s.reservations valid.orderly.reservations_in r h).below in
    absurd (omega arith)))
    fresh.once fresh.none
