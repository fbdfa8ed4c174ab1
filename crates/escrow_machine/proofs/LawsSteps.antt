-- What one step of the machine keeps and replies, for all statements at once.
use Rattle.std.specs.Prelude.{◌≡◌, ℕ, ◌+◌, ◌≤◌, true, false, is_none, option_map, unwrap_or, MatchOption, IsTrue, Option, Some, None, List, [], ◌∷◌, length}
use Rattle.std.specs.List.{AllByRecursion}
use Rattle.std.proofs.Common.{inl, inr, refl, sym, ap, subst, le_refl, ◌∙◌}
use Rattle.std.proofs.lemmas.Bool.{and_parts, false≢true}
use Rattle.escrow_num.specs.declared.refusal.Refusal.{Refusal}
use Rattle.escrow_num.specs.Refusal.{first_refusal}
use Rattle.escrow_num.specs.Session.{IsSession}
use Rattle.escrow_statement.specs.declared.statement.Statement.{Statement}
use Rattle.escrow_statement.specs.declared.statement.Statement.TheVariants as statement
use Rattle.escrow_machine.specs.declared.event.Event.{Event}
use Rattle.escrow_machine.specs.declared.event.Event.TheVariants as event
use Rattle.escrow_machine.specs.declared.reply.Reply.{Reply}
use Rattle.escrow_machine.specs.declared.reply.Reply.TheVariants as reply
use Rattle.escrow_num.specs.declared.failure.Failure.{Failure}
use Rattle.escrow_machine.specs.Event.{HasSession}
use Rattle.escrow_machine.specs.Reply.{failure_of, is_refused}
use Rattle.escrow_machine.specs.Laws.{SeesCommitsAlone, ShowsAfter}
use Rattle.escrow_journal.specs.Reservations.{own}
use Rattle.escrow_machine.specs.State.{State}
use Rattle.escrow_machine.specs.Step.{refusals, step, fails_for, may_fail, IsStep, StepOrRefusal, IsServed, IsRun}
use Rattle.escrow_machine.specs.Transition.{transition_of}
use Rattle.escrow_machine.specs.Valid.{IsValid}
use Rattle.escrow_machine.proofs.Queries.{shows_just}
use Rattle.escrow_machine.proofs.Refusals.{first_in_front}
use Rattle.escrow_machine.proofs.TransitionRefusals.{refusal_is_no_failure}
use Rattle.escrow_machine.proofs.Transitions.{is_transition}
use Rattle.escrow_machine.proofs.ValidEmpty.{opened_valid}

-- what holds for a refusal with the state unchanged, and for the reply with the new state if there is
-- no refusal, holds for the step
unless_at : (P : Reply × State → Type 0) (s : State) (o : Option Refusal) (done : Reply) (new : State)
    → ((r : Refusal) → o ≡ Some r → P (reply.Refused r, s)) → (o ≡ None → P (done, new))
    → P (unwrap_or (option_map (λ (r : Refusal). (reply.Refused r, s)) o) (done, new))
unless_at P s None done new refused accepted = accepted refl
unless_at P s (Some r) done new refused accepted = refused r refl

pub step_has : (P : Reply × State → Type 0) (s : State) (session : ℕ) (asked : Statement)
    → ((r : Refusal) → first_refusal (refusals (transition_of s session asked)) ≡ Some r → P (reply.Refused r, s))
    → (first_refusal (refusals (transition_of s session asked)) ≡ None → P ((transition_of s session asked).reply, (transition_of s session asked).next))
    → P (step s session asked)
step_has P s session asked refused accepted =
    let transition = transition_of s session asked in
    unless_at P s (first_refusal (refusals transition)) transition.reply transition.next refused accepted

-- a step keeps a valid state valid
pub step_keeps_valid : (s : State) (session : ℕ) (asked : Statement) → IsValid s → IsSession session → IsValid (step s session asked).1
step_keeps_valid s session asked valid of_session =
    step_has (λ (p : Reply × State). IsValid p.1) s session asked (λ _ _. valid) (λ accepted. (is_transition s session asked).valid accepted valid of_session)

-- a step or a failure keeps it valid
pub event_keeps_valid : (s : State) (session : ℕ) (asked : Statement) (answer : Reply) (new : State) (o : Option Failure) → IsValid s → IsSession session
    → MatchOption o (IsStep s session asked answer new) (λ f. IsTrue (may_fail s session asked f) × (new ≡ s)) → IsValid new
event_keeps_valid s session asked answer new None valid of_session h =
    subst IsValid (sym (ap (λ (p : Reply × State). p.1) h.is_step)) (step_keeps_valid s session asked valid of_session)
event_keeps_valid s session asked answer new (Some f) valid of_session h = subst IsValid (sym h.1) valid

-- a restart or its failure keeps it valid
pub restart_keeps_valid : (s : State) (answer : Reply) (new : State) → IsValid s → IsServed s event.Restart answer new → IsValid new
restart_keeps_valid s answer new valid (inl done) = subst IsValid (sym done.1) (opened_valid s valid)
restart_keeps_valid s answer new valid (inr refused) = subst IsValid (sym refused.1) valid

-- a run of events keeps it valid
pub run_keeps_valid : (s : State) (events : List Event) (answers : List Reply) (new : State)
    → IsValid s → AllByRecursion HasSession events → IsRun s events answers new → IsValid new
run_keeps_valid s [] [] new valid of_sessions run = subst IsValid (sym run) valid
run_keeps_valid s [] (answer ∷ answers) new valid of_sessions run = absurd run
run_keeps_valid s (happened ∷ events) [] new valid of_sessions run = absurd run
run_keeps_valid s (event.Statement session asked ∷ events) (answer ∷ answers) new valid of_sessions run =
    run_keeps_valid run.0 events answers new
    (event_keeps_valid s session asked answer run.0 (failure_of answer) valid of_sessions.0 run.1)
    of_sessions.1 run.2
run_keeps_valid s (event.Restart ∷ events) (answer ∷ answers) new valid of_sessions run =
    run_keeps_valid run.0 events answers new (restart_keeps_valid s answer run.0 valid run.1) of_sessions.1 run.2

-- a refusal leaves the state unchanged
pub refused_changes_nothing : (s : State) (session : ℕ) (asked : Statement) (r : Refusal)
    → (step s session asked).0 ≡ reply.Refused r → (step s session asked).1 ≡ s
refused_changes_nothing s session asked r =
    step_has (λ (p : Reply × State). p.0 ≡ reply.Refused r → p.1 ≡ s) s session asked (λ _ _ _. refl)
    (λ _ e. absurd ((is_transition s session asked).answers r e))

-- a reply that counts as a refusal is one
pub refused_is : (answer : Reply) → is_refused answer ≡ true → (r : Refusal) × (answer ≡ reply.Refused r)
refused_is (reply.Refused r) is = (r, refl)
refused_is _ is = absurd (false≢true is)

-- a refusal leaves the state unchanged, whether the machine or a failure refused
refused_by : (s : State) (session : ℕ) (asked : Statement) (r : Refusal) (new : State) (o : Option Failure)
    → MatchOption o (IsStep s session asked (reply.Refused r) new) (λ f. IsTrue (may_fail s session asked f) × (new ≡ s)) → new ≡ s
refused_by s session asked r new None event =
    let is : (reply.Refused r, new) ≡ step s session asked = event.is_step in
    ap (λ (p : Reply × State). p.1) is ∙ refused_changes_nothing s session asked r (sym (ap (λ (p : Reply × State). p.0) is))
refused_by s session asked r new (Some f) event = event.1

pub refused_stays : (s : State) (session : ℕ) (asked : Statement) (answer : Reply) (new : State) → StepOrRefusal s session asked answer new → is_refused answer ≡ true → new ≡ s
refused_stays s session asked answer new event is =
    let refused = refused_is answer is in
    refused_by s session asked refused.0 new (failure_of (reply.Refused refused.0)) (subst (λ (a : Reply). StepOrRefusal s session asked a new) refused.1 event)

-- the machine itself never fails
pub machine_never_fails : (s : State) (session : ℕ) (asked : Statement) → failure_of (step s session asked).0 ≡ None
machine_never_fails s session asked =
    step_has (λ (p : Reply × State). failure_of p.0 ≡ None) s session asked
    (refusal_is_no_failure s session asked) (λ _. (is_transition s session asked).succeeds)

-- if an early refusal applies, there is no failure, and that refusal is the reply
early_at : (s : State) (session : ℕ) (asked : Statement) (answer : Reply) (new : State) (r : Refusal) (o : Option Failure)
    → MatchOption o (IsStep s session asked answer new) (λ f. IsTrue (may_fail s session asked f) × (new ≡ s))
    → first_refusal (transition_of s session asked).early ≡ Some r → (answer ≡ reply.Refused r) × (new ≡ s)
early_at s session asked answer new r None event first =
    let transition = transition_of s session asked in
    let refused : first_refusal (refusals transition) ≡ Some r = first_in_front transition.early transition.late r first in
    let is : (answer, new) ≡ (reply.Refused r, s) =
    event.is_step ∙ ap (λ (o : Option Refusal). unwrap_or (option_map (λ (q : Refusal). (reply.Refused q, s)) o) (transition.reply, transition.next)) refused in
    (ap (λ (p : Reply × State). p.0) is, ap (λ (p : Reply × State). p.1) is)
early_at s session asked answer new r (Some f) event first =
    let transition = transition_of s session asked in
    let may : is_none (first_refusal transition.early) ≡ true = (and_parts (is_none (first_refusal transition.early)) (fails_for s session asked f) event.0).0 in
    absurd (cc)

pub early_refusals_stand : (s : State) (session : ℕ) (asked : Statement) (answer : Reply) (new : State) (r : Refusal)
    → StepOrRefusal s session asked answer new → first_refusal (transition_of s session asked).early ≡ Some r
    → (answer ≡ reply.Refused r) × (new ≡ s)
early_refusals_stand s session asked answer new r event first = early_at s session asked answer new r (failure_of answer) event first

-- the replies to COMMIT and ROLLBACK
pub commit_answers : (s : State) (session : ℕ) → (step s session statement.Commit).0 ≡ reply.Committed (length (own session s.reservations))
unfolding transition_of
commit_answers s session = refl

-- what queries show after a statement
pub queries_see_commits_alone : (s : State) (session : ℕ) (asked : Statement) → SeesCommitsAlone s session asked (step s session asked).0 (step s session asked).1
queries_see_commits_alone s session asked =
    let transition = is_transition s session asked in
    record {
      before = shows_just s s.catalog s.rows refl refl;
      refused = λ is. let refused = refused_is (step s session asked).0 is in refused_changes_nothing s session asked refused.0 refused.1;
      accepted = step_has (λ (p : Reply × State). is_refused p.0 ≡ false → ShowsAfter s session asked p.1) s session asked (λ _ _ e. absurd (cc)) (λ accepted _. transition.seen accepted);
    }

-- a reservation takes the next id
pub reserved_takes_the_next_id : (s : State) (session : ℕ) (asked : Statement) (id : ℕ)
    → (step s session asked).0 ≡ reply.Reserved id → (id ≡ s.next_id) × ((step s session asked).1.next_id ≡ s.next_id + 1)
reserved_takes_the_next_id s session asked id =
    step_has (λ (p : Reply × State). p.0 ≡ reply.Reserved id → (id ≡ s.next_id) × (p.1.next_id ≡ s.next_id + 1)) s session asked
    (λ _ _ e. absurd (cc)) (λ accepted e. (is_transition s session asked).next accepted id e)

-- no step lowers the next id
pub ids_never_fall : (s : State) (session : ℕ) (asked : Statement) → s.next_id ≤ (step s session asked).1.next_id
ids_never_fall s session asked =
    step_has (λ (p : Reply × State). s.next_id ≤ p.1.next_id) s session asked (λ _ _. le_refl _) (is_transition s session asked).ids
