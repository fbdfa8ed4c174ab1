-- COMMITs that are held back: the waiting statements are a run in the order of their requests.
use Rattle.std.specs.Prelude.{◌≡◌, ℕ, Bool, true, false, cond, not, ◌==◌, ◌&&◌, ◌||◌, nat_lt, MatchBool, MatchOption, IsTrue, is_none, option_map, unwrap_or, Option, Some, None, List, [], ◌∷◌, ◌++◌, length}
use Rattle.std.specs.List.{AllByRecursion}
use Rattle.std.proofs.Common.{refl, sym, ap, ap₂, ◌∙◌, subst}
use Rattle.std.proofs.lemmas.Bool.{cond_both, and_parts}
use Rattle.escrow_num.specs.declared.failure.Failure.{Failure}
use Rattle.escrow_num.specs.declared.failure.Failure.TheVariants as failure
use Rattle.escrow_num.specs.declared.reservation.Reservation.{Reservation}
use Rattle.escrow_num.specs.declared.reservation.Savepoint.{Savepoint}
use Rattle.escrow_num.specs.Ascending.{IsAscending}
use Rattle.escrow_num.specs.Refusal.{refusal_for}
use Rattle.escrow_num.proofs.Ascending.{ascending_filter}
use Rattle.escrow_statement.specs.declared.statement.Statement.{Statement}
use Rattle.escrow_statement.specs.declared.statement.Statement.TheVariants as statement
use Rattle.escrow_journal.specs.Reservations.{own, savepoint_before}
use Rattle.escrow_machine.specs.declared.event.Event.{Event}
use Rattle.escrow_machine.specs.declared.event.Event.TheVariants as event
use Rattle.escrow_machine.specs.declared.reply.Reply.{Reply}
use Rattle.escrow_machine.specs.declared.reply.Reply.TheVariants as reply
use Rattle.escrow_machine.specs.Held.{holds, is_own, is_grant, passes, Waiting, holding, IsHeldBack, IsServedBeside, IsHeldRun, Outcome, events_of, is_done, answer_by, answers_by, ended_by}
use Rattle.escrow_machine.specs.Laws.{HeldCommitsMayComeLast}
use Rattle.escrow_machine.specs.Reply.{failure_of}
use Rattle.escrow_machine.specs.State.{State}
use Rattle.escrow_machine.specs.Step.{step, may_fail, IsStep, StepOrRefusal, IsServed, IsRun}
use Rattle.escrow_machine.specs.Transition.{transition_of, after_commit}
use Rattle.escrow_machine.proofs.LawsEnds.{own_stay}
use Rattle.escrow_machine.proofs.LawsPass.{IsInOrder, passing_in_order, passes_commit}
use Rattle.escrow_machine.proofs.LawsSteps.{machine_never_fails}
use Rattle.escrow_machine.proofs.Savepoints.{session_up_to, by_session}

-- THE COMMITS OF OTHER SESSIONS

-- no COMMIT of this session is held back
abbrev IsNotHeld : ℕ → List Waiting → Type 0
IsNotHeld session earlier = AllByRecursion (λ held. ¬ (held ≡ session)) (holding earlier)

others_held : (session : ℕ) (w : Waiting) (earlier : List Waiting) → IsNotHeld session (w ∷ earlier) → (w.is_held ≡ true → ¬ (w.session ≡ session)) × IsNotHeld session earlier
others_held session w earlier =
    let Other : ℕ → Type 0 = λ held. ¬ (held ≡ session) in
    cond_both w.is_held (w.session ∷ holding earlier) (holding earlier)
    (λ sessions. AllByRecursion Other sessions → (w.is_held ≡ true → Other w.session) × AllByRecursion Other (holding earlier))
    (λ _ all. (λ _. all.0, all.1)) (λ f all. (λ t. absurd (cc), all))

-- after the held COMMITs succeed or fail, the session's own reservations are unchanged
own_stay_one : (b : Bool) (session other : ℕ) (t : State) (reservations : List Reservation) → (b ≡ true → ¬ (other ≡ session)) → own session t.reservations ≡ reservations
    → own session (cond b (step t other statement.Commit).1 t).reservations ≡ reservations
unfolding transition_of
own_stay_one true session other t reservations differ same = own_stay other session t.reservations (differ refl) ∙ same
own_stay_one false session other t reservations differ same = same

own_stays : (outcome : Outcome) (earlier : List Waiting) (now : State) (session : ℕ) → IsNotHeld session earlier
    → own session (ended_by outcome earlier now).reservations ≡ own session now.reservations
own_stays outcome [] now session free = refl
own_stays outcome (w ∷ earlier) now session free =
    let parts = others_held session w earlier free in
    own_stay_one (is_done outcome w) session w.session (ended_by outcome earlier now) (own session now.reservations)
    (λ t. parts.0 (and_parts w.is_held (is_none (outcome w.session)) t).0) (own_stays outcome earlier now session parts.1)

-- A STATEMENT AFTER HELD COMMITS

-- whether a statement may be served depends only on whether its session holds a reservation
own_kept : (s t : State) (session : ℕ) (asked : Statement) → holds t session ≡ holds s session → is_own t session asked ≡ is_own s session asked
own_kept s t session statement.Commit same = ap not same
own_kept s t session asked same = refl

-- the statement has this reply and next state, and may be served while more COMMITs are held back
record IsPassing (session : ℕ) (asked : Statement) (answer : Reply) (t new : State) : Type 0 where
  pub is_step : step t session asked ≡ (answer, new)
  pub may_pass : passes t session asked ≡ true
  pub in_order : IsInOrder t

passed_one : (b : Bool) (session : ℕ) (asked : Statement) (answer : Reply) (other : ℕ) (t new : State) → (b ≡ true → ¬ (other ≡ session)) → IsPassing session asked answer t new
    → IsPassing session asked answer (cond b (step t other statement.Commit).1 t) (cond b (step new other statement.Commit).1 new)
unfolding transition_of
passed_one true session asked answer other t new differ p =
    let passed = passes_commit t other session asked p.in_order (differ refl) p.may_pass in
    let still = own_kept t (after_commit t other) session asked (ap (λ (rs : List Reservation). nat_lt 0 (length rs)) (own_stay other session t.reservations (differ refl))) in
    record {
      is_step = passed ∙ ap (λ (x : Reply × State). (x.0, after_commit x.1 other)) p.is_step;
      may_pass = ap₂ (λ (a b : Bool). a || b) still (ap (λ (x : Reply × State). is_grant x.0) passed) ∙ p.may_pass;
      in_order = ascending_filter session_up_to (λ (q : Savepoint). not (q.session == other)) t.savepoints p.in_order;
    }
passed_one false session asked answer other t new differ p = p

passed_all : (outcome : Outcome) (earlier : List Waiting) (mid : State) (session : ℕ) (asked : Statement) → IsNotHeld session earlier → IsInOrder mid → passes mid session asked ≡ true
    → IsPassing session asked (step mid session asked).0 (ended_by outcome earlier mid) (ended_by outcome earlier (step mid session asked).1)
passed_all outcome [] mid session asked free order may = record { is_step = refl; may_pass = may; in_order = order }
passed_all outcome (w ∷ earlier) mid session asked free order may =
    let parts = others_held session w earlier free in
    passed_one (is_done outcome w) session asked (step mid session asked).0 w.session (ended_by outcome earlier mid) (ended_by outcome earlier (step mid session asked).1)
    (λ t. parts.0 (and_parts w.is_held (is_none (outcome w.session)) t).0) (passed_all outcome earlier mid session asked parts.1 order may)

-- THE RUN

-- one more event at the end of a run
pub run_more : (s : State) (events : List Event) (answers : List Reply) (mid : State) (happened : Event) (answer : Reply) (new : State)
    → IsRun s events answers mid → IsServed mid happened answer new → IsRun s (events ++ happened ∷ []) (answers ++ answer ∷ []) new
run_more s [] [] mid happened answer new run served = (new, subst (λ (t : State). IsServed t happened answer new) run served, refl)
run_more s [] (a ∷ answers) mid happened answer new run served = absurd run
run_more s (e ∷ events) [] mid happened answer new run served = absurd run
run_more s (e ∷ events) (a ∷ answers) mid happened answer new run served = (run.0, run.1, run_more run.0 events answers mid happened answer new run.2 served)

-- a step of the machine is a service
stepped : (s : State) (session : ℕ) (asked : Statement) (answer : Reply) (new : State) → (answer, new) ≡ step s session asked → StepOrRefusal s session asked answer new
stepped s session asked answer new is =
    let never : failure_of answer ≡ None = ap (λ (x : Reply × State). failure_of x.0) is ∙ machine_never_fails s session asked in
    subst (λ (o : Option Failure). MatchOption o (IsStep s session asked answer new) (λ f. IsTrue (may_fail s session asked f) × (new ≡ s))) (sym never) (record { is_step = is })

-- a COMMIT that was held back succeeds at the end
done_last : (session : ℕ) (asked : Statement) (answer : Reply) (mid now : State) (ended : State → State) → own session (ended mid).reservations ≡ own session mid.reservations
    → IsHeldBack session asked answer mid now → (answer, (step (ended now) session statement.Commit).1) ≡ step (ended mid) session asked
unfolding transition_of
done_last session asked answer mid now ended same held =
    ap₂ (λ (a : Reply) (t : State). (a, after_commit (ended t) session)) held.is_answer held.same
    ∙ ap (λ (rs : List Reservation). (reply.Committed (length rs), after_commit (ended mid) session)) (sym same)
    ∙ sym (ap (step (ended mid) session) held.is_commit)

-- or it fails with a fault that it may have
may_fail_last : (session : ℕ) (asked : Statement) (answer : Reply) (mid now : State) (ended : State → State) (f : Failure) → own session (ended mid).reservations ≡ own session mid.reservations
    → IsHeldBack session asked answer mid now → IsTrue (may_fail (ended mid) session asked f) × (ended now ≡ ended mid)
unfolding transition_of
may_fail_last session asked answer mid now ended f same held = (
  ap (λ (a : Statement). may_fail (ended mid) session a f) held.is_commit ∙ ap (λ (rs : List Reservation). nat_lt 0 (length rs)) same ∙ held.holds_some,
  ap ended held.same,
)

-- the last statement is served after all earlier COMMITs succeed or fail
served_last : (b : Bool) (o : Option Failure) (session : ℕ) (asked : Statement) (answer : Reply) (mid now : State) (ended : State → State)
    → own session (ended mid).reservations ≡ own session mid.reservations
    → (passes mid session asked ≡ true → step (ended mid) session asked ≡ ((step mid session asked).0, ended (step mid session asked).1))
    → MatchBool b (IsHeldBack session asked answer mid now) (IsServedBeside session asked answer mid now)
    → StepOrRefusal (ended mid) session asked (unwrap_or (option_map (λ (f : Failure). reply.Refused (refusal_for f)) (cond b o None)) answer)
    (cond (b && is_none o) (step (ended now) session statement.Commit).1 (ended now))
served_last true None session asked answer mid now ended same passed held =
    stepped (ended mid) session asked answer (step (ended now) session statement.Commit).1 (done_last session asked answer mid now ended same held)
served_last true (Some failure.Memory) session asked answer mid now ended same passed held = may_fail_last session asked answer mid now ended failure.Memory same held
served_last true (Some failure.Store) session asked answer mid now ended same passed held = may_fail_last session asked answer mid now ended failure.Store same held
served_last false o session asked answer mid now ended same passed beside =
    stepped (ended mid) session asked answer (ended now) (ap (λ (x : Reply × State). (x.0, ended x.1)) beside.is_step ∙ sym (passed beside.may_pass))

-- the waiting statements leave savepoints in order
order_stays : (b : Bool) (session : ℕ) (asked : Statement) (answer : Reply) (mid now : State) → IsInOrder mid
    → MatchBool b (IsHeldBack session asked answer mid now) (IsServedBeside session asked answer mid now) → IsInOrder now
order_stays true session asked answer mid now order held = subst IsInOrder (sym held.same) order
order_stays false session asked answer mid now order beside =
    subst IsInOrder (sym (ap (λ (x : Reply × State). x.1) beside.is_step)) (passing_in_order mid session asked order beside.may_pass)

held_in_order : (s : State) (waiting : List Waiting) (now : State) → IsInOrder s → IsHeldRun s waiting now → IsInOrder now
held_in_order s [] now order held = subst IsInOrder (sym held) order
held_in_order s (w ∷ earlier) now order held = order_stays w.is_held w.session w.asked w.answer held.0 now (held_in_order s earlier held.0 order held.1) held.3

-- the waiting statements are a run, whether the COMMITs succeed or fail
pub held_run : (s : State) (waiting : List Waiting) (now : State) (outcome : Outcome) → IsAscending savepoint_before s.savepoints
    → IsHeldRun s waiting now → IsRun s (events_of waiting) (answers_by outcome waiting) (ended_by outcome waiting now)
held_run s [] now outcome order held = held
held_run s (w ∷ earlier) now outcome order held =
    let mid = held.0 in
    let in_order : IsInOrder mid = held_in_order s earlier mid (by_session s.savepoints order) held.1 in
    run_more s (events_of earlier) (answers_by outcome earlier) (ended_by outcome earlier mid) (event.Statement w.session w.asked) (answer_by outcome w) (ended_by outcome (w ∷ earlier) now)
    (held_run s earlier mid outcome order held.1)
    (served_last w.is_held (outcome w.session) w.session w.asked w.answer mid now (ended_by outcome earlier) (own_stays outcome earlier mid w.session held.2)
    (λ may. (passed_all outcome earlier mid w.session w.asked held.2 in_order may).is_step) held.3)

pub held_commits_may_come_last : HeldCommitsMayComeLast
held_commits_may_come_last s waiting now outcome valid held = held_run s waiting now outcome valid.orderly.savepoint_order held
