-- How a call that serves a statement corresponds to the machine's step.
use Rattle.std.specs.Prelude.{◌≡◌, ◌⊎◌, ℕ, true, is_none, option_map, unwrap_or, MatchOption, IsTrue, IfSome, Option, Some, None, Result, Err, List, [], ◌∷◌, length}
use Rattle.std.proofs.Common.{inl, inr, refl, sym, ap, ◌∙◌, subst}
use Rattle.std.proofs.lemmas.Bool.{and_from}
use Rattle.escrow_num.specs.declared.refusal.Refusal.{Refusal}
use Rattle.escrow_num.specs.declared.refusal.Refusal.TheVariants as refusal
use Rattle.escrow_num.specs.declared.reservation.Savepoint.{Savepoint}
use Rattle.escrow_num.specs.Refusal.{first_refusal, refusal_for}
use Rattle.escrow_statement.specs.declared.statement.Statement.{Statement}
use Rattle.escrow_statement.specs.declared.statement.Statement.TheVariants as statement
use Rattle.escrow_statement.specs.declared.statement.UpdateText.{UpdateText}
use Rattle.escrow_schema.specs.declared.plan.Plan.{Plan}
use Rattle.escrow_machine.specs.declared.reply.Reply.{Reply}
use Rattle.escrow_machine.specs.declared.reply.Reply.TheVariants as reply
use Rattle.escrow_num.specs.declared.failure.Failure.{Failure}
use Rattle.escrow_num.specs.declared.failure.Failure.TheVariants as failure
use Rattle.escrow_machine.specs.Reply.{failure_of}
use Rattle.escrow_machine.specs.Accepted.{IsAccepted, IsRefusal}
use Rattle.escrow_journal.specs.Open.{released, returned_to, savepoint_refusal}
use Rattle.escrow_journal.specs.Reservations.{own}
use Rattle.escrow_journal.specs.Savepoints.{savepoint_of, after}
use Rattle.escrow_machine.specs.State.{State, open_in, with_open}
use Rattle.escrow_machine.specs.Step.{refusals, step, fails_for, may_fail, IsStep, StepOrRefusal}
use Rattle.escrow_machine.specs.Transition.{transition_of, update_reply, after_update, after_commit, after_rollback, after_savepoint, after_rollback_to}
use Rattle.escrow_machine.specs.Asked.{plan_of}
use Rattle.escrow_machine.proofs.Refusals.{none_in_front}
use Rattle.escrow_machine.proofs.TransitionRefusals.{refusal_is_no_failure}
use Rattle.escrow_machine.proofs.Transitions.{is_transition}

-- a reply that is no failure is that of the step
pub stepped : (s : State) (session : ℕ) (asked : Statement) (answer : Reply) (new : State) → failure_of answer ≡ None
    → (answer, new) ≡ step s session asked → StepOrRefusal s session asked answer new
stepped s session asked answer new succeeds is =
    subst (λ (o : Option Failure). MatchOption o (IsStep s session asked answer new) (λ f. IsTrue (may_fail s session asked f) × (new ≡ s)))
    (sym succeeds) (record { is_step = is })

-- the first refusal that applies, with the state unchanged
pub rule_serves : (s : State) (session : ℕ) (asked : Statement) (r : Refusal) → first_refusal (refusals (transition_of s session asked)) ≡ Some r
    → StepOrRefusal s session asked (reply.Refused r) s
rule_serves s session asked r first =
    let transition = transition_of s session asked in
    stepped s session asked (reply.Refused r) s (refusal_is_no_failure s session asked r first)
    (sym (ap (λ (o : Option Refusal). unwrap_or (option_map (λ (q : Refusal). (reply.Refused q, s)) o) (transition.reply, transition.next)) first))

-- a failure that the statement may have
told_serves : (s : State) (session : ℕ) (asked : Statement) (f : Failure) → IsTrue (may_fail s session asked f) → StepOrRefusal s session asked (reply.Refused (refusal_for f)) s
told_serves s session asked failure.Memory may = (may, refl)
told_serves s session asked failure.Store may = (may, refl)

-- a refusal of the machine, or a failure
pub refused_serves : (s : State) (session : ℕ) (asked : Statement) (r : Refusal) → IsRefusal s session asked r
    → StepOrRefusal s session asked (reply.Refused r) s
refused_serves s session asked r (inl by_rule) = rule_serves s session asked r by_rule
refused_serves s session asked r (inr failing) =
    let may = failing.2 in
    subst (λ (q : Refusal). StepOrRefusal s session asked (reply.Refused q) s) (sym failing.1) (told_serves s session asked failing.0 may)

-- if no refusal applies, the transition's reply and next state
pub accepted_serves : (s : State) (session : ℕ) (asked : Statement) → IsAccepted s session asked
    → StepOrRefusal s session asked (transition_of s session asked).reply (transition_of s session asked).next
accepted_serves s session asked accepted =
    let transition = transition_of s session asked in
    stepped s session asked transition.reply transition.next (is_transition s session asked).succeeds
    (sym (ap (λ (o : Option Refusal). unwrap_or (option_map (λ (q : Refusal). (reply.Refused q, s)) o) (transition.reply, transition.next)) accepted))

-- if no refusal applies, the statement may fail for memory
pub memory_serves : (s : State) (session : ℕ) (asked : Statement) → IsAccepted s session asked → fails_for s session asked failure.Memory ≡ true
    → StepOrRefusal s session asked (reply.Refused refusal.Memory) s
memory_serves s session asked accepted wants =
    let transition = transition_of s session asked in
    let none_early : is_none (first_refusal transition.early) ≡ true = ap (λ (o : Option Refusal). is_none o) (none_in_front transition.early transition.late accepted) in
    (and_from (is_none (first_refusal transition.early)) (fails_for s session asked failure.Memory) none_early wants, refl)

-- UPDATE
pub update_serves : (s : State) (session : ℕ) (text : UpdateText) (asked : Plan) → IsAccepted s session (statement.Update text) → plan_of s text ≡ Some asked
    → StepOrRefusal s session (statement.Update text) (update_reply s asked) (after_update s session text.table asked)
unfolding transition_of
update_serves s session text asked accepted is =
    subst (λ (o : Option Plan). StepOrRefusal s session (statement.Update text) (unwrap_or (option_map (update_reply s) o) reply.Updated) (unwrap_or (option_map (after_update s session text.table) o) s))
    is (accepted_serves s session (statement.Update text) accepted)

-- COMMIT and ROLLBACK
pub commit_serves : (s : State) (session : ℕ) → StepOrRefusal s session statement.Commit (reply.Committed (length (own session s.reservations))) (after_commit s session)
unfolding transition_of
commit_serves s session = accepted_serves s session statement.Commit refl

pub rollback_serves : (s : State) (session : ℕ) → StepOrRefusal s session statement.Rollback (reply.RolledBack (length (own session s.reservations))) (after_rollback s session)
unfolding transition_of
rollback_serves s session = accepted_serves s session statement.Rollback refl

-- SAVEPOINT: accepted if there is no reason against it; otherwise refused for the reason, or for memory
pub savepoint_accepted : (s : State) (session : ℕ) (name : List ℕ) → savepoint_refusal session name (open_in s) ≡ None → IsAccepted s session (statement.Savepoint name)
unfolding transition_of
savepoint_accepted s session name room = ap (λ (o : Option Refusal). first_refusal (o ∷ [])) room

pub savepoint_serves : (s : State) (session : ℕ) (name : List ℕ) → savepoint_refusal session name (open_in s) ≡ None
    → StepOrRefusal s session (statement.Savepoint name) (reply.Savepoint name) (after_savepoint s session name)
unfolding transition_of
savepoint_serves s session name room = accepted_serves s session (statement.Savepoint name) (savepoint_accepted s session name room)

savepoint_refused : (s : State) (session : ℕ) (name : List ℕ) (r : Refusal) → savepoint_refusal session name (open_in s) ≡ Some r
    → StepOrRefusal s session (statement.Savepoint name) (reply.Refused r) s
unfolding transition_of
savepoint_refused s session name r full =
    rule_serves s session (statement.Savepoint name) r (ap (λ (o : Option Refusal). first_refusal (o ∷ [])) full)

savepoint_wants : (s : State) (session : ℕ) (name : List ℕ) → savepoint_refusal session name (open_in s) ≡ None
    → StepOrRefusal s session (statement.Savepoint name) (reply.Refused refusal.Memory) s
unfolding transition_of
savepoint_wants s session name room =
    memory_serves s session (statement.Savepoint name) (savepoint_accepted s session name room) refl

refused_by : (s : State) (session : ℕ) (name : List ℕ) (r : Refusal) (o : Option Refusal) → savepoint_refusal session name (open_in s) ≡ o
    → IfSome o (λ e. e ≡ r) → (o ≡ Some r) ⊎ (r ≡ refusal.Memory) → StepOrRefusal s session (statement.Savepoint name) (reply.Refused r) s
refused_by s session name r None is first only = elim only [
  | inl e ↦ absurd (cc)
  | inr e ↦ subst (λ (q : Refusal). StepOrRefusal s session (statement.Savepoint name) (reply.Refused q) s) (sym e) (savepoint_wants s session name is)
]
refused_by s session name r (Some e) is first only = savepoint_refused s session name r (is ∙ ap Some first)

pub savepoint_refuses : (s : State) (session : ℕ) (name : List ℕ) (r : Refusal) → IfSome (savepoint_refusal session name (open_in s)) (λ e. e ≡ r)
    → (savepoint_refusal session name (open_in s) ≡ Some r) ⊎ (r ≡ refusal.Memory) → StepOrRefusal s session (statement.Savepoint name) (reply.Refused r) s
savepoint_refuses s session name r first only = refused_by s session name r (savepoint_refusal session name (open_in s)) refl first only

-- a call that is refused is refused for the reason there is
pub same_reason : {X : Type 0} (o : Option Refusal) (result : Result X Refusal) (r : Refusal) → IfSome o (λ e. result ≡ Err e) → result ≡ Err r → IfSome o (λ e. e ≡ r)
same_reason None result r refused err = tt
same_reason (Some e) result r refused err = let same : Err e ≡ Err r = sym refused ∙ err in cc

-- ROLLBACK TO, by how many reservations came after the savepoint, if it exists
back_at : (s : State) (session : ℕ) (name : List ℕ) (o : Option Savepoint) (count : ℕ) → savepoint_of session name s.savepoints ≡ o
    → option_map (λ p. length (after p s.reservations)) o ≡ Some count → IsAccepted s session (statement.RollbackTo name)
unfolding transition_of
back_at s session name None count is e = absurd (cc)
back_at s session name (Some p) count is e = rw is refl

pub back_serves : (s : State) (session : ℕ) (name : List ℕ) (count : ℕ) → released session name (open_in s) ≡ Some count
    → StepOrRefusal s session (statement.RollbackTo name) (reply.RolledBackTo name count) (after_rollback_to s session name)
unfolding transition_of
back_serves s session name count e =
    subst (λ (o : Option ℕ). StepOrRefusal s session (statement.RollbackTo name) (reply.RolledBackTo name (unwrap_or o 0)) (after_rollback_to s session name))
    e (accepted_serves s session (statement.RollbackTo name) (back_at s session name (savepoint_of session name s.savepoints) count refl e))

back_none : (s : State) (session : ℕ) (name : List ℕ) (o : Option Savepoint) → savepoint_of session name s.savepoints ≡ o
    → option_map (λ p. length (after p s.reservations)) o ≡ None
    → StepOrRefusal s session (statement.RollbackTo name) (reply.Refused refusal.NoSuchSavepoint) (with_open s (unwrap_or (option_map (returned_to (open_in s)) o) (open_in s)))
unfolding transition_of
back_none s session name None is e = rule_serves s session (statement.RollbackTo name) refusal.NoSuchSavepoint (rw is refl)
back_none s session name (Some p) is e = absurd (cc)

pub back_refuses : (s : State) (session : ℕ) (name : List ℕ) → released session name (open_in s) ≡ None
    → StepOrRefusal s session (statement.RollbackTo name) (reply.Refused refusal.NoSuchSavepoint) (after_rollback_to s session name)
back_refuses s session name e = back_none s session name (savepoint_of session name s.savepoints) refl e
