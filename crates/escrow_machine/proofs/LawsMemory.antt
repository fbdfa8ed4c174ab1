-- A reply that holds memory shows something, and its statement changes nothing.
use Rattle.std.specs.Prelude.{◌≡◌, ℕ, true, Option, Some, None, MatchOption, unwrap_or, option_map, IsTrue}
use Rattle.std.proofs.Common.{refl, ap, subst, ◌∙◌}
use Rattle.std.proofs.lemmas.Bool.{false≢true}
use Rattle.escrow_num.specs.declared.failure.Failure.{Failure}
use Rattle.escrow_statement.specs.declared.statement.Statement.{Statement}
use Rattle.escrow_statement.specs.declared.statement.Statement.TheVariants as statement
use Rattle.escrow_schema.specs.declared.plan.Plan.{Plan}
use Rattle.escrow_schema.specs.declared.plan.Plan.TheVariants as plan
use Rattle.escrow_machine.specs.declared.reply.Reply.{Reply}
use Rattle.escrow_machine.specs.declared.reply.Reply.TheVariants as reply
use Rattle.escrow_machine.specs.Asked.{plan_of}
use Rattle.escrow_machine.specs.Reply.{failure_of, holds_memory}
use Rattle.escrow_machine.specs.State.{State}
use Rattle.escrow_machine.specs.Step.{may_fail, IsStep, StepOrRefusal}
use Rattle.escrow_machine.specs.Transition.{transition_of, update_reply}
use Rattle.escrow_machine.proofs.LawsSteps.{step_has}

-- the reply to an UPDATE holds no memory
update_holds_none : (s : State) (o : Option Plan) → holds_memory (unwrap_or (option_map (update_reply s) o) reply.Updated) ≡ true → ⊥
update_holds_none s None holds = false≢true holds
update_holds_none s (Some (plan.Reserve key changes)) holds = false≢true holds
update_holds_none s (Some (plan.Plain key values)) holds = false≢true holds

-- a transition whose reply holds memory leaves the state unchanged
transition_stays : (s : State) (session : ℕ) (asked : Statement) → holds_memory (transition_of s session asked).reply ≡ true → (transition_of s session asked).next ≡ s
unfolding transition_of
transition_stays s session (statement.Create text) holds = absurd (false≢true holds)
transition_stays s session (statement.Drop name) holds = absurd (false≢true holds)
transition_stays s session (statement.Alter text) holds = absurd (false≢true holds)
transition_stays s session (statement.Insert text) holds = absurd (false≢true holds)
transition_stays s session (statement.Update text) holds = absurd (update_holds_none s (plan_of s text) holds)
transition_stays s session (statement.Delete text) holds = absurd (false≢true holds)
transition_stays s session (statement.Select text) holds = refl
transition_stays s session (statement.ShowTable name) holds = refl
transition_stays s session (statement.ShowBounds text) holds = refl
transition_stays s session (statement.ShowJournal table) holds = refl
transition_stays s session (statement.Savepoint name) holds = absurd (false≢true holds)
transition_stays s session statement.Commit holds = absurd (false≢true holds)
transition_stays s session statement.Rollback holds = absurd (false≢true holds)
transition_stays s session (statement.RollbackTo name) holds = absurd (false≢true holds)

-- a step whose reply holds memory leaves the state unchanged
pub step_stays : (s : State) (session : ℕ) (asked : Statement) (answer : Reply) (new : State) → IsStep s session asked answer new → holds_memory answer ≡ true → new ≡ s
step_stays s session asked answer new event holds =
    ap (λ (p : Reply × State). p.1) event.is_step
    ∙ step_has (λ (p : Reply × State). holds_memory p.0 ≡ true → p.1 ≡ s) s session asked
    (λ _ _ h. absurd (false≢true h)) (λ _ h. transition_stays s session asked h)
    (subst (λ (p : Reply × State). holds_memory p.0 ≡ true) event.is_step holds)

-- a failure in its place leaves it unchanged too
served_stays : (s : State) (session : ℕ) (asked : Statement) (answer : Reply) (new : State) (o : Option Failure)
    → MatchOption o (IsStep s session asked answer new) (λ f. IsTrue (may_fail s session asked f) × (new ≡ s)) → holds_memory answer ≡ true → new ≡ s
served_stays s session asked answer new None event holds = step_stays s session asked answer new event holds
served_stays s session asked answer new (Some f) event holds = event.1

pub shown_stays : (s : State) (session : ℕ) (asked : Statement) (answer : Reply) (new : State)
    → StepOrRefusal s session asked answer new → IsTrue (holds_memory answer) → new ≡ s
shown_stays s session asked answer new event holds = served_stays s session asked answer new (failure_of answer) event holds
