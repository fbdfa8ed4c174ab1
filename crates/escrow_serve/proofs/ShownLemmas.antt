-- A query whose reply does not fit in memory is refused for lack of memory.
use Rattle.std.proofs.Common.{◌≡◌, ◌⊎◌, ℕ, Option, None, List, refl, sym, ap₂, subst, inl, inr, true}
use Rattle.std.specs.Prelude.{Bool, ◌&&◌, is_none, MatchOption, IsTrue}
use Rattle.std.proofs.lemmas.Bool.{false≢true}
use Rattle.escrow_num.specs.declared.failure.Failure.{Failure}
use Rattle.escrow_num.specs.declared.failure.Failure.TheVariants as failure
use Rattle.escrow_num.specs.declared.refusal.Refusal.{Refusal}
use Rattle.escrow_num.specs.declared.refusal.Refusal.TheVariants as refusal
use Rattle.escrow_sql.specs.declared.fault.ParseFault.TheVariants as parse_fault
use Rattle.escrow_statement.specs.declared.statement.Statement.{Statement}
use Rattle.escrow_statement.specs.declared.statement.Statement.TheVariants as statement
use Rattle.escrow_machine.specs.declared.reply.Reply.{Reply}
use Rattle.escrow_machine.specs.declared.reply.Reply.TheVariants as reply
use Rattle.escrow_machine.specs.Reply.{failure_of, holds_memory}
use Rattle.escrow_machine.specs.State.{State}
use Rattle.escrow_machine.specs.Step.{fails_for, may_fail, IsStep, StepOrRefusal}
use Rattle.escrow_machine.specs.Transition.{transition_of}
use Rattle.escrow_machine.proofs.LawsMemory.{step_stays}
use Rattle.escrow_machine.proofs.LawsSteps.{step_has}
use Rattle.escrow_machine.proofs.Refusals.{none_in_front}
use Rattle.escrow_serve.specs.Output.{Answers}

-- a transition that shows something needs memory
transition_takes : (s : State) (session : ℕ) (asked : Statement) → holds_memory (transition_of s session asked).reply ≡ true → fails_for s session asked failure.Memory ≡ true
unfolding transition_of
transition_takes s session statement.Commit holds = absurd (false≢true holds)
transition_takes s session statement.Rollback holds = absurd (false≢true holds)
transition_takes s session (statement.RollbackTo name) holds = absurd (false≢true holds)
transition_takes s session _ holds = refl

-- a step that shows something may fail for lack of memory
step_may : (s : State) (session : ℕ) (asked : Statement) (answer : Reply) (new : State) → IsStep s session asked answer new → holds_memory answer ≡ true
    → may_fail s session asked failure.Memory ≡ true
step_may s session asked answer new event holds =
    let transition = transition_of s session asked in
    step_has (λ (p : Reply × State). holds_memory p.0 ≡ true → may_fail s session asked failure.Memory ≡ true) s session asked
    (λ _ _ h. absurd (false≢true h))
    (λ accepted h. ap₂ (λ (o : Option Refusal) (takes : Bool). is_none o && takes) (none_in_front transition.early transition.late accepted) (transition_takes s session asked h))
    (subst (λ (p : Reply × State). holds_memory p.0 ≡ true) event.is_step holds)

-- a reply that shows something is no failure
no_failure : (r : Reply) → holds_memory r ≡ true → failure_of r ≡ None
no_failure (reply.Refused r) holds = absurd (false≢true holds)
no_failure _ holds = refl

-- a step that shows something may instead be refused for lack of memory
pub step_refused : (s : State) (session : ℕ) (asked : Statement) (answer : Reply) (new : State) → StepOrRefusal s session asked answer new → holds_memory answer ≡ true
    → StepOrRefusal s session asked (reply.Refused refusal.Memory) new
step_refused s session asked answer new event holds =
    let told : MatchOption None (IsStep s session asked answer new) (λ f. IsTrue (may_fail s session asked f) × (new ≡ s)) =
    subst (λ (o : Option Failure). MatchOption o (IsStep s session asked answer new) (λ f. IsTrue (may_fail s session asked f) × (new ≡ s))) (no_failure answer holds) event in
    (step_may s session asked answer new told holds, step_stays s session asked answer new told holds)

-- so may the answer to a text
answer_refused : (s : State) (session : ℕ) (text : List ℕ) (answer : Reply) (new : State) → Answers s session text answer new → holds_memory answer ≡ true
    → Answers s session text (reply.Refused refusal.Memory) new
answer_refused s session text answer new (inl served) holds = inl (served.0, served.1, step_refused s session served.0 answer new served.2 holds)
answer_refused s session text answer new (inr refused) holds = absurd (false≢true (subst (λ (r : Reply). holds_memory r ≡ true) refused.2 holds))

-- the given reply answers the text: it is the text's answer, or the refusal of it
pub given_answers : (s : State) (session : ℕ) (text : List ℕ) (answer given : Reply) (new : State) → Answers s session text answer new
    → (given ≡ answer) ⊎ ((holds_memory answer ≡ true) × (given ≡ reply.Refused refusal.Memory)) → Answers s session text given new
given_answers s session text answer given new answers (inl same) = subst (λ (r : Reply). Answers s session text r new) (sym same) answers
given_answers s session text answer given new answers (inr refused) =
    subst (λ (r : Reply). Answers s session text r new) (sym refused.1) (answer_refused s session text answer new answers refused.0)

-- any text may be refused for lack of memory
pub refused_answers : (s : State) (session : ℕ) (text : List ℕ) (new : State) → new ≡ s → Answers s session text (reply.Refused refusal.Memory) new
refused_answers s session text new same = inr (parse_fault.Memory, tt, refl, same)

-- a refusal is given as it is
pub shown_refusal : (r : Refusal) (given : Reply) → (given ≡ reply.Refused r) ⊎ ((holds_memory (reply.Refused r) ≡ true) × (given ≡ reply.Refused refusal.Memory)) → given ≡ reply.Refused r
shown_refusal r given (inl same) = same
shown_refusal r given (inr refused) = absurd (false≢true refused.0)
