-- What is known of an event that isn't refused, and of one that is.
use Rattle.std.specs.Prelude.{◌≡◌, ◌⊎◌, ℕ, true, false, IsTrue, MatchOption, Option, Some, None}
use Rattle.std.proofs.Common.{inl, inr, refl, sym, ap, subst, ◌∙◌}
use Rattle.escrow_num.specs.declared.failure.Failure.{Failure}
use Rattle.escrow_num.specs.declared.refusal.Refusal.TheVariants as refusal
use Rattle.escrow_statement.specs.declared.statement.Statement.{Statement}
use Rattle.escrow_machine.specs.declared.event.Event.{Event}
use Rattle.escrow_machine.specs.declared.event.Event.TheVariants as event
use Rattle.escrow_machine.specs.declared.reply.Reply.{Reply}
use Rattle.escrow_machine.specs.declared.reply.Reply.TheVariants as reply
use Rattle.escrow_machine.specs.Reply.{failure_of, is_refused}
use Rattle.escrow_machine.specs.State.{State, opened}
use Rattle.escrow_machine.specs.Step.{step, may_fail, IsStep, StepOrRefusal, IsServed}
use Rattle.escrow_machine.specs.Transition.{transition_of}
use Rattle.escrow_machine.proofs.LawsSteps.{step_has, refused_stays}
use Rattle.escrow_accounts.specs.Book.{after_event}

-- a failure is a refusal
failed_is_refused : (answer : Reply) (f : Failure) → failure_of answer ≡ Some f → is_refused answer ≡ true
failed_is_refused (reply.Refused r) f e = refl
failed_is_refused _ f e = absurd (cc)

-- a statement that isn't refused is the machine's step
is_step_at : (s : State) (session : ℕ) (asked : Statement) (answer : Reply) (new : State) (o : Option Failure) → failure_of answer ≡ o
    → MatchOption o (IsStep s session asked answer new) (λ f. IsTrue (may_fail s session asked f) × (new ≡ s)) → is_refused answer ≡ false
    → (answer, new) ≡ step s session asked
is_step_at s session asked answer new None is served done = served.is_step
is_step_at s session asked answer new (Some f) is served done = let failed = failed_is_refused answer f is in absurd (cc)

served_step : (s : State) (session : ℕ) (asked : Statement) (answer : Reply) (new : State) → StepOrRefusal s session asked answer new
    → is_refused answer ≡ false → (answer, new) ≡ step s session asked
served_step s session asked answer new served done = is_step_at s session asked answer new (failure_of answer) refl served done

-- what holds of the transition's reply and state holds of them
pub served_has : (P : Reply → State → Type 0) (s : State) (session : ℕ) (asked : Statement) (answer : Reply) (new : State)
    → StepOrRefusal s session asked answer new → is_refused answer ≡ false
    → P (transition_of s session asked).reply (transition_of s session asked).next → P answer new
served_has P s session asked answer new served done given =
    let Q : Reply × State → Type 0 = λ p. is_refused p.0 ≡ false → P p.0 p.1 in
    let at : Q (step s session asked) = step_has Q s session asked (λ r _ no. absurd (cc)) (λ _ _. given) in
    subst Q (sym (served_step s session asked answer new served done)) at done

-- THE STATE AFTER AN EVENT

pub event_is : (s : State) (happened : Event) (answer : Reply) (new : State) → IsServed s happened answer new → is_refused answer ≡ false
    → new ≡ after_event s happened
event_is s (event.Statement session asked) answer new served done =
    ap (λ (p : Reply × State). p.1) (served_step s session asked answer new served done)
event_is s event.Restart answer new (inl restarted) done = restarted.1
event_is s event.Restart answer new (inr (inl is, same)) done = absurd (cc (ap is_refused is))
event_is s event.Restart answer new (inr (inr is, same)) done = absurd (cc (ap is_refused is))

pub event_stays : (s : State) (happened : Event) (answer : Reply) (new : State) → IsServed s happened answer new → is_refused answer ≡ true → new ≡ s
event_stays s (event.Statement session asked) answer new served refused = refused_stays s session asked answer new served refused
event_stays s event.Restart answer new (inl restarted) refused = absurd (cc (ap is_refused restarted.0))
event_stays s event.Restart answer new (inr same) refused = same.1
