-- A statement that needs only room for its entry is served, and which the store never refuses.
use Rattle.std.specs.Prelude.{◌≡◌, ℕ, false, IsTrue, is_none}
use Rattle.std.proofs.Common.{sym, ap, ◌∙◌, inl, inr}
use Rattle.std.proofs.lemmas.Bool.{and_parts, false≢true}
use Rattle.escrow_num.specs.declared.failure.Failure.{Failure}
use Rattle.escrow_num.specs.declared.failure.Failure.TheVariants as failure
use Rattle.escrow_num.specs.Refusal.{first_refusal}
use Rattle.escrow_statement.specs.declared.statement.Statement.{Statement}
use Rattle.escrow_statement.specs.declared.statement.Statement.TheVariants as statement
use Rattle.escrow_machine.specs.declared.reply.Reply.{Reply}
use Rattle.escrow_machine.specs.Promised.{asks_store, is_promised, reads_rows}
use Rattle.escrow_machine.specs.Reply.{holds_memory}
use Rattle.escrow_machine.specs.State.{State}
use Rattle.escrow_machine.specs.Step.{step, fails_for, IsStep, StepOrRefusal}
use Rattle.escrow_machine.specs.Transition.{transition_of}
use Rattle.escrow_machine.proofs.LawsPromised.{promised_holds_none}
use Rattle.escrow_machine.proofs.LawsSteps.{machine_never_fails}
use Rattle.escrow_history.specs.Calls.{IsApart}
use Rattle.escrow_history.specs.Inside.{IsNotKept}
use Rattle.escrow_history.proofs.Kept.{refused_by_store}
use Rattle.escrow_history.proofs.NeverFull.{never_told}

-- the reply to a promised statement is no failure, and copying it takes no memory
pub promised_is_kept : (s : State) (session : ℕ) (asked : Statement) (answer : Reply) (new : State) (f : Failure) → IsTrue (is_promised s session asked)
    → IsStep s session asked answer new → IsNotKept answer f → ⊥
promised_is_kept s session asked answer new f promise taken (inl (inr full)) = never_told s session asked answer new taken full.0
promised_is_kept s session asked answer new f promise taken (inl (inl fails)) =
    let is : answer ≡ (step s session asked).0 = ap (λ (p : Reply × State). p.0) taken.is_step in
    let none = machine_never_fails s session asked in
    absurd (cc)
promised_is_kept s session asked answer new f promise taken (inr holds) =
    let is : answer ≡ (step s session asked).0 = ap (λ (p : Reply × State). p.0) taken.is_step in
    false≢true (sym (promised_holds_none s session asked promise) ∙ ap holds_memory (sym is) ∙ holds.0)

-- a statement that isn't answered from rows asks nothing of the store
unread_asks_nothing : (s : State) (session : ℕ) (asked : Statement) → reads_rows s session asked ≡ false → asks_store s session asked ≡ false
unread_asks_nothing s session (statement.Update text) unread = absurd (cc)
unread_asks_nothing s session asked unread = unread

-- the store never refuses a statement that is apart from it
pub never_by_store : (s : State) (session : ℕ) (asked : Statement) (answer : Reply) (new : State) (f : Failure) → IsApart s session asked
    → (IsTrue (is_promised s session asked) → IsStep s session asked answer new) → (reads_rows s session asked ≡ false → StepOrRefusal s session asked answer new)
    → IsNotKept answer f → ¬ (f ≡ failure.Store)
never_by_store s session asked answer new f (inl unread) promised event not_kept is =
    let may = refused_by_store s session asked answer new f not_kept (event unread) is in
    let asks = (and_parts (is_none (first_refusal (transition_of s session asked).early)) (fails_for s session asked failure.Store) may).1 in
    false≢true (sym (unread_asks_nothing s session asked unread) ∙ asks)
never_by_store s session asked answer new f (inr promise) promised event not_kept is =
    promised_is_kept s session asked answer new f promise (promised promise) not_kept
