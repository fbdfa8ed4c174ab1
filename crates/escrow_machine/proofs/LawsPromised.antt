-- A statement that is promised to succeed has a reply that holds no memory.
use Rattle.std.specs.Prelude.{◌≡◌, ℕ, true, false, IsTrue}
use Rattle.std.proofs.Common.{refl, inl, inr}
use Rattle.std.proofs.lemmas.Bool.{or_cases}
use Rattle.escrow_num.specs.declared.refusal.Refusal.{Refusal}
use Rattle.escrow_statement.specs.declared.statement.Statement.{Statement}
use Rattle.escrow_statement.specs.declared.statement.Statement.TheVariants as statement
use Rattle.escrow_machine.specs.declared.reply.Reply.{Reply}
use Rattle.escrow_machine.specs.declared.reply.Reply.TheVariants as reply
use Rattle.escrow_machine.specs.Promised.{is_plain_refusal, is_promised, needs_nothing}
use Rattle.escrow_machine.specs.Reply.{holds_memory}
use Rattle.escrow_machine.specs.State.{State}
use Rattle.escrow_machine.specs.Step.{step}
use Rattle.escrow_machine.specs.Transition.{transition_of}
use Rattle.escrow_machine.proofs.LawsSteps.{step_has}

-- the reply to a statement that needs neither memory nor the store holds no memory
transition_holds_none : (s : State) (session : ℕ) (asked : Statement) → needs_nothing s session asked ≡ true → holds_memory (transition_of s session asked).reply ≡ false
unfolding transition_of
transition_holds_none s session (statement.Create text) none = absurd (cc)
transition_holds_none s session (statement.Drop name) none = absurd (cc)
transition_holds_none s session (statement.Alter text) none = absurd (cc)
transition_holds_none s session (statement.Insert text) none = absurd (cc)
transition_holds_none s session (statement.Update text) none = absurd (cc)
transition_holds_none s session (statement.Delete text) none = absurd (cc)
transition_holds_none s session (statement.Select text) none = absurd (cc)
transition_holds_none s session (statement.ShowTable name) none = absurd (cc)
transition_holds_none s session (statement.ShowJournal table) none = absurd (cc)
transition_holds_none s session (statement.ShowBounds text) none = absurd (cc)
transition_holds_none s session (statement.Savepoint name) none = refl
transition_holds_none s session statement.Commit none = refl
transition_holds_none s session statement.Rollback none = refl
transition_holds_none s session (statement.RollbackTo name) none = refl

step_holds_none : (s : State) (session : ℕ) (asked : Statement) → needs_nothing s session asked ≡ true → holds_memory (step s session asked).0 ≡ false
step_holds_none s session asked none = step_has (λ (p : Reply × State). holds_memory p.0 ≡ false) s session asked (λ _ _. refl) (λ _. transition_holds_none s session asked none)

-- a plain refusal is a refusal
pub plain_refused : (asked : Statement) (answer : Reply) → is_plain_refusal asked answer ≡ true → (r : Refusal) × (answer ≡ reply.Refused r)
plain_refused asked (reply.Refused r) plain = (r, refl)
plain_refused asked _ plain = absurd (cc)

-- no reply to a promised statement holds memory
pub promised_holds_none : (s : State) (session : ℕ) (asked : Statement) → IsTrue (is_promised s session asked) → holds_memory (step s session asked).0 ≡ false
promised_holds_none s session asked promise = elim (or_cases (needs_nothing s session asked) (is_plain_refusal asked (step s session asked).0) promise) [
  | inl nothing ↦ step_holds_none s session asked nothing
  | inr plain ↦ (let refused = plain_refused asked (step s session asked).0 plain in rw (refused.1) refl)
]
