-- Statements that are served even without memory, and whatever the store does.
use Rattle.std.specs.Prelude.{◌≡◌, ℕ, true, false, not, is_none, option_map, unwrap_or, MatchOption, IsTrue, Option, Some, None, List, [], ◌∷◌, ◌++◌}
use Rattle.std.proofs.Common.{inl, inr, refl, sym, ap, ap₂, ◌∙◌, true≢false}
use Rattle.std.proofs.lemmas.Bool.{and_parts, not-true, or_cases}
use Rattle.sqlite_trees.specs.declared.store.Store.{Ghosts}
use Rattle.escrow_num.specs.declared.refusal.Refusal.{Refusal}
use Rattle.escrow_num.specs.Refusal.{first_refusal}
use Rattle.escrow_statement.specs.declared.statement.Statement.{Statement}
use Rattle.escrow_machine.specs.declared.reply.Reply.{Reply}
use Rattle.escrow_machine.specs.declared.reply.Reply.TheVariants as reply
use Rattle.escrow_num.specs.declared.failure.Failure.{Failure}
use Rattle.escrow_num.specs.declared.failure.Failure.TheVariants as failure
use Rattle.escrow_machine.specs.Promised.{asks_store, needs_nothing, is_plain_refusal, is_promised, reads_rows}
use Rattle.escrow_statement.specs.declared.statement.Statement.TheVariants as statement
use Rattle.escrow_machine.specs.Reply.{failure_of}
use Rattle.escrow_core.specs.Database.{Database}
use Rattle.escrow_core.specs.Serves.{Serves}
use Rattle.escrow_machine.specs.State.{State}
use Rattle.escrow_machine.specs.Step.{step, fails_for, may_fail, IsStep}
use Rattle.escrow_machine.specs.Transition.{transition_of}
use Rattle.escrow_machine.proofs.LawsPromised.{plain_refused}
use Rattle.escrow_machine.proofs.LawsSteps.{step_has}
use Rattle.escrow_machine.proofs.Refusals.{first_in_front}
use Rattle.escrow_machine.proofs.TransitionRefusals.{late_needs_more}
use Rattle.escrow_machine.proofs.Transitions.{is_transition}

-- if no early refusal applies, the first that applies is a late one
late_first : (early late : List (Option Refusal)) (r : Refusal) → is_none (first_refusal early) ≡ true → first_refusal (early ++ late) ≡ Some r → first_refusal late ≡ Some r
late_first [] late r none first = first
late_first (None ∷ early) late r none first = late_first early late r none first
late_first (Some other ∷ early) late r none first = absurd (cc)

-- the machine's reply is then no plain refusal
none_plain : (s : State) (session : ℕ) (asked : Statement) → is_none (first_refusal (transition_of s session asked).early) ≡ true
    → ¬ (is_plain_refusal asked (step s session asked).0 ≡ true)
none_plain s session asked none =
    let transition = transition_of s session asked in
    step_has (λ (p : Reply × State). ¬ (is_plain_refusal asked p.0 ≡ true)) s session asked
    (λ r first e.
    let more = late_needs_more s session asked r (late_first transition.early transition.late r none first) in
    absurd (cc))
    (λ _ e. let refused = plain_refused asked transition.reply e in (is_transition s session asked).answers refused.0 refused.1)

-- a plain refusal is an early one
early_at : (s : State) (session : ℕ) (asked : Statement) (o : Option Refusal) → first_refusal (transition_of s session asked).early ≡ o
    → is_plain_refusal asked (step s session asked).0 ≡ true → (r : Refusal) × (first_refusal (transition_of s session asked).early ≡ Some r)
early_at s session asked None is plain = absurd (none_plain s session asked (ap (λ (o : Option Refusal). is_none o) is) plain)
early_at s session asked (Some r) is plain = (r, is)

-- an early refusal is the reply of the step
early_step : (s : State) (session : ℕ) (asked : Statement) (r : Refusal) → first_refusal (transition_of s session asked).early ≡ Some r → (reply.Refused r, s) ≡ step s session asked
early_step s session asked r first =
    let transition = transition_of s session asked in
    sym (ap (λ (o : Option Refusal). unwrap_or (option_map (λ (q : Refusal). (reply.Refused q, s)) o) (transition.reply, transition.next)) (first_in_front transition.early transition.late r first))

-- a statement that needs neither memory nor the store fails for neither
takes_nothing : (s : State) (session : ℕ) (asked : Statement) (f : Failure) → needs_nothing s session asked ≡ true → fails_for s session asked f ≡ false
takes_nothing s session asked failure.Memory none =
    not-true (fails_for s session asked failure.Memory) (and_parts (not (fails_for s session asked failure.Memory)) (not (asks_store s session asked)) none).0
takes_nothing s session asked failure.Store none =
    not-true (asks_store s session asked) (and_parts (not (fails_for s session asked failure.Memory)) (not (asks_store s session asked)) none).1

-- such a statement reads no rows
reads_nothing : (s : State) (session : ℕ) (asked : Statement) → needs_nothing s session asked ≡ true → reads_rows s session asked ≡ false
reads_nothing s session (statement.Update text) none = absurd (cc)
reads_nothing s session asked none = takes_nothing s session asked failure.Store none

never_fails : (s : State) (session : ℕ) (asked : Statement) (f : Failure) → needs_nothing s session asked ≡ true → ¬ (may_fail s session asked f ≡ true)
never_fails s session asked f none = λ may.
    let takes = (and_parts (is_none (first_refusal (transition_of s session asked).early)) (fails_for s session asked f) may).1 in
    absurd (true≢false (sym takes ∙ takes_nothing s session asked f none))

kept : (s : State) (session : ℕ) (asked : Statement) (answer : Reply) (new : State) (o : Option Failure) → needs_nothing s session asked ≡ true
    → MatchOption o (IsStep s session asked answer new) (λ f. IsTrue (may_fail s session asked f) × (new ≡ s)) → IsStep s session asked answer new
kept s session asked answer new None none event = event
kept s session asked answer new (Some f) none event = absurd (never_fails s session asked f none event.0)

-- a promised statement has the reply of the step, and leaves the store untouched
pub promised : {S : Type 0} (g : Ghosts S) (session : ℕ) (asked : Statement) (old : Database S) (answer : Reply) (new : Database S) → Serves g session asked old answer new
    → IsTrue (is_promised old.state session asked) → (new.store ≡ old.store) × IsStep old.state session asked answer new.state
promised {S} g session asked old answer new serves promise =
    let s = old.state in
    elim (or_cases (needs_nothing s session asked) (is_plain_refusal asked (step s session asked).0) promise) [
      | inl none ↦ (
        (serves.apart (takes_nothing s session asked failure.Store none)).0,
        kept s session asked answer new.state (failure_of answer) none (serves.unread (reads_nothing s session asked none)),
      )
      | inr plain ↦ (let first = early_at s session asked (first_refusal (transition_of s session asked).early) refl plain in
          let is = serves.early first.0 first.1 in
          let stays : (answer, new.state) ≡ (reply.Refused first.0, s) = ap₂ (λ (a : Reply) (d : Database S). (a, d.state)) is.0 is.1 in
          (ap (λ (d : Database S). d.store) is.1, record { is_step = stays ∙ early_step s session asked first.0 first.1 }))
    ]
