-- A transcript as a run of the machine, and what calls and replies say about it.
use Rattle.std.specs.Prelude.{◌≡◌, ℕ, ◌+◌, Option, None, MatchOption, IsTrue, List, [], ◌∷◌, map}
use Rattle.std.specs.List.{AllByRecursion}
use Rattle.std.proofs.Common.{refl, sym, ap, ap₂, subst, ◌∙◌}
use Rattle.escrow_num.specs.declared.failure.Failure.{Failure}
use Rattle.escrow_num.specs.Session.{IsSession}
use Rattle.escrow_statement.specs.declared.statement.Statement.{Statement}
use Rattle.escrow_machine.specs.declared.reply.Reply.{Reply}
use Rattle.escrow_machine.specs.Event.{HasSession}
use Rattle.escrow_machine.specs.Reply.{failure_of}
use Rattle.escrow_machine.specs.State.{State}
use Rattle.escrow_machine.specs.Step.{step, may_fail, IsStep, StepOrRefusal, IsRun}
use Rattle.escrow_transcript.specs.declared.entry.Entry.{Entry}
use Rattle.escrow_transcript.specs.Laws.{event_of, call_of}
use Rattle.escrow_transcript.specs.Legal.{AreSteps, AreNumbered}

-- a database may serve a step of the machine
step_serves : (s : State) (e : Entry) (mid : State) → failure_of e.reply ≡ None → IsStep s e.session e.statement e.reply mid
    → StepOrRefusal s e.session e.statement e.reply mid
step_serves s e mid succeeds done =
    subst (λ (o : Option Failure). MatchOption o (IsStep s e.session e.statement e.reply mid) (λ f. IsTrue (may_fail s e.session e.statement f) × (mid ≡ s)))
    (sym succeeds) done

-- a list of steps is a run
pub steps_run : (s t : State) (entries : List Entry) → AreSteps s entries t → IsRun s (map event_of entries) (map (λ e. e.reply) entries) t
steps_run s t [] steps = sym steps
steps_run s t (e ∷ es) steps = (steps.1.0, step_serves s e steps.1.0 steps.0 steps.1.1.0, steps_run steps.1.0 t es steps.1.1.1)

-- the events of the run have sessions
pub events_of_sessions : (entries : List Entry) → AllByRecursion (λ e. IsSession e.session) entries → AllByRecursion HasSession (map event_of entries)
events_of_sessions [] sessions = tt
events_of_sessions (e ∷ es) sessions = (sessions.0, events_of_sessions es sessions.1)

-- entries with the same parts are the same
entry_same : (a b : Entry) → a.number ≡ b.number → a.session ≡ b.session → a.statement ≡ b.statement → a.reply ≡ b.reply → a ≡ b
entry_same a b number session statement reply =
    subst (λ (n : ℕ). a ≡ record { number = n; session = b.session; statement = b.statement; reply = b.reply }) number
    (subst (λ (n : ℕ). a ≡ record { number = a.number; session = n; statement = b.statement; reply = b.reply }) session
    (subst (λ (t : Statement). a ≡ record { number = a.number; session = a.session; statement = t; reply = b.reply }) statement
    (subst (λ (r : Reply). a ≡ record { number = a.number; session = a.session; statement = a.statement; reply = r }) reply refl)))

-- equal calls have equal replies and lead to equal states
record IsSameStep (a b : Entry) (s t : State) : Type 0 where
  entries : a ≡ b
  states : s ≡ t

step_same : (s : State) (a b : Entry) (t u : State) → a.number ≡ b.number → call_of a ≡ call_of b
    → IsStep s a.session a.statement a.reply t → IsStep s b.session b.statement b.reply u → IsSameStep a b t u
step_same s a b t u number call first second =
    let session : a.session ≡ b.session = ap (λ (c : ℕ × Statement). c.0) call in
    let statement : a.statement ≡ b.statement = ap (λ (c : ℕ × Statement). c.1) call in
    let same : (a.reply, t) ≡ (b.reply, u) = first.is_step ∙ ap₂ (λ (n : ℕ) (asked : Statement). step s n asked) session statement ∙ sym second.is_step in
    record {
      entries = entry_same a b number session statement (ap (λ (p : Reply × State). p.0) same);
      states = ap (λ (p : Reply × State). p.1) same;
    }

-- equal lists of calls do so too
pub steps_same : (s t u : State) (before : ℕ) (entries others : List Entry) → AreSteps s entries t → AreNumbered before entries
    → AreSteps s others u → AreNumbered before others → map call_of entries ≡ map call_of others → (entries ≡ others) × (t ≡ u)
steps_same s t u before [] [] first numbered second renumbered calls = (refl, sym first ∙ second)
steps_same s t u before [] (b ∷ bs) first numbered second renumbered calls = absurd (cc)
steps_same s t u before (a ∷ ds) [] first numbered second renumbered calls = absurd (cc)
steps_same s t u before (a ∷ ds) (b ∷ bs) first numbered second renumbered calls =
    let call : call_of a ≡ call_of b = cc in
    let others : map call_of ds ≡ map call_of bs = cc in
    let same = step_same s a b first.1.0 second.1.0 (numbered.0 ∙ sym renumbered.0) call first.1.1.0 second.1.1.0 in
    let rest = steps_same first.1.0 t u (before + 1) ds bs first.1.1.1 numbered.1
    (subst (λ (m : State). AreSteps m bs u) (sym same.states) second.1.1.1) renumbered.1 others in
    (ap₂ (λ (x : Entry) (xs : List Entry). x ∷ xs) same.entries rest.0, rest.1)
