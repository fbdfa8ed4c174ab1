-- The machine never replies that a transcript is full.
use Rattle.std.specs.Prelude.{◌≡◌, ℕ, true, IfNone, Option, Some, None, List, [], ◌∷◌}
use Rattle.std.proofs.Common.{sym, ◌∙◌, ap}
use Rattle.std.proofs.lemmas.Bool.{false≢true}
use Rattle.std.specs.List.{AllByRecursion}
use Rattle.escrow_num.specs.declared.failure.Failure.{Failure}
use Rattle.escrow_num.specs.declared.failure.Failure.TheVariants as failure
use Rattle.escrow_num.specs.declared.refusal.Refusal.{Refusal}
use Rattle.escrow_num.specs.declared.refusal.Refusal.TheVariants as refusal
use Rattle.escrow_statement.specs.declared.statement.Statement.{Statement}
use Rattle.escrow_machine.specs.declared.reply.Reply.{Reply}
use Rattle.escrow_machine.specs.declared.reply.Reply.TheVariants as reply
use Rattle.escrow_machine.specs.Reply.{failure_of}
use Rattle.escrow_machine.specs.State.{State}
use Rattle.escrow_machine.specs.Step.{IsStep, step}
use Rattle.escrow_machine.proofs.LawsSteps.{step_has}
use Rattle.escrow_machine.proofs.TransitionRefusals.{is_rule, refusal_meets}
use Rattle.escrow_machine.proofs.Transitions.{is_transition}
use Rattle.escrow_transcript.specs.declared.base.Base.{Base}
use Rattle.escrow_transcript.specs.declared.entry.Entry.{Entry}
use Rattle.escrow_transcript.specs.Image.{started}
use Rattle.escrow_transcript.specs.Legal.{AreSteps, IsLegal}
use Rattle.escrow_history.specs.Calls.{IsAnswer}

-- a rule's refusal does not say so
not_full : (r : Refusal) → is_rule r ≡ true → ¬ (reply.Refused r ≡ reply.Refused refusal.TranscriptFull)
not_full r rule same = let is : r ≡ refusal.TranscriptFull = cc in false≢true (sym (ap is_rule is) ∙ rule)

-- no step gives this reply
never_full : (s : State) (session : ℕ) (asked : Statement) → ¬ ((step s session asked).0 ≡ reply.Refused refusal.TranscriptFull)
never_full s session asked =
    step_has (λ (p : Reply × State). ¬ (p.0 ≡ reply.Refused refusal.TranscriptFull)) s session asked
    (refusal_meets (λ r. ¬ (reply.Refused r ≡ reply.Refused refusal.TranscriptFull)) s session asked not_full)
    (λ _. (is_transition s session asked).answers refusal.TranscriptFull)

pub never_told : (s : State) (session : ℕ) (asked : Statement) (answer : Reply) (new : State) → IsStep s session asked answer new → ¬ (answer ≡ reply.Refused refusal.TranscriptFull)
never_told s session asked answer new taken same = never_full s session asked (ap (λ (p : Reply × State). p.0) (sym taken.is_step) ∙ same)

-- a reply that is no failure and does not report a full transcript is an answer
pub is_answer : (answer : Reply) → failure_of answer ≡ None → ¬ (answer ≡ reply.Refused refusal.TranscriptFull) → IsAnswer answer
is_answer answer succeeds room = record {
  of_memory = λ same. let none : Some failure.Memory ≡ None = ap failure_of (sym same) ∙ succeeds in absurd (cc);
  of_room = room;
  of_store = λ same. let none : Some failure.Store ≡ None = ap failure_of (sym same) ∙ succeeds in absurd (cc);
}

-- a reply is an answer if it is found to be no failure and does not report a full transcript
pub answers_unless : (found : Option Failure) (answer : Reply) → found ≡ failure_of answer → ¬ (answer ≡ reply.Refused refusal.TranscriptFull) → IfNone found (IsAnswer answer)
answers_unless None answer is room = is_answer answer (sym is) room
answers_unless (Some f) answer is room = tt

steps_are_answers : (s : State) (entries : List Entry) (end : State) → AreSteps s entries end → AllByRecursion (λ (e : Entry). IsAnswer e.reply) entries
steps_are_answers s [] end steps = tt
steps_are_answers s (e ∷ es) end (succeeds, (mid, (taken, rest))) =
    (is_answer e.reply succeeds (never_told s e.session e.statement e.reply mid taken), steps_are_answers mid es end rest)

pub entries_are_answers : (base : Base) (entries : List Entry) (end : State) → IsLegal base entries end → AllByRecursion (λ (e : Entry). IsAnswer e.reply) entries
entries_are_answers base entries end legal = steps_are_answers (started base.image) entries end legal.run
