-- The step of a statement that isn't refused.
use Rattle.std.specs.Prelude.{◌≡◌, ℕ, false, None}
use Rattle.std.proofs.Common.{sym}
use Rattle.std.proofs.lemmas.Bool.{false≢true}
use Rattle.escrow_num.specs.Refusal.{first_refusal}
use Rattle.escrow_statement.specs.declared.statement.Statement.{Statement}
use Rattle.escrow_machine.specs.declared.reply.Reply.{Reply}
use Rattle.escrow_machine.specs.Reply.{is_refused}
use Rattle.escrow_machine.specs.State.{State}
use Rattle.escrow_machine.specs.Step.{refusals, step}
use Rattle.escrow_machine.specs.Transition.{transition_of}
use Rattle.escrow_machine.proofs.LawsSteps.{step_has}

-- what holds of the transition if no refusal applies holds of a step that isn't refused
pub done : (P : Reply → State → Type 0) (s : State) (session : ℕ) (asked : Statement)
    → (first_refusal (refusals (transition_of s session asked)) ≡ None → P (transition_of s session asked).reply (transition_of s session asked).next)
    → is_refused (step s session asked).0 ≡ false → P (step s session asked).0 (step s session asked).1
done P s session asked accepted =
    step_has (λ (p : Reply × State). is_refused p.0 ≡ false → P p.0 p.1) s session asked (λ r _ refused. absurd (false≢true (sym refused))) (λ none _. accepted none)
