-- What the laws need of a transition.
use Rattle.std.specs.Prelude.{◌≡◌, ℕ, ◌+◌, ◌≤◌, None}
use Rattle.escrow_num.specs.declared.refusal.Refusal.{Refusal}
use Rattle.escrow_num.specs.Refusal.{first_refusal}
use Rattle.escrow_num.specs.Session.{IsSession}
use Rattle.escrow_statement.specs.declared.statement.Statement.{Statement}
use Rattle.escrow_machine.specs.declared.reply.Reply.TheVariants as reply
use Rattle.escrow_machine.specs.Laws.{ShowsAfter}
use Rattle.escrow_machine.specs.Reply.{failure_of}
use Rattle.escrow_machine.specs.State.{State}
use Rattle.escrow_machine.specs.Step.{refusals}
use Rattle.escrow_machine.specs.Transition.{Transition}
use Rattle.escrow_machine.specs.Valid.{IsValid}

-- what the laws need of a transition: its reply is no refusal; an accepted one has a next state with these properties
pub record IsTransition (s : State) (session : ℕ) (asked : Statement) (transition : Transition) : Type 0 where
  pub answers : (r : Refusal) → ¬ (transition.reply ≡ reply.Refused r)
  pub succeeds : failure_of transition.reply ≡ None
  pub seen : first_refusal (refusals transition) ≡ None → ShowsAfter s session asked transition.next
  pub ids : first_refusal (refusals transition) ≡ None → s.next_id ≤ transition.next.next_id
  pub next : first_refusal (refusals transition) ≡ None → (id : ℕ) → transition.reply ≡ reply.Reserved id → (id ≡ s.next_id) × (transition.next.next_id ≡ s.next_id + 1)
  pub valid : first_refusal (refusals transition) ≡ None → IsValid s → IsSession session → IsValid transition.next
