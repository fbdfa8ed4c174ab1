-- Helps: when a statement is accepted, and what refuses it.
use Rattle.std.specs.Prelude.{◌≡◌, ◌⊎◌, ℕ, None, Some, IsTrue}
use Rattle.escrow_num.specs.declared.failure.Failure.{Failure}
use Rattle.escrow_num.specs.declared.refusal.Refusal.{Refusal}
use Rattle.escrow_num.specs.Refusal.{first_refusal, refusal_for}
use Rattle.escrow_statement.specs.declared.statement.Statement.{Statement}
use Rattle.escrow_machine.specs.State.{State}
use Rattle.escrow_machine.specs.Step.{refusals, may_fail}
use Rattle.escrow_machine.specs.Transition.{transition_of}

-- no refusal of a statement applies
abbrev pub IsAccepted : State → ℕ → Statement → Type 0
IsAccepted s session asked = first_refusal (refusals (transition_of s session asked)) ≡ None

-- a refusal is the first that applies to a statement, or a failure that the statement may meet
abbrev pub IsRefusal : State → ℕ → Statement → Refusal → Type 0
IsRefusal s session asked r =
    (first_refusal (refusals (transition_of s session asked)) ≡ Some r)
    ⊎ ((f : Failure) × (r ≡ refusal_for f) × IsTrue (may_fail s session asked f))

-- no early refusal of a statement applies
abbrev pub PassesEarly : State → ℕ → Statement → Type 0
PassesEarly s session asked = first_refusal (transition_of s session asked).early ≡ None
