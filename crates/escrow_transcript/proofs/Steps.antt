-- Entries that are consecutive steps of the machine: joined, and cut in two.
use Rattle.std.specs.Prelude.{◌≡◌, None, List, [], ◌∷◌, ◌++◌}
use Rattle.std.proofs.Common.{refl, sym, subst}
use Rattle.escrow_machine.specs.Reply.{failure_of}
use Rattle.escrow_machine.specs.State.{State}
use Rattle.escrow_machine.specs.Step.{IsStep}
use Rattle.escrow_transcript.specs.declared.entry.Entry.{Entry}
use Rattle.escrow_transcript.specs.Legal.{AreSteps}

-- steps that continue where other steps end
pub steps_join : (s mid t : State) (entries more : List Entry) → AreSteps s entries mid → AreSteps mid more t → AreSteps s (entries ++ more) t
steps_join s mid t [] more first rest = subst (λ (u : State). AreSteps u more t) (sym first) rest
steps_join s mid t (e ∷ es) more first rest = (first.0, (first.1.0, (first.1.1.0, steps_join first.1.0 mid t es more first.1.1.1 rest)))

-- one more step
pub steps_more : (s mid t : State) (entries : List Entry) (e : Entry) → AreSteps s entries mid
    → failure_of e.reply ≡ None → IsStep mid e.session e.statement e.reply t → AreSteps s (entries ++ e ∷ []) t
steps_more s mid t entries e steps succeeds step = steps_join s mid t entries (e ∷ []) steps (succeeds, (t, (step, refl)))

-- steps are those of the first entries, followed by those of the rest
pub steps_part : (s t : State) (front rest : List Entry) → AreSteps s (front ++ rest) t → (mid : State) × (AreSteps s front mid × AreSteps mid rest t)
steps_part s t [] rest steps = (s, (refl, steps))
steps_part s t (e ∷ es) rest steps =
    let parts = steps_part steps.1.0 t es rest steps.1.1.1 in
    (parts.0, ((steps.0, (steps.1.0, (steps.1.1.0, parts.1.0))), parts.1.1))
