-- Outcomes left in their places, and the reply to a COMMIT that was served.
use Rattle.std.proofs.Common.{◌≡◌, ◌⊎◌, ℕ, List, [], ◌∷◌, length, inl, inr, refl, sym, ap, ◌∙◌}
use Rattle.std.specs.Prelude.{Result}
use Rattle.std.proofs.lemmas.List.{nil_from_length}
use Rattle.escrow_num.specs.declared.failure.Failure.{Failure}
use Rattle.escrow_machine.specs.declared.reply.Reply.TheVariants as reply
use Rattle.escrow_history.specs.Calls.{IsAnswer}
use Rattle.escrow_history.specs.declared.committed.Committed.{Committed}
use Rattle.escrow_shards.specs.CommitPlaces.{answered}
use Rattle.escrow_shards.specs.CommitQueue.{Queue}

no_outcome_left : (sessions : List ℕ) (outcomes : List (Result Committed Failure)) (queue : Queue) → outcomes ≡ [] → answered sessions outcomes queue ≡ queue
no_outcome_left [] outcomes queue none = refl
no_outcome_left (k ∷ sessions) outcomes queue none = ap (λ (os : List (Result Committed Failure)). answered (k ∷ sessions) os queue) none

-- all outcomes were left
pub no_more_answers : (sessions : List ℕ) (outcomes : List (Result Committed Failure)) (queue all : Queue) → (length sessions ≡ 0) ⊎ (length outcomes ≡ 0)
    → answered sessions outcomes queue ≡ all → queue ≡ all
no_more_answers sessions outcomes queue all (inl none) left =
    sym (ap (λ (ks : List ℕ). answered ks outcomes queue) (nil_from_length sessions none)) ∙ left
no_more_answers sessions outcomes queue all (inr none) left =
    sym (no_outcome_left sessions outcomes queue (nil_from_length outcomes none)) ∙ left

-- the reply to a COMMIT that was served is an answer
pub is_answer : (count : ℕ) → IsAnswer (reply.Committed count)
is_answer count = record {
  of_memory = λ is. absurd (cc);
  of_room = λ is. absurd (cc);
  of_store = λ is. absurd (cc);
}
