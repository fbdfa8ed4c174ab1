-- Believed: when an output shows that something failed.
use Rattle.std.specs.Prelude.{◌≡◌, ◌⊎◌, ℕ, List, [], ◌∷◌, ◌++◌}
use Rattle.escrow_num.specs.declared.failure.Failure.{Failure}
use Rattle.escrow_num.specs.Refusal.{refusal_for}
use Rattle.escrow_machine.specs.declared.reply.Reply.TheVariants as reply
use Rattle.escrow_reply.specs.Text.{rendered, rendered_whole}
use Rattle.escrow_script.specs.Line.{database_name}

-- bytes are whole lines: there are none, or the last one is a line feed
abbrev pub AreWholeLines : List ℕ → Type 0
AreWholeLines bytes = (bytes ≡ []) ⊎ ((front : List ℕ) × (bytes ≡ front ++ 10 ∷ []))

-- the reply to a restart, or to a statement of a session, that failed: for memory (51) or by the store (60)
abbrev pub IsFailedReply : List ℕ → Type 0
IsFailedReply bytes =
    (place : ℕ) × (failure : Failure)
    × ((bytes ≡ rendered_whole (database_name place) (reply.Refused (refusal_for failure)))
    ⊎ ((session : ℕ) × (bytes ≡ rendered (database_name place) session (reply.Refused (refusal_for failure)))))

-- an output shows a failure: behind whole lines it has the reply to something that failed
pub record ShowsFailure (out : List ℕ) : Type 0 where
  pub front : List ℕ
  pub failed : List ℕ
  pub back : List ℕ
  pub lines : AreWholeLines front
  pub is_failed : IsFailedReply failed
  pub is : out ≡ front ++ (failed ++ back)
