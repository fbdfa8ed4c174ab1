-- Helps: what is printed for planned lines.
use Rattle.std.specs.Prelude.{◌≡◌, ℕ, ◌<◌, ◌≤◌, Option, Some, None, List, [], ◌∷◌, ◌++◌}
use Rattle.std.specs.Io.KnownBytes.{Appends}
use Rattle.escrow_num.specs.declared.refusal.Refusal.TheVariants as refusal
use Rattle.escrow_num.specs.declared.session.TheConstants.Session.{MAX_SHARED}
use Rattle.escrow_statement.specs.declared.statement.Statement.{Statement}
use Rattle.escrow_statement.specs.declared.statement.Request.{Request}
use Rattle.escrow_statement.specs.declared.statement.Request.TheVariants as request
use Rattle.escrow_machine.specs.declared.reply.Reply.TheVariants as reply
use Rattle.escrow_reply.specs.Text.{rendered}
use Rattle.escrow_stats.specs.Tally.{tally_of}
use Rattle.escrow_stats.specs.Text.{rendered_totals}
use Rattle.escrow_stats.specs.declared.tally.Tally.{Tally}
use Rattle.escrow_shards.specs.declared.pass.Answer.TheVariants as answer
use Rattle.escrow_sessions.specs.declared.feed.Given.{Given}
use Rattle.escrow_sessions.specs.declared.feed.Given.TheVariants as given
use Rattle.escrow_script.specs.declared.limits.TheConstants.{MAX_DATABASES}
use Rattle.escrow_script.specs.Line.{database_name}
use Rattle.escrow_script.specs.Written.{fault_refusal, no_line_text}
use Rattle.escrow_free.specs.Outboxes.{outbox_of, Fits, AreTotals}
use Rattle.escrow_free.specs.FreeOutput.{Taken, refused, replies_by, Does}
use Rattle.escrow_free.specs.declared.outbox.Outbox.{Outbox}
use Rattle.escrow_free.specs.declared.plan.Planned.{Planned}
use Rattle.escrow_free.specs.declared.plan.Planned.TheVariants as planned

-- what is printed for an answer, or if there is none
abbrev pub given_text : List ℕ → ℕ → Option Given → List ℕ
given_text name session (Some (given.Reply (answer.Served r))) = rendered name session r
given_text name session (Some (given.Reply (answer.Unserved cause))) = rendered name session (reply.Refused cause)
given_text name session (Some (given.Totals totals)) = rendered_totals name session totals
given_text name session None = rendered name session (reply.Refused refusal.Memory)

-- a planned line names a database, and a session that has an outbox
abbrev pub HasItsOutbox : ℕ → Planned → Type 0
HasItsOutbox outboxes planned.NoLine = Unit {0}
HasItsOutbox outboxes (planned.Refused place session f) = place < MAX_DATABASES
HasItsOutbox outboxes (planned.Asked place session) =
    (place < MAX_DATABASES) × (session ≤ MAX_SHARED) × (outbox_of place session < outboxes)
HasItsOutbox outboxes (planned.Totals place session) =
    (place < MAX_DATABASES) × (session ≤ MAX_SHARED) × (outbox_of place session < outboxes)

-- each line that asks has its statement, for its session's outbox, in order
abbrev pub Matches : List Planned → List (ℕ × Request) → Type 0
Matches [] items = items ≡ []
Matches (planned.NoLine ∷ plan) items = Matches plan items
Matches (planned.Refused place session f ∷ plan) items = Matches plan items
Matches (planned.Totals place session ∷ plan) items = Matches plan items
Matches (planned.Asked place session ∷ plan) [] = ⊥
Matches (planned.Asked place session ∷ plan) (item ∷ items) =
    (item.0 ≡ outbox_of place session) × ((asked : Statement) × (item.1 ≡ request.Statement asked)) × Matches plan items

-- what planned lines print for these requests, and what they take
abbrev pub Prints : List Taken → List Planned → List (ℕ × Request) → List ℕ → List Taken → Type 0
Prints taken [] items out end = (out ≡ []) × (end ≡ taken)
Prints taken (planned.NoLine ∷ plan) items out end =
    (rest : List ℕ) × Prints taken plan items rest end × (out ≡ no_line_text ++ rest)
Prints taken (planned.Refused place session f ∷ plan) items out end =
    (rest : List ℕ) × Prints taken plan items rest end × (out ≡ refused place session (fault_refusal f) ++ rest)
Prints taken (planned.Totals place session ∷ plan) items out end =
    (rest : List ℕ) × Prints taken plan items rest end
    × (out ≡ rendered_totals (database_name place) session (tally_of (replies_by place session taken)) ++ rest)
Prints taken (planned.Asked place session ∷ plan) [] out end = ⊥
Prints taken (planned.Asked place session ∷ plan) (item ∷ items) out end =
    (first rest : List ℕ) × (mid : List Taken) × Does taken place session item.1 first mid
    × Prints mid plan items rest end × (out ≡ first ++ rest)

-- Some planned lines were printed. Some requests remain for the other lines, and some entries were taken. The outboxes
-- fit these, and the totals count these. Whatever the other lines print follows what was printed.
pub record GoesOn (taken : List Taken) (plan : List Planned) (items : List (ℕ × Request)) (out : List ℕ)
    (rest : List Planned) (outboxes : List Outbox) (totals : List Tally) : Type 0 where
  pub left : List (ℕ × Request)
  pub took : List Taken
  pub matches : Matches rest left
  pub fits : Fits left took outboxes
  pub counts : AreTotals took totals
  pub prints : (back : List ℕ) (end : List Taken) → Prints took rest left back end
      → Prints taken plan items (out ++ back) end

-- this holds whatever was asked and taken, as long as it fits the outboxes, and the totals count it
abbrev pub PrintsTo : List Planned → List Outbox → List Tally → List ℕ → List Planned → List Outbox → List Tally
    → Type 0
PrintsTo plan old counted out rest new totals =
    (items : List (ℕ × Request)) (taken : List Taken) → Matches plan items → Fits items taken old
    → AreTotals taken counted → GoesOn taken plan items out rest new totals

-- some of what is to be written was written, and the rest is left
abbrev pub PassesOn : Option (List ℕ) → Option (List ℕ) → List ℕ → List ℕ → Type 0
PassesOn old_bytes new_bytes all left =
    (written : List ℕ) × Appends old_bytes new_bytes written × (all ≡ written ++ left)
