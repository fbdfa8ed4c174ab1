-- Helps: the totals that are kept while a script is served, and the sittings to which they belong.
use Rattle.std.specs.Prelude.{◌≡◌, ℕ, ◌+◌, ◌-◌, ◌^◌, ◌<◌, ◌≤◌, List, [], ◌∷◌, length, slice_index_or}
use Rattle.escrow_num.specs.Session.{IsSession}
use Rattle.escrow_machine.specs.declared.reply.Reply.{Reply}
use Rattle.escrow_machine.specs.declared.reply.Reply.TheVariants as reply
use Rattle.escrow_machine.specs.State.{State}
use Rattle.escrow_stats.specs.declared.tally.Tally.{Tally}
use Rattle.escrow_stats.specs.Tally.{tally_of}
use Rattle.escrow_serve.specs.declared.totals.Totals.{Totals}
use Rattle.escrow_serve.specs.Output.{Sitting, PrintsText, ServesBytes, ServesLines, replies_to}

-- the totals of no replies
abbrev pub AreNone : Totals → Type 0
AreNone totals = totals.tallies.items ≡ []

-- the totals that are left after a restart with this reply
abbrev pub AreLeft : Reply → Totals → Totals → Type 0
AreLeft reply.Restarted old new = AreNone new
AreLeft _ old new = new ≡ old

-- the totals of a session: those of no replies, if it has none of its own
abbrev pub tally_at : Totals → ℕ → Tally
tally_at totals session = slice_index_or totals.tallies.items (session - 1) (tally_of [])

-- the totals of each session are those of the replies to it, and all sessions together got at most this many replies
pub record AreTotals (totals : Totals) (answered : List (ℕ × Reply)) (most : ℕ) : Type 0 where
  pub each : (session : ℕ) → IsSession session → tally_at totals session ≡ tally_of (replies_to session answered)
  pub few : length answered ≤ most

-- a database's state, and the totals that are kept of it, are those of a sitting
pub record Sits (state : State) (totals : Totals) (sitting : Sitting) (most : ℕ) : Type 0 where
  pub is_state : sitting.state ≡ state
  pub are_totals : AreTotals totals sitting.answered most

-- the states and the totals of all databases are too
abbrev pub AllSit : List State → List Totals → List Sitting → ℕ → Type 0
AllSit [] [] [] most = Unit {0}
AllSit (state ∷ states) (totals ∷ others) (sitting ∷ sittings) most =
    Sits state totals sitting most × AllSit states others sittings most
AllSit _ _ _ most = ⊥

-- what a text prints and leaves of a database, whichever sitting it had, as long as fewer replies were given than a
-- total can count
abbrev pub TextServed : List ℕ → State → Totals → ℕ → List ℕ → List ℕ → State → Totals → Type 0
TextServed name state totals session text out new_state new_totals =
    (sitting : Sitting) (most : ℕ) → Sits state totals sitting most → most < 2 ^ 64 - 1
    → (after : Sitting) × PrintsText name sitting session text out after × Sits new_state new_totals after (most + 1)

-- what a line writes and leaves of all databases
abbrev pub LineServed : ℕ → List State → List Totals → List ℕ → List ℕ → List State → List Totals → Type 0
LineServed sessions states totals bytes out new_states new_totals =
    (sittings : List Sitting) (most : ℕ) → AllSit states totals sittings most → most < 2 ^ 64 - 1
    → (after : List Sitting) × ServesBytes sessions sittings bytes out after
    × AllSit new_states new_totals after (most + 1)

-- what lines write and leave of all databases, one after another
abbrev pub LinesServed : ℕ → List State → List Totals → List (List ℕ) → List ℕ → List State → List Totals → Type 0
LinesServed sessions states totals lines out new_states new_totals =
    (sittings : List Sitting) (most : ℕ) → AllSit states totals sittings most → most + length lines ≤ 2 ^ 64 - 1
    → (after : List Sitting) × ServesLines sessions sittings lines out after
    × AllSit new_states new_totals after (most + length lines)
