-- Helps: the rule of the channel to a worker.
use Rattle.std.specs.Prelude.{◌≡◌, ℕ, List, [], ◌∷◌, ◌++◌, true, false}
use mathlib.Core.Option.{some}
use lib.ListN.{get_elem?}
use Rattle.escrow_sessions.specs.declared.rule.Item.{Item}
use Rattle.escrow_sessions.specs.declared.rule.Log.{Log}

-- what is known if both ends are here, and nothing was sent yet
abbrev pub both_ends : Log
both_ends = record { sends = true; sent = []; takes = true; taken = [] }

-- what is known if no end is here
abbrev pub no_end : Log
no_end = record { sends = false; sent = []; takes = false; taken = [] }

-- the part of it at the end that sends, and at the end that receives
abbrev pub sending : Log → Log
sending v = record { sends = v.sends; sent = v.sent; takes = false; taken = [] }

abbrev pub taking : Log → Log
taking v = record { sends = false; sent = []; takes = v.takes; taken = v.taken }

-- what two ends know together
abbrev pub together : Log → Log → Log
together v w = record { sends = v.sends; sent = v.sent; takes = w.takes; taken = w.taken }

-- one more message was sent, or received
abbrev pub with_sent : Log → Item → Log
with_sent v x = record { sends = v.sends; sent = v.sent ++ x ∷ []; takes = v.takes; taken = v.taken }

abbrev pub with_taken : Log → Item → Log
with_taken v x = record { sends = v.sends; sent = v.sent; takes = v.takes; taken = v.taken ++ x ∷ [] }

-- the only pass at an end knows what was sent, or received
pub record Knows (feeder worker : ℕ) (sent taken : List Item) (pass : ℕ) (v : Log) : Type 0 where
  pub sends : v.sends ≡ true → (pass ≡ feeder) × (v.sent ≡ sent)
  pub takes : v.takes ≡ true → (pass ≡ worker) × (v.taken ≡ taken)

-- WHAT WAS SENT is what was received, followed by what the channel holds.
pub record Keeps (items : List Item) (views : List Log) : Type 0 where
  pub feeder : ℕ
  pub worker : ℕ
  pub sent : List Item
  pub taken : List Item
  pub order : sent ≡ taken ++ items
  pub each : (pass : ℕ) (v : Log) → get_elem? views pass ≡ some v → Knows feeder worker sent taken pass v
