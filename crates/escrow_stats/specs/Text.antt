-- Believed: the lines of a tally, to the byte.
use Rattle.std.specs.Prelude.{ℕ, List, [], ◌∷◌, ◌++◌, codes, decimal}
use Rattle.escrow_reply.specs.Text.{prefix_of, with_prefix}
use Rattle.escrow_stats.specs.declared.tally.Tally.{Tally}

-- the first four totals: how many statements were served, granted a reservation, and refused
unfoldable pub outcomes_text : Tally → List ℕ
outcomes_text t =
    codes "served " ++ decimal t.served ++ codes " granted " ++ decimal t.granted
    ++ codes " broken " ++ decimal t.broken ++ codes " refused " ++ decimal t.refused

-- the other four: how many ended a transaction, wrote, and showed something
unfoldable pub done_text : Tally → List ℕ
done_text t =
    codes " commits " ++ decimal t.commits ++ codes " rollbacks " ++ decimal t.rollbacks
    ++ codes " writes " ++ decimal t.writes ++ codes " queries " ++ decimal t.queries

-- the two lines of a tally
abbrev pub totals_lines : Tally → List (List ℕ)
totals_lines t = (outcomes_text t ++ done_text t) ∷ codes "OK statistics" ∷ []

-- a tally shown to a session, as it is written: two lines, to the byte
abbrev pub rendered_totals : List ℕ → ℕ → Tally → List ℕ
rendered_totals database session t = with_prefix (prefix_of database session) (totals_lines t)
