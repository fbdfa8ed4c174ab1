-- Believed: the statements of the laws in src/laws.rt.
use Rattle.std.specs.Prelude.{◌≡◌, ℕ, zero, suc, ◌+◌, ◌-◌, ◌^◌, ◌<◌, ◌≤◌, ◌==◌, List, [], ◌∷◌, ◌++◌, length, filter}
use Rattle.std.specs.List.{AllByRecursion}
use Rattle.escrow_machine.specs.declared.reply.Reply.{Reply}
use Rattle.escrow_transcript.specs.declared.entry.Entry.{Entry}
use Rattle.escrow_stats.specs.declared.board.TheConstants.{MAX_WATCHERS}
use Rattle.escrow_stats.specs.declared.tally.Tally.{Tally}
use Rattle.escrow_stats.specs.Tally.{kind_of, tally_of, with_one, sum_of}
use Rattle.escrow_stats.specs.Watching.{replies_of}

-- the limit of this crate, as a number
abbrev pub Limits : Type 0
Limits = MAX_WATCHERS ≡ 8

-- no replies have a tally of zeros
abbrev pub NothingIsZero : Type 0
NothingIsZero = tally_of [] ≡ record {
  served = 0;
  granted = 0;
  broken = 0;
  refused = 0;
  commits = 0;
  rollbacks = 0;
  writes = 0;
  queries = 0;
}

-- one more reply is one more of its kind
abbrev pub OneMoreIsWithOne : Type 0
OneMoreIsWithOne = (replies : List Reply) (r : Reply) → length replies < 2 ^ 64 - 1
    → tally_of (replies ++ r ∷ []) ≡ with_one (tally_of replies) (kind_of r)

-- two lists, one after another, have the sum of their tallies
abbrev pub ListsAdd : Type 0
ListsAdd = (before after : List Reply) → tally_of (before ++ after) ≡ sum_of (tally_of before) (tally_of after)

-- the entries of a session, in order
abbrev pub of_session : ℕ → List Entry → List Entry
of_session session entries = filter (λ e. e.session == session) entries

-- the totals of the first sessions of a history, added up
abbrev pub totals_by : ℕ → List Entry → Tally
totals_by zero entries = tally_of []
totals_by (suc earlier) entries =
    sum_of (totals_by earlier entries) (tally_of (replies_of (of_session (earlier + 1) entries)))

-- the totals of a history are the sum of its sessions' totals
abbrev pub SessionsAdd : Type 0
SessionsAdd =
    (sessions : ℕ) (entries : List Entry) → AllByRecursion (λ e. (1 ≤ e.session) × (e.session ≤ sessions)) entries
    → tally_of (replies_of entries) ≡ totals_by sessions entries

-- the sum of all totals but served is at most served, which is at most the number of replies
pub record PartsAreWithin : Type 0 where
  pub parts : (replies : List Reply) → let t = tally_of replies in
      t.granted + t.broken + t.refused + t.commits + t.rollbacks + t.writes + t.queries ≤ t.served
  pub served : (replies : List Reply) → (tally_of replies).served ≤ length replies
