-- Believed: the kind of each reply, and the tally of a list of replies.
use Rattle.std.specs.Prelude.{ℕ, ◌+◌, ◌-◌, ◌^◌, min, Bool, true, false, List, count_by}
use Rattle.escrow_num.specs.declared.refusal.Refusal.{Refusal}
use Rattle.escrow_num.specs.declared.refusal.Refusal.TheVariants as refusal
use Rattle.escrow_machine.specs.declared.reply.Reply.{Reply}
use Rattle.escrow_machine.specs.declared.reply.Reply.TheVariants as reply
use Rattle.escrow_stats.specs.declared.kind.Kind.{Kind}
use Rattle.escrow_stats.specs.declared.kind.Kind.TheVariants as kind
use Rattle.escrow_stats.specs.declared.tally.Tally.{Tally}

-- THE KIND OF A REPLY

-- the kind of a refusal: nothing was served (51, 52, 60), a check could be broken (41), or any other
abbrev pub kind_of_refusal : Refusal → Kind
kind_of_refusal refusal.Memory = kind.Unserved
kind_of_refusal refusal.TranscriptFull = kind.Unserved
kind_of_refusal refusal.Store = kind.Unserved
kind_of_refusal (refusal.Check violation) = kind.Broken
kind_of_refusal _ = kind.Refused

-- the kind of any reply. No session gets the reply to a restart, 12, 61 or 62, so these are in no session's tally
abbrev pub kind_of : Reply → Kind
kind_of (reply.Refused r) = kind_of_refusal r
kind_of (reply.Created name) = kind.ServedAlone
kind_of (reply.Dropped name) = kind.ServedAlone
kind_of (reply.Altered name) = kind.ServedAlone
kind_of (reply.Savepoint name) = kind.ServedAlone
kind_of reply.Restarted = kind.ServedAlone
kind_of (reply.Reserved id) = kind.Granted
kind_of (reply.Committed count) = kind.Commit
kind_of (reply.RolledBack count) = kind.Rollback
kind_of (reply.RolledBackTo name count) = kind.Rollback
kind_of reply.Inserted = kind.Write
kind_of reply.Deleted = kind.Write
kind_of reply.Updated = kind.Write
kind_of (reply.Rows columns rows) = kind.Query
kind_of (reply.Table text) = kind.Query
kind_of (reply.Bounds columns checks) = kind.Query
kind_of (reply.Journal entries) = kind.Query

-- THE TALLY OF A LIST

-- whether a kind counts as served: all but that of 51, 52 and 60
abbrev pub is_served : Kind → Bool
is_served kind.Unserved = false
is_served _ = true

-- whether a kind counts as granted: a reservation was granted
abbrev pub is_granted : Kind → Bool
is_granted kind.Granted = true
is_granted _ = false

-- whether a kind counts as broken: a check could be broken (41)
abbrev pub is_broken : Kind → Bool
is_broken kind.Broken = true
is_broken _ = false

-- whether a kind counts as refused: any other refusal that counts as served
abbrev pub is_refused : Kind → Bool
is_refused kind.Refused = true
is_refused _ = false

-- whether a kind counts in the commits: a transaction was committed
abbrev pub is_commit : Kind → Bool
is_commit kind.Commit = true
is_commit _ = false

-- whether a kind counts in the rollbacks: a transaction was rolled back, wholly or to a savepoint
abbrev pub is_rollback : Kind → Bool
is_rollback kind.Rollback = true
is_rollback _ = false

-- whether a kind counts in the writes: a row was inserted or deleted, or plain values of a row were replaced
abbrev pub is_write : Kind → Bool
is_write kind.Write = true
is_write _ = false

-- whether a kind counts in the queries: rows, a table, bounds or open reservations were shown
abbrev pub is_query : Kind → Bool
is_query kind.Query = true
is_query _ = false

-- how many replies of a list are of a kind that passes a test
abbrev pub count_of : (Kind → Bool) → List Reply → ℕ
count_of test replies = count_by (λ r. test (kind_of r)) replies

-- the tally of a list of replies: for each total, how many count in it
unfoldable pub tally_of : List Reply → Tally
tally_of replies = record {
  served = count_of is_served replies;
  granted = count_of is_granted replies;
  broken = count_of is_broken replies;
  refused = count_of is_refused replies;
  commits = count_of is_commit replies;
  rollbacks = count_of is_rollback replies;
  writes = count_of is_write replies;
  queries = count_of is_query replies;
}

-- ONE MORE

-- the next value of a total, which stops at the greatest of 64 bits
abbrev pub next_total : ℕ → ℕ
next_total n = min (n + 1) (2 ^ 64 - 1)

-- a tally with one more of a kind
abbrev pub with_one : Tally → Kind → Tally
with_one t kind.Unserved = t
with_one t kind.ServedAlone = record t { served = next_total t.served }
with_one t kind.Granted = record t { served = next_total t.served; granted = next_total t.granted }
with_one t kind.Broken = record t { served = next_total t.served; broken = next_total t.broken }
with_one t kind.Refused = record t { served = next_total t.served; refused = next_total t.refused }
with_one t kind.Commit = record t { served = next_total t.served; commits = next_total t.commits }
with_one t kind.Rollback = record t { served = next_total t.served; rollbacks = next_total t.rollbacks }
with_one t kind.Write = record t { served = next_total t.served; writes = next_total t.writes }
with_one t kind.Query = record t { served = next_total t.served; queries = next_total t.queries }

-- two tallies together, total by total
abbrev pub sum_of : Tally → Tally → Tally
sum_of a b = record {
  served = a.served + b.served;
  granted = a.granted + b.granted;
  broken = a.broken + b.broken;
  refused = a.refused + b.refused;
  commits = a.commits + b.commits;
  rollbacks = a.rollbacks + b.rollbacks;
  writes = a.writes + b.writes;
  queries = a.queries + b.queries;
}
