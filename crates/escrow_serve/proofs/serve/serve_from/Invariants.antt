use Rattle.std.proofs.Common.{◌≡◌, ◌+◌, true, false, [], length, vec_len}
use Rattle.escrow_script.specs.Script.{left, has_line, most_bytes, HasEnded, Spends}
use Rattle.escrow_serve.specs.Batch.{Gathers}
use Rattle.escrow_serve.proofs.AnsweredLemmas.{IsOwed}
use Rattle.escrow_serve.proofs.ScriptRanLemmas.{Played}
use Rattle.escrow_serve.proofs.ServeLemmas.{Stands}
use Rattle.escrow_serve.proofs.serve.serve_from.Given as goal

-- some lines were served, each database by itself: their output was written or is buffered, and their bytes were counted;
-- if the stores can be used, each database has its totals; nothing is buffered unless the next line is in hand; until the script
-- ends, the client is owed the replies that are buffered, and no others; after its end, nothing remains
abbrev pub invariant-loop-replies : goal.invariant-loop-replies
invariant-loop-replies g l = record {
  count : vec_len l.databases ≡ vec_len l.fn.databases;
  each : vec_len l.totals ≡ vec_len l.databases;
  empty : Gathers l.fn.sessions (vec_len l.databases) l.batch.waiting.items l.batch.parts.items [];
  stands : Stands l.fn.sessions g.S.Store l.fn.databases.items l.databases.items l.totals.items (g.C.Client.remaining l.fn.client) (left l.script.unread (g.C.Client.remaining l.client))
      (g.C.Client.sent l.fn.client) (g.C.Client.sent l.client) l.replies.items (l.script.bytes_left + length l.script.unread);
  played : Played l.fn.sessions g.S.Store l.fn.databases.items l.databases.items (g.C.Client.remaining l.fn.client) (left l.script.unread (g.C.Client.remaining l.client))
      (g.C.Client.sent l.fn.client) (g.C.Client.sent l.client) l.replies.items;
  waits : has_line l.script.reads_left l.script.unread ≡ false → l.replies.items ≡ [];
  owed : l.script.has_ended ≡ false → IsOwed (vec_len l.fn.databases) l.fn.sessions (g.C.Client.received l.client) (g.C.Client.sent l.client)
      l.script.unread l.replies.items;
  ended : l.script.has_ended ≡ true → HasEnded l.script.unread (g.C.Client.remaining l.client);
  spent : Spends (g.C.Client.remaining l.fn.client) (g.C.Client.remaining l.client) (most_bytes l.fn.limit) l.script.bytes_left;
}

abbrev pub decreases-loop-replies : goal.decreases-loop-replies
decreases-loop-replies g l = l.script.bytes_left + length l.script.unread
