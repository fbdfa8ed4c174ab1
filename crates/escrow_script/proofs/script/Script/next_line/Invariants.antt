use Rattle.std.proofs.Common.{◌≡◌, true, false, ◌≤◌, ◌+◌, length, take, vec_len, ℕ, List}
use Rattle.escrow_script.specs.Script.{left, has_line, Spends}
use Rattle.escrow_script.proofs.ScriptLemmas.{Continues}
use Rattle.escrow_script.proofs.ClientLemmas.{Hears}
use Rattle.escrow_script.specs.declared.limits.TheConstants.{MAX_LINE}
use Rattle.escrow_script.proofs.script.Script.next_line.Given as goal

-- the line's bytes so far, and the rest of the script; each byte that was read was counted; no byte was
-- invented; of what came, no byte but those of the line was taken; nothing was sent; the reader has not reported its end; a line that was in hand still is
abbrev pub invariant-loop-self : goal.invariant-loop-self
invariant-loop-self g l = record {
  so_far : (seen : List ℕ) × (l.self.line.items ≡ take (MAX_LINE + 1) seen)
      × Continues seen (left l.fn.self.unread (g.C.Client.remaining l.fn.client)) (left l.self.unread (g.C.Client.remaining l.client));
  spent : Spends (g.C.Client.remaining l.fn.client) (g.C.Client.remaining l.client) l.fn.self.bytes_left l.self.bytes_left;
  heard : Hears (g.C.Client.received l.fn.client) (g.C.Client.received l.client) l.fn.self.unread l.self.unread l.self.line.items;
  sent : g.C.Client.sent l.client ≡ g.C.Client.sent l.fn.client;
  going : l.self.has_ended ≡ false;
  in_hand : has_line l.fn.self.reads_left l.fn.self.unread ≡ true → has_line l.self.reads_left l.self.unread ≡ true;
  fewer : vec_len l.self.line + length l.self.unread + l.self.bytes_left ≤ length l.fn.self.unread + l.fn.self.bytes_left;
}

abbrev pub decreases-loop-self : goal.decreases-loop-self
decreases-loop-self g l = l.self.reads_left
