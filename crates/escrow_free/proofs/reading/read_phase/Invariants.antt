use Rattle.std.proofs.Common.{◌≡◌, ◌≤◌, ◌+◌, true, length}
use Rattle.escrow_script.specs.Script.{left, HasEnded, Spends}
use Rattle.escrow_free.specs.Phases.{IsRead}
use Rattle.escrow_free.proofs.reading.read_phase.Given as goal

abbrev pub invariant-lines : goal.invariant-lines
invariant-lines g l = record {
  read : IsRead l.databases (left l.fn.script.unread (g.C.Client.remaining l.fn.client)) (left l.script.unread (g.C.Client.remaining l.client)) l.plan;
  less : l.script.bytes_left + length l.script.unread ≤ l.fn.script.bytes_left + length l.fn.script.unread;
  spent : Spends (g.C.Client.remaining l.fn.client) (g.C.Client.remaining l.client) l.fn.script.bytes_left l.script.bytes_left;
  sent : g.C.Client.sent l.client ≡ g.C.Client.sent l.fn.client;
  ended : l.script.has_ended ≡ true → HasEnded l.script.unread (g.C.Client.remaining l.client);
}

abbrev pub decreases-lines : goal.decreases-lines
decreases-lines g l = l.script.bytes_left + length l.script.unread
