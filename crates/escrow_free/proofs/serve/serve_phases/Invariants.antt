use Rattle.std.proofs.Common.{◌≡◌, ◌+◌, ◌*◌, true, length, vec_len}
use Rattle.escrow_num.specs.declared.session.TheConstants.Session.{MAX_SHARED}
use Rattle.escrow_script.specs.declared.limits.TheConstants.{MAX_SCRIPT}
use Rattle.escrow_script.specs.Script.{left, HasEnded, Spends}
use Rattle.escrow_free.proofs.Phases.{Stands}
use Rattle.escrow_free.proofs.serve.serve_phases.Given as goal

abbrev pub invariant-phases : goal.invariant-phases
invariant-phases g l = record {
  drained : vec_len l.drains.last_drained ≡ length l.shared.openings;
  count : length l.outboxes.items ≡ length l.shared.openings * MAX_SHARED;
  stands : Stands (length l.shared.openings) (g.C.Client.remaining l.fn.client) (left l.script.unread (g.C.Client.remaining l.client))
      (g.C.Client.sent l.fn.client) (g.C.Client.sent l.client) l.outboxes.items l.totals.items;
  beside : vec_len l.totals ≡ length l.shared.openings * MAX_SHARED;
  ended : l.script.has_ended ≡ true → HasEnded l.script.unread (g.C.Client.remaining l.client);
  spent : Spends (g.C.Client.remaining l.fn.client) (g.C.Client.remaining l.client) MAX_SCRIPT l.script.bytes_left;
}

abbrev pub decreases-phases : goal.decreases-phases
decreases-phases g l = l.script.bytes_left + length l.script.unread
