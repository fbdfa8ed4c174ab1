use Rattle.std.proofs.Common.{◌≡◌, length, vec_len}
use Rattle.std.specs.List.{AllByRecursion}
use Rattle.std.specs.Vec.Iter.{into_iter_items, into_iter_len}
use Rattle.escrow_free.specs.Printing.{HasItsOutbox}
use Rattle.escrow_free.proofs.Prints.{Printed}
use Rattle.escrow_free.proofs.printing.print_phase.Given as goal

abbrev pub invariant-loop-line : goal.invariant-loop-line
invariant-loop-line g l = record {
  long : into_iter_len l.line-iterator ≡ length (into_iter_items l.line-iterator);
  count : vec_len l.outboxes ≡ vec_len l.fn.outboxes;
  lines : AllByRecursion (HasItsOutbox (vec_len l.fn.outboxes)) (into_iter_items l.line-iterator);
  beside : vec_len l.totals ≡ vec_len l.outboxes;
  unread : g.C.Client.remaining l.client ≡ g.C.Client.remaining l.fn.client;
  printed : Printed (into_iter_items l.initial.line-iterator) l.fn.outboxes.items l.fn.totals.items (into_iter_items l.line-iterator) l.outboxes.items l.totals.items
      (g.C.Client.sent l.fn.client) (g.C.Client.sent l.client) l.replies.items;
}
