use Rattle.std.proofs.Common.{◌≡◌, false, drop, replicate, vec_len}
use Rattle.escrow_free.specs.Ranks.{marked_by}
use Rattle.escrow_free.proofs.marks.marks_of.Given as goal

abbrev pub invariant-loop-outbox : goal.invariant-loop-outbox
invariant-loop-outbox l = record {
  count : vec_len l.marks ≡ l.outboxes;
  so_far : marked_by (drop l.outbox-index l.items) l.marks.items ≡ marked_by l.items (replicate l.outboxes false);
}
