use Rattle.std.proofs.Common.{◌≡◌, length, vec_len}
use Rattle.std.specs.Prelude.{vec_capacity}
use Rattle.escrow_serve.specs.Batch.{GathersLines, HasRoom}
use Rattle.escrow_serve.proofs.serve.gather_lines.Given as goal

-- the lines taken so far wait, except for a last one that may not; there is room for a short reply to each
abbrev pub invariant-loop-script : goal.invariant-loop-script
invariant-loop-script l = record {
  lines : GathersLines l.sessions l.databases l.fn.script.line.items l.fn.script.unread l.script.unread l.batch.waiting.items l.batch.parts.items l.alone;
  room : HasRoom l.alone (vec_len l.batch.waiting) (vec_len l.replies) (vec_capacity l.replies);
  same : l.replies.items ≡ l.fn.replies.items;
  bytes : l.script.bytes_left ≡ l.fn.script.bytes_left;
  ended : l.script.has_ended ≡ l.fn.script.has_ended;
}

abbrev pub decreases-loop-script : goal.decreases-loop-script
decreases-loop-script l = length l.script.unread
