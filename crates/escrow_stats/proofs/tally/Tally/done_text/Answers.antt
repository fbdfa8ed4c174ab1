use Rattle.std.proofs.Common.{append_assoc}
use Rattle.escrow_stats.specs.Text.{done_text}
use Rattle.escrow_stats.proofs.tally.Tally.done_text.Goals as goal

pub returns : goal.returns
unfolding done_text
returns c = simp append_assoc c.format.ensures.ok
