use Rattle.std.proofs.Common.{append_assoc}
use Rattle.escrow_stats.specs.Text.{outcomes_text}
use Rattle.escrow_stats.proofs.tally.Tally.outcomes_text.Goals as goal

pub returns : goal.returns
unfolding outcomes_text
returns c = simp append_assoc c.format.ensures.ok
