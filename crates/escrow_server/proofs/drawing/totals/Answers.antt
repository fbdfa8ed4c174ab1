use Rattle.std.proofs.Common.{append_assoc}
use Rattle.escrow_server.specs.Drawing.{totals_text}
use Rattle.escrow_server.proofs.drawing.totals.Goals as goal

pub returns : goal.returns
unfolding totals_text
returns c = simp append_assoc c.format.ensures.ok
