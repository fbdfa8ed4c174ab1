use Rattle.std.proofs.Common.{append_assoc}
use Rattle.escrow_server.specs.Drawing.{back_text}
use Rattle.escrow_server.proofs.drawing.back.Goals as goal

pub returns : goal.returns
unfolding back_text
returns c = simp append_assoc c.format.ensures.ok
