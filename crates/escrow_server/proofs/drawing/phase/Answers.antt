use Rattle.std.proofs.Common.{append_assoc}
use Rattle.escrow_server.specs.Drawing.{phase_text}
use Rattle.escrow_server.proofs.drawing.phase.Goals as goal

pub returns : goal.returns
unfolding phase_text
returns c = simp append_assoc c.format.ensures.ok
