use Rattle.std.proofs.Common.{sym, ap, ◌∙◌}
use Rattle.escrow_transcript.specs.declared.image.Image.{Image}
use Rattle.escrow_transcript.specs.Image.{started}
use Rattle.escrow_transcript.proofs.Legals.{started_image}
use Rattle.escrow_shards.proofs.make.start_of.Goals as goal

pub new-requires-clause-whole : goal.new-requires-clause-whole
new-requires-clause-whole g c = λ clean.
    c.image.ensures.state ∙ sym (started_image c.args.database.now.state c.requires) ∙ ap (λ (i : Image). started i) (sym (c.in_ok-image.ensures.image clean))
