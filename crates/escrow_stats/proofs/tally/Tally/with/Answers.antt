use Rattle.std.proofs.Common.{◌∙◌, ap}
use Rattle.escrow_stats.specs.Tally.{with_one}
use Rattle.escrow_stats.proofs.TallyLemmas.{with_one_is}
use Rattle.escrow_stats.proofs.tally.Tally.with.Goals as goal

pub returns-clause-tally : goal.returns-clause-tally
returns-clause-tally c = λ replies is few.
    c.with_kind.ensures ∙ ap (with_one c.args.self) c.of.ensures ∙ with_one_is c.args.self replies c.args.reply.now is few
