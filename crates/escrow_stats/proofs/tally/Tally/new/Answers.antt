use Rattle.std.proofs.Common.{sym}
use Rattle.escrow_stats.proofs.TallyLemmas.{nothing_is_zero}
use Rattle.escrow_stats.proofs.tally.Tally.new.Goals as goal

pub returns : goal.returns
returns c = sym nothing_is_zero
