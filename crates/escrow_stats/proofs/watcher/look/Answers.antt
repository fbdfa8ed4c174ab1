use Rattle.escrow_stats.proofs.Rule.{reads}
use Rattle.escrow_stats.proofs.watcher.look.Goals as goal

pub enter_as-requires : goal.enter_as-requires
enter_as-requires g c x = reads g.S.Store c.args.reader.place.id _ x
