use Rattle.escrow_shards.specs.Shown.{doubts_of}
use Rattle.escrow_shards.proofs.watched.show.Given as goal

abbrev pub ghost-show_as : goal.ghost-show_as
ghost-show_as g a = doubts_of g.S.Store a.audited.now.store
