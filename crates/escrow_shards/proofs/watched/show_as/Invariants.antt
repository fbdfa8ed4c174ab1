use Rattle.escrow_shards.proofs.watched.show_as.Given as goal

abbrev pub ghost-post : goal.ghost-post
ghost-post g a = g.doubts
