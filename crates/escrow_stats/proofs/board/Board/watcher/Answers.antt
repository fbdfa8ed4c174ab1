use Rattle.escrow_stats.proofs.Rule.{admits, forks, merges}
use Rattle.escrow_stats.proofs.board.Board.watcher.Goals as goal

pub reader-requires : goal.reader-requires
reader-requires g c = admits g.S.Store

pub tell-requires : goal.tell-requires
tell-requires g c = forks g.S.Store _ _

pub learn-requires-clause-rule : goal.learn-requires-clause-rule
learn-requires-clause-rule g c = merges g.S.Store _ _ _ _
