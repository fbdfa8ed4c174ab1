use Rattle.escrow_stats.proofs.Rule.{publishes}
use Rattle.escrow_stats.proofs.board.fn.Board.post_as.replace_with.Goals as goal

pub publish_as-writer-requires : goal.publish_as-writer-requires
publish_as-writer-requires g c next is =
    publishes g.S.Store _ _ c.args.writer.desk.shown.value next _ g.N.Next.more g.N.Next.doubts _ c.requires.writes c.requires.posted c.requires.may is
