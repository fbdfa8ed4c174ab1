use Rattle.escrow_stats.proofs.board.Board.post.Given as goal

abbrev pub ghosts-post_as : goal.ghosts-post_as
ghosts-post_as g a = record { more = a.entry.now; doubts = g.doubts }
