use Rattle.escrow_shards.proofs.Crossing.{shared_sync}
use Rattle.escrow_sessions.proofs.run.run_sessions.Goals as goal

pub serve_lists-requires-sync-H : goal.serve_lists-requires-sync-H
serve_lists-requires-sync-H g c κs within = record { shared = (shared_sync _ g.S.Store c.type_bounds.send-S _ c.type_bounds.send-L).shared }
