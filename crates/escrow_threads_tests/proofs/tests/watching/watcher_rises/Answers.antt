use denote.Param.Send.{sendable}
use Rattle.std.proofs.Crossing.{crosses}
use Rattle.escrow_memory.proofs.store.BlockStore.TheSendSync as BlockStore
use Rattle.escrow_shards.proofs.pass.Pass.TheSendSync as Pass
use Rattle.escrow_shards.proofs.Crossing.{shared_sync, watched_send}
use Rattle.escrow_threads_tests.proofs.tests.gates.Watch.TheSendSync as Watch
use Rattle.escrow_threads_tests.proofs.tests.watching.watcher_rises.Goals as goal

pub join-done-requires-send-F : goal.join-done-requires-send-F
join-done-requires-send-F g c κs within = search (shared_sync, watched_send, Watch.the_sync, Pass.the_send, BlockStore.the_send, sendable, crosses) depth 20
