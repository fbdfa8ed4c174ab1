use denote.Param.Send.{sendable}
use Rattle.std.proofs.Crossing.{crosses}
use Rattle.escrow_memory.proofs.store.BlockStore.TheSendSync as BlockStore
use Rattle.escrow_shards.proofs.Crossing.{locked_send, shared_sync}
use Rattle.escrow_threads_tests.proofs.tests.gates.Watch.TheSendSync as Watch
use Rattle.escrow_threads_tests.proofs.tests.closes.close_of_a_crowd.Goals as goal

pub for_each_mut-requires-sync-F : goal.for_each_mut-requires-sync-F
for_each_mut-requires-sync-F g c κs within =
    search (shared_sync, locked_send, Watch.the_sync, BlockStore.the_send, sendable, crosses) depth 20
