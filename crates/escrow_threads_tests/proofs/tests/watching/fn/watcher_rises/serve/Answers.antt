use denote.Param.Send.{sendable}
use Rattle.std.proofs.Crossing.{crosses}
use Rattle.escrow_memory.proofs.store.BlockStore.TheSendSync as BlockStore
use Rattle.escrow_shards.proofs.Crossing.{watched_send}
use Rattle.escrow_threads_tests.proofs.tests.watching.fn.watcher_rises.serve.Goals as goal

pub hit-requires-send-L : goal.hit-requires-send-L
hit-requires-send-L g c κs = search (watched_send, BlockStore.the_send, sendable, crosses) depth 20
