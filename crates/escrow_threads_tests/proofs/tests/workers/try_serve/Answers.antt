use denote.Param.Send.{sendable}
use Rattle.std.proofs.Crossing.{crosses}
use Rattle.escrow_memory.proofs.store.BlockStore.TheSendSync as BlockStore
use Rattle.escrow_shards.proofs.Crossing.{locked_send}
use Rattle.escrow_threads_tests.proofs.tests.workers.try_serve.Goals as goal

pub run_sessions-requires-send-L : goal.run_sessions-requires-send-L
run_sessions-requires-send-L g c κs within = search (locked_send, BlockStore.the_send, sendable, crosses) depth 20
