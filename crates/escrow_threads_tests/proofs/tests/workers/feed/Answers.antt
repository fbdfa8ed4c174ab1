use denote.Param.Send.{sendable}
use Rattle.std.proofs.Crossing.{crosses}
use Rattle.escrow_memory.proofs.store.BlockStore.TheSendSync as BlockStore
use Rattle.escrow_shards.proofs.Crossing.{locked_send}
use Rattle.std.proofs.Common.{length, ◌∙◌}
use Rattle.escrow_threads_tests.proofs.Deals.{all_dealt}
use Rattle.escrow_threads_tests.proofs.tests.workers.feed.Goals as goal

pub run_fed-requires-clause-places : goal.run_fed-requires-clause-places
run_fed-requires-clause-places g c κs within =
    all_dealt (λ s. s.places) (length c.seated-passes.result.items) c.new-items.result (c.new-items.ensures ∙ c.len.ensures ∙ c.seated-passes.result.ok.0)

pub run_fed-requires-send-L : goal.run_fed-requires-send-L
run_fed-requires-send-L g c κs within = search (locked_send, BlockStore.the_send, sendable, crosses) depth 20
