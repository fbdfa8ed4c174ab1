use Rattle.std.proofs.Common.{true, refl}
use Rattle.std.proofs.lemmas.Result.{on_ok_weaker}
use Rattle.sqlite_trees.proofs.Doubt.{no_doubt}
use Rattle.escrow_memory.specs.Store.{block_view}
use Rattle.escrow_memory.proofs.Views.{cause_weaker}
use Rattle.escrow_memory.proofs.store.BlockStoreStore.remove.Goals as goal

pub write-requires : goal.write-requires
write-requires c = rw (c.order.ensures, c.shape.ensures) (c.requires (no_doubt true refl))

pub returns-clause-ok : goal.returns-clause-ok
returns-clause-ok c = on_ok_weaker c.write.result (λ h clean. rw (c.order.ensures, c.shape.ensures) at (h clean)) c.write.ensures.ok

pub returns-clause-cause : goal.returns-clause-cause
returns-clause-cause c _ = cause_weaker c.write.result (block_view c.args.self.now) _ _ _ (λ no. no tt) (c.write.ensures.cause 0)
