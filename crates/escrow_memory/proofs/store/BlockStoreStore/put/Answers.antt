use Rattle.std.proofs.Common.{true, refl}
use Rattle.sqlite_trees.proofs.Doubt.{no_doubt}
use Rattle.escrow_memory.specs.Store.{block_view}
use Rattle.escrow_memory.proofs.Views.{cause_weaker}
use Rattle.escrow_memory.proofs.store.BlockStoreStore.put.Goals as goal

pub write-requires : goal.write-requires
write-requires c = (c.requires.table (no_doubt true refl), c.requires.keyed (no_doubt true refl))

pub returns-clause-cause : goal.returns-clause-cause
returns-clause-cause c _ = cause_weaker c.write.result (block_view c.args.self.now) _ _ _ (λ no both. no both.0) (rw c.reals.ensures at (c.write.ensures.cause c.reals.result))
