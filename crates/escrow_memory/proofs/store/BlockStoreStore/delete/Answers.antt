use Rattle.std.proofs.Common.{true, refl, to_z-of_z}
use Rattle.std.proofs.lemmas.Result.{on_ok_weaker}
use Rattle.sqlite_trees.proofs.Doubt.{no_doubt}
use Rattle.escrow_memory.specs.Store.{block_view}
use Rattle.escrow_memory.proofs.Views.{cause_weaker}
use Rattle.escrow_memory.proofs.store.BlockStoreStore.delete.Goals as goal

pub write-requires : goal.write-requires
write-requires c = c.requires (no_doubt true refl)

pub returns-clause-ok : goal.returns-clause-ok
returns-clause-ok c = let fits = c.ranges.id in on_ok_weaker c.write.result (λ h clean. simp to_z-of_z at (h clean)) c.write.ensures.ok

pub returns-clause-cause : goal.returns-clause-cause
returns-clause-cause c _ = cause_weaker c.write.result (block_view c.args.self.now) _ _ _ (λ no. no tt) (c.write.ensures.cause 0)
