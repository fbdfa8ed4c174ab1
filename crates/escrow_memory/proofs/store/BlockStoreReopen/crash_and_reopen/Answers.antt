use Rattle.std.proofs.Common.{true, refl, rules}
use Rattle.sqlite_trees.proofs.Doubt.{no_doubt}
use Rattle.escrow_memory.proofs.store.BlockStoreReopen.crash_and_reopen.Goals as goal

pub returns-clause-fresh : goal.returns-clause-fresh
returns-clause-fresh c = let kept = c.rollback.ensures.undone.kept (no_doubt true refl) in search rules
