-- Databases whose disks have returned what was written.
use Rattle.std.proofs.Common.{List, [], ◌∷◌}
use Rattle.escrow_memory.specs.declared.store.BlockStore.{BlockStore}
use Rattle.escrow_memory.specs.Store.{over_blocks}
use Rattle.escrow_memory.proofs.Clean.{memory_is_clean}
use Rattle.escrow_core.specs.Database.{Database}
use Rattle.escrow_serve.specs.Output.{HaveCleanDisks}

-- databases in memory have clean disks
pub memory_are_clean : (databases : List (Database BlockStore)) → HaveCleanDisks over_blocks databases
memory_are_clean [] = tt
memory_are_clean (database ∷ databases) = (memory_is_clean database.store, memory_are_clean databases)
