-- Memory returns what was written.
use Rattle.std.proofs.Common.{true, refl}
use Rattle.sqlite.specs.Held.{Held, state}
use Rattle.sqlite.specs.State.{HasCleanDisk}
use Rattle.sqlite_trees.proofs.Doubt.{no_doubt}
use Rattle.escrow_memory.specs.declared.store.BlockStore.{BlockStore}
use Rattle.escrow_memory.specs.Store.{over_blocks}

pub memory_is_clean : (connection : Held BlockStore) → HasCleanDisk (state over_blocks connection)
memory_is_clean connection = no_doubt true refl
