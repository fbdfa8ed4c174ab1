-- Believed: the statements of the laws in src/laws.rt.
use Rattle.sqlite.specs.Held.{Held, state}
use Rattle.sqlite.specs.State.{HasCleanDisk}
use Rattle.escrow_memory.specs.declared.store.BlockStore.{BlockStore}
use Rattle.escrow_memory.specs.Store.{over_blocks}

-- whatever was done over a connection to a store in memory, its disk returned what was written
abbrev pub MemoryIsClean : Type 0
MemoryIsClean = (connection : Held BlockStore) → HasCleanDisk (state over_blocks connection)
