use Rattle.escrow_memory.proofs.Clean.{memory_is_clean}
use Rattle.escrow_memory.proofs.laws.memory_is_clean.Goals as goal

pub returns : goal.returns
returns c = memory_is_clean
