use Rattle.std.proofs.Common.{refl}
use Rattle.escrow_memory.proofs.Views.{failed}
use Rattle.escrow_memory.proofs.store.BlockStoreStore.seek.Goals as goal

pub returns-in_err-set_cursor-clause-err : goal.returns-in_err-set_cursor-clause-err
returns-in_err-set_cursor-clause-err c = failed c.from_residual.result _ _ refl
