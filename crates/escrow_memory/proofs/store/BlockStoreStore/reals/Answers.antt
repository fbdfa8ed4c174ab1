use Rattle.std.proofs.Common.{◌∙◌, sym, arith}
use Rattle.escrow_memory.specs.Store.{trees_of, current}
use Rattle.escrow_memory.proofs.Forests.{none_there, reals_named}
use Rattle.escrow_memory.proofs.store.BlockStoreStore.reals.Goals as goal

pub returns-in_default-2 : goal.returns-in_default-2
returns-in_default-2 c =
    let trees = trees_of (current c.args.self.now) in
    let (_, _, none) = none_there trees c.args.tree (rw c.current.ensures at (c.tree.ensures.none c.in_default.is)) in
    sym (reals_named trees c.args.tree (omega arith) ∙ none)
