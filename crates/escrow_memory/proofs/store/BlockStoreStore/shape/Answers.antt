use Rattle.std.proofs.Common.{◌∙◌, sym, arith}
use Rattle.escrow_memory.specs.Store.{trees_of, current}
use Rattle.escrow_memory.proofs.Forests.{found_there, none_there, shape_named}
use Rattle.escrow_memory.proofs.store.BlockStoreStore.shape.Goals as goal

pub returns-in-Some : goal.returns-in-Some
returns-in-Some c =
    let trees = trees_of (current c.args.self.now) in
    let (shape, _, _) = found_there trees c.args.tree _ (rw c.current.ensures at c.in-Some.ensures.some) in
    sym (shape_named trees c.args.tree (omega arith) ∙ shape)

pub returns-in-None : goal.returns-in-None
returns-in-None c =
    let trees = trees_of (current c.args.self.now) in
    let (shape, _, _) = none_there trees c.args.tree (rw c.current.ensures at (c.tree.ensures.none c.in-None.is)) in
    sym (shape_named trees c.args.tree (omega arith) ∙ shape)
