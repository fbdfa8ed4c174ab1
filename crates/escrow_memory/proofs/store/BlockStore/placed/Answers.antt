use Rattle.std.proofs.Common.{◌≡◌, [], refl}
use Rattle.sqlite_value.specs.declared.keys.Order.{Order}
use Rattle.sqlite_value.specs.Order.{Row}
use Rattle.sqlite_trees.specs.declared.store.Direction.{Direction}
use Rattle.sqlite_trees.specs.declared.store.Direction.TheVariants.{Forward, Backward}
use Rattle.sqlite_trees.specs.Tree.{sought}
use Rattle.sqlite_trees.proofs.MemoryLemmas as lemma
use Rattle.sqlite_trees.proofs.TreeLemmas.{sorted_shape}
use Rattle.escrow_memory.specs.Store.{trees_of, current, left_from}
use Rattle.escrow_memory.proofs.Forests.{found_there, none_there}
use Rattle.escrow_memory.proofs.Searches.{cut_below_key, cut_up_to_key}
use Rattle.escrow_memory.proofs.store.BlockStore.placed.Goals as goal

-- without a tree there are no rows to search
empty_sought : (direction : Direction) (order : Order) (key : Row) → left_from direction 0 [] ≡ sought order direction key []
empty_sought Forward order key = refl
empty_sought Backward order key = refl

pub returns-in_default : goal.returns-in_default
returns-in_default c =
    let trees = trees_of (current c.args.self.now) in
    let (_, rows, _) = none_there trees c.args.tree (rw c.current.ensures at (c.tree.ensures.none c.in_default.is)) in
    rw rows (empty_sought c.args.direction _ c.args.key.now)

pub seek-requires : goal.seek-requires
seek-requires c =
    let tree = c.in-Some.found.now in
    rw c.order-order.ensures (cut_below_key _ _ _ (sorted_shape _ _ (lemma.shaped _ _ tree.ordered)))

pub seek-requires-in-Backward : goal.seek-requires-in-Backward
seek-requires-in-Backward c =
    let tree = c.in-Some.found.now in
    rw c.order-order.ensures (cut_up_to_key _ _ _ (sorted_shape _ _ (lemma.shaped _ _ tree.ordered)))

pub returns-in-Forward : goal.returns-in-Forward
returns-in-Forward c =
    let (shape, rows, _) = found_there (trees_of (current c.args.self.now)) c.args.tree _ (rw c.current.ensures at c.in-Some.ensures.some) in
    rw (c.in-Forward.is, shape, rows, ← c.order-order.ensures) (lemma.drop-from_key _ _ _ _ c.seek.ensures.place)

pub returns-in-Backward : goal.returns-in-Backward
returns-in-Backward c =
    let (shape, rows, _) = found_there (trees_of (current c.args.self.now)) c.args.tree _ (rw c.current.ensures at c.in-Some.ensures.some) in
    rw (c.in-Backward.is, shape, rows, ← c.order-order.ensures, lemma.take-up_to_key _ _ _ _ c.seek-in-Backward.ensures.place)
