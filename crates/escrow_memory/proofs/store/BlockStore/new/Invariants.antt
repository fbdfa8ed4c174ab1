use Rattle.std.proofs.Common.{◌≡◌, take, map, All, []}
use Rattle.sqlite_trees.specs.Objects.{description}
use Rattle.escrow_memory.specs.Held.{headings}
use Rattle.escrow_memory.specs.Trees.{all_held}
use Rattle.escrow_memory.proofs.store.BlockStore.new.Given as goal

abbrev pub invariant-loop-object : goal.invariant-loop-object
invariant-loop-object l =
    (headings (all_held l.trees.items) ≡ map (λ o. (o.shape, o.reals, description o)) (take l.object-index l.schema))
    × All (λ rows. rows ≡ []) (map (λ held. held.1) (all_held l.trees.items))
