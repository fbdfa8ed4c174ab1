-- Helps: what always holds of the store's trees: their order, and the list of them. What the kit's traits require is
-- proved at each method.
use Rattle.std.specs.Prelude.{◌≡◌, zero, suc, true, false, if◌then◌else◌, ◌==◌, List, [], ◌∷◌, refl}
use Rattle.std.proofs.Common.{subst}
use Rattle.std.proofs.Math.Logic.{∥∥₁_elim}
use Rattle.sqlite_trees.specs.declared.store.Shape.TheVariants.{Table}
use Rattle.sqlite_trees.specs.View.{IsShaped, IsOrdered}
use Rattle.sqlite_trees.specs.Objects.{catalog_tree, version_tree, version_rows, IsListed}
use Rattle.sqlite_trees.specs.Listing.{objects_are_ordered, objects_are_listed, listed_once}
use Rattle.sqlite_trees.specs.Props.{IsShaped-prop}
use Rattle.escrow_memory.specs.declared.shared.Shared.{Shared}
use Rattle.escrow_memory.specs.declared.store.BlockStore.{BlockStore}
use Rattle.escrow_memory.specs.Held.{headings, rows_of, shape_of, objects_of, forest, shapes, all_shapes, all_reals}
use Rattle.escrow_memory.specs.Trees.{all_held}
use Rattle.escrow_memory.specs.Store.{trees_of, current, block_view}

trees_are_ordered : (trees : List Shared) → IsOrdered (shape_of (all_held trees)) (rows_of (all_held trees))
trees_are_ordered [] t = refl
trees_are_ordered (shared ∷ trees) zero =
    ∥∥₁_elim shared.tree.value.ordered (IsShaped-prop shared.tree.value.shape shared.tree.value.rows) (λ h. h)
trees_are_ordered (shared ∷ trees) (suc t) = trees_are_ordered trees t

pub blocks_are_ordered : (s : BlockStore) → IsOrdered (block_view s).shape (block_view s).trees
blocks_are_ordered s t =
    let trees = trees_of (current s) in
    let below : IsShaped (shapes trees t) (forest trees t) =
    elim (t == catalog_tree) as
    (λ b. IsShaped (if b then Table else shape_of trees t) (if b then objects_of trees else rows_of trees t))
    [ true ↦ objects_are_ordered (headings trees) 0 | false ↦ trees_are_ordered (current s).trees.items t ] in
    elim (t == version_tree) as
    (λ b. IsShaped (if b then Table else shapes trees t) (if b then version_rows (current s).version
    else forest trees t))
    [ true ↦ ((tt, tt), (refl, tt)) | false ↦ below ]

pub blocks_are_listed : (s : BlockStore)
    → IsListed ((block_view s).trees catalog_tree) (block_view s).shape (block_view s).reals
blocks_are_listed s = objects_are_listed (headings (trees_of (current s)))

pub blocks_are_unaltered : (s : BlockStore) → (block_view s).trees catalog_tree ≡ (block_view s).committed catalog_tree
    → ((block_view s).shape ≡ (block_view s).committed_shape) × ((block_view s).reals ≡ (block_view s).committed_reals)
blocks_are_unaltered s same =
    let now = trees_of (current s) in
    listed_once _ _ _ _ _ (subst
    (λ rows. IsListed rows (all_shapes now) (all_reals now)) same (objects_are_listed (headings now)))
    (objects_are_listed (headings (trees_of s.base)))
