use Rattle.std.proofs.Common.{◌≡◌, ◌≢◌, ◌<◌, length, rules, append_assoc}
use Rattle.std.proofs.lemmas.List.{length-map}
use Rattle.sqlite_trees.specs.declared.store.Shape.TheVariants.{Absent}
use Rattle.sqlite_trees.proofs.StoreLemmas.{objects_step, listed_unless_absent}
use Rattle.escrow_memory.specs.Held.{headings}
use Rattle.escrow_memory.specs.Trees.{all_held}
use Rattle.escrow_memory.proofs.Forests.{heading_at}
use Rattle.escrow_memory.proofs.store.BlockStoreAlter.objects.Goals.{then-ne+in_ok-listing+in_ok-push, else-ne}
use Rattle.escrow_memory.proofs.store.BlockStoreAlter.objects.Goals as goal

pub loop-at-preserved : goal.loop-at-preserved
loop-at-preserved c =
    let trees = c.as_slice-trees.result.now in
    let tree = c.index-trees-at.result in
    let within : c.loop-at.at < length (headings (all_held trees)) = rw (length-map, length-map) c.loop-at-test.true in
    let was = rw (objects_step _ c.loop-at.at _ _ within (heading_at trees _ tree c.loop-at-test.true c.index-trees-at.is)) at c.loop-at.invariant in
    elim c.if-ne.branch [
      | then-ne+in_ok-listing+in_ok-push w ↦
          let present : tree.tree.value.shape ≢ Absent = search rules in
          rw (w.rows-is, w.in_ok-push.ensures.items, w.in_ok-listing.ensures, c.as_ref-tree.ensures, ← c.index-trees-at.is, append_assoc) (rw (listed_unless_absent _ _ _ present) at was)
      | else-ne w ↦ let absent : tree.tree.value.shape ≡ Absent = search rules in rw w.rows-is (rw absent at was)
    ]
