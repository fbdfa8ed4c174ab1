use Rattle.std.proofs.Common.{ℕ, ◌<◌, ◌∙◌, length, arith, sym, ap}
use Rattle.std.proofs.lemmas.List.{length-map, map-set}
use Rattle.std.proofs.lemmas.Result.{on_ok_weaker}
use Rattle.sqlite_trees.specs.Tree.{with_tree}
use Rattle.escrow_memory.specs.declared.forest.Forest.{Forest}
use Rattle.escrow_memory.specs.declared.tree.Edit.{Edit}
use Rattle.escrow_memory.specs.Edit.{Fits}
use Rattle.escrow_memory.specs.Held.{rows_of, shape_of}
use Rattle.escrow_memory.specs.Trees.{held}
use Rattle.escrow_memory.specs.Store.{trees_of}
use Rattle.escrow_memory.proofs.Forests.{present, fits_present, tree_at, heading_at, headings_kept, rows_set}
use Rattle.escrow_memory.proofs.forest.Forest.edit.Goals as goal

-- the write names a tree
within : (forest : Forest) (tree : ℕ) (edit : Edit) → Fits edit (shape_of (trees_of forest) tree) → tree < length forest.trees.items
within forest tree edit fits = rw length-map at (present (trees_of forest) tree (fits_present edit _ fits))

pub index_mut-requires : goal.index_mut-requires
index_mut-requires c = let there = within c.args.self.now c.args.tree c.args.edit c.requires.fits in omega arith

pub edit-requires-clause-fits : goal.edit-requires-clause-fits
edit-requires-clause-fits c =
    let there = within c.args.self.now c.args.tree c.args.edit c.requires.fits in
    rw (← (tree_at _ _ _ there c.index_mut.ensures.value).0) c.requires.fits

pub returns-clause-rows : goal.returns-clause-rows
returns-clause-rows c =
    let s = c.args.self.now in
    let there = within s c.args.tree c.args.edit c.requires.fits in
    let at = tree_at _ _ _ there c.index_mut.ensures.value in
    on_ok_weaker c.edit.result (λ done. rw map-set (rows_set (trees_of s) c.args.tree (held c.edit.new.self.tree.value) (rw length-map there)) ∙ ap (with_tree (rows_of (trees_of s)) c.args.tree) (rw (← at.1) at done)) c.edit.ensures.ok

pub returns-clause-headings : goal.returns-clause-headings
returns-clause-headings c =
    let s = c.args.self.now in
    let there = within s c.args.tree c.args.edit c.requires.fits in
    rw map-set (headings_kept (trees_of s) c.args.tree (held c.edit.new.self.tree.value) (c.edit.ensures.heading ∙ sym (heading_at _ _ _ there c.index_mut.ensures.value)))
