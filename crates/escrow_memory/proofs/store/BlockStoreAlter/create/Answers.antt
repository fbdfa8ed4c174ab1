use Rattle.std.proofs.Common.{true, refl, ◌≡◌, ap, arith}
use Rattle.std.proofs.lemmas.Result.{on_ok_weaker}
use Rattle.std.proofs.lemmas.List.{length-map}
use Rattle.sqlite_trees.specs.Tree.{put_row}
use Rattle.sqlite_trees.specs.Objects.{object_row, description}
use Rattle.sqlite_trees.specs.Listing.{Heading, objects_from-set}
use Rattle.sqlite_trees.proofs.StoreLemmas.{present_reals}
use Rattle.sqlite_trees.proofs.Doubt.{no_doubt}
use Rattle.escrow_memory.specs.Held.{headings}
use Rattle.escrow_memory.specs.Trees.{held}
use Rattle.escrow_memory.proofs.Views.{replaced}
use Rattle.escrow_memory.proofs.store.BlockStoreAlter.create.Goals as goal

pub returns-clause-ok : goal.returns-clause-ok
returns-clause-ok c =
    let o = c.args.object.now in
    let it = c.in_ok-new.new in
    let is = c.in_ok-new.ensures.heading in
    let shape : it.shape ≡ o.shape = ap (λ (x : Heading). x.0) is in
    let reals : it.reals ≡ o.reals = ap (λ (x : Heading). x.1) is in
    let there = (c.requires (no_doubt true refl)).shaped in
    on_ok_weaker c.replace.result (λ made _.
    rw (shape, reals, present_reals o.shape o.reals there) at
    (replaced c.args.self.now c.replace.new.self c.args.tree (held it) (omega arith) made c.in_ok-new.ensures.rows (put_row (object_row c.args.tree o))
    (rw is (objects_from-set (headings made.trees.room) 0 c.args.tree c.args.tree (o.shape, o.reals, description o) (omega arith) (rw length-map made.trees.within) there))))
    c.replace.ensures.ok
