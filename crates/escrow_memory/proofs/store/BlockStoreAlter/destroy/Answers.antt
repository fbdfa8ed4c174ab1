use Rattle.std.proofs.Common.{◌≡◌, ◌+◌, pos, ap, arith}
use Rattle.std.proofs.lemmas.Result.{on_ok_weaker}
use Rattle.sqlite_trees.specs.declared.store.Shape.TheVariants.{Absent}
use Rattle.sqlite_trees.specs.Tree.{without_rowid}
use Rattle.sqlite_trees.specs.Listing.{Heading, objects_from-unset}
use Rattle.escrow_memory.specs.Held.{headings}
use Rattle.escrow_memory.specs.Trees.{held}
use Rattle.escrow_memory.proofs.Views.{replaced}
use Rattle.escrow_memory.proofs.store.BlockStoreAlter.destroy.Goals as goal

pub returns-clause-ok : goal.returns-clause-ok
returns-clause-ok c =
    let it = c.in_ok-absent.absent in
    let is = c.in_ok-absent.ensures.heading in
    let shape : it.shape ≡ Absent = ap (λ (x : Heading). x.0) is in
    on_ok_weaker c.replace.result (λ made _.
    rw shape at
    (replaced c.args.self.now c.replace.new.self c.args.tree (held it) (omega arith) made c.in_ok-absent.ensures.rows (without_rowid (pos (c.args.tree + 1)))
    (rw is (objects_from-unset (headings made.trees.room) 0 c.args.tree c.args.tree (omega arith)))))
    c.replace.ensures.ok
