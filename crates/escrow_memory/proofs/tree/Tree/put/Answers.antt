use Rattle.std.proofs.Common.{◌∙◌}
use Rattle.std.proofs.lemmas.Result.{on_ok_weaker}
use Rattle.sqlite_value.specs.Value.{owned}
use Rattle.sqlite_trees.specs.declared.store.Shape.TheVariants.{Table}
use Rattle.sqlite_trees.proofs.TreeLemmas.{IsShaped-put_row}
use Rattle.escrow_memory.proofs.Edits as lemma
use Rattle.escrow_memory.proofs.tree.Tree.put.Goals as goal

pub invariant_of-self : goal.invariant_of-self
invariant_of-self c =
    let was = lemma.shaped_as c.args.self.now Table c.requires.table in
    let made = lemma.spliced_as_put c.args.new.now (owned c.get.result) c.args.self.now.rows c.place_of-at.result.0 c.place_of-at.result.1 c.get.ensures c.place_of-at.ensures.place c.place_of-at.ensures.test in
    let ok = on_ok_weaker c.splice.result (λ spliced. spliced ∙ rw (c.from.ensures, c.requires.bytes) made) c.splice.ensures.ok in
    record { ordered = rw c.requires.table (lemma.shaped_after c.splice.result Table _ _ (IsShaped-put_row c.args.new.now _ c.requires.keyed was) ok c.splice.ensures.err) }

pub returns-clause-ok : goal.returns-clause-ok
returns-clause-ok c =
    let made = lemma.spliced_as_put c.args.new.now (owned c.get.result) c.args.self.now.rows c.place_of-at.result.0 c.place_of-at.result.1 c.get.ensures c.place_of-at.ensures.place c.place_of-at.ensures.test in
    on_ok_weaker c.splice.result (λ spliced. spliced ∙ rw (c.from.ensures, c.requires.bytes) made) c.splice.ensures.ok
