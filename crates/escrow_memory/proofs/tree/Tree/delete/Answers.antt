use Rattle.std.proofs.Common.{◌∙◌, true, false, is_eq, to_z-of_z}
use Rattle.std.proofs.lemmas.Result.{on_ok_weaker}
use Rattle.sqlite_value.specs.declared.value.Value.TheVariants.{Int}
use Rattle.sqlite_value.specs.Order.{value_cmp}
use Rattle.sqlite_value.proofs.OrderLemmas.{value_cmp_total}
use Rattle.sqlite_trees.specs.declared.store.Shape.TheVariants.{Table}
use Rattle.sqlite_trees.specs.Tree.{rowid}
use Rattle.sqlite_trees.proofs.TreeLemmas.{IsShaped-filter}
use Rattle.escrow_memory.proofs.Edits as lemma
use Rattle.escrow_memory.proofs.tree.Tree.delete.Goals as goal

pub seek-at-requires : goal.seek-at-requires
seek-at-requires c =
    let fits = c.ranges.id in
    rw to_z-of_z (lemma.cut_below _ value_cmp_total rowid (Int c.args.id) _ (lemma.table_rises c.args.self.now c.requires))

pub returns-then-not-has_rowid-clause-ok : goal.returns-then-not-has_rowid-clause-ok
returns-then-not-has_rowid-clause-ok c =
    let fits = c.ranges.id in
    let place = simp to_z-of_z at c.seek-at.ensures.place in
    let has = simp to_z-of_z at c.if-not-has_rowid.ensures in
    let other = lemma.tested_at (λ row. is_eq (value_cmp (rowid row) (Int c.args.id))) _ _ c.seek-at.result.1 false c.seek-at.ensures.some c.seek-at.ensures.none has.some has.none in
    lemma.same_without _ value_cmp_total rowid (Int c.args.id) _ _ (lemma.table_rises c.args.self.now c.requires) place other

pub invariant_of-self : goal.invariant_of-self
invariant_of-self c =
    let fits = c.ranges.id in
    let was = lemma.shaped_as c.args.self.now Table c.requires in
    let place = simp to_z-of_z at c.seek-at.ensures.place in
    let has = simp to_z-of_z at c.if-not-has_rowid.ensures in
    let found = lemma.tested_at (λ row. is_eq (value_cmp (rowid row) (Int c.args.id))) _ _ c.seek-at.result.1 true c.seek-at.ensures.some c.seek-at.ensures.none has.some has.none in
    let made = lemma.spliced_as_without _ value_cmp_total rowid (Int c.args.id) _ _ (lemma.table_rises c.args.self.now c.requires) place found in
    let ok = on_ok_weaker c.splice.result (λ spliced. spliced ∙ made) c.splice.ensures.ok in
    record { ordered = rw c.requires (lemma.shaped_after c.splice.result Table _ _ (IsShaped-filter Table _ _ was) ok c.splice.ensures.err) }

pub returns-clause-ok : goal.returns-clause-ok
returns-clause-ok c =
    let fits = c.ranges.id in
    let place = simp to_z-of_z at c.seek-at.ensures.place in
    let has = simp to_z-of_z at c.if-not-has_rowid.ensures in
    let found = lemma.tested_at (λ row. is_eq (value_cmp (rowid row) (Int c.args.id))) _ _ c.seek-at.result.1 true c.seek-at.ensures.some c.seek-at.ensures.none has.some has.none in
    let made = lemma.spliced_as_without _ value_cmp_total rowid (Int c.args.id) _ _ (lemma.table_rises c.args.self.now c.requires) place found in
    on_ok_weaker c.splice.result (λ spliced. spliced ∙ made) c.splice.ensures.ok
