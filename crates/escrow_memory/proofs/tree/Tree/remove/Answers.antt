use Rattle.std.proofs.Common.{◌∙◌, true, false, is_eq}
use Rattle.std.proofs.lemmas.Result.{on_ok_weaker}
use Rattle.sqlite_value.specs.Keys.{entry_cmp}
use Rattle.sqlite_value.proofs.KeyLemmas.{entry_cmp_total}
use Rattle.sqlite_trees.specs.declared.store.Shape.TheVariants.{Index}
use Rattle.sqlite_trees.proofs.TreeLemmas.{IsShaped-filter}
use Rattle.escrow_memory.proofs.Edits as lemma
use Rattle.escrow_memory.proofs.tree.Tree.remove.Goals as goal

pub seek-at-requires : goal.seek-at-requires
seek-at-requires c =
    lemma.cut_below _ (entry_cmp_total c.args.order) (λ entry. entry) _ _ (lemma.shaped_as c.args.self.now (Index c.args.order) c.requires)

pub returns-then-not-is_entry-clause-ok : goal.returns-then-not-is_entry-clause-ok
returns-then-not-is_entry-clause-ok c =
    let was = lemma.shaped_as c.args.self.now (Index c.args.order) c.requires in
    let other = lemma.tested_at (λ row. is_eq (entry_cmp c.args.order row c.args.entry.now)) _ _ c.seek-at.result.1 false c.seek-at.ensures.some c.seek-at.ensures.none c.if-not-is_entry.ensures.some c.if-not-is_entry.ensures.none in
    lemma.same_without _ (entry_cmp_total c.args.order) (λ entry. entry) c.args.entry.now _ _ was c.seek-at.ensures.place other

pub invariant_of-self : goal.invariant_of-self
invariant_of-self c =
    let was = lemma.shaped_as c.args.self.now (Index c.args.order) c.requires in
    let found = lemma.tested_at (λ row. is_eq (entry_cmp c.args.order row c.args.entry.now)) _ _ c.seek-at.result.1 true c.seek-at.ensures.some c.seek-at.ensures.none c.if-not-is_entry.ensures.some c.if-not-is_entry.ensures.none in
    let made = lemma.spliced_as_without _ (entry_cmp_total c.args.order) (λ entry. entry) c.args.entry.now _ _ was c.seek-at.ensures.place found in
    let ok = on_ok_weaker c.splice.result (λ spliced. spliced ∙ made) c.splice.ensures.ok in
    record { ordered = rw c.requires (lemma.shaped_after c.splice.result (Index c.args.order) _ _ (IsShaped-filter (Index c.args.order) _ _ was) ok c.splice.ensures.err) }

pub returns-clause-ok : goal.returns-clause-ok
returns-clause-ok c =
    let was = lemma.shaped_as c.args.self.now (Index c.args.order) c.requires in
    let found = lemma.tested_at (λ row. is_eq (entry_cmp c.args.order row c.args.entry.now)) _ _ c.seek-at.result.1 true c.seek-at.ensures.some c.seek-at.ensures.none c.if-not-is_entry.ensures.some c.if-not-is_entry.ensures.none in
    let made = lemma.spliced_as_without _ (entry_cmp_total c.args.order) (λ entry. entry) c.args.entry.now _ _ was c.seek-at.ensures.place found in
    on_ok_weaker c.splice.result (λ spliced. spliced ∙ made) c.splice.ensures.ok
