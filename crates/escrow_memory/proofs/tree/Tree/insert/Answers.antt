use Rattle.std.proofs.Common.{◌∙◌, true, false, is_eq}
use Rattle.std.proofs.lemmas.Result.{on_ok_weaker}
use Rattle.sqlite_value.specs.Keys.{entry_cmp}
use Rattle.sqlite_value.proofs.KeyLemmas.{entry_cmp_total}
use Rattle.sqlite_trees.specs.declared.store.Shape.TheVariants.{Index}
use Rattle.sqlite_trees.proofs.TreeLemmas.{IsIndex-insert_entry}
use Rattle.sqlite_trees.proofs.MemoryLemmas.{kept-insert_entry, insert-insert_entry}
use Rattle.escrow_memory.proofs.Edits as lemma
use Rattle.escrow_memory.proofs.tree.Tree.insert.Goals as goal

pub seek-at-requires : goal.seek-at-requires
seek-at-requires c =
    lemma.cut_below _ (entry_cmp_total c.args.order) (λ entry. entry) _ _ (lemma.shaped_as c.args.self.now (Index c.args.order) c.requires.index)

pub returns-then-is_entry-clause-ok : goal.returns-then-is_entry-clause-ok
returns-then-is_entry-clause-ok c =
    let (inside, same) = lemma.tested_at (λ row. is_eq (entry_cmp c.args.order row c.args.new.now)) _ _ c.seek-at.result.1 true c.seek-at.ensures.some c.seek-at.ensures.none c.if-is_entry.ensures.some c.if-is_entry.ensures.none in
    kept-insert_entry c.args.order c.args.new.now _ _ c.seek-at.ensures.place inside same

pub invariant_of-self : goal.invariant_of-self
invariant_of-self c =
    let was = lemma.shaped_as c.args.self.now (Index c.args.order) c.requires.index in
    let other = lemma.tested_at (λ row. is_eq (entry_cmp c.args.order row c.args.new.now)) _ _ c.seek-at.result.1 false c.seek-at.ensures.some c.seek-at.ensures.none c.if-is_entry.ensures.some c.if-is_entry.ensures.none in
    let made = insert-insert_entry c.args.order c.args.new.now _ _ c.seek-at.ensures.place other in
    let ok = on_ok_weaker c.splice.result (λ spliced. spliced ∙ rw c.requires.bytes (lemma.spliced_as_insert c.args.new.now _ _ ∙ made)) c.splice.ensures.ok in
    record { ordered = rw c.requires.index (lemma.shaped_after c.splice.result (Index c.args.order) _ _ (IsIndex-insert_entry c.args.order c.args.new.now _ was) ok c.splice.ensures.err) }

pub returns-clause-ok : goal.returns-clause-ok
returns-clause-ok c =
    let other = lemma.tested_at (λ row. is_eq (entry_cmp c.args.order row c.args.new.now)) _ _ c.seek-at.result.1 false c.seek-at.ensures.some c.seek-at.ensures.none c.if-is_entry.ensures.some c.if-is_entry.ensures.none in
    let made = insert-insert_entry c.args.order c.args.new.now _ _ c.seek-at.ensures.place other in
    on_ok_weaker c.splice.result (λ spliced. spliced ∙ rw c.requires.bytes (lemma.spliced_as_insert c.args.new.now _ _ ∙ made)) c.splice.ensures.ok
