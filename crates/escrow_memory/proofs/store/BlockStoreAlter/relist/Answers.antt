use Rattle.std.proofs.Common.{◌≡◌, ◌<◌, ◌+◌, take, ℕ, zero, suc, true, List, [], ◌∷◌, length, get_or, refl, sym, false, Result, Ok, Err, true≢false, ap, ◌∙◌, arith}
use Rattle.std.specs.Prelude.{OnOk, is_err}
use Rattle.std.specs.List.{AllByRecursion}
use Rattle.std.proofs.lemmas.List.{take_more}
use Rattle.sqlite_trees.specs.View.{View}
use Rattle.sqlite_trees.specs.declared.schema.Object.{Object}
use Rattle.sqlite_trees.specs.Objects.{Relists, MayRelist}
use Rattle.escrow_memory.specs.Store.{block_view}
use Rattle.sqlite_trees.proofs.Doubt.{no_doubt}
use Rattle.sqlite_trees.proofs.StoreLemmas.{relists_more}
use Rattle.escrow_memory.proofs.store.BlockStoreAlter.relist.Goals as goal

each_at : {X : Type 0} (P : X → Type 0) (xs : List X) (at : ℕ) (d : X) → AllByRecursion P xs → at < length xs → P (get_or xs at d)
each_at P [] at d all within = absurd (omega arith)
each_at P (x ∷ xs) zero d all within = all.0
each_at P (x ∷ xs) (suc at) d all within = each_at P xs at d all.1 (omega arith)

went : {X E : Type 0} (r : Result X E) (P : Type 0) → OnOk r P → is_err r ≡ false → P
went (Ok x) P h so = h
went (Err e) P h so = absurd (true≢false so)

still_shaped : (a b : View) (done : List (ℕ × Object)) (change : ℕ × Object) → Relists a b done → MayRelist a change → b.shape change.0 ≡ change.1.shape
still_shaped a b done change p may = ap (λ (v : View). v.shape change.0) p.is ∙ may.shaped

more_relisted : (a b c : View) (all : List (ℕ × Object)) (at : ℕ) (d : ℕ × Object) → at < length all → Relists a b (take at all) → Relists b c (get_or all at d ∷ []) → Relists a c (take (at + 1) all)
more_relisted a b c all at d within p q = rw (take_more all at d within) (relists_more a b c (take at all) (get_or all at d) p q)

pub relist_one-requires-clause-shaped : goal.relist_one-requires-clause-shaped
relist_one-requires-clause-shaped c =
    let may = each_at _ c.args.changes.now c.loop-change.change-index _ (c.requires.each (no_doubt true refl)) c.loop-change-test.true in
    still_shaped (block_view c.args.self.now) (block_view c.loop-change.self) _ _ c.loop-change.invariant.done may

pub relist_one-requires-clause-present : goal.relist_one-requires-clause-present
relist_one-requires-clause-present c = (each_at _ c.args.changes.now c.loop-change.change-index _ (c.requires.each (no_doubt true refl)) c.loop-change-test.true).present

pub returns-then-is_err-clause-err : goal.returns-then-is_err-clause-err
returns-then-is_err-clause-err c =
    let (one_base, one_marks) = c.relist_one.ensures.base in
    let base = one_base ∙ c.loop-change.invariant.base in
    let marks = one_marks ∙ c.loop-change.invariant.marks in
    record { shape = rw base; reals = rw base; numbered = refl; was_open = λ h. h; committed = λ _. rw base; marks = λ _. rw (base, marks); unchanged = λ h. absurd (true≢false h); refused = λ _ e. absurd (cc) }

pub loop-change-preserved : goal.loop-change-preserved
loop-change-preserved c =
    let (one_base, one_marks) = c.relist_one.ensures.base in
    record {
      done = more_relisted (block_view c.args.self.now) (block_view c.loop-change.self) (block_view c.relist_one.new.self) c.args.changes.now c.loop-change.change-index _ c.loop-change-test.true
          c.loop-change.invariant.done (went c.relist_one.result _ c.relist_one.ensures.ok (sym c.is_err.ensures.value ∙ c.if-is_err.false));
      base = one_base ∙ c.loop-change.invariant.base;
      marks = one_marks ∙ c.loop-change.invariant.marks;
    }
