use Rattle.std.proofs.Common.{◌≡◌, ◌∙◌, ap, arith, refl, rules, Some, false}
use Rattle.escrow_memory.specs.declared.store.BlockStore.{BlockStore}
use Rattle.escrow_memory.specs.Edit.{edited}
use Rattle.escrow_memory.specs.Store.{trees_of, current, block_view}
use Rattle.escrow_memory.proofs.Forests.{shape_named}
use Rattle.escrow_memory.proofs.Views.{written, edit_shown, write_frame, cause_of}
use Rattle.escrow_memory.proofs.store.BlockStore.write.Goals as goal

pub edit-done-requires-clause-fits : goal.edit-done-requires-clause-fits
edit-done-requires-clause-fits c =
    let seen : trees_of c.in_ok-forest.forest ≡ trees_of (current c.args.self.now) = c.in_ok-forest.ensures.trees ∙ ap (λ (s : BlockStore). trees_of (current s)) c.encode.ensures.rest in
    rw (seen, ← shape_named (trees_of (current c.args.self.now)) c.args.tree (omega arith)) c.requires

pub edit-done-requires-clause-bytes : goal.edit-done-requires-clause-bytes
edit-done-requires-clause-bytes c = rw (c.as_slice.ensures.value, ap (λ (s : BlockStore). s.bytes) c.take_changed.ensures.rest) c.in_ok-encode.ensures.ok

pub returns-in_err-encode-clause-cause : goal.returns-in_err-encode-clause-cause
returns-in_err-encode-clause-cause c reals = let cause = cause_of (block_view c.args.self.now) _ _ (c.in_err-encode.ensures.err reals) in search rules

pub returns-clause-ok : goal.returns-clause-ok
returns-clause-ok c _ =
    let s = c.args.self.now in
    let seen : trees_of c.in_ok-forest.forest ≡ trees_of (current s) = c.in_ok-forest.ensures.trees ∙ ap (λ (x : BlockStore). trees_of (current x)) c.encode.ensures.rest in
    let number : c.in_ok-forest.forest.version ≡ (current s).version = c.in_ok-forest.ensures.version ∙ ap (λ (x : BlockStore). (current x).version) c.encode.ensures.rest in
    let base = ap (λ (x : BlockStore). x.base) c.take_changed.ensures.rest ∙ ap (λ (x : BlockStore). x.base) c.encode.ensures.rest in
    let marks = ap (λ (x : BlockStore). x.marks) c.take_changed.ensures.rest ∙ ap (λ (x : BlockStore). x.marks) c.encode.ensures.rest in
    let done = c.in_ok-done.ensures in
    let shown = edit_shown s c.in_ok-forest.forest c.edit-done.new.self c.args.tree (edited c.args.edit) (omega arith) seen number done.headings done.rows done.version in
    let mid = c.take_changed.new.self in
    let new : BlockStore = record { alloc = mid.alloc; base = mid.base; changed = Some c.edit-done.new.self; marks = mid.marks; cursors = c.clear.new.self; is_broken = false; types = mid.types; bytes = mid.bytes } in
    record { sound = c.if-self.false; is = written s new _ _ _ base marks c.if-self.false refl (ap (λ x. x.trees) shown) (ap (λ x. x.shape) shown) (ap (λ x. x.reals) shown) }

pub returns-clause-frame : goal.returns-clause-frame
returns-clause-frame c clean = write_frame _ _ _ _ (returns-clause-ok c clean)
