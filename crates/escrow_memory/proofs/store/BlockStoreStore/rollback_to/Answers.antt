use Rattle.std.proofs.Common.{◌≡◌, ◌-◌, ◌<◌, false, length, get_or, unwrap_or, option_map, slice_get, Option, None, Some, refl, sym, ap, ◌∙◌, arith}
use Rattle.std.proofs.lemmas.List.{length-map, get_or-map}
use Rattle.std.proofs.lemmas.Option.{slice_get_within, get_or_from_slice_get}
use Rattle.sqlite_trees.specs.View.{Snapshot, newest}
use Rattle.escrow_memory.specs.declared.forest.Forest.{Forest}
use Rattle.escrow_memory.proofs.Views.{failed, same_snapshot}
use Rattle.escrow_memory.specs.Store.{trees_of, left_of, snapshot_of, block_view}
use Rattle.escrow_memory.proofs.store.BlockStoreStore.rollback_to.Goals as goal

pub returns-in_err-self-clause-err : goal.returns-in_err-self-clause-err
returns-in_err-self-clause-err c = failed c.from_residual.result _ _ refl

pub returns-clause-ok : goal.returns-clause-ok
returns-clause-ok c _ _ =
    let s = c.args.self.now in
    let marks = s.marks.items in
    let mark = c.in-Some.mark.now in
    let last : slice_get marks (length marks - 1) ≡ Some mark = sym (rw c.deref.ensures.value at c.in-Some.ensures.value) in
    let some : 0 < length marks = omega (arith, slice_get_within marks (length marks - 1) mark last) in
    let is : mark ≡ get_or marks (length marks - 1) None = sym (get_or_from_slice_get marks (length marks - 1) mark None last) in
    let (trees, version) = c.in_ok-self.ensures s.base in
    let shown : Option Forest → Snapshot = λ m. snapshot_of (unwrap_or m s.base) in
    let newest_is : newest (block_view s) ≡ shown mark = rw length-map (get_or-map shown marks (length marks - 1) None _ (omega arith)) ∙ ap shown (sym is) in
    let back : snapshot_of (unwrap_or c.in_ok-self.field-0 s.base) ≡ newest (block_view s) = same_snapshot (unwrap_or c.in_ok-self.field-0 s.base) (unwrap_or mark s.base) trees version ∙ sym newest_is in
    record {
      was_open = refl;
      is = λ i. record (block_view s) {
        trees = (back i).trees;
        shape = (back i).shape;
        reals = (back i).reals;
        cursors = λ k. option_map (left_of (trees_of (unwrap_or c.in_ok-self.field-0 s.base))) (get_or c.clear.new.self.items k None);
        is_broken = false;
      };
    }
