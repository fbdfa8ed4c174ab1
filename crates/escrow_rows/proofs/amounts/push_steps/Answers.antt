use Rattle.std.proofs.Common.{◌≡◌, ◌<◌, ◌≤◌, List, get_or, length, drop, fold, ap, subst, arith, rules, w64}
use Rattle.std.proofs.lemmas.Int.{to_z-of_z}
use Rattle.std.proofs.lemmas.List.{drop_all}
use Rattle.escrow_schema.specs.declared.column.Column.{Column}
use Rattle.escrow_cells.specs.Step.{done}
use Rattle.escrow_rows.specs.Image.{stored}
use Rattle.escrow_rows.specs.Inside.{new_amounts}
use Rattle.escrow_rows.proofs.Pushes.{put_next, pass_next, none_left, amount_taken, amount_passed}
use Rattle.escrow_rows.proofs.amounts.push_steps.Goals as goal
use Rattle.escrow_rows.proofs.amounts.push_steps.Goals.{then-column+in_ok-push_cell, else-column}

pub loop-i-preserved : goal.loop-i-preserved
loop-i-preserved c =
    let new = c.args.new.now in
    let table = new.table.now in
    let columns = table.table.columns in
    let i = c.loop-i.i in
    let key = stored new.key.now in
    let column = c.column-item.result in
    let so_far = c.loop-i.steps.items in
    let within : i < length columns = subst (λ (cs : List Column). i < length cs) c.as_slice-column-items.ensures c.loop-i-test.true in
    let here : column ≡ get_or columns i column = subst (λ (cs : List Column). column ≡ get_or cs i column) c.as_slice-column-items.ensures c.column-item.is in
    elim c.if-column.branch [
      | then-column+in_ok-push_cell w ↦ rw (w.steps-is, w.at-is) (record {
        left = λ before. put_next table.id key i _ _ _ (fold done before so_far) _ _
            (amount_taken columns i column new.amounts c.loop-i.at within here w.if-column.true)
            (c.loop-i.invariant.left before)
            (rw (to_z-of_z w64 table.id (search rules), w.datum.ensures, w.amount_at.ensures, w.as_slice.ensures) at (w.in_ok-push_cell.ensures.puts before));
        few = omega (arith, c.loop-i.invariant.few);
      })
      | else-column w ↦ rw (w.steps-is, w.at-is) (record {
        left = λ before. pass_next table.id key i _ _ (fold done before so_far) _
            (amount_passed columns i column (drop c.loop-i.at new.amounts) within here w.if-column.false) (c.loop-i.invariant.left before);
        few = omega (arith, c.loop-i.invariant.few);
      })
    ]

pub returns : goal.returns
returns c = λ before.
    let new = c.args.new.now in
    let table = new.table.now in
    let columns = table.table.columns in
    let past : length columns ≤ c.loop-i.i = subst (λ (cs : List Column). length cs ≤ c.loop-i.i) c.as_slice-column-items.ensures c.loop-i-test.false in
    none_left table.id (stored new.key.now) c.loop-i.i _ (fold done before c.loop-i.steps.items) _
    (ap (λ (cs : List Column). new_amounts cs (drop c.loop-i.at new.amounts)) (drop_all c.loop-i.i columns past)) (c.loop-i.invariant.left before)
