use Rattle.std.proofs.Common.{◌≡◌, ◌<◌, ◌≤◌, ◌==◌, ◌||◌, true, List, get_or, length, drop, fold, ap, subst, arith, rules, w64}
use Rattle.std.proofs.lemmas.Bool.{or_left, or_right, eq-eqb, ne_eqb}
use Rattle.std.proofs.lemmas.Int.{to_z-of_z}
use Rattle.std.proofs.lemmas.List.{drop_all}
use Rattle.escrow_schema.specs.declared.column.Column.{Column}
use Rattle.escrow_cells.specs.Step.{done}
use Rattle.escrow_rows.specs.Image.{stored}
use Rattle.escrow_rows.specs.Inside.{new_plain}
use Rattle.escrow_rows.proofs.Pushes.{put_next, pass_next, none_left, plain_taken, plain_passed}
use Rattle.escrow_rows.proofs.plain.plain_steps.Goals as goal
use Rattle.escrow_rows.proofs.plain.plain_steps.Goals.{then-not-column+then-i-table+in_ok-push_cell, else-not-column, else-not-column-via-then-not-column+else-i-table, else-not-column-via-else-not-column}

pub loop-i-preserved : goal.loop-i-preserved
loop-i-preserved c =
    let table = c.args.table.now in
    let columns = table.table.columns in
    let i = c.loop-i.i in
    let at = table.table.key in
    let key = stored c.args.key.now in
    let values = c.args.values.now in
    let column = c.column-item.result in
    let so_far = c.loop-i.steps.items in
    let within : i < length columns = subst (λ (cs : List Column). i < length cs) c.as_slice-column-items.ensures c.loop-i-test.true in
    let here : column ≡ get_or columns i column = subst (λ (cs : List Column). column ≡ get_or cs i column) c.as_slice-column-items.ensures c.column-item.is in
    elim c.if-not-column.branch [
      | then-not-column+then-i-table+in_ok-push_cell w ↦ rw (w.steps-is, w.at-is) (record {
        left = λ before. put_next table.id key i _ _ _ (fold done before so_far) _ _
            (plain_taken columns i column at values c.loop-i.at within here w.if-not-column.true (ne_eqb i at w.if-i-table.true))
            (c.loop-i.invariant.left before)
            (rw (to_z-of_z w64 table.id (search rules), w.datum.ensures, w.plain_at.ensures) at (w.in_ok-push_cell.ensures.puts before));
        few = omega (arith, c.loop-i.invariant.few);
        sets = w.in_ok-push_cell.ensures.sets table c.args.key.now (to_z-of_z w64 table.id (search rules)) w.datum.ensures within c.loop-i.invariant.sets;
      })
      | else-not-column w ↦ (
          let skips : (column.reservable || i == at) ≡ true = elim w.else-not-column.branch [
            | else-not-column-via-then-not-column+else-i-table v ↦ or_right column.reservable (i == at) (eq-eqb i at v.if-i-table.false)
            | else-not-column-via-else-not-column v ↦ or_left column.reservable (i == at) v.if-not-column.false
          ] in
          rw (w.steps-is, w.at-is) (record {
            left = λ before. pass_next table.id key i _ _ (fold done before so_far) _ (plain_passed columns i column at (drop c.loop-i.at values) within here skips) (c.loop-i.invariant.left before);
            few = omega (arith, c.loop-i.invariant.few);
            sets = c.loop-i.invariant.sets;
          })
          )
    ]

pub returns-clause-change : goal.returns-clause-change
returns-clause-change c = λ before.
    let table = c.args.table.now in
    let columns = table.table.columns in
    let past : length columns ≤ c.loop-i.i = subst (λ (cs : List Column). length cs ≤ c.loop-i.i) c.as_slice-column-items.ensures c.loop-i-test.false in
    none_left table.id (stored c.args.key.now) c.loop-i.i _ (fold done before c.loop-i.steps.items) _
    (ap (λ (cs : List Column). new_plain cs c.loop-i.i table.table.key (drop c.loop-i.at c.args.values.now)) (drop_all c.loop-i.i columns past)) (c.loop-i.invariant.left before)
