use Rattle.std.proofs.Common.{◌≡◌, ◌<◌, arith, get_or, length, subst}
use Rattle.escrow_schema.specs.Fit.{values_of}
use Rattle.escrow_schema.proofs.ValuesLemmas.{amount_next, key_next, plain_next}
use Rattle.escrow_schema.proofs.values.values_of.Goals as goal
use Rattle.escrow_schema.proofs.values.values_of.Goals.{then-column+in_ok-push_amount, else-column+then-i-table+in_ok-copy+in_ok-push, else-column+else-i-table+in_ok-push_plain}

pub loop-i-preserved : goal.loop-i-preserved
loop-i-preserved c =
    let table = c.args.table.now in
    let row = c.args.row.now in
    let columns = table.columns in
    let i = c.loop-i.i in
    let column = c.column-item.result in
    let done = c.loop-i.values.items in
    let before = c.loop-i.invariant.0 in
    let within : i < length columns = subst (λ cs. i < length cs) c.as_slice-column-items.ensures c.loop-i-test.true in
    let here : column ≡ get_or columns i column = subst (λ cs. column ≡ get_or cs i column) c.as_slice-column-items.ensures c.column-item.is in
    let bounds = c.loop-i.invariant.1 in
    let key = row.name.key in
    let whole = values_of table row in
    elim c.if-column.branch [
      | then-column+in_ok-push_amount w ↦ rw (w.values-is, w.amounts-is, w.plain-is) (
        amount_next columns i column table.key key row.amounts row.plain c.loop-i.amounts c.loop-i.plain done w.push_amount.new.values.items whole
            within here w.if-column.true before w.in_ok-push_amount.ensures,
        (omega arith, omega arith),
      )
      | else-column+then-i-table+in_ok-copy+in_ok-push w ↦ rw (w.values-is, w.amounts-is, w.plain-is) (
        key_next columns i column table.key key row.amounts row.plain c.loop-i.amounts c.loop-i.plain done w.push.new.self.items whole
            within here w.if-column.false w.if-i-table.true before (let copied = w.in_ok-copy.ensures.same in let added = w.in_ok-push.ensures.items in rw copied at added),
        (omega arith, omega arith),
      )
      | else-column+else-i-table+in_ok-push_plain w ↦ rw (w.values-is, w.amounts-is, w.plain-is) (
        plain_next columns i column table.key key row.amounts row.plain c.loop-i.amounts c.loop-i.plain done w.push_plain.new.values.items whole
            within here w.if-column.false w.if-i-table.false before w.in_ok-push_plain.ensures,
        (omega arith, omega arith),
      )
    ]
