use Rattle.std.proofs.Common.{◌≡◌, ◌<◌, ◌≤◌, ◌+ℤ◌, pos, unwrap_or, take, length, set, ap, sym, ◌∙◌, arith}
use Rattle.escrow_num.specs.Reservation.{deltas}
use Rattle.escrow_checks.proofs.FormLemmas.{length-changed}
use Rattle.escrow_tables.proofs.Changed.{changed_nil, counted_more, counted_past}
use Rattle.escrow_tables.proofs.apply.add_changes.Goals as goal
use Rattle.escrow_tables.proofs.apply.add_changes.Goals.{then-i-len+in-Some, else-i-len}

pub loop-i-init : goal.loop-i-init
loop-i-init c = sym (changed_nil c.args.amounts.now)

pub loop-i-preserved : goal.loop-i-preserved
loop-i-preserved c =
    let first = c.args.amounts.now in
    let changes = c.args.changes.now in
    let i = c.loop-i.i in
    let long : length c.loop-i.amounts ≡ length first = ap length c.loop-i.invariant ∙ length-changed first (deltas (take i changes)) in
    elim c.if-i-len.branch [
      | then-i-len+in-Some w ↦
          let below : i < length first = omega (arith, c.len.ensures, w.if-i-len.true) in
          let at = rw (w.as_slice.ensures, c.loop-i.invariant) at w.index-as_slice-i.is in
          let more = counted_more first changes i w.index-as_slice-i.result c.index-changes-i.result below c.loop-i-test.true at c.index-changes-i.is in
          let is : w.in-Some.sum ≡ w.index-as_slice-i.result +ℤ unwrap_or c.index-changes-i.result (pos 0) = w.in-Some.ensures ∙ ap (λ y. w.index-as_slice-i.result +ℤ y) w.unwrap_or.ensures in
          rw (w.amounts-is, w.set.ensures, is)
          (ap (λ xs. set xs i (w.index-as_slice-i.result +ℤ unwrap_or c.index-changes-i.result (pos 0))) c.loop-i.invariant ∙ sym more)
      | else-i-len w ↦
          let past : length first ≤ i = omega (arith, c.len.ensures, w.if-i-len.false) in
          rw w.amounts-is (c.loop-i.invariant ∙ sym (counted_past first changes i past))
    ]
