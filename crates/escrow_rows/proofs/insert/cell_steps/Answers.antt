use Rattle.std.proofs.Common.{[], arith, subst, sym}
use Rattle.std.proofs.lemmas.Int.{ints}
use Rattle.escrow_rows.specs.Steps.{PutsCells}
use Rattle.escrow_rows.proofs.ImageInsert.{puts_none, puts_next}
use Rattle.escrow_rows.proofs.insert.cell_steps.Goals as goal

pub loop-i-init : goal.loop-i-init
loop-i-init c = subst (PutsCells []) (sym c.in_ok-steps.ensures.items) puts_none

pub loop-i-preserved : goal.loop-i-preserved
loop-i-preserved c =
    let next = puts_next _ c.args.key.now c.args.values.now c.loop-i.i c.index-values-i.result c.loop-i.steps.items _ c.datum.result c.datum-in-loop-i.result
    c.loop-i-test.true c.index-values-i.is c.datum.ensures c.datum-in-loop-i.ensures (omega (arith, ints)) c.loop-i.invariant in
    subst (PutsCells _) (sym c.in_ok-push.ensures.items) next
