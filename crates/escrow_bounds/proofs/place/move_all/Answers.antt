use Rattle.std.proofs.Common.{◌≡◌, ℤ, ◌<◌, ◌≤◌, length, get_or, sym, ap, ◌∙◌, subst, set, arith}
use Rattle.escrow_bounds.specs.Moved.{moved}
use Rattle.escrow_bounds.proofs.Moving.{moved_none, moved_more, moved_end}
use Rattle.escrow_bounds.proofs.place.move_all.Goals as goal

pub loop-i-init : goal.loop-i-init
loop-i-init c = sym (moved_none c.args.amounts.now)

pub loop-i-preserved : goal.loop-i-preserved
loop-i-preserved c =
    let i = c.loop-i.i in
    let below : i < length c.args.amounts.now = omega (arith, c.loop-i-test.true) in
    let amount : ℤ = get_or c.loop-i.amounts i c.index-amounts-i.result in
    let is : amount ≡ get_or c.loop-i.amounts i amount = subst (λ (a : ℤ). a ≡ get_or c.loop-i.amounts i a) c.index-amounts-i.is c.index-amounts-i.is in
    ap (set c.loop-i.amounts i) (c.moved.ensures ∙ ap (moved amount) c.change_at.ensures)
    ∙ moved_more c.args.amounts.now c.args.changes.now c.loop-i.amounts i amount below c.loop-i.invariant is

pub returns : goal.returns
returns c =
    let past : length c.args.amounts.now ≤ c.loop-i.i = omega (arith, c.loop-i-test.false) in
    c.loop-i.invariant ∙ moved_end c.args.amounts.now c.args.changes.now c.loop-i.i past
