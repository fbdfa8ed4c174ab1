use Rattle.std.proofs.Common.{◌≤◌, ◌⊎◌, ◌-◌, ◌++◌, inl, inr, ap, ◌∙◌, length, take, drop}
use Rattle.escrow_txn.proofs.Merging.{read, merged_front, merged_back, merged_rest}
use Rattle.escrow_txn.proofs.merge.merge.Goals as goal
use Rattle.escrow_txn.proofs.merge.merge.Goals.{then-loop-i-test+else-j-back, else-loop-i-test}

pub loop-i-preserved-then-first-second : goal.loop-i-preserved-then-first-second
loop-i-preserved-then-first-second c =
    merged_front c.args.front.now c.args.back.now c.loop-i.all.items c.push.new.self.items c.loop-i.i c.loop-i.j c.index-front-i.result c.index-back-j.result
    c.requires.front c.requires.back c.loop-i-test.true c.if-j-back.true c.index-front-i.is c.index-back-j.is c.if-first-second.true
    c.in_ok-push.ensures.items c.loop-i.invariant

pub loop-i-preserved : goal.loop-i-preserved
loop-i-preserved c =
    merged_back c.args.front.now c.args.back.now c.loop-i.all.items c.push-else-first-second.new.self.items c.loop-i.i c.loop-i.j c.index-front-i.result c.index-back-j.result
    c.requires.front c.requires.back c.loop-i-test.true c.if-j-back.true c.index-front-i.is c.index-back-j.is c.if-first-second.false
    c.in_ok-push-2.ensures.items c.loop-i.invariant

past : (c : goal.In_ok-extend_from_slice-2) → (length c.args.front.now ≤ c.loop-i.i) ⊎ (length c.args.back.now ≤ c.loop-i.j)
past c = elim c.loop-i-test.branch [ then-loop-i-test+else-j-back w ↦ inr w.if-j-back.false | else-loop-i-test w ↦ inl w.loop-i-test.false ]

pub returns : goal.returns
returns c =
    let i = c.loop-i.i in
    let j = c.loop-i.j in
    let front = c.args.front.now in
    let back = c.args.back.now in
    let put_front = c.in_ok-extend_from_slice.ensures.items in
    ap read (c.in_ok-extend_from_slice-2.ensures.items ∙ ap (λ rs. rs ++ take (length back - j) (drop j back)) put_front)
    ∙ merged_rest front back c.loop-i.all.items i j c.requires.front c.requires.back (past c) c.loop-i.invariant
