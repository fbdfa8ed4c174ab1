use Rattle.std.proofs.Common.{ap, ◌∙◌, Vec, Global, arith}
use Rattle.escrow_journal.specs.Journal.{Journal}
use Rattle.escrow_txn.proofs.Empty.{empty_push}
use Rattle.escrow_txn.proofs.journals.empty_journals.Goals as goal
use Rattle.escrow_txn.proofs.journals.empty_journals.Goals.{in-Some+in_ok-push, in_default}

pub loop-below-preserved : goal.loop-below-preserved
loop-below-preserved c = elim c.match-new.branch [
  | in-Some+in_ok-push w ↦
      let pushed = ap (λ (v : Vec Journal Global). v.items) w.journals-is ∙ w.in_ok-push.ensures.items in
      empty_push c.loop-below.below w.in-Some.session c.match-new.journals.items c.loop-below.journals.items w.new-in-Some.result
      c.loop-below.invariant w.in-Some.ensures.1 w.new-in-Some.ensures pushed
  | in_default w ↦ absurd (w.in_default.ensures (omega arith, omega arith))
]
