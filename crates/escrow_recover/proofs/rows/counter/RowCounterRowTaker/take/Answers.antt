use Rattle.std.proofs.Common.{Ok, ap}
use Rattle.escrow_recover.proofs.Counting.{taken_row, passed_row}
use Rattle.escrow_recover.proofs.rows.counter.RowCounterRowTaker.take.Goals as goal
use Rattle.escrow_recover.proofs.rows.counter.RowCounterRowTaker.take.Goals.{then-self+in_ok-self, else-self}

pub returns : goal.returns
returns c = λ first rows taken.
    let old = c.args.self.now in
    elim c.if-self.branch [
      | then-self+in_ok-self w ↦
          let counted = w.in_ok-self.ensures in
          rw w.self-is (taken_row first old w.count.new.self w.in_ok-self.field-0 rows c.args.row taken w.if-self.true counted.done (λ no. counted.other (ap Ok no)))
      | else-self w ↦ rw w.self-is (passed_row first old rows c.args.row taken w.if-self.false)
    ]
