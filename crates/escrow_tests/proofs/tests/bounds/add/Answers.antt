use Rattle.escrow_tests.proofs.Placed.{one_more}
use Rattle.escrow_tests.proofs.tests.bounds.add.Goals as goal

pub returns : goal.returns
returns c = λ held placed. one_more c.args.bounds.now c.add.new.self c.args.row.now c.args.changes.now held c.add.ensures.takes placed
