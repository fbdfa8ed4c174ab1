use Rattle.std.proofs.Common.{arith}
use Rattle.escrow_bounds.proofs.Kept.{length-put}
use Rattle.escrow_bounds.proofs.sums.Counting.number.Goals as goal

pub returns-in-In : goal.returns-in-In
returns-in-In c = rw c.in-In.is (λ before changes after known. omega (arith, length-put before after changes, known))

pub returns-in-Out : goal.returns-in-Out
returns-in-Out c = rw c.in-Out.is (λ before changes after known. omega (arith, length-put before after changes, known))
