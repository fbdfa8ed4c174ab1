use Rattle.escrow_bounds.proofs.Steps.{Stepped}
use Rattle.escrow_bounds.proofs.Listing.{RecountSum}
use Rattle.escrow_bounds.proofs.sums.recount.Given as goal

abbrev pub invariant-loop-sum : goal.invariant-loop-sum
invariant-loop-sum l = Stepped (RecountSum l.list l.counting l.changes) l.sum-index l.initial.sums l.sums
