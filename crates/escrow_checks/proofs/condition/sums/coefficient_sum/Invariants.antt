use Rattle.escrow_checks.specs.Checks.{coefficient_in}
use Rattle.escrow_checks.proofs.TermLemmas.{IsSumTo}
use Rattle.escrow_checks.proofs.condition.sums.coefficient_sum.Given as goal

abbrev pub invariant-loop-term : goal.invariant-loop-term
invariant-loop-term l = IsSumTo (coefficient_in l.column) l.terms l.term-index l.sum
