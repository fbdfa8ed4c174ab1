use Rattle.escrow_checks.specs.Parts.{rest_in, wholes_in}
use Rattle.escrow_checks.proofs.TermLemmas.{IsSumTo}
use Rattle.escrow_checks.proofs.condition.sums.number_sum.Given as goal

abbrev pub invariant-loop-term : goal.invariant-loop-term
invariant-loop-term l = record {
  wholes : IsSumTo wholes_in l.terms l.term-index l.whole;
  rests : IsSumTo rest_in l.terms l.term-index l.rest;
}
