use Rattle.escrow_sql.proofs.Factoring.{factored, flipped, fault_kept}
use Rattle.escrow_sql.proofs.laws.factoring_keeps_sentences.Goals as goal

pub returns : goal.returns
returns c = record {
  sentences = λ tokens r. (factored.kept tokens r, factored.back tokens r);
  faults = λ tokens k. (fault_kept factored tokens k, fault_kept (flipped factored) tokens k);
}
