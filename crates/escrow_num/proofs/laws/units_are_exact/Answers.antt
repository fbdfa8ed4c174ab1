use Rattle.escrow_num.proofs.UnitLemmas.{units-exact}
use Rattle.escrow_num.proofs.laws.units_are_exact.Goals as goal

pub returns : goal.returns
returns c = record {
  exact = units-exact;
}
