use Rattle.std.proofs.Common.{subst, sym}
use Rattle.escrow_num.specs.Decimal.{IsDecimal}
use Rattle.escrow_num.proofs.DecimalLemmas.{decimal-negated, negated-fits, negated-is}
use Rattle.escrow_num.proofs.decimal.Decimal.negated.Goals as goal

pub overflow_sub-result : goal.overflow_sub-result
overflow_sub-result c = negated-fits c.self.inside.millionths c.self.invariant

pub invariant_of-result : goal.invariant_of-result
invariant_of-result c = subst IsDecimal (sym (negated-is c.self.inside.millionths c.self.invariant)) (decimal-negated c.self.inside.millionths c.self.invariant)

pub returns : goal.returns
returns c = rw (← c.self.view_is) (negated-is c.self.inside.millionths c.self.invariant)
