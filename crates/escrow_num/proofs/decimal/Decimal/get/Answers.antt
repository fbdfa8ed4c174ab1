use Rattle.std.proofs.Common.{arith}
use Rattle.std.proofs.lemmas.Int.{ints}
use Rattle.escrow_num.proofs.DecimalLemmas.{decimal-within}
use Rattle.escrow_num.proofs.decimal.Decimal.get.Goals as goal

pub returns-clause-within : goal.returns-clause-within
returns-clause-within c =
    let bounds = decimal-within c.self.inside.millionths c.self.invariant in
    (omega (arith, ints, bounds.0), omega (arith, ints, bounds.1))
