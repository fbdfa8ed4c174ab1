use Rattle.std.proofs.Common.{◌≡◌, ◌+ℤ◌, to_z, arith}
use Rattle.std.specs.Int.{w128}
use Rattle.std.proofs.lemmas.Int.{ints}
use Rattle.escrow_num.specs.Amount.{IsAmount}
use Rattle.escrow_checks.specs.Checks.{coefficient_in}
use Rattle.escrow_checks.specs.Contribution.{IsTermSum}
use Rattle.escrow_checks.proofs.TermLemmas.{sum_next}
use Rattle.escrow_checks.proofs.condition.sums.coefficient_sum.Goals as goal

pub loop-term-preserved : goal.loop-term-preserved
loop-term-preserved c =
    let before = c.loop-term.invariant in
    let within : IsAmount c.coefficient_in.result = (omega (arith, ints, c.coefficient_in.type_inv), omega (arith, ints, c.coefficient_in.type_inv)) in
    let small : IsTermSum c.loop-term.sum = (omega (arith, ints), omega (arith, ints)) in
    let adds : c.plus-sum.result ≡ c.loop-term.sum +ℤ c.coefficient_in.result = omega (arith, ints, c.plus-sum.ensures, c.loop-term.sum-is) in
    sum_next (coefficient_in c.args.column.now) c.args.terms.now c.loop-term.term-index c.term-item.result (to_z w128 c.loop-term.sum-bits) c.loop-term.sum c.coefficient_in.result c.plus-sum.result c.loop-term-test.true c.term-item.is c.coefficient_in.ensures within c.loop-term.sum-is small adds before
