use Rattle.std.proofs.Common.{◌≡◌, ◌+ℤ◌, ◌≤◌, length, to_z, arith}
use Rattle.std.specs.Int.{w128}
use Rattle.std.proofs.lemmas.Int.{ints}
use Rattle.escrow_num.specs.Amount.{IsAmount}
use Rattle.escrow_checks.specs.Parts.{rest_in, wholes_in}
use Rattle.escrow_checks.specs.Contribution.{IsTermSum}
use Rattle.escrow_checks.proofs.PartsLemmas.{total-joined}
use Rattle.escrow_checks.proofs.TermLemmas.{sum_next, sum_all}
use Rattle.escrow_checks.proofs.condition.sums.number_sum.Goals as goal

pub loop-term-preserved : goal.loop-term-preserved
loop-term-preserved c =
    let t = c.term-item.result in
    let i = c.loop-term.term-index in
    let terms = c.args.terms.now in
    let whole_amount : IsAmount c.wholes_in.result = (omega (arith, ints, c.wholes_in.type_inv), omega (arith, ints, c.wholes_in.type_inv)) in
    let rest_amount : IsAmount c.rest_in.result = (omega (arith, ints, c.rest_in.type_inv), omega (arith, ints, c.rest_in.type_inv)) in
    let whole_small : IsTermSum c.loop-term.whole = (omega (arith, ints), omega (arith, ints)) in
    let rest_small : IsTermSum c.loop-term.rest = (omega (arith, ints), omega (arith, ints)) in
    let whole_adds : c.plus-whole.result ≡ c.loop-term.whole +ℤ c.wholes_in.result = omega (arith, ints, c.plus-whole.ensures, c.loop-term.whole-is) in
    let rest_adds : c.plus-rest.result ≡ c.loop-term.rest +ℤ c.rest_in.result = omega (arith, ints, c.plus-rest.ensures, c.loop-term.rest-is) in
    record {
      wholes = sum_next wholes_in terms i t (to_z w128 c.loop-term.whole-bits) c.loop-term.whole c.wholes_in.result c.plus-whole.result c.loop-term-test.true c.term-item.is c.wholes_in.ensures whole_amount c.loop-term.whole-is whole_small whole_adds c.loop-term.invariant.wholes;
      rests = sum_next rest_in terms i t (to_z w128 c.loop-term.rest-bits) c.loop-term.rest c.rest_in.result c.plus-rest.result c.loop-term-test.true c.term-item.is c.rest_in.ensures rest_amount c.loop-term.rest-is rest_small rest_adds c.loop-term.invariant.rests;
    }

pub returns-clause-value : goal.returns-clause-value
returns-clause-value c =
    let past : length c.args.terms.now ≤ c.loop-term.term-index = c.loop-term-test.false in
    let whole = sum_all wholes_in c.args.terms.now c.loop-term.term-index (to_z w128 c.loop-term.whole-bits) past c.loop-term.invariant.wholes in
    let rest = sum_all rest_in c.args.terms.now c.loop-term.term-index (to_z w128 c.loop-term.rest-bits) past c.loop-term.invariant.rests in
    rw (whole, rest) (total-joined c.args.terms.now)
