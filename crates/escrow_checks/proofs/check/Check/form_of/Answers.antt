use Rattle.std.proofs.Common.{◌≡◌, ℤ, pos, ◌+ℤ◌, ◌*ℤ◌, ap, ap₂, sym, ◌∙◌, to_z, of_z, arith}
use Rattle.std.specs.Int.{w128}
use Rattle.std.proofs.lemmas.Int.{ints, to_z-of_z}
use Rattle.std.proofs.lemmas.List.Sums.{fold_more}
use Rattle.escrow_checks.specs.Contribution.{IsContribution}
use Rattle.escrow_checks.specs.Listed.{with_column}
use Rattle.escrow_checks.proofs.check.Check.form_of.Goals as goal

-- a contribution fits into 128 bits
same : (z : ℤ) → IsContribution z → to_z w128 (of_z w128 z) ≡ z
same z small = to_z-of_z w128 z (omega (arith, ints, small.0, small.1))

pub loop-column-preserved : goal.loop-column-preserved
loop-column-preserved c =
    let i = c.loop-column.column-index in
    let listed = c.columns-listed.result.now in
    let with_next = with_column c.args.self.now.coeffs c.args.amounts.now in
    let held = to_z w128 c.loop-column.sum-bits in
    let added = c.product-sum.result in
    let before = c.loop-column.invariant in
    let within = c.product-sum.ensures.within in
    let few = c.columns-listed.ensures.few in
    let added_same = same added (omega (arith, ints, within.0), omega (arith, ints, within.1)) in
    let small : IsContribution (held +ℤ added) = (omega (arith, ints, before.low, within.0, few, c.loop-column-test.true), omega (arith, ints, before.high, within.1, few, c.loop-column-test.true)) in
    let next = ap (λ z. to_z w128 (of_z w128 (held +ℤ z))) added_same ∙ same (held +ℤ added) small in
    let coefficient = rw c.as_slice-coeffs.ensures.value at c.coefficient_at.ensures.value in
    let amount = rw c.amounts-row.ensures at c.amount_at.ensures in
    let of_column = c.product-sum.ensures.value ∙ ap₂ (λ x y. x *ℤ y) coefficient amount in
    record {
      sum = next ∙ ap₂ (λ x y. x +ℤ y) before.sum of_column
          ∙ sym (fold_more with_next (pos 0) listed i 0 c.loop-column-test.true);
      low = rw next (omega (arith, ints, before.low, within.0));
      high = rw next (omega (arith, ints, before.high, within.1));
    }
