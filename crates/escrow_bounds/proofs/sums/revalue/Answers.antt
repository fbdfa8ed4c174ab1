use Rattle.std.proofs.Common.{◌≡◌, ◌<◌, length, ap, ◌∙◌, arith}
use Rattle.std.proofs.lemmas.List.{length-set}
use Rattle.escrow_checks.specs.declared.check.Check.{Check}
use Rattle.escrow_checks.specs.Contribution.{IsContribution}
use Rattle.escrow_checks.specs.Form.{form}
use Rattle.escrow_bounds.proofs.Listing.{value_of, values_more, within_more, values_read, sum_listed, listed_is}
use Rattle.escrow_bounds.proofs.sums.revalue.Goals as goal

pub loop-i-preserved : goal.loop-i-preserved
loop-i-preserved c =
    let list = c.args.list.now in
    let amounts = c.args.amounts.now in
    let i = c.loop-i.i in
    let sum = c.index-sums-i.result in
    let value = c.form_of.result in
    let each = c.loop-i.invariant.each in
    let below = c.loop-i-test.true in
    let short : i < length c.loop-i.values = omega (arith, each, below) in
    let within = sum_listed list c.args.sums.now i sum below c.index-sums-i.is c.requires.listed in
    let is : value ≡ value_of list amounts sum =
    c.form_of.ensures.value ∙ ap (form c.index-list-sum.result.coeffs) c.of-row.ensures
    ∙ ap (λ (check : Check). form check.coeffs amounts) (listed_is list sum.check c.index-list-sum.result within c.index-list-sum.is) in
    record {
      each = length-set c.loop-i.values i value ∙ each;
      values = values_more list amounts c.loop-i.values c.args.sums.now i sum value short below c.index-sums-i.is is c.loop-i.invariant.values;
      within = within_more IsContribution c.loop-i.values i value c.form_of.ensures.within c.loop-i.invariant.within;
    }

pub returns-clause-values : goal.returns-clause-values
returns-clause-values c =
    values_read c.args.list.now c.args.amounts.now c.loop-i.values c.args.sums.now c.loop-i.i c.loop-i.invariant.each c.loop-i-test.false c.loop-i.invariant.values
