use Rattle.std.proofs.Common.{refl, arith}
use Rattle.std.proofs.lemmas.Int.{ints}
use Rattle.escrow_checks.proofs.Products.{product_bound, product_in_128}
use Rattle.escrow_checks.proofs.check.product.Goals as goal

pub returns-clause-within : goal.returns-clause-within
returns-clause-within c =
    let fits = rw c.get-2.ensures.value at c.get-2.ensures.within in
    let is = product_in_128 c.args.coefficient c.args.amount c.from.result c.from-2.result _ c.requires fits (omega (arith, ints)) (omega (arith, ints)) refl in
    rw is (product_bound c.args.coefficient c.args.amount c.requires fits)
