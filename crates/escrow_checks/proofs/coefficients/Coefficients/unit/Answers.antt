use Rattle.std.proofs.Common.{rules}
use Rattle.escrow_checks.proofs.CoefficientsLemmas.{unit_kept}
use Rattle.escrow_checks.proofs.coefficients.Coefficients.unit.Goals as goal

pub invariant_of-result : goal.invariant_of-result
invariant_of-result c =
    let known = unit_kept c.args.len c.args.place c.unwrap-zero.result c.unwrap-one.result (search rules) (search rules) c.requires.within c.requires.few in
    (known.are, known.few, known.whole)

pub returns : goal.returns
returns c = (unit_kept c.args.len c.args.place c.unwrap-zero.result c.unwrap-one.result (search rules) (search rules) c.requires.within c.requires.few).shown
