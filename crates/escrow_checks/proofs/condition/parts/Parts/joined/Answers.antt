use Rattle.std.proofs.Common.{◌≡◌, ◌+ℤ◌, ℤ, FitsSigned, arith, ap, ◌∙◌}
use Rattle.std.specs.Int.{w128}
use Rattle.std.proofs.lemmas.Int.{ints, to_z-of_z}
use Rattle.escrow_checks.specs.Contribution.{IsDifference}
use Rattle.escrow_checks.specs.Parts.{AreFew, IsJoined, joined, millionths, rest, wholes}
use Rattle.escrow_checks.proofs.PartsLemmas.{carries, in_128, joined_in_128, joined_within, rest_within}
use Rattle.escrow_checks.proofs.condition.parts.Parts.joined.Goals as goal

pub returns-then-are_few-clause-some : goal.returns-then-are_few-clause-some
returns-then-are_few-clause-some c =
    let whole : ℤ = c.args.self.whole in
    let part : ℤ = c.args.self.rest in
    let carried : ℤ = c.carried-whole.result in
    let fits : FitsSigned w128 carried = omega (arith, ints, c.carried-whole.type_inv) in
    let few : AreFew carried = rw (to_z-of_z w128 carried fits) at (c.are_few.ensures.0 c.if-are_few.true) in
    let small : IsDifference carried = (omega (arith, ints, few.0), omega (arith, ints, few.1)) in
    let carries_to : carried ≡ whole +ℤ wholes part = rw (in_128 whole c.requires.0, in_128 part c.requires.1) at c.carried-whole.ensures in
    let leaves : c.left.result ≡ rest part = rw (in_128 part c.requires.1) at c.left.ensures in
    let is : c.together.result ≡ joined carried (rest part) = rw (in_128 carried small, leaves, in_128 (rest part) (rest_within part)) at c.together.ensures in
    let within : IsJoined (joined carried (rest part)) = joined_within carried part few in
    let number : joined carried (rest part) ≡ millionths c.args.self = ap (λ (z : ℤ). joined z (rest part)) carries_to ∙ carries whole part in
    rw (is, joined_in_128 (joined carried (rest part)) within) (number, within)
