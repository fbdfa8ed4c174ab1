use Rattle.std.proofs.Common.{◌≡◌, ◌+◌, ◌-◌, List, [], ap, ◌∙◌, arith}
use Rattle.escrow_checks.specs.declared.check.Check.{Check}
use Rattle.escrow_checks.specs.Grant.{broken}
use Rattle.escrow_bounds.specs.Listed.{all_tracked}
use Rattle.escrow_bounds.proofs.Altering.{some_tracked, some_values, some_covered, some_sums, some_checks}
use Rattle.escrow_bounds.proofs.place.Place.violation.Goals as goal

pub returns : goal.returns
returns c =
    let first = c.args.first in
    let count = c.args.count in
    let amounts = c.self.inside.amounts.items in
    let list = c.self.inside.list.value in
    let sums = c.self.inside.sums.items in
    let forms = all_tracked list sums in
    let n : first + count - first ≡ count = omega arith in
    let found = rw (n, c.as_slice.ensures, c.deref.ensures, c.deref-2.ensures.value, c.deref-3.ensures.value, some_tracked list sums first count) at c.first_violation.ensures in
    rw (← c.self.view_is) (λ reservations counts.
    found amounts reservations (some_values forms amounts c.self.inside.values.items first count c.self.invariant.1) (some_covered forms amounts first count c.self.invariant.0.covered) (some_sums forms reservations first count counts.1)
    ∙ ap (λ (checks : List Check). broken checks amounts [] reservations) (some_checks forms first count))
