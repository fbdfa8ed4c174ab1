use Rattle.std.proofs.Common.{◌≡◌, ◌∙◌, ap}
use Rattle.escrow_checks.specs.declared.check.Check.{Check}
use Rattle.escrow_checks.specs.Form.{form}
use Rattle.escrow_bounds.specs.Listed.{listed}
use Rattle.escrow_bounds.proofs.Listing.{listed_is}
use Rattle.escrow_bounds.proofs.sums.Sum.recount.Goals as goal
use Rattle.escrow_bounds.proofs.sums.Sum.recount.Goals.{After-form_of-contribution}

-- the contribution is that of the sum's check
contributes : (c : After-form_of-contribution) → c.form_of-contribution.result ≡ form (listed c.args.list.now c.args.self.now.check).coeffs c.args.changes.now
contributes c =
    c.form_of-contribution.ensures.value
    ∙ ap (λ (check : Check). form check.coeffs c.args.changes.now) (listed_is c.args.list.now c.args.self.now.check c.index-list-self.result c.requires.listed c.index-list-self.is)

pub spread-self-requires-clause-counted : goal.spread-self-requires-clause-counted
spread-self-requires-clause-counted c =
    let given = c.requires.counted in
    let here = (goal.at.spread-self-requires-clause-counted c).After-form_of-contribution in
    ((listed c.args.list.now c.args.self.now.check).coeffs, given.0, c.args.changes.now, given.1, given.2, contributes here, given.3)

pub returns-clause-counted : goal.returns-clause-counted
returns-clause-counted c = λ before after known.
    let here = (goal.at.returns-clause-counted c).After-form_of-contribution in
    c.spread-self.ensures (listed c.args.list.now c.args.self.now.check).coeffs before c.args.changes.now after known (contributes here)
