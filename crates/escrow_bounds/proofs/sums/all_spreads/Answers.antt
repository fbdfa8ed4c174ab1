use Rattle.std.proofs.Common.{◌≡◌, length, refl, ap, ◌∙◌, arith, length-append, [], ◌∷◌}
use Rattle.escrow_bounds.specs.Columns.{column_checks}
use Rattle.escrow_bounds.specs.Listed.{columns_from}
use Rattle.escrow_bounds.specs.Place.{checks_of}
use Rattle.escrow_bounds.proofs.Listing.{columns_more, columns_empty}
use Rattle.escrow_bounds.proofs.sums.all_spreads.Goals as goal
use Rattle.escrow_bounds.proofs.sums.all_spreads.Goals.{After-loop}

pub loop-init : goal.loop-init
loop-init c = rw c.in_ok-spreads.ensures.items (record { many = refl; checks = refl; sums = tt })

pub loop-preserved : goal.loop-preserved
loop-preserved c =
    let n = c.args.columns in
    let spreads = c.loop.spreads.items in
    let many = c.loop.invariant.many in
    rw c.in_ok-push.ensures.items (record {
      many = omega (arith, many, length-append spreads (c.new.result ∷ []));
      checks = columns_more n c.loop.counter spreads c.new.result many c.loop.invariant.checks;
      sums = columns_empty n 0 spreads c.new.result c.new.ensures c.loop.invariant.sums;
    })

-- after the last column there is one for each
same : (c : After-loop) → length c.loop.spreads.items ≡ c.args.columns
same c = omega (arith, c.loop.invariant.many, c.loop-test.false, c.loop.auto.counter-end)

pub returns-clause-checks : goal.returns-clause-checks
returns-clause-checks c =
    let here = (goal.at.returns-clause-checks c).After-loop in
    let counted : c.loop.counter ≡ c.args.columns = omega (arith, same here, c.loop.invariant.many) in
    ap (λ n. checks_of (columns_from n 0 c.loop.spreads.items)) (same here) ∙ c.loop.invariant.checks ∙ ap (column_checks c.args.columns) counted

pub returns-clause-sums : goal.returns-clause-sums
returns-clause-sums c =
    let here = (goal.at.returns-clause-sums c).After-loop in
    rw (same here) c.loop.invariant.sums
