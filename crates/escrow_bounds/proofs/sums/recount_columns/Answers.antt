use Rattle.std.proofs.Common.{◌≡◌, ◌<◌, ◌≤◌, ℕ, List, length, get_or, refl, ap, ◌∙◌, subst, arith, sym, ◌+◌}
use Rattle.escrow_checks.specs.Form.{form}
use Rattle.escrow_checks.specs.declared.check.Check.{Check}
use Rattle.escrow_checks.specs.declared.spread.Spread.{Spread}
use Rattle.escrow_bounds.specs.Columns.{column_check}
use Rattle.escrow_bounds.specs.Listed.{tracked_column, columns_from, all_columns}
use Rattle.escrow_bounds.specs.Place.{Tracked}
use Rattle.escrow_bounds.specs.Recounting.{counted_before, AreRecounted}
use Rattle.escrow_bounds.proofs.Forms.{Recount, sums_at, are_recounted}
use Rattle.escrow_bounds.proofs.Listing.{column_here, column_put, length-columns}
use Rattle.escrow_bounds.proofs.Steps.{Stepped, stepped_first, stepped_at, stepped_more, stepped_last}
use Rattle.escrow_bounds.proofs.sums.recount_columns.Goals as goal
use Rattle.escrow_bounds.proofs.sums.recount_columns.Goals.{After-form_of-contribution}

pub loop-i-init : goal.loop-i-init
loop-i-init c = stepped_first (Recount c.args.counting c.args.changes.now) (columns_from (length c.args.columns.now) 0 c.args.columns.now)

-- the contribution is that of the column
contributes : (c : After-form_of-contribution) → c.form_of-contribution.result ≡ form (column_check (length c.args.columns.now) c.loop-i.i).coeffs c.args.changes.now
contributes c = c.form_of-contribution.ensures.value ∙ ap (λ (check : Check). form check.coeffs c.args.changes.now) c.column_check.ensures

below : (c : After-form_of-contribution) → c.loop-i.i < length (columns_from (length c.args.columns.now) 0 c.loop-i.columns)
below c =
    let n = length c.args.columns.now in
    omega (arith, length-columns n 0 c.loop-i.columns, c.loop-i.auto.columns, c.loop-i-test.true)

pub spread-requires-clause-counted : goal.spread-requires-clause-counted
spread-requires-clause-counted c =
    let here = (goal.at.spread-requires-clause-counted c).After-form_of-contribution in
    let n = length c.args.columns.now in
    let i = c.loop-i.i in
    let spread = get_or c.loop-i.columns i c.index-columns-i.result in
    let at_i : spread ≡ get_or c.loop-i.columns i spread = subst (λ (s : Spread). s ≡ get_or c.loop-i.columns i s) c.index-columns-i.is c.index-columns-i.is in
    let given = c.requires.counted in
    let within : i < length c.loop-i.columns = omega (arith, c.loop-i.auto.columns, c.loop-i-test.true) in
    let is = column_here n c.loop-i.columns i spread within at_i in
    let at = stepped_at (Recount c.args.counting c.args.changes.now) i (columns_from n 0 c.args.columns.now) (columns_from n 0 c.loop-i.columns) (tracked_column n i spread) (below here) c.loop-i.invariant is in (
      (column_check n i).coeffs,
      given.0,
      c.args.changes.now,
      given.1,
      sums_at (columns_from n 0 c.args.columns.now) (counted_before c.args.counting given.0 c.args.changes.now given.1) i (tracked_column n i spread) at.0 at.1 given.2,
      contributes here,
      given.3,
    )

pub loop-i-preserved : goal.loop-i-preserved
loop-i-preserved c =
    let here = (goal.at.loop-i-preserved c).After-form_of-contribution in
    let n = length c.args.columns.now in
    let i = c.loop-i.i in
    let spread = get_or c.loop-i.columns i c.index-columns-i.result in
    let at_i : spread ≡ get_or c.loop-i.columns i spread = subst (λ (s : Spread). s ≡ get_or c.loop-i.columns i s) c.index-columns-i.is c.index-columns-i.is in
    let within : i < length c.loop-i.columns = omega (arith, c.loop-i.auto.columns, c.loop-i-test.true) in
    let is = column_here n c.loop-i.columns i spread within at_i in
    subst (λ (forms : List Tracked). Stepped (Recount c.args.counting c.args.changes.now) (i + 1) (columns_from n 0 c.args.columns.now) forms) (sym (column_put n c.loop-i.columns i c.spread.result))
    (stepped_more (Recount c.args.counting c.args.changes.now) i (columns_from n 0 c.args.columns.now) (columns_from n 0 c.loop-i.columns) (tracked_column n i spread) (tracked_column n i c.spread.result) (below here) c.loop-i.invariant is
    (refl, λ before after known. c.spread.ensures (column_check n i).coeffs before c.args.changes.now after known (contributes here)))

pub returns : goal.returns
returns c =
    let n = length c.args.columns.now in
    let many = c.loop-i.auto.columns in
    let past : length (columns_from n 0 c.loop-i.columns) ≤ c.loop-i.i = omega (arith, length-columns n 0 c.loop-i.columns, many, c.loop-i-test.false) in
    let all = stepped_last (Recount c.args.counting c.args.changes.now) c.loop-i.i (columns_from n 0 c.args.columns.now) (columns_from n 0 c.loop-i.columns) past c.loop-i.invariant in
    subst (λ (k : ℕ). AreRecounted c.args.counting c.args.changes.now (all_columns c.args.columns.now) (columns_from k 0 c.loop-i.columns)) (sym many)
    (are_recounted c.args.counting c.args.changes.now (columns_from n 0 c.args.columns.now) (columns_from n 0 c.loop-i.columns) all)
