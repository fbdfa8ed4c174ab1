use Rattle.std.proofs.Common.{ap, arith, length, subst}
use Rattle.escrow_schema.specs.Fit.{FitColumns}
use Rattle.escrow_schema.proofs.BackLemmas.{as_many_fit, fit_row_of}
use Rattle.escrow_schema.proofs.row.row_of.Goals as goal

-- the values fit the table's columns
fit : (c : goal.Else-not-fit_columns) → FitColumns c.args.table.now.columns c.args.values.now
fit c = subst (λ columns. FitColumns columns c.args.values.now) c.typed_columns.ensures.value (c.fit_columns.ensures.0 c.if-not-fit_columns.false)

pub row_with-requires-clause-as_many : goal.row_with-requires-clause-as_many
row_with-requires-clause-as_many c = as_many_fit c.args.table.now.columns c.args.values.now (fit c)

pub row_with-requires-clause-key : goal.row_with-requires-clause-key
row_with-requires-clause-key c =
    let long = as_many_fit c.args.table.now.columns c.args.values.now (fit c) in
    let same = ap length c.typed_columns.ensures.value in
    let key = c.typed_columns.ensures.key in
    omega arith

pub returns-clause-some : goal.returns-clause-some
returns-clause-some c =
    let all = subst (λ columns. FitColumns columns c.args.values.now) c.typed_columns.ensures.value (c.fit_columns.ensures.0 c.if-not-fit_columns.false) in
    (c.in_ok-row.ensures, all, fit_row_of c.args.table.now c.args.values.now c.in_ok-row.row all c.in_ok-row.ensures)
