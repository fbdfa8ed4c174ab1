use Rattle.std.proofs.Common.{◌≡◌, true, Some, ap, arith, length, sym, subst, ◌∙◌}
use Rattle.std.specs.Prelude.{IfOk, is_some, option_and_then}
use Rattle.escrow_schema.specs.Asked.{asked_values, values_at}
use Rattle.escrow_schema.specs.Fit.{inserted_row, row_with}
use Rattle.escrow_schema.proofs.AskedLemmas.{length-values_at, list_of, row_of_values}
use Rattle.escrow_schema.proofs.RuleLemmas.{key_stands}
use Rattle.escrow_schema.proofs.fit.make_row.Goals as goal

pub values_at-requires : goal.values_at-requires
values_at-requires c =
    let text = c.args.text.now in
    subst (λ columns. is_some (values_at text.columns text.values 0 columns) ≡ true) (sym c.typed_columns.ensures.value)
    (subst (λ o. is_some o ≡ true) (list_of c.args.table.now.columns text c.requires.fit) c.requires.fit)

-- there are as many values as columns
as_many : goal.row_with-requires-clause-as_many
as_many c =
    let text = c.args.text.now in
    let columns = c.args.table.now.columns in
    let at : values_at text.columns text.values 0 columns ≡ Some c.in_ok-values.values.items =
    subst (λ cs. values_at text.columns text.values 0 cs ≡ Some c.in_ok-values.values.items) c.typed_columns.ensures.value c.in_ok-values.ensures in
    length-values_at text.columns text.values 0 columns c.in_ok-values.values.items at ∙ ap length (sym c.as_slice.ensures.value)

pub row_with-requires-clause-as_many : goal.row_with-requires-clause-as_many
row_with-requires-clause-as_many c = as_many c

pub row_with-requires-clause-key : goal.row_with-requires-clause-key
row_with-requires-clause-key c =
    let stands = key_stands c.args.table.now c.requires.table in
    let same = as_many c in
    omega arith

pub returns : goal.returns
returns c =
    let text = c.args.text.now in
    let table = c.args.table.now in
    let items = c.in_ok-values.values.items in
    let at : values_at text.columns text.values 0 table.columns ≡ Some items =
    subst (λ cs. values_at text.columns text.values 0 cs ≡ Some items) c.typed_columns.ensures.value c.in_ok-values.ensures in
    let asked : asked_values table.columns text ≡ Some items = list_of table.columns text c.requires.fit ∙ at in
    let made : inserted_row table text ≡ row_with table items = row_of_values table text ∙ ap (option_and_then (row_with table)) asked in
    rw made (subst (λ vs. IfOk c.row_with.result (λ row. row_with table vs ≡ Some row)) c.as_slice.ensures.value c.row_with.ensures)
