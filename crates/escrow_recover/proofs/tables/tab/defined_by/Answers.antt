use Rattle.std.proofs.Common.{◌∙◌, sym}
use Rattle.escrow_recover.proofs.Only.{defined_by}
use Rattle.escrow_recover.proofs.Tab.{passed_on, printed_so, same_texts}
use Rattle.escrow_recover.proofs.tables.tab.defined_by.Goals as goal

pub returns-in_err-table-clause-foreign : goal.returns-in_err-table-clause-foreign
returns-in_err-table-clause-foreign c = λ told table is canon.
    c.created_by.ensures.foreign (passed_on c.from_residual.result c.created_by.result _ _ c.from_residual.ensures.1 c.in_err-table.was told) table
    (defined_by c.args.text.now table is canon)

pub returns-else-eq-clause-foreign : goal.returns-else-eq-clause-foreign
returns-else-eq-clause-foreign c = λ told table is canon.
    let same = printed_so c.args.text.now c.in_ok-printed.printed c.in_ok-table.table c.in_ok-table.ensures.table c.in_ok-printed.ensures.text table is canon in
    same_texts c.as_str.result.now c.args.text.now (c.as_str.ensures.value ∙ same) (sym c.eq.ensures ∙ c.if-eq.false)
