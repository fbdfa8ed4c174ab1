use Rattle.std.proofs.Common.{[], ◌∷◌, ap, not, ◌∙◌, refl}
use Rattle.escrow_tables.proofs.JudgedRows.{judged_row, passed_rows}
use Rattle.escrow_tables.proofs.judged.RowsJudgedRowTaker.take.Goals as goal

pub returns-in_ok-self : goal.returns-in_ok-self
returns-in_ok-self g c = λ first rows has.
    judged_row g.J.RowJudge.table g.J.RowJudge.violation first c.args.self.now rows has c.args.row _ (c.is_none.ensures ∙ ap not c.if-is_none.true) refl c.in_ok-self.ensures

pub returns-else-is_none : goal.returns-else-is_none
returns-else-is_none g c = λ first rows has.
    passed_rows g.J.RowJudge.table g.J.RowJudge.violation first c.args.self.now rows has (c.args.row ∷ []) (c.is_none.ensures ∙ ap not c.if-is_none.false)
