use Rattle.std.proofs.Common.{sym, ◌∙◌}
use Rattle.escrow_tables.proofs.JudgedRows.{passed_rows}
use Rattle.escrow_tables.proofs.judged.RowsJudgedRowTaker.is_done.Goals as goal

pub returns-clause-done : goal.returns-clause-done
returns-clause-done g c = λ some first rows more has. passed_rows g.J.RowJudge.table g.J.RowJudge.violation first c.args.self.now rows has more (sym c.is_some.ensures ∙ some)
