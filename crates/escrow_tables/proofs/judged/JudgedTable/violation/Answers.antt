use Rattle.std.proofs.Common.{◌≡◌, ◌+◌, ◌∙◌, List, [], ap, sym, subst, length, take, drop}
use Rattle.escrow_schema.specs.Column.{reservables}
use Rattle.escrow_schema.specs.declared.column.Column.{Column}
use Rattle.escrow_schema.specs.declared.table.TableDef.{TableDef}
use Rattle.escrow_rows.proofs.Spans.{reservables_in_span}
use Rattle.escrow_tables.proofs.judged.JudgedTable.violation.Goals as goal

pub violation-requires-clause-amounts : goal.violation-requires-clause-amounts
violation-requires-clause-amounts g c =
    let span = c.self.inside.span in
    let columns = c.self.inside.table.now.columns in
    let has = c.self.invariant.2 in
    let held : length c.as_slice.result.now ≡ length c.in_ok-amounts.amounts = ap length c.as_slice.ensures in
    let same : c.as_slice-columns.result.now ≡ columns = c.as_slice-columns.ensures in
    let before = subst (λ (cs : List Column). reservables (take span.start cs) ≡ []) (sym same) has.before in
    let behind = subst (λ (cs : List Column). reservables (drop (span.start + span.len) cs) ≡ []) (sym same) has.behind in
    let read = ap length (reservables_in_span columns c.as_slice-columns.result.now span.start span.len same before behind) in
    held ∙ c.in_ok-amounts.ensures.many ∙ read ∙ ap (λ (t : TableDef). length (reservables t.columns)) c.self.invariant.1
