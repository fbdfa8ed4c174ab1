use Rattle.std.proofs.Common.{◌<◌, sym, subst, rules}
use Rattle.sqlite.specs.Held.{state}
use Rattle.escrow_rows.specs.declared.span.Span.{Span}
use Rattle.escrow_rows.proofs.RowsRead.{spans_read}
use Rattle.escrow_rows.proofs.store.RowStore.read_spans.Goals as goal

pub returns-clause-taken : goal.returns-clause-taken
returns-clause-taken g c = λ clean.
    let span = c.args.span in
    let fresh = c.new-reader.result in
    let is = c.new-reader.ensures in
    let cells = c.in_ok-each_cell.ensures.taken clean in
    let long : 0 < fresh.span.len = subst (λ (s : Span). 0 < s.len) (sym is.span_is) c.requires.some in
    let found = spans_read g.T.RowTaker.has_taken g.T.RowTaker.is_enough fresh c.each_cell.new.reader is.empty is.key_held is.fits is.wanting long
    c.args.table.now (state g.S.Store c.args.self.now).now span.start span.len c.finish.result is.span_is c.requires.within cells.1 c.finish.ensures.some c.finish.ensures.none in
    search (rules, cells.0, found, is.taker_is)
