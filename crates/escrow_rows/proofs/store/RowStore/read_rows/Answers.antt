use Rattle.std.proofs.Common.{◌≡◌, ap, length, rules, sym, ◌∙◌, subst, w64, ◌<◌, arith, IsTrue}
use Rattle.std.proofs.lemmas.Int.{to_z-of_z}
use Rattle.sqlite.specs.Held.{state}
use Rattle.escrow_schema.proofs.RuleLemmas.{key_stands}
use Rattle.escrow_cells.specs.Store.{IsStore}
use Rattle.escrow_rows.specs.declared.span.Span.{Span}
use Rattle.escrow_rows.specs.Reading.{ReadsRows}
use Rattle.escrow_rows.proofs.RowsRead.{read_of}
use Rattle.escrow_rows.proofs.store.RowStore.read_rows.Goals as goal

pub returns-clause-read : goal.returns-clause-read
returns-clause-read g c = λ clean.
    let table = c.args.table.now in
    let some = key_stands table.table c.requires in
    let fresh = c.new-reader.result in
    let is = c.new-reader.ensures in
    let whole : Span = record { start = 0; len = length table.table.columns } in
    let span : fresh.span ≡ whole = is.span_is ∙ ap (λ n. let made : Span = record { start = 0; len = n } in made) c.len.ensures in
    let number = to_z-of_z w64 table.id (search rules) in
    let long : 0 < fresh.span.len = subst (λ (s : Span). 0 < s.len) (sym span) (omega (arith, some)) in
    let new = state g.S.Store c.table_cells.new.conn in
    let db = (state g.S.Store c.args.self.now).now in
    subst (λ taker. IsTrue new.is_open × (IsStore db → ReadsRows g.T.RowTaker.has_taken g.T.RowTaker.is_enough table db taker c.finish.result)) is.taker_is
    (read_of g.T.RowTaker.has_taken g.T.RowTaker.is_enough fresh c.table_cells.new.sink is.empty is.key_held is.fits is.wanting long
    g.S.Store c.self.inside.conn c.args.self.now c.table_cells.new.conn table _ c.finish.result c.self.view_is number span
    (c.in_ok-table_cells.ensures.is_open clean) (c.in_ok-table_cells.ensures.rows clean) c.finish.ensures.some c.finish.ensures.none)
