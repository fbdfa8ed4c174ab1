use Rattle.std.proofs.Common.{◌≡◌, ap, ◌∙◌}
use Rattle.std.proofs.lemmas.Result.{IfOk-weaker}
use Rattle.sqlite.specs.Held.{state}
use Rattle.escrow_rows.specs.Whole.{rows_with}
use Rattle.escrow_rows.proofs.WholeRows.{rows_made}
use Rattle.escrow_rows.proofs.store.RowStore.rows.Goals as goal

pub returns-clause-told : goal.returns-clause-told
returns-clause-told g c = λ clean.
    let table = c.args.table.now in
    let db = (state g.S.Store c.args.self.now).now in
    let told = c.in_ok-all.ensures.told clean in
    IfOk-weaker c.made_rows.result (λ rows. rows ≡ rows_with table.table c.as_slice.result.now) _
    (λ rows is. (told.0, rows_made table db c.in_ok-all.all rows c.requires told.1 (is ∙ ap (rows_with table.table) c.as_slice.ensures))) c.made_rows.ensures
