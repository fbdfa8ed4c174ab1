use Rattle.std.proofs.Common.{refl, sym}
use Rattle.escrow_statement.specs.declared.statement.Statement.TheVariants as statement
use Rattle.escrow_machine.specs.declared.reply.Reply.TheVariants as reply
use Rattle.escrow_core.proofs.Queries.{select_answers}
use Rattle.escrow_core.proofs.Serving.{early_refused, left_by, look_answered}
use Rattle.escrow_core.proofs.Shown.{shows}
use Rattle.escrow_core.proofs.database.Database.select.Goals as goal

pub returns-in_err-place : goal.returns-in_err-place
returns-in_err-place g c = λ session.
    rw (left_by _ _ c.from_residual.ensures.1)
    (early_refused g.S.Store session (statement.Select c.args.text.now) c.args.self.now c.in_err-place.field-0.0 (sym (c.in_err-place.ensures.early session)))

pub returns : goal.returns
returns g c = λ session.
    let d = c.args.self.now in
    let text = c.args.text.now in
    let columns = c.in_ok-columns.columns in
    let rows = c.in_ok-rows.rows in
    let early = sym (c.in_ok-place.ensures.early session) in
    look_answered g.S.Store session (statement.Select text) d c.shown_values.new.self (reply.Rows columns rows) c.shown_values.ensures.only_reads refl early refl
    (λ u. select_answers d.state session text (reply.Rows columns rows) early
    (shows d.state text columns rows (c.in_ok-columns.ensures text.table c.in_ok-place.ensures.place) (c.in_ok-rows.ensures.told u)))
