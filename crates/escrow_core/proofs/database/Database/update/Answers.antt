use Rattle.std.proofs.lemmas.Bool.{false≢true}
use Rattle.escrow_statement.specs.declared.statement.Statement.TheVariants as statement
use Rattle.escrow_core.proofs.Planned.{judged}
use Rattle.escrow_core.proofs.Serving.{refusal_serves}
use Rattle.escrow_core.proofs.database.Database.update.Goals as goal

pub returns-in_err-place-clause-answers : goal.returns-in_err-place-clause-answers
returns-in_err-place-clause-answers g c =
    refusal_serves g.S.Store c.args.session (statement.Update c.args.text.now) c.args.self.now c.from_residual.result c.in_err-place.field-0.0 c.from_residual.ensures.1 (c.in_err-place.ensures.refused c.args.session)

pub returns-in_err-place-clause-against : goal.returns-in_err-place-clause-against
returns-in_err-place-clause-against g c = λ first.
    let is = judged c.args.self.now.state c.args.text.now first in
    absurd (false≢true (c.in_err-place.ensures.in_place is.asked is.plan is.free))

pub returns-in-Reserve-clause-against : goal.returns-in-Reserve-clause-against
returns-in-Reserve-clause-against g c = λ first. c.reserve.ensures.against (judged c.args.self.now.state c.args.text.now first).beside
