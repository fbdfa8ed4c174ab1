use Rattle.std.proofs.Common.{inl, refl}
use Rattle.escrow_reply.specs.Text.{rendered}
use Rattle.escrow_serve.proofs.ShownLemmas.{given_answers}
use Rattle.escrow_serve.proofs.TotalsLemmas.{text_answered}
use Rattle.std.specs.Prelude.{[], ◌∷◌}
use Rattle.escrow_machine.specs.declared.event.Event.TheVariants as event
use Rattle.escrow_serve.proofs.RanLemmas.{ran_shown, ran_statement}
use Rattle.escrow_serve.proofs.alone.serve_statement.Goals as goal

pub returns-clause-served : goal.returns-clause-served
returns-clause-served g c =
    let name = c.args.name.now in
    let old = c.args.database.now.state in
    let new = c.step-reply.new.self.state in
    let given = c.give-given.result in (
      rendered name c.args.session given,
      c.give-given.ensures.gathered,
      λ used text asks. text_answered name old new c.args.totals.now c.count.new.self c.args.session text given
          (given_answers old c.args.session text c.step-reply.result given new (inl (c.args.statement.now, asks, c.step-reply.ensures.event used)) c.give-given.ensures.given) c.count.ensures,
    )

pub returns-clause-ran : goal.returns-clause-ran
returns-clause-ran g c =
    let old = c.args.database.now in
    let new = c.step-reply.new.self in
    let answer = c.step-reply.result in
    let given = c.give-given.result in
    let asked = event.Statement c.args.session c.args.statement.now in (
      given,
      c.give-given.ensures.gathered,
      ran_shown g.S.Store old new (asked ∷ []) (answer ∷ []) (given ∷ []) (c.give-given.ensures.given, refl)
          (ran_statement g.S.Store old new c.args.session c.args.statement.now answer c.step-reply.ensures.event c.step-reply.ensures.usable c.step-reply.ensures.crash c.step-reply.ensures.durable),
    )
