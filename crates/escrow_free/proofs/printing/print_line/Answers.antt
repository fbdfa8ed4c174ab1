use Rattle.std.proofs.Common.{◌≡◌, ◌<◌, ℕ, Some, ◌∷◌, length, set, slice_get, sym, ap, ap₂, subst, ◌∙◌}
use Rattle.std.proofs.Common.{vec_len}
use Rattle.escrow_machine.specs.declared.reply.Reply.TheVariants as reply
use Rattle.escrow_reply.specs.Text.{rendered}
use Rattle.escrow_stats.specs.Text.{rendered_totals}
use Rattle.escrow_shards.proofs.Places.{there}
use Rattle.escrow_script.specs.Line.{database_name}
use Rattle.escrow_script.proofs.OutcomeLemmas.{at_ok}
use Rattle.escrow_free.specs.Outboxes.{outbox_of}
use Rattle.escrow_free.specs.Printing.{given_text, HasItsOutbox, PrintsTo}
use Rattle.escrow_free.specs.declared.plan.Planned.TheVariants as planned
use Rattle.escrow_free.proofs.Prints.{prints_as, no_line_prints, refused_prints, totals_print}
use Rattle.escrow_free.proofs.Turns.{asked_prints}
use Rattle.escrow_free.proofs.printing.print_line.Goals as goal

pub returns-in-NoLine-clause-printed : goal.returns-in-NoLine-clause-printed
returns-in-NoLine-clause-printed c = at_ok _ _ c.render_lines.result (λ out e plan.
    let outboxes = c.args.outboxes.now.items in
    let totals = c.args.totals.now.items in
    prints_as c.args.line planned.NoLine plan plan outboxes outboxes totals totals out.items _ c.in-NoLine.is e (no_line_prints plan outboxes totals)) c.render_lines.ensures

pub returns-in-Refused-clause-printed : goal.returns-in-Refused-clause-printed
returns-in-Refused-clause-printed c = at_ok _ _ c.render.result (λ out e plan.
    let outboxes = c.args.outboxes.now.items in
    let totals = c.args.totals.now.items in
    let session = c.in-Refused.session in
    let text = ap₂ (λ name r. rendered name session (reply.Refused r)) c.database_name.ensures c.fault_refusal.ensures in
    prints_as c.args.line _ plan plan outboxes outboxes totals totals out.items _ c.in-Refused.is (e ∙ text) (refused_prints c.in-Refused.database session c.in-Refused.fault plan outboxes totals)) c.render.ensures

pub returns-in-Totals-clause-printed : goal.returns-in-Totals-clause-printed
returns-in-Totals-clause-printed c = at_ok _ _ c.render-in-Totals.result (λ out e plan.
    let outboxes = c.args.outboxes.now.items in
    let totals = c.args.totals.now.items in
    let place = c.in-Totals.database in
    let session = c.in-Totals.session in
    let tally = c.index.result.now in
    let has : HasItsOutbox (vec_len c.args.outboxes.now) (planned.Totals place session) = subst (HasItsOutbox (vec_len c.args.outboxes.now)) c.in-Totals.is c.requires.outbox in
    let below : c.outbox_of.result < length totals =
    subst (λ n. c.outbox_of.result < n) (sym c.requires.beside ∙ c.args.totals.now.ok.0) (subst (λ k. k < vec_len c.args.outboxes.now) (sym c.outbox_of.ensures.place) has.2) in
    let at : slice_get totals (outbox_of place session) ≡ Some tally =
    subst (λ k. slice_get totals k ≡ Some tally) c.outbox_of.ensures.place (there totals c.outbox_of.result tally below c.index.ensures) in
    let text : rendered_totals c.database_name-in-Totals.result.now session tally ≡ rendered_totals (database_name place) session tally =
    ap (λ name. rendered_totals name session tally) c.database_name-in-Totals.ensures in
    prints_as c.args.line _ plan plan outboxes outboxes totals totals out.items _ c.in-Totals.is (e ∙ text) (totals_print place session tally plan outboxes totals c.outbox_of.ensures.is_session at)) c.render-in-Totals.ensures

pub returns-in-Asked-clause-printed : goal.returns-in-Asked-clause-printed
returns-in-Asked-clause-printed c = at_ok _ _ c.print_given.result (λ out e plan.
    let outboxes = c.args.outboxes.now.items in
    let totals = c.args.totals.now.items in
    let place = c.in-Asked.database in
    let session = c.in-Asked.session in
    let outbox = c.index_mut.result.now in
    let counted = c.index_mut-in-Asked.result.now in
    let next = c.next_answer-given.result in
    let new = c.next_answer-given.new.self in
    let tally = c.next_answer-given.new.totals in
    let is = c.outbox_of-place.ensures.place in
    let has : HasItsOutbox (vec_len c.args.outboxes.now) (planned.Asked place session) = subst (HasItsOutbox (vec_len c.args.outboxes.now)) c.in-Asked.is c.requires.outbox in
    let within : c.outbox_of-place.result < vec_len c.args.outboxes.now = subst (λ k. k < vec_len c.args.outboxes.now) (sym is) has.2 in
    let below : c.outbox_of-place.result < length outboxes = subst (λ n. c.outbox_of-place.result < n) c.args.outboxes.now.ok.0 within in
    let as_below : c.outbox_of-place.result < length totals = subst (λ n. c.outbox_of-place.result < n) (sym c.requires.beside ∙ c.args.totals.now.ok.0) within in
    let at : slice_get outboxes (outbox_of place session) ≡ Some outbox =
    subst (λ k. slice_get outboxes k ≡ Some outbox) is (there outboxes c.outbox_of-place.result outbox below c.index_mut.ensures.value) in
    let beside : slice_get totals (outbox_of place session) ≡ Some counted =
    subst (λ k. slice_get totals k ≡ Some counted) is (there totals c.outbox_of-place.result counted as_below c.index_mut-in-Asked.ensures.value) in
    let prints = asked_prints place session outboxes totals outbox new counted tally next plan c.outbox_of-place.ensures.is_session at beside
    c.next_answer-given.ensures.pass c.next_answer-given.ensures.next c.next_answer-given.ensures.counted in
    let text : given_text c.database_name-in-Asked.result.now session next ≡ given_text (database_name place) session next = ap (λ name. given_text name session next) c.database_name-in-Asked.ensures in
    prints_as c.args.line _ plan plan outboxes (set outboxes c.outbox_of-place.result new) totals (set totals c.outbox_of-place.result tally) out.items _ c.in-Asked.is (e ∙ text)
    (subst (λ (k : ℕ). PrintsTo (planned.Asked place session ∷ plan) outboxes totals (given_text (database_name place) session next) plan (set outboxes k new) (set totals k tally)) (sym is) prints)) c.print_given.ensures

pub outbox_of-requires-clause-shared : goal.outbox_of-requires-clause-shared
outbox_of-requires-clause-shared c = (subst (HasItsOutbox (vec_len c.args.outboxes.now)) c.in-Totals.is c.requires.outbox).1

pub outbox_of-place-requires-clause-shared : goal.outbox_of-place-requires-clause-shared
outbox_of-place-requires-clause-shared c = (subst (HasItsOutbox (vec_len c.args.outboxes.now)) c.in-Asked.is c.requires.outbox).1
