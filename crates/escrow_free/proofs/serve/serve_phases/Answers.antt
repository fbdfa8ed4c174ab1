use Rattle.std.proofs.Common.{◌≡◌, ◌<◌, ◌*◌, [], length, vec_len, sym, ap, subst, ◌∙◌}
use Rattle.std.proofs.lemmas.Bool.{false≢true}
use Rattle.std.proofs.lemmas.List.{length-replicate}
use Rattle.escrow_stats.specs.Tally.{tally_of}
use Rattle.std.specs.Io.KnownBytes.{Appends, IsAtEnd}
use Rattle.std.specs.Prelude.{IfSome}
use Rattle.std.specs.List.{AllByRecursion}
use Rattle.escrow_num.specs.declared.session.TheConstants.Session.{MAX_SHARED}
use Rattle.escrow_script.specs.declared.limits.TheConstants.{MAX_SCRIPT}
use Rattle.escrow_script.specs.Script.{left, HasEnded, Spends}
use Rattle.escrow_script.proofs.ScriptLemmas.{spends_more, spends_none}
use Rattle.escrow_free.specs.Phases.{IsRead}
use Rattle.escrow_free.specs.Printing.{HasItsOutbox}
use Rattle.escrow_free.proofs.Outboxes.{all_have_outboxes, totals_new}
use Rattle.escrow_sessions.proofs.Places.{all_places}
use Rattle.escrow_free.proofs.Phases.{Stands, stands_new, stands_more, finished, at_end, over_all}
use Rattle.escrow_free.proofs.Planning.{plan_outboxes, item_outboxes}
use Rattle.escrow_free.proofs.serve.serve_phases.Goals as goal

pub run_phase-requires-clause-seats : goal.run_phase-requires-clause-seats
run_phase-requires-clause-seats g c κs within =
    let at = c.phases in
    all_have_outboxes c.args.shared.now at.invariant.stands.taken at.outboxes.items (record { sessions = c.requires.seats.sessions; count = at.invariant.count }) at.invariant.stands.fits

pub run_phase-requires-clause-places : goal.run_phase-requires-clause-places
run_phase-requires-clause-places g c κs within =
    let n = length c.args.shared.now.openings in
    let plan = c.in_ok-plan.field-0.plan in
    let phase = subst (λ k. IsRead k (left c.phases.script.unread (g.C.Client.remaining c.phases.client)) (left c.read_phase.new.script.unread (g.C.Client.remaining c.read_phase.new.client)) plan)
    c.databases-databases.ensures c.in_ok-plan.ensures.read in
    all_places (λ x. x.0 < length c.phases.outboxes.items) plan.items.items
    (subst (λ k. AllByRecursion (λ x. x.0 < k) plan.items.items) (sym c.phases.invariant.count) (item_outboxes n phase.lines plan.lines.items plan.items.items c.requires.few phase.plans))

pub print_phase-requires-clause-beside : goal.print_phase-requires-clause-beside
print_phase-requires-clause-beside g c =
    let count : vec_len c.in_ok-outboxes.outboxes ≡ length c.args.shared.now.openings * MAX_SHARED = c.in_ok-outboxes.outboxes.ok.0 ∙ c.in_ok-outboxes.ensures.count ∙ c.phases.invariant.count in
    c.phases.invariant.beside ∙ sym count

pub print_phase-requires-clause-lines : goal.print_phase-requires-clause-lines
print_phase-requires-clause-lines g c =
    let n = length c.args.shared.now.openings in
    let plan = c.in_ok-plan.field-0.plan in
    let phase = subst (λ k. IsRead k (left c.phases.script.unread (g.C.Client.remaining c.phases.client)) (left c.read_phase.new.script.unread (g.C.Client.remaining c.read_phase.new.client)) plan)
    c.databases-databases.ensures c.in_ok-plan.ensures.read in
    let count : vec_len c.in_ok-outboxes.outboxes ≡ n * MAX_SHARED = c.in_ok-outboxes.outboxes.ok.0 ∙ c.in_ok-outboxes.ensures.count ∙ c.phases.invariant.count in
    subst (λ k. AllByRecursion (HasItsOutbox k) plan.lines.items) (sym count) (plan_outboxes n phase.lines plan.lines.items plan.items.items c.requires.few phase.plans)

pub phases-preserved : goal.phases-preserved
phases-preserved g c =
    let n = length c.args.shared.now.openings in
    let at = c.phases in
    let plan = c.in_ok-plan.field-0.plan in
    let mid = left at.script.unread (g.C.Client.remaining at.client) in
    let rest = left c.read_phase.new.script.unread (g.C.Client.remaining c.read_phase.new.client) in
    let phase = subst (λ k. IsRead k mid rest plan) c.databases-databases.ensures c.in_ok-plan.ensures.read in
    let printed = c.in_ok-print_phase.ensures.printed in
    let appends = subst (λ sent. Appends sent (g.C.Client.sent c.print_phase.new.client) printed.0) c.in_ok-plan.ensures.sent printed.1 in
    let unread = sym c.in_ok-print_phase.ensures.unread in
    record {
      drained = c.drain_long.ensures ∙ at.invariant.drained;
      count = sym c.print_phase.new.outboxes.ok.0 ∙ c.in_ok-print_phase.ensures.count ∙ c.in_ok-outboxes.outboxes.ok.0 ∙ c.in_ok-outboxes.ensures.count ∙ at.invariant.count;
      stands = subst (λ rem. Stands n (g.C.Client.remaining c.args.client.now) (left c.read_phase.new.script.unread rem) (g.C.Client.sent c.args.client.now)
          (g.C.Client.sent c.print_phase.new.client) c.print_phase.new.outboxes.items c.print_phase.new.totals.items) unread
          (stands_more n (g.C.Client.remaining c.args.client.now) mid rest (g.C.Client.sent c.args.client.now) (g.C.Client.sent at.client) (g.C.Client.sent c.print_phase.new.client) plan
          at.outboxes.items c.in_ok-outboxes.outboxes.items c.print_phase.new.outboxes.items at.totals.items c.print_phase.new.totals.items printed.0 phase c.in_ok-outboxes.ensures printed.2 appends at.invariant.stands);
      beside = c.in_ok-print_phase.ensures.beside ∙ c.in_ok-print_phase.ensures.count ∙ c.in_ok-outboxes.outboxes.ok.0 ∙ c.in_ok-outboxes.ensures.count ∙ at.invariant.count;
      ended = λ over. subst (HasEnded c.read_phase.new.script.unread) unread (c.in_ok-plan.ensures.ended over);
      spent = subst (λ rem. Spends (g.C.Client.remaining c.args.client.now) rem MAX_SCRIPT c.read_phase.new.script.bytes_left) unread
          (spends_more _ _ _ MAX_SCRIPT at.script.bytes_left c.read_phase.new.script.bytes_left at.invariant.spent c.in_ok-plan.ensures.spent);
    }

pub returns-then-not-has_more-clause-end : goal.returns-then-not-has_more-clause-end
returns-then-not-has_more-clause-end g c =
    let at = c.phases in
    let over = c.in_ok-plan.ensures.over c.if-not-has_more.true in
    subst (λ rem. IfSome (g.C.Client.remaining c.args.client.now) (λ script. IsAtEnd rem)) (sym c.in_ok-print_phase.ensures.unread)
    (at_end (g.C.Client.remaining c.args.client.now) (g.C.Client.remaining at.client) (g.C.Client.remaining c.read_phase.new.client) at.script.unread c.read_phase.new.script.unread MAX_SCRIPT at.script.bytes_left
    at.invariant.spent over)

pub returns-then-not-has_more-clause-served : goal.returns-then-not-has_more-clause-served
returns-then-not-has_more-clause-served g c =
    let n = length c.args.shared.now.openings in
    let at = c.phases in
    let plan = c.in_ok-plan.field-0.plan in
    let script = g.C.Client.remaining c.args.client.now in
    let mid = left at.script.unread (g.C.Client.remaining at.client) in
    let rest = left c.read_phase.new.script.unread (g.C.Client.remaining c.read_phase.new.client) in
    let phase = subst (λ k. IsRead k mid rest plan) c.databases-databases.ensures c.in_ok-plan.ensures.read in
    let printed = c.in_ok-print_phase.ensures.printed in
    let appends = subst (λ sent. Appends sent (g.C.Client.sent c.print_phase.new.client) printed.0) c.in_ok-plan.ensures.sent printed.1 in
    let over = c.in_ok-plan.ensures.over c.if-not-has_more.true in
    let ends = at_end script (g.C.Client.remaining at.client) (g.C.Client.remaining c.read_phase.new.client) at.script.unread c.read_phase.new.script.unread MAX_SCRIPT at.script.bytes_left at.invariant.spent over in
    let count = sym c.print_phase.new.outboxes.ok.0 ∙ c.in_ok-print_phase.ensures.count ∙ c.in_ok-outboxes.outboxes.ok.0 ∙ c.in_ok-outboxes.ensures.count ∙ at.invariant.count in
    let stands = stands_more n script mid rest (g.C.Client.sent c.args.client.now) (g.C.Client.sent at.client) (g.C.Client.sent c.print_phase.new.client) plan
    at.outboxes.items c.in_ok-outboxes.outboxes.items c.print_phase.new.outboxes.items at.totals.items c.print_phase.new.totals.items printed.0 phase c.in_ok-outboxes.ensures printed.2 appends at.invariant.stands in
    let spent = spends_more script (g.C.Client.remaining at.client) (g.C.Client.remaining c.read_phase.new.client) MAX_SCRIPT at.script.bytes_left c.read_phase.new.script.bytes_left at.invariant.spent c.in_ok-plan.ensures.spent in
    finished n script rest (g.C.Client.remaining c.read_phase.new.client) (g.C.Client.sent c.args.client.now) (g.C.Client.sent c.print_phase.new.client) c.print_phase.new.outboxes.items
    c.print_phase.new.totals.items c.read_phase.new.script.bytes_left count stands (over_all script mid rest at.invariant.stands.lines at.invariant.stands.read over) spent ends

pub phases-init : goal.phases-init
phases-init g c =
    let script = g.C.Client.remaining c.args.client.now in
    let written = g.C.Client.sent c.args.client.now in
    let totals = c.in_ok-totals.totals in
    let made = c.in_ok-script.ensures in
    let count = c.requires.seats.count in
    record {
      drained = c.in_ok-drains.ensures ∙ c.databases-databases.ensures;
      count = count;
      stands =
          stands_new (length c.args.shared.now.openings) script written c.in_ok-script.script.unread c.args.outboxes.items totals.items made.0 c.requires.fits
          (totals_new c.len.result totals.items c.in_ok-totals.ensures);
      beside = totals.ok.0 ∙ ap length c.in_ok-totals.ensures ∙ length-replicate c.len.result (tally_of []) ∙ c.len.ensures ∙ c.args.outboxes.ok.0 ∙ count;
      ended = λ has. absurd (false≢true (sym made.2 ∙ has));
      spent = subst (λ left. Spends script script MAX_SCRIPT left) (sym made.1) (spends_none script MAX_SCRIPT);
    }
