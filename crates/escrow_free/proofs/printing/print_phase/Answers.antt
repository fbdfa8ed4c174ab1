use Rattle.std.proofs.Common.{◌≡◌, ◌∷◌, [], length, vec_len, refl, arith, ap, ◌∙◌, sym, subst, add-one}
use Rattle.std.specs.List.{AllByRecursion}
use Rattle.std.specs.Vec.Iter.{into_iter_items}
use Rattle.escrow_free.specs.Printing.{HasItsOutbox}
use Rattle.escrow_free.proofs.Marking.{one_less}
use Rattle.std.proofs.lemmas.List.{nil_from_length}
use Rattle.std.proofs.lemmas.Result.{on_ok_weaker}
use Rattle.escrow_free.proofs.Prints.{printed_none, printed_more, printed_all}
use Rattle.escrow_free.proofs.printing.print_phase.Goals as goal

pub loop-line-preserved : goal.loop-line-preserved
loop-line-preserved g c =
    let at = c.loop-line in
    let steps : into_iter_items at.line-iterator ≡ c.in-Some.line ∷ into_iter_items c.next.new.self = c.in-Some.ensures.steps.0 in
    let lines : AllByRecursion (HasItsOutbox (vec_len c.args.outboxes.now)) (c.in-Some.line ∷ into_iter_items c.next.new.self) =
    subst (AllByRecursion (HasItsOutbox (vec_len c.args.outboxes.now))) steps at.invariant.lines in
    record {
      long = one_less _ _ _ _ at.invariant.long c.in-Some.ensures.steps.1 (ap length steps ∙ sym (add-one _));
      count = c.print_line.ensures.count ∙ at.invariant.count;
      beside = c.print_line.ensures.beside;
      lines = lines.1;
      unread = c.in_ok-pass_on.ensures.unread ∙ at.invariant.unread;
      printed =
          printed_more _ c.in-Some.line (into_iter_items c.next.new.self) c.args.outboxes.now.items at.outboxes.items c.print_line.new.outboxes.items
          c.args.totals.now.items at.totals.items c.print_line.new.totals.items
          (g.C.Client.sent c.args.client.now) (g.C.Client.sent at.client) (g.C.Client.sent c.pass_on.new.client) at.replies.items c.in-Ok.reply.items c.pass_on.new.replies.items
          (c.in-Ok.ensures.printed _) c.in_ok-pass_on.ensures.passed (rw (← steps) at.invariant.printed);
    }

pub loop-line-init : goal.loop-line-init
loop-line-init g c =
    let gives = c.into_iter-line-iterator.ensures.into_iter_gives in
    let left = into_iter_items c.into_iter-line-iterator.result in
    record {
      long = c.into_iter-line-iterator.result.rest.ok.0;
      count = refl;
      beside = c.requires.beside;
      lines = subst (AllByRecursion (HasItsOutbox (vec_len c.args.outboxes.now))) (sym gives.0) c.requires.lines;
      unread = refl;
      printed = printed_none left c.args.outboxes.now.items c.args.totals.now.items (g.C.Client.sent c.args.client.now) c.new-replies.result.items c.new-replies.ensures.items;
    }

pub returns-clause-printed : goal.returns-clause-printed
returns-clause-printed g c =
    let at = c.loop-line in
    let gives = c.into_iter-line-iterator.ensures.into_iter_gives in
    let none : into_iter_items at.line-iterator ≡ [] = nil_from_length (into_iter_items at.line-iterator) (omega (arith, at.invariant.long, c.in-None.ensures.steps.0)) in
    on_ok_weaker c.write_gathered.result (λ wrote.
    printed_all c.args.lines.items c.args.outboxes.now.items at.outboxes.items c.args.totals.now.items at.totals.items (into_iter_items at.line-iterator) (g.C.Client.sent c.args.client.now) (g.C.Client.sent at.client)
    (g.C.Client.sent c.write_gathered.new.client) at.replies.items none (rw (← gives.0) at.invariant.printed) wrote) c.write_gathered.ensures.ok
