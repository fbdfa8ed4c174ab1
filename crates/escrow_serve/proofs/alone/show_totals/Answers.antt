use Rattle.std.proofs.Common.{ℕ, List, ◌++◌, inl, inr, refl, ap, ◌∙◌}
use Rattle.escrow_machine.specs.declared.reply.Reply.TheVariants as reply
use Rattle.escrow_num.specs.declared.refusal.Refusal.TheVariants as refusal
use Rattle.escrow_reply.specs.Text.{rendered}
use Rattle.escrow_stats.specs.Text.{rendered_totals}
use Rattle.escrow_serve.proofs.ShownLemmas.{refused_answers}
use Rattle.escrow_serve.proofs.TotalsLemmas.{text_answered, text_totals}
use Rattle.escrow_serve.proofs.alone.show_totals.Goals as goal

pub returns-in-Ok : goal.returns-in-Ok
returns-in-Ok c = record {
  served = (
    rendered_totals c.args.name.now c.args.session c.of.result,
    c.in-Ok.ensures.ok,
    λ kept text asks. text_totals c.args.name.now kept kept c.args.totals.now c.args.session text c.of.result asks refl c.of.ensures,
  );
  shown = inl (c.of.result, c.in-Ok.ensures.ok);
}

pub returns-in-Err : goal.returns-in-Err
returns-in-Err c =
    let name = c.args.name.now in
    let refused = reply.Refused refusal.Memory in
    record {
      served = (
        rendered name c.args.session refused,
        c.push_short.ensures.text ∙ ap (λ (gathered : List ℕ). gathered ++ rendered name c.args.session refused) c.in-Err.ensures.err,
        λ kept text asks. text_answered name kept kept c.args.totals.now c.count.new.self c.args.session text refused (refused_answers kept c.args.session text kept refl) c.count.ensures,
      );
      shown = inr (c.push_short.ensures.text ∙ ap (λ (gathered : List ℕ). gathered ++ rendered name c.args.session refused) c.in-Err.ensures.err);
    }
