use Rattle.std.proofs.Common.{inl, inr, refl, sym, ◌∙◌}
use Rattle.std.proofs.lemmas.Bool.{not-false}
use Rattle.escrow_num.specs.declared.refusal.Refusal.TheVariants as refusal
use Rattle.escrow_machine.specs.declared.reply.Reply.TheVariants as reply
use Rattle.escrow_machine.specs.Reply.{holds_memory}
use Rattle.escrow_reply.specs.Text.{rendered}
use Rattle.escrow_serve.proofs.ShownLemmas.{given_answers}
use Rattle.escrow_serve.proofs.TotalsLemmas.{text_answered}
use Rattle.escrow_serve.proofs.waiting.give_short.Goals as goal

pub returns-then-is_short-clause-given : goal.returns-then-is_short-clause-given
returns-then-is_short-clause-given c =
    let name = c.args.name.now in (
      rendered name c.args.session c.args.reply.now,
      c.push_short.ensures.text,
      λ old new text answers. text_answered name old new c.args.totals.now c.count.new.self c.args.session text c.args.reply.now answers c.count.ensures,
    )

pub returns-else-is_short-clause-given : goal.returns-else-is_short-clause-given
returns-else-is_short-clause-given c =
    let name = c.args.name.now in
    let refused = reply.Refused refusal.Memory in
    let holds = not-false (holds_memory c.args.reply.now) (sym c.is_short.ensures ∙ c.if-is_short.false) in (
      rendered name c.args.session refused,
      c.push_short-else-is_short.ensures.text,
      λ old new text answers. text_answered name old new c.args.totals.now c.count-else-is_short.new.self c.args.session text refused
          (given_answers old c.args.session text c.args.reply.now refused new answers (inr (holds, refl))) c.count-else-is_short.ensures,
    )

pub returns-then-is_short-clause-shown : goal.returns-then-is_short-clause-shown
returns-then-is_short-clause-shown c = (c.args.reply.now, c.push_short.ensures.text, inl refl)

pub returns-else-is_short-clause-shown : goal.returns-else-is_short-clause-shown
returns-else-is_short-clause-shown c =
    let holds = not-false (holds_memory c.args.reply.now) (sym c.is_short.ensures ∙ c.if-is_short.false) in
    (reply.Refused refusal.Memory, c.push_short-else-is_short.ensures.text, inr (holds, refl))
