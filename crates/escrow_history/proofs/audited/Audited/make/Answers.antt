use Rattle.std.specs.Prelude.{◌≡◌, false}
use Rattle.std.proofs.Common.{inr, sym, ap, ◌∙◌, subst}
use Rattle.sqlite.specs.Held.{state}
use Rattle.sqlite.specs.State.{HasCleanDisk}
use Rattle.escrow_num.specs.declared.refusal.Refusal.{Refusal}
use Rattle.escrow_machine.specs.State.{has_open}
use Rattle.escrow_transcript.specs.declared.base.Base.{Base}
use Rattle.escrow_transcript.specs.Image.{started}
use Rattle.escrow_transcript.proofs.Legals.{started_image}
use Rattle.escrow_history.specs.Calls.{IsNotBegun}
use Rattle.escrow_history.proofs.Kept.{failed_is}
use Rattle.escrow_history.proofs.audited.Audited.make.Goals as goal

pub returns-in-Ok-clause-base : goal.returns-in-Ok-clause-base
returns-in-Ok-clause-base g c clean =
    let closed : has_open c.args.database.state ≡ false = sym c.has_open.ensures ∙ c.if-has_open.false in
    let same = c.in-Ok.ensures.image (subst (λ s. HasCleanDisk (state g.S.Store s)) c.begin.ensures.store clean) in
    c.begin.ensures.state
    ∙ (c.image.ensures.state
    ∙ (sym (started_image c.args.database.state closed)
    ∙ (sym (ap started same) ∙ ap (λ (base : Base). started base.image) (sym c.begin.ensures.base))))

pub returns-in-Err-clause-only : goal.returns-in-Err-clause-only
returns-in-Err-clause-only g c =
    subst (λ (r : Refusal). IsNotBegun r) (sym c.from.ensures) (inr (failed_is c.in-Err.failure))
