use Rattle.std.proofs.Common.{◌≡◌, ◌+ℤ◌, Some, None, ap₂, ◌∙◌, sym}
use Rattle.escrow_checks.specs.Form.{form}
use Rattle.escrow_checks.proofs.ExtremesLemmas.{broken_by_spread}
use Rattle.escrow_checks.proofs.check.Check.violation_from.Goals as goal

pub returns-in_err-side : goal.returns-in_err-side
returns-in_err-side c = λ amounts reservations at covered known.
    let check = c.args.self.now in
    let changes = c.args.changes.now in
    let is : c.plus-with_new.result ≡ form check.coeffs amounts +ℤ form check.coeffs changes = c.plus-with_new.ensures ∙ ap₂ (λ x y. x +ℤ y) at c.form_of.ensures.value in
    c.from_residual.ensures ∙ sym (broken_by_spread check amounts changes reservations c.args.spread.now c.plus-with_new.result c.around-least.result.0 c.around-least.result.1 covered known is c.around-least.ensures.least c.around-least.ensures.greatest None (sym c.in_err-side.was ∙ c.first_broken.ensures.first))

pub returns : goal.returns
returns c = λ amounts reservations at covered known.
    let check = c.args.self.now in
    let changes = c.args.changes.now in
    let is : c.plus-with_new.result ≡ form check.coeffs amounts +ℤ form check.coeffs changes = c.plus-with_new.ensures ∙ ap₂ (λ x y. x +ℤ y) at c.form_of.ensures.value in
    sym (broken_by_spread check amounts changes reservations c.args.spread.now c.plus-with_new.result c.around-least.result.0 c.around-least.result.1 covered known is c.around-least.ensures.least c.around-least.ensures.greatest (Some (c.in_ok-side.side, c.in_ok-side.worst, c.in_ok-side.limit)) (sym c.in_ok-side.was ∙ c.first_broken.ensures.first))
