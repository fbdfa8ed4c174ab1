use Rattle.std.proofs.Common.{◌≡◌, ℤ, Bool, false, ◌&&◌, Some, None, refl, ap, sym, ◌∙◌}
use Rattle.std.proofs.Math.Bool.{and-false}
use Rattle.std.proofs.lemmas.Bool.{cond-false}
use Rattle.escrow_checks.specs.Checks.{is_whole, units_in}
use Rattle.escrow_checks.specs.Parts.{is_near, millionths}
use Rattle.escrow_checks.proofs.PartsLemmas.{past_not_near}
use Rattle.escrow_checks.proofs.condition.parts.Parts.units.Goals as goal

pub returns-in_err-joined : goal.returns-in_err-joined
returns-in_err-joined c =
    let z : ℤ = millionths c.args.self in
    let whole : Bool = is_whole c.args.scale z in
    let far : is_near (units_in c.args.scale z) ≡ false = past_not_near c.args.scale z (c.in_err-joined.ensures.none refl) in
    c.from_residual.ensures ∙ sym (cond-false (whole && is_near (units_in c.args.scale z)) (Some (units_in c.args.scale z)) None (ap (λ b. whole && b) far ∙ and-false whole))
