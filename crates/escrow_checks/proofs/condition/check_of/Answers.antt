use Rattle.std.proofs.Common.{◌≡◌, ◌∙◌, false, sym, ap, ap₂, List, ℕ, ℤ}
use Rattle.std.proofs.lemmas.Option.{cond_some}
use Rattle.escrow_checks.specs.Checks.{condition_limits, are_good_coefficients, has_good_limits, check_name}
use Rattle.escrow_checks.specs.Scales.{form_scale, scaled_coeffs}
use Rattle.escrow_checks.specs.WrittenName.{is_written_name}
use Rattle.escrow_checks.proofs.ConditionLemmas.{check_of-found, check_of-none, scale_in, written_in}
use Rattle.escrow_checks.proofs.LimitLemmas.{no_item}
use Rattle.escrow_checks.proofs.condition.check_of.Goals as goal

-- the coefficients that a call found, and their scale
found_scale : (written found : List ℤ) (scales : List ℕ) (scale : ℕ) → written ≡ found → scale ≡ form_scale found scales → form_scale written scales ≡ scale
found_scale written found scales scale e is = ap (λ (ks : List ℤ). form_scale ks scales) e ∙ sym is

pub returns-in_err-span : goal.returns-in_err-span
returns-in_err-span c =
    let columns : List (List ℕ) = c.args.columns.now in
    let scales : List ℕ = c.args.scales.now in
    let condition = c.args.condition.now in
    let good = cond_some (are_good_coefficients (written_in columns condition)) (written_in columns condition) c.in_ok-written.written (sym c.of_condition.ensures ∙ c.in_ok-written.was) in
    let at_scale : scale_in columns scales condition ≡ c.scale-scale.result = found_scale (written_in columns condition) c.in_ok-written.written scales c.scale-scale.result good.1 c.scale-scale.ensures in
    let none : has_good_limits c.scale-scale.result condition ≡ false = no_item _ (condition_limits c.scale-scale.result condition) (sym c.limits_of.ensures ∙ c.in_err-span.was) in
    c.from_residual-in_err-span.ensures
    ∙ sym (check_of-none columns scales (check_name c.args.name c.args.k c.args.n) condition (ap (λ (s : ℕ). has_good_limits s condition) at_scale ∙ none))

pub returns : goal.returns
returns c =
    let columns : List (List ℕ) = c.args.columns.now in
    let scales : List ℕ = c.args.scales.now in
    let condition = c.args.condition.now in
    let name : List ℕ = check_name c.args.name c.args.k c.args.n in
    let named = cond_some (is_written_name name) name c.in_ok-name.name (sym c.name_of.ensures ∙ c.in_ok-name.was) in
    let good = cond_some (are_good_coefficients (written_in columns condition)) (written_in columns condition) c.in_ok-written.written (sym c.of_condition.ensures ∙ c.in_ok-written.was) in
    let at_scale : scale_in columns scales condition ≡ c.scale-scale.result = found_scale (written_in columns condition) c.in_ok-written.written scales c.scale-scale.result good.1 c.scale-scale.ensures in
    let limits = cond_some (has_good_limits c.scale-scale.result condition) (condition_limits c.scale-scale.result condition) c.in_ok-span.span (sym c.limits_of.ensures ∙ c.in_ok-span.was) in
    let coeffs : scaled_coeffs (scale_in columns scales condition) (written_in columns condition) scales ≡ c.scaled.result =
    ap₂ (λ (s : ℕ) (ks : List ℤ). scaled_coeffs s ks scales) at_scale good.1 ∙ sym c.scaled.ensures in
    check_of-found columns scales name condition c.in_ok-name.name c.scaled.result c.scale-scale.result c.in_ok-span.span
    (sym c.names_columns.ensures ∙ c.if-not-names_columns.false) good.0 (ap (λ (s : ℕ). has_good_limits s condition) at_scale ∙ limits.0) named.0
    named.1 coeffs at_scale (ap (λ (s : ℕ). condition_limits s condition) at_scale ∙ limits.1)
