use Rattle.std.proofs.Common.{◌≡◌, ◌∙◌, ℕ, None, true, false, ap, inl, subst, sym}
use Rattle.std.specs.Prelude.{is_some}
use Rattle.std.specs.Result.{result_err}
use Rattle.escrow_schema.specs.Assigned.{IsAnswer, values_assigned}
use Rattle.escrow_schema.specs.Column.{truncated_value}
use Rattle.escrow_schema.specs.Fit.{plains}
use Rattle.escrow_schema.specs.Plan.{key_named, new_values, planned}
use Rattle.escrow_schema.proofs.PlanLemmas.{exit_refused, memory_exit, values_bad, values_planned, values_unkeyed, values_want_memory}
use Rattle.escrow_schema.proofs.plan.plan_values.Goals as goal

pub returns-in_err-check_key : goal.returns-in_err-check_key
returns-in_err-check_key c =
    let exit = exit_refused c.from_residual.result c.check_key.result _ _ c.from_residual.ensures.1 c.in_err-check_key.was c.check_key.ensures in
    subst (IsAnswer (planned c.args.table.now c.args.text.now)) (sym exit.0) (values_unkeyed c.args.table.now c.args.text.now _ c.requires.values c.requires.replace exit.1)

pub returns-then-not-all_fit : goal.returns-then-not-all_fit
returns-then-not-all_fit c =
    let named : None ≡ result_err (key_named c.args.table.now c.args.text.now.row) = sym (ap result_err c.in_ok-check_key.was) ∙ c.check_key.ensures in
    let unfit : is_some (new_values c.args.table.now c.args.text.now.assigns) ≡ false = cc in
    inl (values_bad c.args.table.now c.args.text.now c.requires.values c.requires.replace named unfit)

pub returns-in_err-key : goal.returns-in_err-key
returns-in_err-key c =
    let named : None ≡ result_err (key_named c.args.table.now c.args.text.now.row) = sym (ap result_err c.in_ok-check_key.was) ∙ c.check_key.ensures in
    let fit : is_some (new_values c.args.table.now c.args.text.now.assigns) ≡ true = cc in
    memory_exit _ _ c.from_residual-in_err-key.ensures.1 (values_want_memory c.args.table.now c.args.text.now c.requires.values c.requires.replace named fit)

pub returns-in_err-new_values : goal.returns-in_err-new_values
returns-in_err-new_values c =
    let named : None ≡ result_err (key_named c.args.table.now c.args.text.now.row) = sym (ap result_err c.in_ok-check_key.was) ∙ c.check_key.ensures in
    let fit : is_some (new_values c.args.table.now c.args.text.now.assigns) ≡ true = cc in
    memory_exit _ _ c.from_residual-in_err-new_values.ensures.1 (values_want_memory c.args.table.now c.args.text.now c.requires.values c.requires.replace named fit)

pub returns : goal.returns
returns c =
    let named : None ≡ result_err (key_named c.args.table.now c.args.text.now.row) = sym (ap result_err c.in_ok-check_key.was) ∙ c.check_key.ensures in
    let fit : is_some (new_values c.args.table.now c.args.text.now.assigns) ≡ true = cc in
    let values : c.from_vec-values.result ≡ values_assigned (plains c.args.table.now.columns 0 c.args.table.now.key) c.args.text.now.assigns =
    c.from_vec-values.ensures ∙ (rw (c.typed_columns-columns.ensures.value, c.as_slice-assigns.ensures) at c.in_ok-new_values.ensures) in
    values_planned c.args.table.now c.args.text.now _ _ c.requires.values c.requires.replace named fit
    (c.in_ok-key.ensures.value ∙ ap (λ (scale : ℕ). truncated_value scale c.args.text.now.row.literal) c.key_scale.ensures) values
