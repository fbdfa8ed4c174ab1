use Rattle.std.proofs.Common.{◌≡◌, ◌∙◌, ℕ, None, Some, false, ap, refl, subst, sym}
use Rattle.std.specs.Result.{result_err}
use Rattle.escrow_schema.specs.Assigned.{IsAnswer}
use Rattle.escrow_schema.specs.Column.{is_number, truncated_value}
use Rattle.escrow_schema.specs.Definition.{key_scale}
use Rattle.escrow_schema.specs.Plan.{changes_of, key_named, planned}
use Rattle.escrow_schema.proofs.PlanLemmas.{changes_planned, changes_unkeyed, changes_unmade, changes_want_memory, exit_refused, memory_exit}
use Rattle.escrow_schema.proofs.plan.plan_changes.Goals as goal

pub returns-in_err-check_key : goal.returns-in_err-check_key
returns-in_err-check_key c =
    let exit = exit_refused c.from_residual.result c.check_key.result _ _ c.from_residual.ensures.1 c.in_err-check_key.was c.check_key.ensures in
    subst (IsAnswer (planned c.args.table.now c.args.text.now)) (sym exit.0) (changes_unkeyed c.args.table.now c.args.text.now _ c.requires.changes exit.1)

pub returns-in_err-changes : goal.returns-in_err-changes
returns-in_err-changes c =
    let named : None ≡ result_err (key_named c.args.table.now c.args.text.now.row) = sym (ap result_err c.in_ok-check_key.was) ∙ c.check_key.ensures in
    let exit = exit_refused c.from_residual-in_err-changes.result c.whole_changes.result _ _ c.from_residual-in_err-changes.ensures.1 c.in_err-changes.was refl in
    subst (IsAnswer (planned c.args.table.now c.args.text.now)) (sym exit.0)
    (changes_unmade c.args.table.now c.args.text.now _ c.requires.changes named (rw (c.as_slice.ensures, c.as_slice-2.ensures) at c.in_err-changes.ensures.refused))

pub returns-in_err-key : goal.returns-in_err-key
returns-in_err-key c =
    let named : None ≡ result_err (key_named c.args.table.now c.args.text.now.row) = sym (ap result_err c.in_ok-check_key.was) ∙ c.check_key.ensures in
    let made : changes_of c.args.table.now.columns c.args.text.now.assigns ≡ Some c.in_ok-changes.changes = rw (c.as_slice.ensures, c.as_slice-2.ensures) at c.in_ok-changes.ensures.made in
    let key_is_text : is_number (truncated_value (key_scale c.args.table.now) c.args.text.now.row.literal) ≡ false =
    ap (λ (scale : ℕ). is_number (truncated_value scale c.args.text.now.row.literal)) (sym c.key_scale.ensures) ∙ c.in_err-key.ensures.text in
    memory_exit _ _ c.from_residual-in_err-key.ensures.1 (changes_want_memory c.args.table.now c.args.text.now _ c.requires.changes named made key_is_text)

pub returns : goal.returns
returns c =
    let named : None ≡ result_err (key_named c.args.table.now c.args.text.now.row) = sym (ap result_err c.in_ok-check_key.was) ∙ c.check_key.ensures in
    let made : changes_of c.args.table.now.columns c.args.text.now.assigns ≡ Some c.in_ok-changes.changes = rw (c.as_slice.ensures, c.as_slice-2.ensures) at c.in_ok-changes.ensures.made in
    changes_planned c.args.table.now c.args.text.now _ _ c.requires.changes named
    (c.in_ok-key.ensures.value ∙ ap (λ (scale : ℕ). truncated_value scale c.args.text.now.row.literal) c.key_scale.ensures) made
