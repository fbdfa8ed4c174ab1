-- The proof of each law of src/laws.rt, for the crates above.
pub use Rattle.escrow_checks.proofs.CheckNames.{checks_are_named}
pub use Rattle.escrow_checks.proofs.ConditionLemmas.{mean_the_same, checks_whole, checks_declared}
pub use Rattle.escrow_checks.proofs.EndsLemmas.{any_choice_can_commit, any_choice_can_stay, other_rows_stay_safe, new_row_is_safe}
pub use Rattle.escrow_checks.proofs.FormLemmas.{length-all_changed}
pub use Rattle.escrow_checks.proofs.LinearLemmas.{form-column}
pub use Rattle.escrow_checks.proofs.GrantLemmas.{bounds_decide, granted_where_always_met, granted_where_all_always_met, granted_stays_safe, refused_names_a_choice}
pub use Rattle.escrow_checks.proofs.ReachedLemmas.{extremes_are_reached}
pub use Rattle.escrow_checks.proofs.ScaledLemmas.{form_scale_is, length-scaled_coeffs, length-written_coeffs, units_are_whole, written_are_given_back, zero_written}
pub use Rattle.escrow_checks.proofs.SpreadLemmas.{adds_nothing}
pub use Rattle.escrow_checks.proofs.WideLemmas.{sums_are_wide}
