use Rattle.std.proofs.Common.{◌≡◌, drop}
use Rattle.std.specs.Prelude.{is_some}
use Rattle.escrow_schema.specs.Plan.{changes_of}
use Rattle.escrow_schema.proofs.plan.changes.are_whole.Given as goal

abbrev pub invariant-loop-column : goal.invariant-loop-column
invariant-loop-column l = is_some (changes_of (drop l.column-index l.columns) l.assigns) ≡ is_some (changes_of l.columns l.assigns)
