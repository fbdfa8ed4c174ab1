use Rattle.std.proofs.Common.{◌≡◌, ◌++◌, drop, option_map}
use Rattle.escrow_schema.specs.Plan.{changes_of}
use Rattle.escrow_schema.proofs.plan.changes.changes_of.Given as goal

abbrev pub invariant-loop-column : goal.invariant-loop-column
invariant-loop-column l = option_map (λ later. l.changes ++ later) (changes_of (drop l.column-index l.columns) l.assigns) ≡ changes_of l.columns l.assigns
