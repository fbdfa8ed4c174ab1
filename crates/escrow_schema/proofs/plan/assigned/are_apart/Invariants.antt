use Rattle.std.proofs.Common.{◌≡◌, drop, map}
use Rattle.escrow_schema.specs.Definition.{are_distinct}
use Rattle.escrow_schema.proofs.plan.assigned.are_apart.Given as goal

abbrev pub invariant-loop-i : goal.invariant-loop-i
invariant-loop-i l = are_distinct (map (λ assign. assign.column) (drop l.i l.assigns)) ≡ are_distinct (map (λ assign. assign.column) l.assigns)
