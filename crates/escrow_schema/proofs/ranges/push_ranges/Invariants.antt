use Rattle.std.proofs.Common.{◌≡◌, ◌++◌, map, drop}
use Rattle.escrow_schema.specs.Column.{names_of}
use Rattle.escrow_schema.specs.Definition.{range_check}
use Rattle.escrow_schema.proofs.ranges.push_ranges.Given as goal

abbrev pub invariant-loop-place : goal.invariant-loop-place
invariant-loop-place l =
    l.checks.items ++ map (range_check (names_of l.columns)) (drop l.place l.columns)
    ≡ l.initial.checks.items ++ map (range_check (names_of l.columns)) l.columns
