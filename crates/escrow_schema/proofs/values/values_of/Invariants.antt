use Rattle.std.proofs.Common.{◌≡◌, ◌≤◌, ◌++◌, drop}
use Rattle.escrow_schema.specs.Fit.{values_from, values_of}
use Rattle.escrow_schema.proofs.values.values_of.Given as goal

abbrev pub invariant-loop-i : goal.invariant-loop-i
invariant-loop-i l =
    (l.values.items ++ values_from (drop l.i l.table.columns) l.i l.table.key l.row.name.key (drop l.amounts l.row.amounts) (drop l.plain l.row.plain) ≡ values_of l.table l.row)
    × ((l.amounts ≤ l.i) × (l.plain ≤ l.i))
