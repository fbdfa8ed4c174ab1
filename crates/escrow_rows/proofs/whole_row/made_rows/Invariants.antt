use Rattle.std.proofs.Common.{◌≡◌, ◌++◌, drop}
use Rattle.escrow_rows.specs.Whole.{rows_with}
use Rattle.escrow_rows.proofs.whole_row.made_rows.Given as goal

abbrev pub invariant-loop-values : goal.invariant-loop-values
invariant-loop-values l = l.rows.items ++ rows_with l.table (drop l.values-index l.all) ≡ rows_with l.table l.all
