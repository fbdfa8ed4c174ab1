use Rattle.std.proofs.Common.{◌≡◌, ◌+◌, ◌++◌, List, drop, length}
use Rattle.escrow_num.specs.declared.value.Value.{Value}
use Rattle.escrow_schema.specs.Column.{reservables}
use Rattle.escrow_schema.specs.Fit.{amounts_of}
use Rattle.escrow_rows.specs.Placed.{placed}
use Rattle.escrow_rows.proofs.read.read_amounts.Given as goal

abbrev pub invariant-loop-i : goal.invariant-loop-i
invariant-loop-i l = record {
  long : length l.cells ≡ length l.columns;
  told : (values : List Value) → l.cells ≡ placed (l.before + 1) values → l.amounts ++ amounts_of (drop l.i l.columns) (drop l.i values) ≡ amounts_of l.columns values;
  many : length l.amounts + length (reservables (drop l.i l.columns)) ≡ length (reservables l.columns);
}
