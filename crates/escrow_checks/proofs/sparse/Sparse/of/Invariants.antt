use Rattle.std.proofs.Common.{◌≡◌, ◌≤◌, length, take}
use Rattle.escrow_checks.specs.declared.coefficients.TheConstants.Coefficients.{MAX_LEN}
use Rattle.escrow_checks.specs.Listed.{SumsTo}
use Rattle.escrow_checks.proofs.sparse.Sparse.of.Given as goal

abbrev pub invariant-loop-column : goal.invariant-loop-column
invariant-loop-column l = record {
  few : l.count ≤ l.column;
  long : length l.columns ≡ MAX_LEN;
  listed : SumsTo l.amounts (take l.count l.columns) (take l.column l.amounts);
}
