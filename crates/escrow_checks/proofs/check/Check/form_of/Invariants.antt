use Rattle.std.proofs.Common.{◌≡◌, ◌*◌, ◌^◌, pos, neg_ℤ, ◌≤ℤ◌, take}
use Rattle.std.specs.List.{fold}
use Rattle.escrow_checks.specs.Listed.{with_column}
use Rattle.escrow_checks.proofs.check.Check.form_of.Given as goal

abbrev pub invariant-loop-column : goal.invariant-loop-column
invariant-loop-column l = record {
  sum : l.sum ≡ fold (with_column l.self.coeffs l.amounts) (pos 0) (take l.column-index l.listed);
  low : neg_ℤ (pos (10 ^ 27 * l.column-index)) ≤ℤ l.sum;
  high : l.sum ≤ℤ pos (10 ^ 27 * l.column-index);
}
