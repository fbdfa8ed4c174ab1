use Rattle.std.proofs.Common.{◌≡◌, ◌≤◌, length, take}
use Rattle.escrow_num.specs.Decimal.{trimmed}
use Rattle.escrow_num.proofs.digits.trimmed.Given as goal

abbrev pub invariant-loop-len : goal.invariant-loop-len
invariant-loop-len l = record {
  within : l.len ≤ length l.digits;
  same : trimmed (take l.len l.digits) ≡ trimmed l.digits;
}

abbrev pub decreases-loop-len : goal.decreases-loop-len
decreases-loop-len l = l.len
