use Rattle.std.proofs.Common.{◌≡◌, ◌≤◌, drop}
use Rattle.escrow_num.specs.Amount.{number_after}
use Rattle.escrow_num.proofs.digits.number_after.Given as goal

abbrev pub invariant-loop-digit : goal.invariant-loop-digit
invariant-loop-digit l = record {
  small : l.number ≤ 999999999999999;
  same : number_after l.number (drop l.digit-index l.digits) ≡ number_after l.fn.start l.digits;
}
