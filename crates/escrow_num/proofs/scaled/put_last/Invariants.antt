use Rattle.std.proofs.Common.{◌≡◌, ◌+◌, ◌≤◌, ◌++◌, drop}
use Rattle.escrow_num.specs.Scaled.{before_last, last_digits}
use Rattle.escrow_num.proofs.scaled.put_last.Given as goal

abbrev pub invariant-loop-left : goal.invariant-loop-left
invariant-loop-left l = record {
  place : l.at + l.fn.digits ≡ l.fn.end + l.left;
  fewer : l.left ≤ l.fn.digits;
  rest : before_last l.left l.rest ≡ before_last l.fn.digits l.fn.number;
  written : last_digits l.left l.rest ++ drop l.at l.bytes ≡ last_digits l.fn.digits l.fn.number ++ drop l.fn.end l.fn.bytes;
}

abbrev pub decreases-loop-left : goal.decreases-loop-left
decreases-loop-left l = l.left
