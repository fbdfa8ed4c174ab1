use Rattle.std.proofs.Common.{◌≡◌, ℕ, ◌<◌, true, get_or}
use Rattle.escrow_script.specs.Line.{is_blank}
use Rattle.escrow_script.proofs.line.blanks.Given as goal

abbrev pub invariant-loop-len : goal.invariant-loop-len
invariant-loop-len l = (k : ℕ) → k < l.len → is_blank (get_or l.line k 0) ≡ true
