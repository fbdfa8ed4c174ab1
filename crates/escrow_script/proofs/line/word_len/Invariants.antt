use Rattle.std.proofs.Common.{◌≡◌, ℕ, ◌<◌, false, get_or}
use Rattle.escrow_script.specs.Line.{is_blank}
use Rattle.escrow_script.proofs.line.word_len.Given as goal

abbrev pub invariant-loop-len : goal.invariant-loop-len
invariant-loop-len l = (k : ℕ) → k < l.len → is_blank (get_or l.bytes k 0) ≡ false
