use Rattle.std.proofs.Common.{length, arith, sym, rules}
use Rattle.std.proofs.lemmas.List.Sums.{prefix_len_is}
use Rattle.escrow_script.specs.Line.{is_blank}
use Rattle.escrow_script.proofs.line.blanks.Goals as goal

pub returns-then-not-is_blank-clause-value : goal.returns-then-not-is_blank-clause-value
returns-then-not-is_blank-clause-value c =
    sym (prefix_len_is is_blank c.args.line.now c.loop-len.len 0 (omega arith) c.loop-len.invariant (λ below. search rules))

pub returns-clause-value : goal.returns-clause-value
returns-clause-value c = sym (prefix_len_is is_blank c.args.line.now (length c.args.line.now) 0 (omega arith) (λ k below. c.loop-len.invariant k (omega arith)) (λ below. absurd (omega arith)))
