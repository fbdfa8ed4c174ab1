use Rattle.std.proofs.Common.{◌≡◌, length, get_or, not, true, arith, sym, ap, rules}
use Rattle.std.proofs.lemmas.List.Sums.{prefix_len_is}
use Rattle.escrow_script.specs.Line.{is_blank}
use Rattle.escrow_script.proofs.line.word_len.Goals as goal

pub returns-then-is_blank-clause-value : goal.returns-then-is_blank-clause-value
returns-then-is_blank-clause-value c =
    let here : is_blank (get_or c.args.bytes.now c.loop-len.len 0) ≡ true = search rules in
    sym (prefix_len_is (λ b. not (is_blank b)) c.args.bytes.now c.loop-len.len 0 (omega arith) (λ k below. ap not (c.loop-len.invariant k below)) (λ below. ap not here))

pub returns-clause-value : goal.returns-clause-value
returns-clause-value c =
    sym (prefix_len_is (λ b. not (is_blank b)) c.args.bytes.now (length c.args.bytes.now) 0 (omega arith) (λ k below. ap not (c.loop-len.invariant k (omega arith))) (λ below. absurd (omega arith)))
