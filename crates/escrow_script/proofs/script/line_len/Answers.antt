use Rattle.std.proofs.Common.{length, arith, sym}
use Rattle.std.proofs.lemmas.Bool.{false_from_ne_true}
use Rattle.std.proofs.lemmas.List.Sums.{position_or_len_is}
use Rattle.escrow_script.specs.Script.{is_feed}
use Rattle.escrow_script.proofs.script.line_len.Goals as goal

pub returns-in-Some-clause-value : goal.returns-in-Some-clause-value
returns-in-Some-clause-value c =
    let found = c.in-Some.ensures in
    sym (position_or_len_is is_feed c.args.bytes.now c.in-Some.place 0 (omega (arith, found.0.high)) (λ k below. false_from_ne_true _ (found.0.before k (omega arith) below)) (λ within. found.1))

pub returns-in-None-clause-value : goal.returns-in-None-clause-value
returns-in-None-clause-value c =
    sym (position_or_len_is is_feed c.args.bytes.now (length c.args.bytes.now) 0 (omega arith) (λ k below. false_from_ne_true _ (c.in-None.ensures k (omega arith) below)) (λ below. absurd (omega arith)))
