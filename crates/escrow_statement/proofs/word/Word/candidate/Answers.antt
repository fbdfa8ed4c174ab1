use Rattle.std.proofs.Common.{ap, Some, arith}
use Rattle.escrow_statement.specs.declared.word.Word.{Word}
use Rattle.escrow_statement.proofs.AnyCase.{number_is}
use Rattle.escrow_statement.proofs.word.Word.candidate.Goals as goal

pub returns-then-number : goal.returns-then-number
returns-then-number c = λ w same.
    ap (λ (v : Word). Some v)
    ((number_is c.args.text.now c.from-first.result c.from-second.result c.from-number.result c.in-len2-up.len_at_least
    c.from-first.ensures c.from-second.ensures c.from-number.ensures w same).1 _)

pub returns-else-number : goal.returns-else-number
returns-else-number c = λ w same.
    let below =
    (number_is c.args.text.now c.from-first.result c.from-second.result c.from-number.result c.in-len2-up.len_at_least
    c.from-first.ensures c.from-second.ensures c.from-number.ensures w same).0 in
    absurd (omega (arith, below))
