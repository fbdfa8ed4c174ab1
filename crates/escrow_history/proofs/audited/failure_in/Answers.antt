use Rattle.std.proofs.Common.{◌≡◌, true}
use Rattle.escrow_history.proofs.NeverFull.{answers_unless}
use Rattle.escrow_history.proofs.audited.failure_in.Goals as goal

pub returns-clause-answers : goal.returns-clause-answers
returns-clause-answers c =
    answers_unless c.failure.result c.args.reply.now c.failure.ensures (λ same. let is : c.is_same.result ≡ true = c.is_same.ensures.1 same in let no = c.if-is_same.false in absurd (cc))
