use Rattle.std.proofs.Common.{◌≡◌, bytes_eq, subst, ◌∙◌}
use Rattle.escrow_statement.proofs.AnyCase.{is_spelled, is_written}
use Rattle.escrow_statement.proofs.word.Word.is_written.Goals as goal

pub returns-then-eq : goal.returns-then-eq
returns-then-eq c =
    is_spelled c.args.self c.args.text.now c.eq.result
    (subst (λ bytes. c.eq.result ≡ bytes_eq bytes c.args.text.now) (c.as_bytes-spelling.ensures.value ∙ c.spelling.ensures) c.eq.ensures) c.if-eq.true

pub returns-else-eq : goal.returns-else-eq
returns-else-eq c =
    is_written c.args.self c.args.text.now c.eq_ignore_ascii_case.result (rw (← c.spelling.ensures, ← c.as_bytes-spelling.ensures.value) c.eq_ignore_ascii_case.ensures.test)
