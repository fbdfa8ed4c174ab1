use Rattle.std.proofs.Common.{◌≡◌, None, false, map, bytes_eq, subst, sym, ◌∙◌}
use Rattle.std.specs.Char.{to_ascii_uppercase}
use Rattle.escrow_statement.specs.Word.{spelling}
use Rattle.escrow_statement.proofs.AnyCase.{is_reserved, not_reserved}
use Rattle.escrow_statement.proofs.word.Word.written.Goals as goal

pub returns-in_err-word : goal.returns-in_err-word
returns-in_err-word c =
    c.from_residual.ensures ∙ not_reserved (map to_ascii_uppercase c.args.text.now) c.candidate.result c.candidate.ensures (λ w h. let none : c.candidate.result ≡ None = c.in_err-word.was in absurd (cc))

pub returns-then-is_written : goal.returns-then-is_written
returns-then-is_written c = is_reserved (map to_ascii_uppercase c.args.text.now) c.in_ok-word.word (sym c.is_written.ensures ∙ c.if-is_written.true)

pub returns-else-is_written : goal.returns-else-is_written
returns-else-is_written c =
    not_reserved (map to_ascii_uppercase c.args.text.now) c.candidate.result c.candidate.ensures (λ w h.
    let found = c.in_ok-word.was in
    let same : c.in_ok-word.word ≡ w = cc in
    subst (λ v. bytes_eq (spelling v) (map to_ascii_uppercase c.args.text.now) ≡ false) same (sym c.is_written.ensures ∙ c.if-is_written.false))
