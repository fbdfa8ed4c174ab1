use Rattle.std.proofs.Common.{◌≡◌, None, true, false, bytes_eq, subst, sym, ◌∙◌}
use Rattle.escrow_statement.specs.Word.{spelling}
use Rattle.escrow_statement.proofs.AnyCase.{is_reserved, not_reserved, kept_in_upper_case}
use Rattle.escrow_statement.proofs.word.Word.of.Goals as goal

pub returns-in_err-word : goal.returns-in_err-word
returns-in_err-word c =
    c.from_residual.ensures
    ∙ not_reserved c.args.text.now c.candidate.result (λ w e. c.candidate.ensures w (kept_in_upper_case c.args.text.now w e)) (λ w h. let none : c.candidate.result ≡ None = c.in_err-word.was in absurd (cc))

pub returns-then-eq : goal.returns-then-eq
returns-then-eq c =
    is_reserved c.args.text.now c.in_ok-word.word
    (subst (λ bytes. bytes_eq bytes c.args.text.now ≡ true) (c.as_bytes.ensures.value ∙ c.spelling.ensures) (sym c.eq.ensures ∙ c.if-eq.true))

pub returns-else-eq : goal.returns-else-eq
returns-else-eq c =
    not_reserved c.args.text.now c.candidate.result (λ w e. c.candidate.ensures w (kept_in_upper_case c.args.text.now w e)) (λ w h.
    let found = c.in_ok-word.was in
    let same : c.in_ok-word.word ≡ w = cc in
    subst (λ v. bytes_eq (spelling v) c.args.text.now ≡ false) same
    (subst (λ bytes. bytes_eq bytes c.args.text.now ≡ false) (c.as_bytes.ensures.value ∙ c.spelling.ensures) (sym c.eq.ensures ∙ c.if-eq.false)))
