use Rattle.std.proofs.Common.{◌≡◌, ◌+◌, ◌-◌, get_or, true, false, arith, inl, inr, ap, ◌∙◌}
use Rattle.escrow_sql.proofs.TextLemmas.{text_rest-more}
use Rattle.escrow_sql.proofs.lexer.text.quoted_len.Goals as goal
use Rattle.escrow_sql.proofs.lexer.text.quoted_len.Goals.{then-byte-eq39, else-byte-eq39+else-closing}

pub loop-i-preserved : goal.loop-i-preserved
loop-i-preserved c = record {
  same = text_rest-more c.loop-i.closing c.if-byte-eq39.closing c.loop-i.i c.args.body.now (omega arith)
      (elim c.if-byte-eq39.branch [ then-byte-eq39 w ↦ inl (w.if-byte-eq39.true, w.closing-is) | else-byte-eq39+else-closing w ↦ inr (w.if-byte-eq39.false, w.if-closing.false, w.closing-is) ])
      c.loop-i.invariant.same;
  quoted = λ h. elim c.if-byte-eq39.branch [
    | then-byte-eq39 w ↦
        let e : c.loop-i.i + 1 - 1 ≡ c.loop-i.i = omega arith in
        (omega arith, ap (λ n. get_or c.args.body.now n 0) e ∙ w.if-byte-eq39.true)
    | else-byte-eq39+else-closing w ↦ let e : true ≡ false = cc in absurd (cc)
  ];
}
