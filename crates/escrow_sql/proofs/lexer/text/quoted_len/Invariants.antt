use Rattle.std.proofs.Common.{◌≡◌, ◌≤◌, ◌+◌, ◌-◌, drop, get_or, true, false}
use Rattle.std.specs.Prelude.{option_map}
use Rattle.escrow_sql.specs.Scan.{text_rest}
use Rattle.escrow_sql.proofs.lexer.text.quoted_len.Given as goal

abbrev pub invariant-loop-i : goal.invariant-loop-i
invariant-loop-i l = record {
  same : text_rest false l.body ≡ option_map (λ n. l.i + n) (text_rest l.closing (drop l.i l.body));
  quoted : l.closing ≡ true → (1 ≤ l.i) × (get_or l.body (l.i - 1) 0 ≡ 39);
}
