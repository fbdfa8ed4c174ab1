-- Numbers mean the millionths that their texts spell.
use Rattle.std.proofs.Common.{◌≡◌, ℕ, ℤ, pos, ◌+◌, ◌*◌, ◌≤◌, true, false, cond, nat_le, Option, Some, None, Ok, Err, List, [], ◌∷◌, ◌++◌, length, refl, sym, ap, ◌∙◌, subst}
use Rattle.std.specs.Char.{is_ascii_digit}
use Rattle.std.specs.Str.{all_ascii_digits}
use Rattle.std.proofs.lemmas.Bool.{and_parts, cond_both, cond-false}
use Rattle.std.proofs.lemmas.List.{append-nil}
use Rattle.escrow_num.specs.Amount.{is_amount, is_numeral, number_of}
use Rattle.escrow_num.specs.Decimal.{decimal_spelled, millionths_of}
use Rattle.escrow_num.specs.Scale.{unit_at}
use Rattle.escrow_num.proofs.ReadBack.{digits-pointed, digits-whole}
use Rattle.escrow_num.proofs.ReadLemmas.{numeral-parts}
use Rattle.escrow_sql.specs.declared.lexer.TheConstants.{MAX_TEXT}
use Rattle.escrow_sql.specs.declared.lexer.piece.Piece.TheVariants as piece
use Rattle.escrow_sql.specs.declared.token.Kind.TheVariants as kind
use Rattle.escrow_sql.specs.declared.token.Token.{Token}
use Rattle.escrow_sql.specs.Grammar.{Sentence}
use Rattle.escrow_sql.specs.Laws.{IsReadAsSpelled}
use Rattle.escrow_sql.specs.Lex.{IsLexed, number_piece, point_piece}
use Rattle.escrow_sql.specs.Statement.{number}
use Rattle.escrow_sql.proofs.NumberLemmas.{behind_len, number_read}
use Rattle.escrow_sql.proofs.Pieces.{is_lexed}
use Rattle.escrow_sql.proofs.TokenLemmas.{tokens_from-piece}
use Rattle.escrow_sql.proofs.Writing.{Writes, is_behind, reads_written, writes_left, writes_meaning, writes_right}
use Rattle.escrow_sql.proofs.WritingTokens.{begins_number, digits_all, whole_alone, writes_digits, writes_point}

-- if a number is a fault, the fault is at its first digit
fault_first : (c : ℕ) (next : List ℕ) → is_ascii_digit c ≡ true → number_piece (c ∷ next) ≡ piece.Fault 0 → length (c ∷ next) ≤ MAX_TEXT → IsLexed (c ∷ next) (Err 1)
fault_first c next digit e short = is_lexed (c ∷ next) (Err 1) short (tokens_from-piece c 0 next (piece.Fault 0) (sym (begins_number c next digit ∙ e)))

-- the value of digits alone
digits_alone : (digits : List ℕ) → millionths_of digits [] ≡ cond (nat_le (number_of digits) 999999999999999) (Some (pos (number_of digits * unit_at 0))) None
unfolding millionths_of
digits_alone digits = ap (λ (ds : List ℕ). cond (nat_le (number_of ds) 999999999999999) (Some (pos (number_of ds * unit_at 0))) None) (append-nil digits)

digits_spell : (digits : List ℕ) (r : Option ℤ) → is_numeral digits ≡ true → decimal_spelled digits ≡ r
    → cond (nat_le (number_of digits) 999999999999999) (Some (pos (number_of digits * unit_at 0))) None ≡ r
digits_spell digits r h e = sym (digits_alone digits) ∙ (sym (digits-whole digits h) ∙ e)

writes_alone : (digits : List ℕ) → is_numeral digits ≡ true → nat_le (number_of digits) 999999999999999 ≡ true → Writes is_behind number digits (pos (number_of digits * unit_at 0))
unfolding number
writes_alone digits h small =
    let parts = numeral-parts digits h in
    writes_left (writes_meaning (writes_digits (number_of digits) digits parts.0 parts.1 refl small))

digits_read : (digits : List ℕ) → is_numeral digits ≡ true → length digits ≤ MAX_TEXT → (z : ℤ) → decimal_spelled digits ≡ Some z
    → (tokens : List Token) × IsLexed digits (Ok tokens) × Sentence number tokens z
digits_read digits h short z e =
    cond_both (nat_le (number_of digits) 999999999999999) (Some (pos (number_of digits * unit_at 0))) None
    (λ r. r ≡ Some z → (tokens : List Token) × IsLexed digits (Ok tokens) × Sentence number tokens z)
    (λ small some.
    let same : pos (number_of digits * unit_at 0) ≡ z = cc in
    reads_written (subst (λ (n : ℤ). Writes is_behind number digits n) same (writes_alone digits h small)) short)
    (λ large none. absurd (cc)) (digits_spell digits (Some z) h e)

digits_fault : (digits : List ℕ) → is_numeral digits ≡ true → length digits ≤ MAX_TEXT → nat_le (number_of digits) 999999999999999 ≡ false → IsLexed digits (Err 1)
digits_fault [] h short large = absurd (cc)
digits_fault (c ∷ cs) h short large =
    let digit = (and_parts (is_ascii_digit c) (all_ascii_digits cs) h).0 in
    let digits = c ∷ cs in
    fault_first c cs digit
    (whole_alone digits h ∙ cond-false (is_amount (pos (number_of digits))) (piece.Token (kind.Number (pos (number_of digits))) (length digits)) (piece.Fault 0) large) short

pub whole_read : (digits : List ℕ) → is_numeral digits ≡ true → length digits ≤ MAX_TEXT → IsReadAsSpelled digits
whole_read digits h short = record {
  read = digits_read digits h short;
  fault = λ e.
      cond_both (nat_le (number_of digits) 999999999999999) (Some (pos (number_of digits * unit_at 0))) None
      (λ r. r ≡ None → IsLexed digits (Err 1)) (λ small some. absurd (cc)) (λ large none. digits_fault digits h short large) (digits_spell digits None h e);
}

-- a point and the digits after it
writes_both_parts : (front behind : List ℕ) (z : ℤ) → is_numeral front ≡ true → is_numeral behind ≡ true → millionths_of front behind ≡ Some z
    → Writes is_behind number (front ++ 46 ∷ behind) z
unfolding number
writes_both_parts front behind z h k e = writes_right (writes_point front behind z h k e)

pointed_fault : (c : ℕ) (cs : List ℕ) (d : ℕ) (ds : List ℕ) → is_numeral (c ∷ cs) ≡ true → is_numeral (d ∷ ds) ≡ true → millionths_of (c ∷ cs) (d ∷ ds) ≡ None
    → number_piece ((c ∷ cs) ++ 46 ∷ d ∷ ds) ≡ piece.Fault 0
pointed_fault c cs d ds h k none =
    ap number_piece (sym (append-nil ((c ∷ cs) ++ 46 ∷ d ∷ ds)))
    ∙ (number_read (c ∷ cs) (d ∷ ds) [] (digits_all (c ∷ cs) h) (digits_all (d ∷ ds) k) refl refl
    ∙ ap (point_piece (length (c ∷ cs) + behind_len (d ∷ ds))) none)

pub pointed_read : (front behind : List ℕ) → is_numeral front ≡ true → is_numeral behind ≡ true → length (front ++ 46 ∷ behind) ≤ MAX_TEXT → IsReadAsSpelled (front ++ 46 ∷ behind)
pointed_read [] behind h k short = absurd (cc)
pointed_read (c ∷ cs) [] h k short = absurd (cc)
pointed_read (c ∷ cs) (d ∷ ds) h k short =
    let spelled = digits-pointed (c ∷ cs) (d ∷ ds) h k in
    record {
      read = λ z e. reads_written (writes_both_parts (c ∷ cs) (d ∷ ds) z h k (sym spelled ∙ e)) short;
      fault = λ e. fault_first c (cs ++ 46 ∷ d ∷ ds) (and_parts (is_ascii_digit c) (all_ascii_digits cs) h).0 (pointed_fault c cs d ds h k (sym spelled ∙ e)) short;
    }
