-- Printed terms, sums and comparisons are read back as the same.
use Rattle.std.proofs.Common.{◌≡◌, ℕ, suc, ℤ, pos, negsuc, ◌*ℤ◌, ◌^◌, ◌≤◌, ◌<◌, false, true, List, [], ◌∷◌, ◌++◌, arith, refl}
use Rattle.std.specs.Prelude.{codes}
use Rattle.std.specs.Fmt.{decimal}
use Rattle.std.proofs.lemmas.Fmt.{decimal_nonempty, first_decimal}
use Rattle.std.proofs.lemmas.Int.{ints}
use Rattle.escrow_num.specs.Amount.{IsAmount}
use Rattle.escrow_num.specs.Scale.{IsScale, unit_at}
use Rattle.escrow_num.specs.Scaled.{scaled_text}
use Rattle.escrow_statement.specs.declared.statement.Comparison.{Comparison}
use Rattle.escrow_statement.specs.declared.statement.Comparison.TheVariants as comparisons
use Rattle.escrow_statement.specs.declared.statement.Term.{Term}
use Rattle.escrow_statement.specs.declared.statement.Term.TheVariants as terms
use Rattle.escrow_statement.specs.declared.statement.Test.TheVariants as tests
use Rattle.escrow_sql.specs.declared.token.Symbol.{Symbol}
use Rattle.escrow_sql.specs.declared.token.Symbol.TheVariants as symbols
use Rattle.escrow_statement.specs.declared.word.Word.TheVariants as words
use Rattle.escrow_sql.specs.Grammar.{Grammar, many, sequence}
use Rattle.escrow_sql.specs.Statement.{comparison, name, optional, sign, signed, signed_term, sum, term, test_part}
use Rattle.escrow_sql.proofs.Writing.{Writes, is_behind, none_more, writes_both, writes_joined, writes_apart, writes_blank, writes_first, writes_left, writes_right, writes_meaning, writes_nothing}
use Rattle.escrow_sql.proofs.WritingNumbers.{digits_no_minus, magnitude_no_minus, writes_magnitude_term, writes_signed}
use Rattle.escrow_sql.proofs.WritingTokens.{no_minus, writes_whole, writes_symbol, writes_symbol_apart, writes_word, written}

-- a column by itself, and a multiple of a column
pub writes_once : {n : List ℕ} → Writes is_behind name n n → Writes is_behind term n (terms.Column (pos 1) n)
unfolding term
writes_once w = writes_right (writes_right (writes_first w (writes_right writes_nothing)))

pub writes_times : {n : List ℕ} (m : ℕ) → m ≤ 999999999999999 → Writes is_behind name n n → Writes is_behind term (decimal m ++ (codes " * " ++ n)) (terms.Column (pos m) n)
unfolding term
writes_times m small w =
    writes_left (writes_apart (writes_whole m small) refl (writes_left (writes_meaning (writes_blank (writes_joined (writes_symbol symbols.Star) (writes_blank w))))))

-- a term after others, with its sign
pub writes_plus : {t : List ℕ} {x : Term} → Writes is_behind term t x → Writes is_behind signed_term (codes " + " ++ t) (signed false x)
unfolding signed_term sign
writes_plus w = writes_blank (writes_joined (writes_left (writes_meaning (writes_symbol symbols.Plus))) (writes_blank w))

pub writes_minus : {t : List ℕ} {x : Term} → Writes is_behind term t x → Writes is_behind signed_term (codes " - " ++ t) (signed true x)
unfolding signed_term sign
writes_minus w = writes_blank (writes_both (writes_right (writes_meaning (writes_symbol symbols.Minus))) (λ rest q. refl) (writes_blank w))

-- the first term of a sum
abbrev pub first_term : Grammar Term
first_term = sequence (optional false sign) term signed

pub writes_unsigned : {t : List ℕ} {x : Term} → Writes is_behind term t x → Writes is_behind first_term t (signed false x)
writes_unsigned w = writes_joined (writes_right writes_nothing) w

-- a minus directly before a term, if the term begins with none
pub writes_negated : {t : List ℕ} {x : Term} → ((rest : List ℕ) → no_minus (t ++ rest) ≡ true) → Writes is_behind term t x
    → Writes is_behind first_term (codes "-" ++ t) (signed true x)
unfolding sign
writes_negated plain w = writes_both (writes_left (writes_right (writes_meaning (writes_symbol symbols.Minus)))) (λ rest q. plain rest) w

-- the first term, and the others after it
pub writes_sum : {s t : List ℕ} {x : Term} {xs : List Term} → Writes is_behind first_term s x → is_behind t ≡ true → Writes is_behind (many signed_term (λ ts. ts)) t xs
    → Writes is_behind sum (s ++ t) (x ∷ xs)
unfolding sum
writes_sum w behind others = writes_apart w behind others

pub digits_plain : (n : ℕ) (rest : List ℕ) → 0 < n → n < 2 ^ 64 → no_minus (decimal n ++ rest) ≡ true
digits_plain n rest some fits = digits_no_minus (decimal n) rest (decimal_nonempty n fits) (first_decimal n some fits)

-- a sum that is one number, printed with a scale
pub writes_number_sum : (k : ℕ) (z : ℤ) → IsScale k → IsAmount z → Writes is_behind sum (scaled_text k z) (terms.Number (z *ℤ pos (unit_at k)) ∷ [])
unfolding scaled_text sum
writes_number_sum k (pos n) scaled h = writes_first (writes_unsigned (writes_magnitude_term k n scaled (omega (arith, ints, h.1)))) none_more
writes_number_sum k (negsuc n) scaled h =
    let small : suc n ≤ 999999999999999 = omega (arith, ints, h.0) in
    writes_first (writes_negated (λ rest. magnitude_no_minus k (suc n) rest small) (writes_magnitude_term k (suc n) scaled small)) none_more

-- the symbol of a comparison
abbrev pub symbol_of : Comparison → Symbol
symbol_of comparisons.Below = symbols.Below
symbol_of comparisons.AtMost = symbols.AtMost
symbol_of comparisons.Above = symbols.Above
symbol_of comparisons.AtLeast = symbols.AtLeast
symbol_of comparisons.Equal = symbols.Equal

writes_comparison : (c : Comparison) → Writes is_behind comparison (written (symbol_of c)) c
unfolding comparison
writes_comparison comparisons.Below = writes_left (writes_meaning (writes_symbol_apart symbols.Below))
writes_comparison comparisons.AtMost = writes_right (writes_left (writes_meaning (writes_symbol_apart symbols.AtMost)))
writes_comparison comparisons.Above = writes_right (writes_right (writes_left (writes_meaning (writes_symbol_apart symbols.Above))))
writes_comparison comparisons.AtLeast = writes_right (writes_right (writes_right (writes_left (writes_meaning (writes_symbol_apart symbols.AtLeast)))))
writes_comparison comparisons.Equal = writes_right (writes_right (writes_right (writes_right (writes_meaning (writes_symbol_apart symbols.Equal)))))

-- a comparison with a number printed with a scale
pub writes_compare : (c : Comparison) (k : ℕ) (z : ℤ) → IsScale k → IsAmount z
    → Writes is_behind test_part (written (symbol_of c) ++ (codes " " ++ scaled_text k z)) (tests.Compare c (terms.Number (z *ℤ pos (unit_at k)) ∷ []))
unfolding test_part
writes_compare c k z scaled h = writes_left (writes_apart (writes_comparison c) refl (writes_blank (writes_number_sum k z scaled h)))

pub writes_between : (k : ℕ) (lo hi : ℤ) → IsScale k → IsAmount lo → IsAmount hi
    → Writes is_behind test_part (codes "BETWEEN " ++ (scaled_text k lo ++ (codes " AND " ++ scaled_text k hi))) (tests.Between (lo *ℤ pos (unit_at k)) (hi *ℤ pos (unit_at k)))
unfolding test_part
writes_between k lo hi scaled l h =
    writes_right (writes_apart (writes_word words.Between) refl (writes_blank (writes_apart (writes_signed k lo scaled l) refl (writes_blank (writes_apart (writes_word words.And) refl (writes_blank (writes_signed k hi scaled h)))))))
