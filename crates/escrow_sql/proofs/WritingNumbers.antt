-- Printed numbers with a scale, with their sign, and printed sizes of types are read back as the same.
use Rattle.std.proofs.Common.{◌≡◌, ℕ, zero, suc, ℤ, pos, negsuc, ◌*◌, ◌*ℤ◌, ◌≤◌, ◌<◌, ◌/◌, ◌%◌, ◌+◌, true, Some, None, List, [], ◌∷◌, ◌++◌, length, get_or, arith, refl, sym, subst, append_assoc}
use Rattle.std.specs.Prelude.{codes}
use Rattle.std.specs.Char.{is_ascii_digit}
use Rattle.std.specs.Fmt.{decimal}
use Rattle.std.specs.Str.{all_ascii_digits}
use Rattle.std.proofs.lemmas.Bool.{and_parts}
use Rattle.std.proofs.lemmas.Bool.Decides.{nat_tests}
use Rattle.std.proofs.lemmas.Int.{ints}
use Rattle.std.proofs.lemmas.List.{append-nil}
use Rattle.escrow_num.specs.Amount.{IsAmount, is_numeral}
use Rattle.escrow_num.specs.Scale.{IsScale, unit_at}
use Rattle.escrow_num.specs.Scaled.{before_last, last_digits, magnitude_text, pointed, scaled_text}
use Rattle.escrow_num.proofs.ReadBack.{before-whole, last-digits, last-length, parts-spelled}
use Rattle.escrow_num.proofs.ReadLemmas.{parts-numeral}
use Rattle.escrow_num.proofs.ScaledLemmas.{point-before}
use Rattle.escrow_statement.specs.declared.statement.Term.TheVariants as terms
use Rattle.escrow_sql.specs.declared.token.Symbol.TheVariants as symbols
use Rattle.escrow_sql.specs.Statement.{number, point, sign, signed_number, size, term, whole}
use Rattle.escrow_sql.proofs.Writing.{Writes, is_behind, writes_both, writes_joined, writes_apart, writes_first, writes_left, writes_right, writes_meaning, writes_nothing}
use Rattle.escrow_sql.proofs.WritingTokens.{no_minus, writes_point, writes_symbol, writes_whole}

-- digits begin without a minus
pub digits_no_minus : (ds rest : List ℕ) → 0 < length ds → 48 < get_or ds 0 0 → no_minus (ds ++ rest) ≡ true
digits_no_minus [] rest long first = absurd (omega arith)
digits_no_minus (c ∷ cs) rest long first = grind (arith, nat_tests)

numeral_no_minus : (ds rest : List ℕ) → is_numeral ds ≡ true → no_minus (ds ++ rest) ≡ true
numeral_no_minus [] rest h = absurd (cc)
numeral_no_minus (c ∷ cs) rest h = let digit = (and_parts (is_ascii_digit c) (all_ascii_digits cs) h).0 in grind (arith, nat_tests)

-- so does a magnitude
pub magnitude_no_minus : (k n : ℕ) (rest : List ℕ) → n ≤ 999999999999999 → no_minus (magnitude_text k n ++ rest) ≡ true
magnitude_no_minus k n rest h =
    rw (append_assoc (decimal (before_last k n)) (pointed (last_digits k n)) rest)
    (numeral_no_minus (decimal (before_last k n)) (pointed (last_digits k n) ++ rest) (before-whole k n h))

-- units of a scale with digits after the point are a number with a point
writes_pointed : (j n : ℕ) → IsScale (suc j) → n ≤ 999999999999999 → Writes is_behind point (magnitude_text (suc j) n) (pos (n * unit_at (suc j)))
writes_pointed j n scaled h =
    let some : 0 < length (last_digits (suc j) n) = omega (arith, last-length (suc j) n) in
    subst (λ (xs : List ℕ). Writes is_behind point (decimal (before_last (suc j) n) ++ xs) (pos (n * unit_at (suc j)))) (point-before (last_digits j (n / 10)) (48 + n % 10))
    (writes_point (decimal (before_last (suc j) n)) (last_digits (suc j) n) (pos (n * unit_at (suc j))) (before-whole (suc j) n h)
    (parts-numeral (last_digits (suc j) n) (last-digits (suc j) n) some) (parts-spelled (suc j) n scaled h))

-- units of a scale without such digits are a number without a point
writes_plain : (n : ℕ) → n ≤ 999999999999999 → Writes is_behind whole (magnitude_text 0 n) (pos n)
writes_plain n h = subst (λ (xs : List ℕ). Writes is_behind whole xs (pos n)) (sym (append-nil (decimal n))) (writes_whole n h)

-- a magnitude is read as a number
pub writes_magnitude : (k n : ℕ) → IsScale k → n ≤ 999999999999999 → Writes is_behind number (magnitude_text k n) (pos (n * unit_at k))
unfolding number
writes_magnitude zero n scaled h = writes_left (writes_meaning (writes_plain n h))
writes_magnitude (suc j) n scaled h = writes_right (writes_pointed j n scaled h)

-- a magnitude is read as a term
pub writes_magnitude_term : (k n : ℕ) → IsScale k → n ≤ 999999999999999 → Writes is_behind term (magnitude_text k n) (terms.Number (pos (n * unit_at k)))
unfolding term
writes_magnitude_term zero n scaled h = writes_left (writes_first (writes_plain n h) (writes_right writes_nothing))
writes_magnitude_term (suc j) n scaled h = writes_right (writes_left (writes_meaning (writes_pointed j n scaled h)))

-- units of a scale with their sign
pub writes_signed : (k : ℕ) (z : ℤ) → IsScale k → IsAmount z → Writes is_behind signed_number (scaled_text k z) (z *ℤ pos (unit_at k))
unfolding scaled_text signed_number sign
writes_signed k (pos n) scaled h = writes_joined (writes_right writes_nothing) (writes_magnitude k n scaled (omega (arith, ints, h.1)))
writes_signed k (negsuc n) scaled h =
    let small : suc n ≤ 999999999999999 = omega (arith, ints, h.0) in
    writes_both (writes_left (writes_right (writes_meaning (writes_symbol symbols.Minus)))) (λ rest q. magnitude_no_minus k (suc n) rest small) (writes_magnitude k (suc n) scaled small)

-- the size of a type, without a scale
pub writes_size : (p : ℕ) → p ≤ 999999999999999 → Writes is_behind size (decimal p) (record { digits = pos p; scale = None })
unfolding size
writes_size p h = writes_first (writes_whole p h) (writes_right writes_nothing)

-- the size of a type, with a scale
pub writes_scaled_size : (p s : ℕ) → p ≤ 999999999999999 → s ≤ 999999999999999
    → Writes is_behind size (decimal p ++ (codes "," ++ decimal s)) (record { digits = pos p; scale = Some (pos s) })
unfolding size
writes_scaled_size p s h k = writes_apart (writes_whole p h) refl (writes_left (writes_meaning (writes_joined (writes_symbol symbols.Comma) (writes_whole s k))))
