-- The text of units at a scale is read back as the same number of millionths.
use Rattle.std.proofs.Common.{◌≡◌, ℕ, zero, suc, ℤ, pos, negsuc, ◌*ℤ◌, ◌+◌, ◌-◌, ◌*◌, ◌/◌, ◌%◌, ◌^◌, ◌≤◌, ◌<◌, ◌==◌, ◌&&◌, Bool, true, false, cond, not, nat_le, nat_lt, if◌then◌else◌, List, [], ◌∷◌, ◌++◌, length, decimal, Option, Some, None, refl, ap, ap₂, sym, arith, length-append, ◌∙◌}
use Rattle.std.specs.Char.{is_ascii_digit}
use Rattle.std.specs.Fmt.{signed_decimal}
use Rattle.std.specs.List.{position, position_or_len}
use Rattle.std.specs.Str.{all_ascii_digits}
use Rattle.std.proofs.Math.Nat.{le-mul_of_pos_right, one-le-pow, pow-succ'}
use Rattle.std.proofs.Math.Seq.{drop-append-add, take-append_seam}
use Rattle.std.proofs.lemmas.Bool.{and_from, and_parts, cond-false, cond-true, cond_both, eqb-true, le-leb, leb-true}
use Rattle.std.proofs.lemmas.Bool.Decides.{nat_tests}
use Rattle.std.proofs.lemmas.Fmt.{decimal_nonempty, digits_decimal, digits_value-decimal}
use Rattle.std.proofs.lemmas.Int.{ints}
use Rattle.std.proofs.lemmas.Nat.{pow-add}
use Rattle.escrow_num.specs.Amount.{IsAmount, after_sign, is_negative, is_numeral, number_after, number_of, signed, spelled}
use Rattle.escrow_num.specs.Decimal.{before_trimmed, decimal_spelled, millionths_of, negated_if, spelled_at, trimmed, unsigned_spelled}
use Rattle.escrow_num.specs.Scale.{unit_at}
use Rattle.escrow_num.specs.Scaled.{before_last, last_digits, magnitude_text, pointed, scaled_text}
use Rattle.escrow_num.proofs.DigitLemmas.{number-append}
use Rattle.escrow_num.proofs.ReadLemmas.{numeral-parts, own, parts-numeral}
use Rattle.escrow_num.proofs.ScaleLemmas.{neg-product}
use Rattle.escrow_num.proofs.ScaledLemmas.{append-nothing, before-small, point-before}

-- a point is no digit
abbrev is_point : ℕ → Bool
is_point c = c == 46

no-point : (c : ℕ) → is_ascii_digit c ≡ true → is_point c ≡ false
no-point c e = grind (arith, nat_tests)

-- the index of the point
point-len : (front rest : List ℕ) → all_ascii_digits front ≡ true → position_or_len is_point (front ++ 46 ∷ rest) ≡ length front
point-len [] rest e = refl
point-len (c ∷ cs) rest e =
    let parts = and_parts (is_ascii_digit c) (all_ascii_digits cs) e in
    ap (λ (b : Bool). cond (not b) (1 + position_or_len is_point (cs ++ 46 ∷ rest)) 0) (no-point c parts.0) ∙ omega (arith, point-len cs rest parts.1)

none-len : (front : List ℕ) → all_ascii_digits front ≡ true → position_or_len is_point front ≡ length front
none-len [] e = refl
none-len (c ∷ cs) e =
    let parts = and_parts (is_ascii_digit c) (all_ascii_digits cs) e in
    ap (λ (b : Bool). cond (not b) (1 + position_or_len is_point cs) 0) (no-point c parts.0) ∙ omega (arith, none-len cs parts.1)

below : (n m : ℕ) → n < m → nat_lt n m ≡ true
below n m h = grind (arith, nat_tests)

not-below : (n : ℕ) → nat_lt n n ≡ false
not-below n = grind (arith, nat_tests)

point-at : (front rest : List ℕ) → all_ascii_digits front ≡ true → position is_point (front ++ 46 ∷ rest) ≡ Some (length front)
point-at front rest e =
    ap (λ (n : ℕ). cond (nat_lt n (length (front ++ 46 ∷ rest))) (Some n) None) (point-len front rest e) ∙
    cond-true (nat_lt (length front) (length (front ++ 46 ∷ rest))) (Some (length front)) None
    (below (length front) (length (front ++ 46 ∷ rest)) (omega (arith, length-append front (46 ∷ rest))))

point-none : (front : List ℕ) → all_ascii_digits front ≡ true → position is_point front ≡ None
point-none front e =
    ap (λ (n : ℕ). cond (nat_lt n (length front)) (Some n) None) (none-len front e) ∙ cond-false (nat_lt (length front) (length front)) (Some (length front)) None (not-below (length front))

-- two numerals with a point between them
pub spelled-pointed : (front behind : List ℕ) → is_numeral front ≡ true → is_numeral behind ≡ true → unsigned_spelled (front ++ 46 ∷ behind) ≡ millionths_of front behind
spelled-pointed front behind e f =
    ap (spelled_at (front ++ 46 ∷ behind)) (point-at front behind (numeral-parts front e).0) ∙
    (ap₂ (λ (xs ys : List ℕ). if is_numeral xs && is_numeral ys then millionths_of xs ys else None) (take-append_seam front (46 ∷ behind)) (drop-append-add front (46 ∷ behind) 1) ∙
    cond-true (is_numeral front && is_numeral behind) (millionths_of front behind) None (and_from (is_numeral front) (is_numeral behind) e f))

-- one numeral alone
pub spelled-whole : (front : List ℕ) → is_numeral front ≡ true → unsigned_spelled front ≡ millionths_of front []
spelled-whole front e =
    ap (spelled_at front) (point-none front (numeral-parts front e).0) ∙ cond-true (is_numeral front) (millionths_of front []) None e

-- trimming zeros at the end
before-length : (c : ℕ) (ts : List ℕ) → length (before_trimmed c ts) ≤ length ts + 1
before-length c [] = cond_both (c == 48) [] (c ∷ []) (λ ds. length ds ≤ 0 + 1) (λ _. omega arith) (λ _. omega arith)
before-length c (d ∷ ds) = omega arith

trim-length : (ds : List ℕ) → length (trimmed ds) ≤ length ds
trim-length [] = omega arith
trim-length (c ∷ cs) = omega (arith, before-length c (trimmed cs), trim-length cs)

trim-zero : (m c n x : ℕ) → c ≡ 48 → x ≡ (10 * m + (c - 48)) * 10 ^ (n - 0) → x ≡ m * 10 ^ (suc n - 0)
trim-zero m c n x e h =
    let a : n - 0 ≡ n = omega arith in
    let b : suc n - 0 ≡ suc n = omega arith in
    let d : 10 * m + (c - 48) ≡ 10 * m = omega arith in
    let g = rw (d, a) at h in
    rw (b, pow-succ' 10 n) (omega (arith, g))

trim-step : (m c : ℕ) (cs ts : List ℕ) → length ts ≤ length cs
    → number_after (10 * m + (c - 48)) cs ≡ number_after (10 * m + (c - 48)) ts * 10 ^ (length cs - length ts)
    → number_after m (c ∷ cs) ≡ number_after m (before_trimmed c ts) * 10 ^ (length (c ∷ cs) - length (before_trimmed c ts))
trim-step m c cs [] short h =
    let same : length cs - 0 ≡ suc (length cs) - 1 = omega arith in
    cond_both (c == 48) [] (c ∷ []) (λ ds. number_after m (c ∷ cs) ≡ number_after m ds * 10 ^ (length (c ∷ cs) - length ds))
    (λ e. trim-zero m c (length cs) (number_after m (c ∷ cs)) (eqb-true c 48 e) h)
    (λ _. h ∙ ap (λ (n : ℕ). (10 * m + (c - 48)) * 10 ^ n) same)
trim-step m c cs (d ∷ ds) short h =
    let same : length cs - suc (length ds) ≡ suc (length cs) - suc (suc (length ds)) = omega arith in
    h ∙ ap (λ (n : ℕ). number_after (10 * m + (c - 48)) (d ∷ ds) * 10 ^ n) same

trim-number : (m : ℕ) (ds : List ℕ) → number_after m ds ≡ number_after m (trimmed ds) * 10 ^ (length ds - length (trimmed ds))
trim-number m [] = omega arith
trim-number m (c ∷ cs) = trim-step m c cs (trimmed cs) (trim-length cs) (trim-number (10 * m + (c - 48)) cs)

-- a unit of a scale in units of a scale with more digits
unit-split : (t s : ℕ) → t ≤ s → s ≤ 6 → unit_at t ≡ 10 ^ (s - t) * unit_at s
unfolding unit_at
unit-split t s less scaled =
    let e : 6 - t ≡ (s - t) + (6 - s) = omega arith in
    ap (λ (n : ℕ). 10 ^ n) e ∙ pow-add 10 (s - t) (6 - s)

-- the digits are accepted
given : (front behind : List ℕ) → length (trimmed behind) ≤ 6 → number_of (front ++ trimmed behind) ≤ 999999999999999
    → millionths_of front behind ≡ Some (pos (number_of (front ++ trimmed behind) * unit_at (length (trimmed behind))))
unfolding millionths_of
given front behind scaled small =
    cond-true (nat_le (length (trimmed behind)) 6 && nat_le (number_of (front ++ trimmed behind)) 999999999999999)
    (Some (pos (number_of (front ++ trimmed behind) * unit_at (length (trimmed behind))))) None
    (and_from (nat_le (length (trimmed behind)) 6) (nat_le (number_of (front ++ trimmed behind)) 999999999999999) (le-leb (length (trimmed behind)) 6 scaled) (le-leb (number_of (front ++ trimmed behind)) 999999999999999 small))

regroup : (u a b : ℕ) → u * (a * b) ≡ (u * a) * b
regroup u a b = omega arith

-- digits that spell n, with this number of them after the point
millionths-are : (front ds : List ℕ) (n s : ℕ) → number_of (front ++ ds) ≡ n → length ds ≡ s → s ≤ 6 → n ≤ 999999999999999
    → millionths_of front ds ≡ Some (pos (n * unit_at s))
millionths-are front ds n s e l scaled small =
    let short : length (trimmed ds) ≤ s = omega (arith, trim-length ds) in
    let split : n ≡ number_of (front ++ trimmed ds) * 10 ^ (s - length (trimmed ds)) =
    sym e ∙ number-append 0 front ds ∙ trim-number (number_of front) ds ∙
    ap₂ (λ (m k : ℕ). m * 10 ^ (k - length (trimmed ds))) (sym (number-append 0 front (trimmed ds))) l in
    let power : 1 ≤ 10 ^ (s - length (trimmed ds)) = one-le-pow (s - length (trimmed ds)) 10 (omega arith) in
    let less : number_of (front ++ trimmed ds) ≤ number_of (front ++ trimmed ds) * 10 ^ (s - length (trimmed ds)) = le-mul_of_pos_right (number_of (front ++ trimmed ds)) power in
    let worth : number_of (front ++ trimmed ds) * unit_at (length (trimmed ds)) ≡ n * unit_at s =
    ap (λ (k : ℕ). number_of (front ++ trimmed ds) * k) (unit-split (length (trimmed ds)) s short scaled) ∙
    regroup (number_of (front ++ trimmed ds)) (10 ^ (s - length (trimmed ds))) (unit_at s) ∙ ap (λ (k : ℕ). k * unit_at s) (sym split) in
    given front ds (omega arith) (omega (arith, less, split)) ∙ ap (λ (k : ℕ). Some (pos k)) worth

-- the last digits of a number are that many digits, and spell it after the first ones
last-number : (digits n : ℕ) → number_after (before_last digits n) (last_digits digits n) ≡ n
last-number zero n = refl
last-number (suc k) n =
    number-append (before_last k (n / 10)) (last_digits k (n / 10)) ((48 + n % 10) ∷ []) ∙ (ap (λ (m : ℕ). 10 * m + (48 + n % 10 - 48)) (last-number k (n / 10)) ∙ omega arith)

pub last-length : (digits n : ℕ) → length (last_digits digits n) ≡ digits
last-length zero n = refl
last-length (suc k) n = omega (arith, length-append (last_digits k (n / 10)) ((48 + n % 10) ∷ []), last-length k (n / 10))

digits-append : (xs ys : List ℕ) → all_ascii_digits xs ≡ true → all_ascii_digits ys ≡ true → all_ascii_digits (xs ++ ys) ≡ true
digits-append [] ys e f = f
digits-append (c ∷ cs) ys e f =
    let parts = and_parts (is_ascii_digit c) (all_ascii_digits cs) e in and_from (is_ascii_digit c) (all_ascii_digits (cs ++ ys)) parts.0 (digits-append cs ys parts.1 f)

one-digit : (d : ℕ) → d < 10 → all_ascii_digits ((48 + d) ∷ []) ≡ true
one-digit d small = grind (arith, nat_tests)

pub last-digits : (digits n : ℕ) → all_ascii_digits (last_digits digits n) ≡ true
last-digits zero n = refl
last-digits (suc k) n = digits-append (last_digits k (n / 10)) ((48 + n % 10) ∷ []) (last-digits k (n / 10)) (one-digit (n % 10) (omega arith))

-- the whole part is a numeral
whole-numeral : (n : ℕ) → n ≤ 999999999999999 → is_numeral (decimal n) ≡ true
whole-numeral n small = parts-numeral (decimal n) (digits_decimal own n (omega arith)) (decimal_nonempty n (omega arith))

pub before-whole : (scale n : ℕ) → n ≤ 999999999999999 → is_numeral (decimal (before_last scale n)) ≡ true
before-whole scale n small = whole-numeral (before_last scale n) (omega (arith, before-small scale n))

-- the whole part followed by the last digits spells the number
parts-number : (scale n : ℕ) → n ≤ 999999999999999 → number_of (decimal (before_last scale n) ++ last_digits scale n) ≡ n
parts-number scale n small =
    number-append 0 (decimal (before_last scale n)) (last_digits scale n) ∙
    ap (λ (m : ℕ). number_after m (last_digits scale n)) (digits_value-decimal own (before_last scale n) (omega (arith, before-small scale n))) ∙ last-number scale n

pub parts-spelled : (scale n : ℕ) → scale ≤ 6 → n ≤ 999999999999999 → millionths_of (decimal (before_last scale n)) (last_digits scale n) ≡ Some (pos (n * unit_at scale))
parts-spelled scale n scaled small =
    millionths-are (decimal (before_last scale n)) (last_digits scale n) n scale (parts-number scale n small) (last-length scale n) scaled small

-- a magnitude is read back
magnitude-spelled : (scale n : ℕ) → scale ≤ 6 → n ≤ 999999999999999 → unsigned_spelled (magnitude_text scale n) ≡ Some (pos (n * unit_at scale))
magnitude-spelled zero n scaled small =
    ap unsigned_spelled (append-nothing (decimal n)) ∙ spelled-whole (decimal n) (whole-numeral n small) ∙
    parts-spelled 0 n scaled small
magnitude-spelled (suc k) n scaled small =
    let numeral : is_numeral (decimal (before_last (suc k) n)) ≡ true = before-whole (suc k) n small in
    let some : 0 < length (last_digits (suc k) n) = omega (arith, last-length (suc k) n) in
    ap (λ (xs : List ℕ). unsigned_spelled (decimal (before_last (suc k) n) ++ xs)) (sym (point-before (last_digits k (n / 10)) (48 + n % 10))) ∙
    spelled-pointed (decimal (before_last (suc k) n)) (last_digits (suc k) n) numeral (parts-numeral (last_digits (suc k) n) (last-digits (suc k) n) some) ∙
    parts-spelled (suc k) n scaled small

-- a text that begins with a digit has no sign
digit-unsigned : (c : ℕ) → is_ascii_digit c ≡ true → ((c == 45) ≡ false) × ((c == 43) ≡ false)
digit-unsigned c e = (grind (arith, nat_tests), grind (arith, nat_tests))

no-minus : (front rest : List ℕ) → is_numeral front ≡ true → is_negative (front ++ rest) ≡ false
no-minus [] rest e = absurd (cc)
no-minus (c ∷ cs) rest e = (digit-unsigned c (and_parts (is_ascii_digit c) (all_ascii_digits cs) e).0).0

no-sign : (front rest : List ℕ) → is_numeral front ≡ true → after_sign (front ++ rest) ≡ front ++ rest
no-sign [] rest e = absurd (cc)
no-sign (c ∷ cs) rest e = let d = digit-unsigned c (and_parts (is_ascii_digit c) (all_ascii_digits cs) e).0 in rw (d.0, d.1) refl

unsigned-text : (front rest : List ℕ) → is_numeral front ≡ true → decimal_spelled (front ++ rest) ≡ negated_if false (unsigned_spelled (front ++ rest))
unfolding decimal_spelled
unsigned-text front rest e = ap₂ (λ (b : Bool) (xs : List ℕ). negated_if b (unsigned_spelled xs)) (no-minus front rest e) (no-sign front rest e)

minus-text : (text : List ℕ) → decimal_spelled (45 ∷ text) ≡ negated_if true (unsigned_spelled text)
unfolding decimal_spelled
minus-text text = refl

-- units of a scale are read back as the same number of millionths
pub read-back : (scale : ℕ) (u : ℤ) → scale ≤ 6 → IsAmount u → decimal_spelled (scaled_text scale u) ≡ Some (u *ℤ pos (unit_at scale))
unfolding scaled_text
read-back scale (pos n) scaled small =
    let bound : n ≤ 999999999999999 = omega (arith, ints, small.1) in
    let numeral = before-whole scale n bound in
    unsigned-text (decimal (before_last scale n)) (pointed (last_digits scale n)) numeral ∙ ap (negated_if false) (magnitude-spelled scale n scaled bound)
read-back scale (negsuc n) scaled small =
    let bound : suc n ≤ 999999999999999 = omega (arith, ints, small.0) in
    minus-text (magnitude_text scale (suc n)) ∙ ap (negated_if true) (magnitude-spelled scale (suc n) scaled bound)

-- at scale 0 the text is that of a whole number
pub whole-text : (u : ℤ) → scaled_text 0 u ≡ signed_decimal u
unfolding scaled_text
whole-text (pos n) = append-nothing (decimal n)
whole-text (negsuc n) = ap (λ (xs : List ℕ). 45 ∷ xs) (append-nothing (decimal (suc n)))

-- a number without a minus sign is not negated
not-turned : (r : Option ℤ) → negated_if false r ≡ r
not-turned None = refl
not-turned (Some z) = refl

-- digits before and after a point
pub digits-pointed : (front behind : List ℕ) → is_numeral front ≡ true → is_numeral behind ≡ true → decimal_spelled (front ++ 46 ∷ behind) ≡ millionths_of front behind
digits-pointed front behind e f = unsigned-text front (46 ∷ behind) e ∙ not-turned (unsigned_spelled (front ++ 46 ∷ behind)) ∙ spelled-pointed front behind e f

-- digits without a point
pub digits-whole : (digits : List ℕ) → is_numeral digits ≡ true → decimal_spelled digits ≡ millionths_of digits []
digits-whole digits e =
    ap decimal_spelled (sym (append-nothing digits)) ∙ unsigned-text digits [] e ∙ not-turned (unsigned_spelled (digits ++ [])) ∙ ap unsigned_spelled (append-nothing digits) ∙ spelled-whole digits e

turned-product : (negative : Bool) (n k : ℕ) → negated_if negative (Some (pos (n * k))) ≡ Some (signed negative n *ℤ pos k)
turned-product true n k = ap (λ (z : ℤ). Some z) (sym (neg-product (pos n) k))
turned-product false n k = refl

-- a text that spells an amount spells the same decimal
pub amount-spelled : (text : List ℕ) (amount : ℤ) → spelled text ≡ Some amount → decimal_spelled text ≡ Some (amount *ℤ pos (unit_at 0))
unfolding decimal_spelled
amount-spelled text amount e =
    cond_both (is_numeral (after_sign text) && nat_le (number_of (after_sign text)) 999999999999999) (Some (signed (is_negative text) (number_of (after_sign text)))) None
    (λ r. r ≡ Some amount → negated_if (is_negative text) (unsigned_spelled (after_sign text)) ≡ Some (amount *ℤ pos (unit_at 0)))
    (λ t some.
    let parts = and_parts (is_numeral (after_sign text)) (nat_le (number_of (after_sign text)) 999999999999999) t in
    let same : signed (is_negative text) (number_of (after_sign text)) ≡ amount = cc some in
    ap (negated_if (is_negative text))
    (spelled-whole (after_sign text) parts.0 ∙
    millionths-are (after_sign text) [] (number_of (after_sign text)) 0 (ap number_of (append-nothing (after_sign text))) refl (omega arith) (leb-true (number_of (after_sign text)) 999999999999999 parts.1)) ∙
    turned-product (is_negative text) (number_of (after_sign text)) (unit_at 0) ∙ ap (λ (z : ℤ). Some (z *ℤ pos (unit_at 0))) same)
    (λ _ none. absurd (cc none)) e
