-- Digits of a text: zeros at the end, and the numbers that digits spell.
use Rattle.std.proofs.Common.{◌≡◌, ◌≢◌, ℕ, zero, suc, ◌+◌, ◌-◌, ◌*◌, ◌≤◌, ◌<◌, ◌&&◌, Bool, ℤ, pos, List, [], ◌∷◌, ◌++◌, length, Option, Some, None, SomeIff, refl, ap, subst, sym, arith, ◌∙◌, take, drop, get_or, add-one, drop-cons, w64}
use Rattle.std.proofs.lemmas.List.{take_more}
use Rattle.std.proofs.lemmas.Bool.Decides.{nat_tests}
use Rattle.std.specs.Char.{is_ascii_digit}
use Rattle.std.specs.Int.{cast_signed}
use Rattle.std.specs.List.{list_all}
use Rattle.std.specs.Str.{all_ascii_digits}
use Rattle.std.proofs.lemmas.Int.{ints}
use Rattle.escrow_num.specs.Amount.{IsAmount, number_after, number_of}
use Rattle.escrow_num.specs.Decimal.{before_trimmed, trimmed}

-- more digits never make a number smaller
pub number-grows : (n : ℕ) (ds : List ℕ) → n ≤ number_after n ds
number-grows n [] = omega arith
number-grows n (c ∷ cs) = omega (arith, number-grows (10 * n + (c - 48)) cs)

-- digits followed by more digits
pub number-append : (n : ℕ) (xs ys : List ℕ) → number_after n (xs ++ ys) ≡ number_after (number_after n xs) ys
number-append n [] ys = refl
number-append n (c ∷ cs) ys = number-append (10 * n + (c - 48)) cs ys

-- a zero at the end is trimmed
pub trimmed-zero : (xs : List ℕ) → trimmed (xs ++ 48 ∷ []) ≡ trimmed xs
trimmed-zero [] = refl
trimmed-zero (x ∷ xs) = ap (before_trimmed x) (trimmed-zero xs)

behind-first : (x c : ℕ) (xs : List ℕ) → before_trimmed x (xs ++ c ∷ []) ≡ x ∷ xs ++ c ∷ []
behind-first x c [] = refl
behind-first x c (y ∷ ys) = refl

-- any other digit at the end stays
pub trimmed-other : (xs : List ℕ) (c : ℕ) → c ≢ 48 → trimmed (xs ++ c ∷ []) ≡ xs ++ c ∷ []
trimmed-other [] c differs = grind (arith, nat_tests)
trimmed-other (x ∷ xs) c differs = ap (before_trimmed x) (trimmed-other xs c differs) ∙ behind-first x c xs

-- the two tests of digits agree
pub are_digits : (ds : List ℕ) → list_all is_ascii_digit ds ≡ all_ascii_digits ds
are_digits [] = refl
are_digits (c ∷ cs) = ap (λ (b : Bool). is_ascii_digit c && b) (are_digits cs)

-- a number past the limit stays past it with more digits
pub grown-past : (front behind : List ℕ) → ¬ (number_after 0 front ≤ 999999999999999) → ¬ (number_of (front ++ behind) ≤ 999999999999999)
grown-past front behind past small = past (omega (arith, number-append 0 front behind, number-grows (number_after 0 front) behind))

-- a natural number read as an amount
pub read-amount : (n : ℕ) (r : Option ℤ) → n ≤ 999999999999999 → SomeIff r (IsAmount (cast_signed w64 n)) (cast_signed w64 n) → SomeIff r (n ≤ 999999999999999) (pos n)
read-amount n None small m = absurd (m (omega (arith, ints), omega (arith, ints)))
read-amount n (Some z) small m = (small, omega (arith, ints, m.1))

one-less : (n : ℕ) → 0 < n → n ≡ (n - 1) + 1
one-less n some = omega arith

-- one step of the loop that trims zeros
pub trimmed-less : (ds : List ℕ) (len : ℕ) → 0 < len → len ≤ length ds → get_or ds (len - 1) 0 ≡ 48 → trimmed (take len ds) ≡ trimmed ds → trimmed (take (len - 1) ds) ≡ trimmed ds
trimmed-less ds len some within zero_at same =
    let below : len - 1 < length ds = omega arith in
    let front : take len ds ≡ take (len - 1) ds ++ 48 ∷ [] = ap (λ (n : ℕ). take n ds) (one-less len some) ∙ take_more ds (len - 1) 0 below ∙ ap (λ (d : ℕ). take (len - 1) ds ++ d ∷ []) zero_at in
    sym (trimmed-zero (take (len - 1) ds)) ∙ ap trimmed (sym front) ∙ same

-- the loop ends at another digit
pub trimmed-stays : (ds : List ℕ) (len : ℕ) → 0 < len → len ≤ length ds → get_or ds (len - 1) 0 ≢ 48 → trimmed (take len ds) ≡ trimmed ds → take len ds ≡ trimmed ds
trimmed-stays ds len some within other same =
    let below : len - 1 < length ds = omega arith in
    let front : take len ds ≡ take (len - 1) ds ++ get_or ds (len - 1) 0 ∷ [] = ap (λ (n : ℕ). take n ds) (one-less len some) ∙ take_more ds (len - 1) 0 below in
    front ∙ sym (trimmed-other (take (len - 1) ds) (get_or ds (len - 1) 0) other) ∙ ap trimmed (sym front) ∙ same

-- if a number is past the limit at one digit, it is past it at the end
pub number-past : (ds : List ℕ) (i n end : ℕ) → i < length ds → number_after n (drop i ds) ≡ end → 999999999999999 < 10 * n + (get_or ds i 0 - 48) → ¬ (end ≤ 999999999999999)
number-past ds i n end below same past small =
    let step : number_after n (drop i ds) ≡ number_after (10 * n + (get_or ds i 0 - 48)) (drop (i + 1) ds) = rw (add-one, drop-cons ds i 0) refl in
    omega (arith, number-grows (10 * n + (get_or ds i 0 - 48)) (drop (i + 1) ds))

pub trimmed-none : (ds : List ℕ) (len : ℕ) → len ≤ 0 → trimmed (take len ds) ≡ trimmed ds → take len ds ≡ trimmed ds
trimmed-none ds zero none same = same
trimmed-none ds (suc n) none same = absurd (omega arith)

-- the number of some digits followed by more digits
whole-number : (front behind : List ℕ) (whole : ℕ) → whole ≡ number_after 0 front → number_of (front ++ behind) ≡ number_after whole behind
whole-number front behind whole e = number-append 0 front behind ∙ ap (λ (n : ℕ). number_after n behind) (sym e)

pub grown-whole : (front behind : List ℕ) (whole : ℕ) → whole ≡ number_after 0 front → ¬ (number_after whole behind ≤ 999999999999999) → ¬ (number_of (front ++ behind) ≤ 999999999999999)
grown-whole front behind whole e past small = past (omega (arith, whole-number front behind whole e))

pub read-number : (front behind : List ℕ) (whole n : ℕ) (r : Option ℤ) → whole ≡ number_after 0 front
    → (number_after whole behind ≤ 999999999999999) × (n ≡ number_after whole behind)
    → SomeIff r (IsAmount (cast_signed w64 n)) (cast_signed w64 n)
    → SomeIff r (number_of (front ++ behind) ≤ 999999999999999) (pos (number_of (front ++ behind)))
read-number front behind whole n r e is m =
    let same : n ≡ number_of (front ++ behind) = is.1 ∙ sym (whole-number front behind whole e) in
    subst (λ (k : ℕ). SomeIff r (k ≤ 999999999999999) (pos k)) same (read-amount n r (omega (arith, is.0, is.1)) m)
