-- Writing units of a scale, as specs/Scaled.antt defines it.
use Rattle.std.proofs.Common.{◌≡◌, ℕ, zero, suc, ℤ, pos, negsuc, ◌+◌, ◌-◌, ◌/◌, ◌%◌, ◌^◌, ◌≤◌, ◌<◌, ◌==◌, if◌then◌else◌, int_lt, unsigned_abs, List, [], ◌∷◌, ◌++◌, length, drop, decimal, IsUtf8, IsAscii, refl, ap, sym, subst, arith, append_assoc, length-append, ◌∙◌, FitsSigned, Bool, false}
use Rattle.std.specs.Int.{cast_signed, cast_unsigned, w128}
use Rattle.std.proofs.lemmas.Bool.Decides.{nat_tests}
use Rattle.std.proofs.lemmas.Int.{ints, to_z-of_z}
use Rattle.escrow_num.specs.Wide.{IsWide}
use Rattle.std.proofs.Math.Nat.{pow-succ'}
use Rattle.std.proofs.lemmas.Fmt.{IsAscii-decimal_wide, decimal_by_steps_wide, decimal_digit, decimal_step_wide, length-decimal-le_wide}
use Rattle.std.proofs.lemmas.Str.{IsAscii-append, IsUtf8-from_ascii}
use Rattle.std.proofs.lemmas.Str.Ascii.{IsAscii-from_all, IsAscii-nil}
use Rattle.std.proofs.lemmas.List.Elements.{All-from_recursion}
use Rattle.escrow_num.specs.Scaled.{before_last, last_digits, magnitude_text, pointed, scaled_text}

-- one more of the last digits is written
pub digits-moved : (left rest : ℕ) (behind : List ℕ) → 0 < left → last_digits (left - 1) (rest / 10) ++ (48 + rest % 10) ∷ behind ≡ last_digits left rest ++ behind
digits-moved zero rest behind some = absurd (omega arith)
digits-moved (suc k) rest behind some = let e : suc k - 1 ≡ k = omega arith in rw e (sym (append_assoc (last_digits k (rest / 10)) ((48 + rest % 10) ∷ []) behind))

pub rest-moved : (left rest : ℕ) → 0 < left → before_last (left - 1) (rest / 10) ≡ before_last left rest
rest-moved zero rest some = absurd (omega arith)
rest-moved (suc k) rest some = let e : suc k - 1 ≡ k = omega arith in rw e refl

-- one more digit of a number is written
decimal-moved : (n : ℕ) (behind : List ℕ) → 10 ≤ n → n < 10 ^ 64 → decimal (n / 10) ++ (48 + n % 10) ∷ behind ≡ decimal n ++ behind
decimal-moved n behind great small =
    sym (append_assoc (decimal (n / 10)) ((48 + n % 10) ∷ []) behind) ∙ ap (λ (ds : List ℕ). ds ++ behind) (sym (decimal_step_wide n great small))

decimal-longer : (n : ℕ) → 10 ≤ n → n < 10 ^ 64 → length (decimal n) ≡ length (decimal (n / 10)) + 1
decimal-longer n great small = ap length (decimal_step_wide n great small) ∙ length-append (decimal (n / 10)) ((48 + n % 10) ∷ [])

-- a number has at least one digit
decimal-some : (n : ℕ) → n < 10 ^ 64 → 0 < length (decimal n)
decimal-some n small =
    decimal_by_steps_wide (λ m ds. 0 < length ds) (λ m h. omega arith) (λ m ds h some. omega (arith, length-append ds ((48 + m % 10) ∷ []))) n small

-- the last digit is written
pub decimal-last : (n : ℕ) (behind : List ℕ) → n < 10 → (48 + n) ∷ behind ≡ decimal n ++ behind
decimal-last n behind small = ap (λ (ds : List ℕ). ds ++ behind) (sym (decimal_digit n small))

-- a number is written up to an end, but for its first digits, those of `rest`, which will end at an index
pub record IsWritten (bytes : List ℕ) (number end : ℕ) (now : List ℕ) (rest at : ℕ) : Type 0 where
  pub place : at + length (decimal number) ≡ end + length (decimal rest)
  pub room : length (decimal rest) ≤ at
  pub within : at ≤ end
  pub written : decimal rest ++ drop at now ≡ decimal number ++ drop end bytes

pub has_place : {bytes : List ℕ} {number end : ℕ} {now : List ℕ} {rest at : ℕ} → IsWritten bytes number end now rest at → rest < 10 ^ 64 → 0 < at
has_place {rest = rest} h small = omega (arith, decimal-some rest small, h.room)

pub digit_written : {bytes : List ℕ} {number end : ℕ} {now next : List ℕ} {rest at before : ℕ} → IsWritten bytes number end now rest at → 10 ≤ rest → rest < 10 ^ 64
    → before + 1 ≡ at → drop before next ≡ (48 + rest % 10) ∷ drop at now → IsWritten bytes number end next (rest / 10) before
digit_written {now = now} {rest = rest} {at = at} h great small start put =
    let longer = decimal-longer rest great small in
    record {
      place = omega (arith, longer, h.place);
      room = omega (arith, longer, h.room);
      within = omega (arith, h.within);
      written = ap (λ (ds : List ℕ). decimal (rest / 10) ++ ds) put ∙ decimal-moved rest (drop at now) great small ∙ h.written;
    }

-- the whole part is at most the number
pub before-small : (digits n : ℕ) → before_last digits n ≤ n
before-small zero n = omega arith
before-small (suc k) n = omega (arith, before-small k (n / 10))

before-below : (k digits n : ℕ) → n < 10 ^ (k + digits) → before_last digits n < 10 ^ k
before-below k zero n below = let e : k + 0 ≡ k = omega arith in rw e at below
before-below k (suc d) n below =
    let e : k + suc d ≡ suc (k + d) = omega arith in
    let h = rw (e, pow-succ' 10 (k + d)) at below in
    before-below k d (n / 10) (omega (arith, h))

-- the greatest number of digits of the whole part
whole-short : (scale n : ℕ) → scale ≤ 6 → n < 10 ^ 34 → length (decimal (before_last scale n)) ≤ 34 - scale
whole-short scale n scaled below =
    let e : 34 ≡ (34 - scale) + scale = omega arith in
    let h : n < 10 ^ ((34 - scale) + scale) = subst (λ (k : ℕ). n < 10 ^ k) e below in
    length-decimal-le_wide (34 - scale) (before_last scale n) (omega arith) (before-below (34 - scale) scale n h) (omega (arith, before-small scale n))

pub whole-fits : (whole digits scale n : ℕ) → whole ≡ before_last digits n → digits ≡ scale → scale ≤ 6 → n < 10 ^ 34 → length (decimal whole) ≤ 34 - scale
whole-fits whole digits scale n e d scaled below =
    subst (λ (w : ℕ). length (decimal w) ≤ 34 - scale) (sym (e ∙ ap (λ (k : ℕ). before_last k n) d)) (whole-short scale n scaled below)

pub append-nothing : (xs : List ℕ) → xs ++ [] ≡ xs
append-nothing [] = refl
append-nothing (x ∷ xs) = ap (λ (ys : List ℕ). x ∷ ys) (append-nothing xs)

-- a point before digits
pub point-before : (xs : List ℕ) (d : ℕ) → 46 ∷ (xs ++ d ∷ []) ≡ pointed (xs ++ d ∷ [])
point-before [] d = refl
point-before (x ∷ xs) d = refl

suc-some : (k : ℕ) → (suc k == 0) ≡ false
suc-some k = grind (arith, nat_tests)

-- a point and the digits after it, written one after another
pointed-is : (scale n : ℕ) → (if scale == 0 then [] else 46 ∷ []) ++ (last_digits scale n ++ []) ≡ pointed (last_digits scale n)
pointed-is zero n = refl
pointed-is (suc k) n =
    ap (λ (b : Bool). (if b then [] else 46 ∷ []) ++ (last_digits (suc k) n ++ [])) (suc-some k) ∙
    (ap (λ (ds : List ℕ). 46 ∷ ds) (append-nothing (last_digits (suc k) n)) ∙ point-before (last_digits k (n / 10)) (48 + n % 10))

-- a whole part, a point and digits, written one after another
pub magnitude-written : (digits scale n whole : ℕ) (a b d o : List ℕ) → digits ≡ scale → whole ≡ before_last digits n
    → a ≡ decimal whole ++ b → b ≡ (if digits == 0 then [] else 46 ∷ []) ++ d → d ≡ last_digits digits n ++ o → o ≡ []
    → a ≡ magnitude_text scale n
magnitude-written digits scale n whole a b d o es ew ea eb ed eo =
    let tail : d ≡ last_digits digits n ++ [] = ed ∙ ap (λ (xs : List ℕ). last_digits digits n ++ xs) eo in
    let behind : b ≡ pointed (last_digits digits n) = eb ∙ ap (λ (xs : List ℕ). (if digits == 0 then [] else 46 ∷ []) ++ xs) tail ∙ pointed-is digits n in
    let all : a ≡ magnitude_text digits n = ea ∙ ap (λ (w : ℕ). decimal w ++ b) ew ∙ ap (λ (xs : List ℕ). decimal (before_last digits n) ++ xs) behind in
    all ∙ ap (λ (s : ℕ). magnitude_text s n) es

not-below : (n : ℕ) → int_lt (pos n) (pos 0) ≡ false
not-below n = grind (arith, nat_tests)

-- a sign before a magnitude
sign-before : (scale : ℕ) (z : ℤ) → (if int_lt z (pos 0) then 45 ∷ [] else []) ++ magnitude_text scale (unsigned_abs z) ≡ scaled_text scale z
unfolding scaled_text
sign-before scale (pos n) = ap (λ (b : Bool). (if b then 45 ∷ [] else []) ++ magnitude_text scale n) (not-below n)
sign-before scale (negsuc n) = refl

pub text-written : (s scale m : ℕ) (units z : ℤ) (a b : List ℕ) → IsWide z → z ≡ units → m ≡ unsigned_abs (cast_signed w128 (cast_unsigned w128 z)) → s ≡ scale
    → a ≡ (if int_lt (cast_signed w128 (cast_unsigned w128 z)) (pos 0) then 45 ∷ [] else []) ++ b → b ≡ magnitude_text s m
    → a ≡ scaled_text scale units
text-written s scale m units z a b wide ez em es ea eb =
    let fits : FitsSigned w128 z = omega (arith, ints, wide.0, wide.1) in
    let magnitude = rw (to_z-of_z w128 z fits) at em in
    let first = rw (to_z-of_z w128 z fits) at ea in
    let behind : b ≡ magnitude_text s (unsigned_abs z) = eb ∙ ap (λ (k : ℕ). magnitude_text s k) magnitude in
    let all : a ≡ scaled_text s z = first ∙ ap (λ (xs : List ℕ). (if int_lt z (pos 0) then 45 ∷ [] else []) ++ xs) behind ∙ sign-before s z in
    all ∙ ap (λ (k : ℕ). scaled_text k z) es ∙ ap (λ (y : ℤ). scaled_text scale y) ez

-- the text is ASCII
one-byte : (b : ℕ) → b < 128 → IsAscii (b ∷ [])
one-byte b small = IsAscii-from_all (b ∷ []) (All-from_recursion (λ (c : ℕ). c < 128) (b ∷ []) (small, tt))

digits-ascii : (digits n : ℕ) → IsAscii (last_digits digits n)
digits-ascii zero n = IsAscii-nil
digits-ascii (suc k) n = IsAscii-append (last_digits k (n / 10)) ((48 + n % 10) ∷ []) (digits-ascii k (n / 10)) (one-byte (48 + n % 10) (omega arith))

pointed-ascii : (ds : List ℕ) → IsAscii ds → IsAscii (pointed ds)
pointed-ascii [] is = IsAscii-nil
pointed-ascii (d ∷ ds) is = IsAscii-append (46 ∷ []) (d ∷ ds) (one-byte 46 (omega arith)) is

magnitude-ascii : (scale n : ℕ) → n < 10 ^ 64 → IsAscii (magnitude_text scale n)
magnitude-ascii scale n small =
    IsAscii-append (decimal (before_last scale n)) (pointed (last_digits scale n))
    (IsAscii-decimal_wide (before_last scale n) (omega (arith, before-small scale n))) (pointed-ascii (last_digits scale n) (digits-ascii scale n))

pub scaled-utf8 : (scale : ℕ) (z : ℤ) → unsigned_abs z < 10 ^ 64 → IsUtf8 (scaled_text scale z)
unfolding scaled_text
scaled-utf8 scale (pos n) small = IsUtf8-from_ascii (magnitude_text scale n) (magnitude-ascii scale n small)
scaled-utf8 scale (negsuc n) small =
    IsUtf8-from_ascii (45 ∷ magnitude_text scale (suc n)) (IsAscii-append (45 ∷ []) (magnitude_text scale (suc n)) (one-byte 45 (omega arith)) (magnitude-ascii scale (suc n) small))

-- no digits remain to be written
pub none-left : (left rest whole : ℕ) → left ≤ 0 → before_last left rest ≡ whole → rest ≡ whole
none-left zero rest whole none e = e
none-left (suc k) rest whole none e = absurd (omega arith)

pub none-written : (left rest at start : ℕ) (bytes text : List ℕ) → left ≤ 0 → at ≡ start → last_digits left rest ++ drop at bytes ≡ text → drop start bytes ≡ text
none-written zero rest at start bytes text none same e = ap (λ (n : ℕ). drop n bytes) (sym same) ∙ e
none-written (suc k) rest at start bytes text none same e = absurd (omega arith)

-- the text of a wide sum is UTF-8
wide-small : (z : ℤ) → IsWide z → unsigned_abs z < 10 ^ 64
wide-small (pos n) wide = omega (arith, ints, wide.1)
wide-small (negsuc n) wide = omega (arith, ints, wide.0)

pub wide-utf8 : (scale : ℕ) (z units : ℤ) (text : List ℕ) → IsWide z → z ≡ units → text ≡ scaled_text scale units → IsUtf8 text
wide-utf8 scale z units text wide ez e = subst IsUtf8 (sym e) (scaled-utf8 scale units (wide-small units (subst IsWide ez wide)))
