-- Reading a signed decimal number by `parse`, as specs/Amount.antt defines it.
use Rattle.std.proofs.Common.{◌≡◌, ℕ, zero, suc, ℤ, ◌^◌, ◌<◌, ◌≤◌, ◌==◌, ◌&&◌, Bool, true, false, nat_le, if◌then◌else◌, List, [], ◌∷◌, length, Option, Some, None, Result, Ok, Err, SomeIff, refl, ◌∙◌, ap, arith, rules, w64}
use Rattle.std.specs.Bool.{Decides}
use Rattle.std.specs.Result.{OkIff, result_ok}
use Rattle.std.specs.Option.{MatchOption}
use Rattle.std.specs.Str.{all_ascii_digits}
use Rattle.std.specs.Str.Parse.{ParsesSigned}
use Rattle.std.proofs.lemmas.Bool.{leb-true, le-leb, eqb-true, eqb-false}
use Rattle.std.proofs.lemmas.Str.Parse.{IsNumeralModel, numerals_by_fold, tells_all_ascii_digits, parse_signed_plain, parse_signed_plus, parse_signed_minus}
use Rattle.std.proofs.lemmas.Int.{ints}
use Rattle.escrow_num.specs.Amount.{IsAmount, is_numeral, number_after, number_of, signed, spelled}

-- `parse` reads the digits and the number of specs/Amount.antt
pub own : IsNumeralModel (λ ds. all_ascii_digits ds ≡ true) number_of
own = numerals_by_fold _ tells_all_ascii_digits number_after (search rules)

-- a signed number is an amount exactly if the number is within the limit
amount-small : (negative : Bool) (n : ℕ) → IsAmount (signed negative n) → n ≤ 999999999999999
amount-small true zero h = omega arith
amount-small true (suc n) h = omega (arith, ints, h.0)
amount-small false n h = omega (arith, ints, h.1)

small-amount : (negative : Bool) (n : ℕ) → n ≤ 999999999999999 → IsAmount (signed negative n)
small-amount true zero h = (omega (arith, ints), omega (arith, ints))
small-amount true (suc n) h = (omega (arith, ints), omega (arith, ints))
small-amount false n h = (omega (arith, ints), omega (arith, ints))

-- a parsed amount is kept
kept : (z : ℤ) (r : Option ℤ) → IsAmount z → SomeIff r (IsAmount z) z → r ≡ Some z
kept z None h m = absurd (m h)
kept z (Some x) h m = ap (λ (y : ℤ). Some y) m.1

-- any other number is not kept
dropped : (z : ℤ) (r : Option ℤ) → ¬ IsAmount z → SomeIff r (IsAmount z) z → r ≡ None
dropped z None h m = refl
dropped z (Some x) h m = absurd (h m.0)

-- a numeral and its sign give the number if it is small
read-digits : {E : Type 0} (numeral small negative : Bool) (n : ℕ) (A B Q : Type 0) (parsed : Result ℤ E) (r : Option ℤ)
    → (numeral ≡ true → A × B) → (A → B → numeral ≡ true) → Decides small (n ≤ 999999999999999) → (n ≤ 999999999999999 → Q)
    → OkIff parsed (A × B × Q) (signed negative n)
    → MatchOption (result_ok parsed) (r ≡ None) (λ z. SomeIff r (IsAmount z) z)
    → r ≡ (if numeral && small then Some (signed negative n) else None)
read-digits true true negative n A B Q (Ok z) r to from tells fits p m =
    let a : IsAmount z = rw p.1 (small-amount negative n (tells.0 refl)) in
    kept z r a m ∙ ap (λ (y : ℤ). Some y) p.1
read-digits true true negative n A B Q (Err e) r to from tells fits p m =
    let ab = to refl in absurd (p (ab.0, ab.1, fits (tells.0 refl)))
read-digits true false negative n A B Q (Ok z) r to from tells fits p m =
    dropped z r (λ h. let s : n ≤ 999999999999999 = amount-small negative n (rw (← p.1) h) in let e : false ≡ true = tells.1 s in cc) m
read-digits true false negative n A B Q (Err e) r to from tells fits p m = m
read-digits false small negative n A B Q (Ok z) r to from tells fits p m =
    let e : false ≡ true = from p.0.0 p.0.1 in cc
read-digits false small negative n A B Q (Err e) r to from tells fits p m = m

-- a numeral is digits, one or more
pub numeral-parts : (digits : List ℕ) → is_numeral digits ≡ true → (all_ascii_digits digits ≡ true) × (0 < length digits)
numeral-parts [] h = cc
numeral-parts (c ∷ cs) h = (h, omega arith)

pub parts-numeral : (digits : List ℕ) → all_ascii_digits digits ≡ true → 0 < length digits → is_numeral digits ≡ true
parts-numeral [] h l = absurd (omega arith)
parts-numeral (c ∷ cs) h l = h

-- the test of the limit
limited : (n : ℕ) → Decides (nat_le n 999999999999999) (n ≤ 999999999999999)
limited n = (leb-true n 999999999999999, le-leb n 999999999999999)

-- the same for digits without their sign
read-signed : {E : Type 0} (digits : List ℕ) (negative : Bool) (Q : Type 0) (parsed : Result ℤ E) (r : Option ℤ)
    → (number_of digits ≤ 999999999999999 → Q)
    → OkIff parsed ((all_ascii_digits digits ≡ true) × (0 < length digits) × Q) (signed negative (number_of digits))
    → MatchOption (result_ok parsed) (r ≡ None) (λ z. SomeIff r (IsAmount z) z)
    → r ≡ (if is_numeral digits && nat_le (number_of digits) 999999999999999 then Some (signed negative (number_of digits)) else None)
read-signed digits negative Q parsed r fits p m =
    read-digits (is_numeral digits) (nat_le (number_of digits) 999999999999999) negative (number_of digits) (all_ascii_digits digits ≡ true) (0 < length digits) Q parsed r
    (numeral-parts digits) (parts-numeral digits) (limited (number_of digits)) fits p m

-- the first character: a minus, a plus, or neither
read-first : {E : Type 0} (c : ℕ) (cs : List ℕ) (minus plus : Bool) (parsed : Result ℤ E) (r : Option ℤ)
    → (c == 45) ≡ minus → (c == 43) ≡ plus
    → ParsesSigned w64 10 (c ∷ cs) parsed
    → MatchOption (result_ok parsed) (r ≡ None) (λ z. SomeIff r (IsAmount z) z)
    → r ≡ spelled (c ∷ cs)
read-first c cs true plus parsed r e f p m =
    rw e (read-signed cs true (number_of cs ≤ 2 ^ 63) parsed r (λ h. omega arith) (parse_signed_minus own w64 (c ∷ cs) parsed p (eqb-true c 45 e)) m)
read-first c cs false true parsed r e f p m =
    rw (e, f) (read-signed cs false (number_of cs < 2 ^ 63) parsed r (λ h. omega arith) (parse_signed_plus own w64 (c ∷ cs) parsed p (eqb-true c 43 f)) m)
read-first c cs false false parsed r e f p m =
    rw (e, f) (read-signed (c ∷ cs) false (number_of (c ∷ cs) < 2 ^ 63) parsed r (λ h. omega arith) (parse_signed_plain own w64 (c ∷ cs) parsed p (eqb-false c 43 f) (eqb-false c 45 e)) m)

-- a parsed text that is kept if it is an amount gives what the text spells
pub read-spelled : {E : Type 0} (text : List ℕ) (parsed : Result ℤ E) (r : Option ℤ)
    → ParsesSigned w64 10 text parsed
    → MatchOption (result_ok parsed) (r ≡ None) (λ z. SomeIff r (IsAmount z) z)
    → r ≡ spelled text
read-spelled [] parsed r p m = read-signed [] false (0 < 2 ^ 63) parsed r (λ h. omega arith) (parse_signed_plain own w64 [] parsed p (λ e. omega arith) (λ e. omega arith)) m
read-spelled (c ∷ cs) parsed r p m = read-first c cs (c == 45) (c == 43) parsed r refl refl p m
