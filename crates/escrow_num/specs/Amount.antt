-- Believed: what an amount is, and which amount a text spells.
use Rattle.std.specs.Prelude.{ℕ, ℤ, pos, neg_ℤ, ◌+◌, ◌-◌, ◌*◌, ◌==◌, ◌≤ℤ◌, Bool, false, ◌&&◌, ◌||◌, nat_le, int_le, unsigned_abs, if◌then◌else◌, Option, Some, None, List, [], ◌∷◌}
use Rattle.std.specs.Str.{all_ascii_digits}
use Rattle.escrow_num.specs.declared.amount.TheConstants.Amount.{MAX}

-- an amount is a whole number of at most 15 digits, of either sign
abbrev pub IsAmount : ℤ → Type 0
IsAmount z = (neg_ℤ MAX ≤ℤ z) × (z ≤ℤ MAX)

-- the same as a test
abbrev pub is_amount : ℤ → Bool
is_amount z = int_le (neg_ℤ MAX) z && int_le z MAX

-- whether a text begins with a minus
abbrev pub is_negative : List ℕ → Bool
is_negative [] = false
is_negative (c ∷ cs) = c == 45

-- what follows a text's sign, a minus or a plus, or the whole text if it has none
abbrev pub after_sign : List ℕ → List ℕ
after_sign [] = []
after_sign (c ∷ cs) = if c == 45 || c == 43 then cs else c ∷ cs

-- one or more decimal digits, and nothing else
abbrev pub is_numeral : List ℕ → Bool
is_numeral [] = false
is_numeral (c ∷ cs) = all_ascii_digits (c ∷ cs)

-- the number that digits spell after n: each digit moves the digits before it up by one place
abbrev pub number_after : ℕ → List ℕ → ℕ
number_after n [] = n
number_after n (c ∷ cs) = number_after (10 * n + (c - 48)) cs

-- the number that digits spell
abbrev pub number_of : List ℕ → ℕ
number_of digits = number_after 0 digits

-- a number with its sign
abbrev pub signed : Bool → ℕ → ℤ
signed negative n = if negative then neg_ℤ (pos n) else pos n

-- the amount that a text spells: an optional sign, then a numeral within the limit
abbrev pub spelled : List ℕ → Option ℤ
spelled text =
    let digits = after_sign text in
    let number = number_of digits in
    if is_numeral digits && nat_le number (unsigned_abs MAX) then Some (signed (is_negative text) number) else None
