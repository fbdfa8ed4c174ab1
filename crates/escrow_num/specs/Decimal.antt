-- Believed: what a decimal is, and which one a text spells.
use Rattle.std.specs.Prelude.{◌≡◌, ℕ, ℤ, pos, neg_ℤ, ◌+◌, ◌*◌, ◌*ℤ◌, ◌==◌, Bool, ◌&&◌, nat_le, int_div, int_rem, unsigned_abs, if◌then◌else◌, Option, Some, None, List, [], ◌∷◌, ◌++◌, length, take, drop}
use Rattle.std.specs.List.{position}
use Rattle.std.specs.Ordering.{int_eq}
use Rattle.escrow_num.specs.Amount.{IsAmount, after_sign, is_amount, is_negative, is_numeral, number_of}
use Rattle.escrow_num.specs.Scale.{IsScale, unit_at}
use Rattle.escrow_num.specs.declared.amount.TheConstants.Amount.{MAX}
use Rattle.escrow_num.specs.declared.scale.TheConstants.Scale.{MAX as MAX_SCALE}

-- the millionths are this many units of the scale, and the units are an amount
pub record AreUnits (scale : ℕ) (millionths units : ℤ) : Type 0 where
  pub scaled : IsScale scale
  pub worth : units *ℤ pos (unit_at scale) ≡ millionths
  pub small : IsAmount units

-- a decimal, in millionths, is an amount of units of some scale: at most 15 digits, of which at most 6 are after the
-- point
abbrev pub IsDecimal : ℤ → Type 0
IsDecimal z = (scale : ℕ) × (units : ℤ) × AreUnits scale z units

-- a digit before others that are trimmed: nothing if it is a zero and none follow
abbrev pub before_trimmed : ℕ → List ℕ → List ℕ
before_trimmed c [] = if c == 48 then [] else c ∷ []
before_trimmed c (d ∷ ds) = c ∷ d ∷ ds

-- digits without the zeros at their end
abbrev pub trimmed : List ℕ → List ℕ
trimmed [] = []
trimmed (c ∷ cs) = before_trimmed c (trimmed cs)

-- the millionths that digits before a point and after it spell. Without the zeros at the end, at most 6 digits are
-- after the point, and the number without the point has at most 15 digits
unfoldable pub millionths_of : List ℕ → List ℕ → Option ℤ
millionths_of front behind =
    let digits = trimmed behind in
    let units = number_of (front ++ digits) in
    if nat_le (length digits) MAX_SCALE && nat_le units (unsigned_abs MAX)
    then Some (pos (units * unit_at (length digits))) else None

-- the millionths that a numeral spells
abbrev pub whole_spelled : List ℕ → Option ℤ
whole_spelled bytes = if is_numeral bytes then millionths_of bytes [] else None

-- the millionths that two numerals spell, one before a point and one after it
abbrev pub pointed_spelled : List ℕ → List ℕ → Option ℤ
pointed_spelled front behind = if is_numeral front && is_numeral behind then millionths_of front behind else None

-- the millionths that bytes spell, given the place of their first point, if they have one
abbrev pub spelled_at : List ℕ → Option ℕ → Option ℤ
spelled_at bytes None = whole_spelled bytes
spelled_at bytes (Some place) = pointed_spelled (take place bytes) (drop (place + 1) bytes)

-- the millionths that a text without a sign spells
abbrev pub unsigned_spelled : List ℕ → Option ℤ
unsigned_spelled bytes = spelled_at bytes (position (λ c. c == 46) bytes)

-- a number with its sign turned, if a test holds
abbrev pub negated_if : Bool → Option ℤ → Option ℤ
negated_if test None = None
negated_if test (Some z) = Some (if test then neg_ℤ z else z)

-- the millionths that a text spells: an optional sign, digits, and optionally a point and digits
unfoldable pub decimal_spelled : List ℕ → Option ℤ
decimal_spelled text = negated_if (is_negative text) (unsigned_spelled (after_sign text))

-- millionths in units of a scale, if they are a whole number of units and an amount; nothing is rounded
unfoldable pub units_at : ℕ → ℤ → Option ℤ
units_at scale z =
    let units = int_div z (pos (unit_at scale)) in
    if nat_le scale MAX_SCALE && (int_eq (int_rem z (pos (unit_at scale))) (pos 0) && is_amount units) then Some units
    else None
