-- Believed: the statements of the laws in src/laws.rt.
use Rattle.std.specs.Prelude.{◌≡◌, ◌↔◌, ℕ, ℤ, pos, ◌*◌, ◌*ℤ◌, ◌≤◌, unsigned_abs, Some, List, [], ◌∷◌, ◌++◌, length, decimal, true}
use Rattle.std.specs.Fmt.{signed_decimal}
use Rattle.std.specs.Str.{all_ascii_digits}
use Rattle.escrow_num.specs.Amount.{IsAmount, is_numeral, spelled}
use Rattle.escrow_num.specs.Decimal.{AreUnits, decimal_spelled, millionths_of, units_at}
use Rattle.escrow_num.specs.Scale.{IsScale, unit_at}
use Rattle.escrow_num.specs.Scaled.{before_last, last_digits, scaled_text}
use Rattle.escrow_num.specs.declared.amount.TheConstants.Amount.{MAX as MAX_AMOUNT}
use Rattle.escrow_num.specs.declared.decimal.TheConstants.Decimal.{MAX as MAX_DECIMAL}
use Rattle.escrow_num.specs.declared.name.TheConstants.Name.{MAX_LEN, MAX_WRITTEN}
use Rattle.escrow_num.specs.declared.reservation.TheConstants.Reservation.{MAX_ID}
use Rattle.escrow_num.specs.declared.scale.TheConstants.Scale.{MAX as MAX_SCALE}
use Rattle.escrow_num.specs.declared.scaled.TheConstants.Scaled.{MAX_LEN as MAX_TEXT}
use Rattle.escrow_num.specs.declared.session.TheConstants.Session.{MAX as MAX_SESSION, MAX_SHARED as MAX_SHARED_SESSION}
use Rattle.escrow_num.specs.declared.wide.TheConstants.Wide.{MAX as MAX_WIDE}

-- the limits of this layer, as numbers
pub record Limits : Type 0 where
  pub sessions : MAX_SESSION ≡ 65535
  pub shared_sessions : MAX_SHARED_SESSION ≡ 64
  pub amounts : MAX_AMOUNT ≡ pos 999999999999999
  pub wide_sums : MAX_WIDE ≡ pos 1000000000000000000000000000000000
  pub ids : MAX_ID ≡ 999999999999999
  pub written_names : MAX_WRITTEN ≡ 30
  pub names : MAX_LEN ≡ 36
  pub scales : MAX_SCALE ≡ 6
  pub decimals : MAX_DECIMAL ≡ pos 999999999999999000000
  pub texts : MAX_TEXT ≡ 36

-- units of a scale exist exactly if they make up the millionths and are an amount: nothing is rounded
pub record UnitsAreExact : Type 0 where
  pub exact : (scale : ℕ) (millionths units : ℤ) → (units_at scale millionths ≡ Some units)
      ↔ AreUnits scale millionths units

-- what the text of an amount of units spells, and the text of whole units
pub record TextsAreReadBack : Type 0 where
  pub read_back : (scale : ℕ) (units : ℤ) → IsScale scale → IsAmount units
      → decimal_spelled (scaled_text scale units) ≡ Some (units *ℤ pos (unit_at scale))
  pub whole : (units : ℤ) → scaled_text 0 units ≡ signed_decimal units

-- the parts of a text of units are digits, and spell them
pub record PartsAreDigits : Type 0 where
  pub whole : (scale n : ℕ) → n ≤ unsigned_abs MAX_AMOUNT → is_numeral (decimal (before_last scale n)) ≡ true
  pub behind : (scale n : ℕ) → all_ascii_digits (last_digits scale n) ≡ true
  pub as_many : (scale n : ℕ) → length (last_digits scale n) ≡ scale
  pub spelled : (scale n : ℕ) → IsScale scale → n ≤ unsigned_abs MAX_AMOUNT
      → millionths_of (decimal (before_last scale n)) (last_digits scale n) ≡ Some (pos (n * unit_at scale))

-- what digits spell, and a text that spells an amount
pub record DigitsAreSpelled : Type 0 where
  pub whole : (digits : List ℕ) → is_numeral digits ≡ true → decimal_spelled digits ≡ millionths_of digits []
  pub pointed : (front behind : List ℕ) → is_numeral front ≡ true → is_numeral behind ≡ true
      → decimal_spelled (front ++ 46 ∷ behind) ≡ millionths_of front behind
  pub amounts : (text : List ℕ) (amount : ℤ) → spelled text ≡ Some amount
      → decimal_spelled text ≡ Some (amount *ℤ pos (unit_at 0))
