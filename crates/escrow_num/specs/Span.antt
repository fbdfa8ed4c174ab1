-- Believed: when a value is within limits, and the first limit that values pass.
use Rattle.std.specs.Prelude.{ℤ, ◌≤ℤ◌, int_lt, Option, Some, None, IfSome, if◌then◌else◌}
use Rattle.escrow_num.specs.declared.span.Span.{Span}
use Rattle.escrow_num.specs.declared.span.Side.{Side}
use Rattle.escrow_num.specs.declared.span.Side.TheVariants.{Low, High}

-- a value is neither below the low limit nor above the high one
abbrev pub Holds : Span → ℤ → Type 0
Holds span z = IfSome span.lo (λ lo. lo ≤ℤ z) × IfSome span.hi (λ hi. z ≤ℤ hi)

-- every value from the least to the greatest is in the span
abbrev pub HoldsBetween : Span → ℤ → ℤ → Type 0
HoldsBetween span least greatest = (z : ℤ) → least ≤ℤ z → z ≤ℤ greatest → Holds span z

-- the low side, if there is a low limit and the least value is below it
abbrev pub low_broken : Option ℤ → ℤ → Option (Side × ℤ × ℤ)
low_broken None least = None
low_broken (Some lo) least = if int_lt least lo then Some (Low, least, lo) else None

-- the high side, if there is a high limit and the greatest value is above it
abbrev pub high_broken : Option ℤ → ℤ → Option (Side × ℤ × ℤ)
high_broken None greatest = None
high_broken (Some hi) greatest = if int_lt hi greatest then Some (High, greatest, hi) else None

-- the first of two options that is there
abbrev pub first_of_two : {A : Type 0} → Option A → Option A → Option A
first_of_two None b = b
first_of_two (Some a) b = Some a

-- the first limit that values pass, the low one first: its side, the extreme past it, the limit
abbrev pub first_broken_of : Span → ℤ → ℤ → Option (Side × ℤ × ℤ)
first_broken_of span least greatest = first_of_two (low_broken span.lo least) (high_broken span.hi greatest)
