-- Units of scale 0.
use Rattle.std.proofs.Common.{◌≡◌, ◌∙◌, ℕ, ℤ, ap}
use Rattle.std.specs.Fmt.{signed_decimal}
use Rattle.escrow_num.specs.Scaled.{scaled_text}
use Rattle.escrow_num.proofs.ReadBack.{whole-text}

-- they are printed as a whole number
pub whole_units : (scale : ℕ) (units : ℤ) → scale ≡ 0 → scaled_text scale units ≡ signed_decimal units
whole_units scale units none = ap (λ (k : ℕ). scaled_text k units) none ∙ whole-text units
