-- Believed: what a scale is, and how many millionths a unit of it is.
use Rattle.std.specs.Prelude.{ℕ, ◌≤◌, ◌-◌, ◌^◌}
use Rattle.escrow_num.specs.declared.scale.TheConstants.Scale.{MAX}

-- a scale is how many digits a number has after the point, 0 to 6
abbrev pub IsScale : ℕ → Type 0
IsScale digits = digits ≤ MAX

-- how many millionths one unit of a scale is: 1,000,000 at 0, and 1 at 6
unfoldable pub unit_at : ℕ → ℕ
unit_at scale = 10 ^ (MAX - scale)
