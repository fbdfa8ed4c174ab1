-- Believed: how great a sum may be.
use Rattle.std.specs.Prelude.{ℤ, neg_ℤ, ◌≤ℤ◌}
use Rattle.escrow_num.specs.declared.wide.TheConstants.Wide.{MAX}

-- a wide sum is a whole number of magnitude at most 10^33
abbrev pub IsWide : ℤ → Type 0
IsWide z = (neg_ℤ MAX ≤ℤ z) × (z ≤ℤ MAX)
