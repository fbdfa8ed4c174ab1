-- What a column's type holds.
use Rattle.std.proofs.Common.{ℕ, ◌^◌, ◌≤◌, lit<}
use Rattle.std.proofs.Math.Nat.{one-le-pow, pow-le-pow_right}

-- a power of ten is at least one
pub power_positive : (digits : ℕ) → 1 ≤ 10 ^ digits
power_positive digits = one-le-pow digits 10 (lit< tt)

-- numbers of at most 15 digits are below 10^15
pub power_within : (digits : ℕ) → digits ≤ 15 → 10 ^ digits ≤ 1000000000000000
power_within digits short = pow-le-pow_right {n = 10} (lit< tt) {i = digits} {j = 15} short
