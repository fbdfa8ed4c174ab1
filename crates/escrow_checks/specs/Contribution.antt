-- Believed: how great the sums of a check can grow. These bounds keep each sum wide; the grant rule doesn't use them.
use Rattle.std.specs.Prelude.{ℕ, ℤ, pos, neg_ℤ, ◌*◌, ◌^◌, ◌≤ℤ◌}

-- a sum, over one list of terms, of coefficients, of the wholes of numbers, or of the millionths beside these. Each
-- item has at most 15 digits, and the list fits in memory
abbrev pub IsTermSum : ℤ → Type 0
IsTermSum z = (neg_ℤ (pos (10 ^ 15 * 2 ^ 64)) ≤ℤ z) × (z ≤ℤ pos (10 ^ 15 * 2 ^ 64))

-- the difference of two such sums
abbrev pub IsDifference : ℤ → Type 0
IsDifference z = (neg_ℤ (pos (10 ^ 15 * 2 ^ 66)) ≤ℤ z) × (z ≤ℤ pos (10 ^ 15 * 2 ^ 66))

-- a coefficient times an amount: a number of magnitude at most 10^12 times 10^15
abbrev pub IsProduct : ℤ → Type 0
IsProduct z = (neg_ℤ (pos (10 ^ 27)) ≤ℤ z) × (z ≤ℤ pos (10 ^ 27))

-- the value of amounts, or changes, under a check: a sum of at most ten products
abbrev pub IsContribution : ℤ → Type 0
IsContribution z = (neg_ℤ (pos (10 ^ 28)) ≤ℤ z) × (z ≤ℤ pos (10 ^ 28))

-- the value of a row's amounts and one reservation's changes together
abbrev pub IsFormWithNew : ℤ → Type 0
IsFormWithNew z = (neg_ℤ (pos (2 * 10 ^ 28)) ≤ℤ z) × (z ≤ℤ pos (2 * 10 ^ 28))

-- a sum of `count` contributions, none of them above zero
abbrev pub IsFall : ℕ → ℤ → Type 0
IsFall count z = (neg_ℤ (pos (10 ^ 28 * count)) ≤ℤ z) × (z ≤ℤ pos 0)

-- a sum of `count` contributions, none of them below zero
abbrev pub IsRise : ℕ → ℤ → Type 0
IsRise count z = (pos 0 ≤ℤ z) × (z ≤ℤ pos (10 ^ 28 * count))
