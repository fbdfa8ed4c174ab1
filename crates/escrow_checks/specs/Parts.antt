-- Helps: sums of numbers in millionths. Wholes and millionths are summed apart, so that each sum fits 128 bits. No
-- contract of a public call uses it.
use Rattle.std.specs.Prelude.{ℤ, pos, neg_ℤ, ◌+ℤ◌, ◌*ℤ◌, ◌^◌, ◌≤ℤ◌, ◌<ℤ◌, ◌⊎◌, Bool, ◌&&◌, int_le, int_div, int_rem}
use Rattle.escrow_statement.specs.declared.statement.Term.{Term}
use Rattle.escrow_statement.specs.declared.statement.Term.TheVariants as term
use Rattle.escrow_checks.specs.Contribution.{IsTermSum, IsDifference}
use Rattle.escrow_checks.specs.declared.condition.parts.Parts.{Parts}

-- the wholes of a number
abbrev pub wholes : ℤ → ℤ
wholes z = int_div z (pos 1000000)

-- the millionths beside the wholes
abbrev pub rest : ℤ → ℤ
rest z = int_rem z (pos 1000000)

-- the wholes that a term adds to the numbers of a sum
abbrev pub wholes_in : Term → ℤ
wholes_in (term.Number n) = wholes n
wholes_in (term.Column coefficient column) = pos 0

-- the millionths that it adds beside those wholes
abbrev pub rest_in : Term → ℤ
rest_in (term.Number n) = rest n
rest_in (term.Column coefficient column) = pos 0

-- the number of these wholes and these millionths
abbrev pub joined : ℤ → ℤ → ℤ
joined whole rest = (whole *ℤ pos 1000000) +ℤ rest

-- the number that has these parts
abbrev pub millionths : Parts → ℤ
millionths parts = joined parts.whole parts.rest

-- parts of a sum of numbers
abbrev pub AreTermSums : Parts → Type 0
AreTermSums parts = IsTermSum parts.whole × IsTermSum parts.rest

-- parts of the difference of two such sums
abbrev pub AreDifferences : Parts → Type 0
AreDifferences parts = IsDifference parts.whole × IsDifference parts.rest

-- wholes few enough to be joined with the millionths beside them: at most 10^16
abbrev pub AreFew : ℤ → Type 0
AreFew whole = (neg_ℤ (pos (10 ^ 16)) ≤ℤ whole) × (whole ≤ℤ pos (10 ^ 16))

-- a number of few enough wholes, and less than one whole more
abbrev pub IsJoined : ℤ → Type 0
IsJoined z = (neg_ℤ (pos (10 ^ 23)) ≤ℤ z) × (z ≤ℤ pos (10 ^ 23))

-- a number of more than 10^16 wholes
abbrev pub IsPast : ℤ → Type 0
IsPast z = (z <ℤ neg_ℤ (pos (10 ^ 22))) ⊎ (pos (10 ^ 22) <ℤ z)

-- a number of units that is an amount, or one past an amount
abbrev pub is_near : ℤ → Bool
is_near z = int_le (neg_ℤ (pos (10 ^ 15))) z && int_le z (pos (10 ^ 15))
