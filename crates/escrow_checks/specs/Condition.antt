-- Believed: what a CHECK says of a row, as it is written: both sides are summed and compared. Amounts and numbers are
-- in millionths.
use Rattle.std.specs.Prelude.{◌≡◌, ℕ, ℤ, pos, ◌+ℤ◌, ◌*ℤ◌, ◌≤ℤ◌, ◌<ℤ◌, if◌then◌else◌, List, [], ◌∷◌, All, bytes_eq}
use Rattle.escrow_statement.specs.declared.statement.Comparison.{Comparison}
use Rattle.escrow_statement.specs.declared.statement.Comparison.TheVariants.{Below, AtMost, Above, AtLeast, Equal}
use Rattle.escrow_statement.specs.declared.statement.Condition.{Condition}
use Rattle.escrow_statement.specs.declared.statement.CheckText.{CheckText}
use Rattle.escrow_statement.specs.declared.statement.Term.{Term}
use Rattle.escrow_statement.specs.declared.statement.Term.TheVariants as term
use Rattle.escrow_statement.specs.declared.statement.Test.{Test}
use Rattle.escrow_statement.specs.declared.statement.Test.TheVariants.{Compare, Between}

-- the amount of a column, among those of the RESERVABLE columns; checks name no other columns
abbrev pub amount_of : List (List ℕ) → List ℤ → List ℕ → ℤ
amount_of [] amounts name = pos 0
amount_of (column ∷ columns) [] name = pos 0
amount_of (column ∷ columns) (a ∷ amounts) name = if bytes_eq column name then a else amount_of columns amounts name

-- the sum of the terms' values
abbrev pub total : (Term → ℤ) → List Term → ℤ
total worth [] = pos 0
total worth (t ∷ ts) = worth t +ℤ total worth ts

-- the value of a term at a row's amounts
abbrev pub worth_at : List (List ℕ) → List ℤ → Term → ℤ
worth_at columns amounts (term.Number n) = n
worth_at columns amounts (term.Column coefficient column) = coefficient *ℤ amount_of columns amounts column

-- the value of a sum at a row's amounts
abbrev pub sum_at : List (List ℕ) → List ℤ → List Term → ℤ
sum_at columns amounts terms = total (worth_at columns amounts) terms

-- a comparison of two numbers, as written
abbrev pub Compares : Comparison → ℤ → ℤ → Type 0
Compares Below a b = a <ℤ b
Compares AtMost a b = a ≤ℤ b
Compares Above a b = b <ℤ a
Compares AtLeast a b = b ≤ℤ a
Compares Equal a b = a ≡ b

-- a number passes a test at a row's amounts: it compares this way with the other sum, or is one of the numbers from low
-- to high
abbrev pub Passes : List (List ℕ) → List ℤ → ℤ → Test → Type 0
Passes columns amounts z (Compare comparison sum) = Compares comparison z (sum_at columns amounts sum)
Passes columns amounts z (Between low high) = (low ≤ℤ z) × (z ≤ℤ high)

-- a row's amounts meet a condition: both sides are summed and compared, as the text says
abbrev pub MeetsCondition : List (List ℕ) → List ℤ → Condition → Type 0
MeetsCondition columns amounts condition = Passes columns amounts (sum_at columns amounts condition.sum) condition.test

-- a row's amounts meet a CHECK: they meet each condition in its text
abbrev pub MeetsText : List (List ℕ) → List ℤ → CheckText → Type 0
MeetsText columns amounts text = All (MeetsCondition columns amounts) text.conditions
