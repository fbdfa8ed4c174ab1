-- Believed: that checks mean what the CHECKs say.
use Rattle.std.specs.Prelude.{◌≡◌, ℕ, ℤ, ◌↔◌, List, length, All, bytes_eq}
use Rattle.std.specs.List.{IsDistinct}
use Rattle.escrow_statement.specs.declared.statement.CheckText.{CheckText}
use Rattle.escrow_checks.specs.declared.check.Check.{Check}
use Rattle.escrow_checks.specs.Condition.{MeetsText}
use Rattle.escrow_checks.specs.Grant.{Meets}
use Rattle.escrow_checks.specs.Scales.{AreScales, in_millionths}

-- if the columns' names differ, a row's amounts, in units of the columns' scales, meet all checks exactly if, in
-- millionths, they meet all CHECKs as written
abbrev pub MeanTheSame : List (List ℕ) → List ℕ → List CheckText → List Check → Type 0
MeanTheSame columns scales texts checks =
    IsDistinct bytes_eq columns → AreScales columns scales → (amounts : List ℤ) → length amounts ≡ length columns
    → (All (λ check. Meets check amounts) checks ↔ All (MeetsText columns (in_millionths scales amounts)) texts)
