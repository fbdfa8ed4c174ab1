-- Helps: how the checks of a table are found, CHECK by CHECK. No contract of a public call uses it.
use Rattle.std.specs.Prelude.{nat_le, if◌then◌else◌, Option, Some, None, option_and_then, option_map, List, ◌++◌, length}
use Rattle.escrow_checks.specs.declared.check.Check.{Check}
use Rattle.escrow_checks.specs.declared.condition.TheConstants.{MAX_CHECKS}

-- checks before others
abbrev pub followed_by : List Check → Option (List Check) → Option (List Check)
followed_by checks others = option_map (λ more. checks ++ more) others

-- the checks found so far, then those of one CHECK, then the others
abbrev pub found : List Check → Option (List Check) → Option (List Check) → Option (List Check)
found checks first others = followed_by checks (option_and_then (λ more. followed_by more others) first)

-- the checks, if there aren't too many
abbrev pub few : Option (List Check) → Option (List Check)
few checks = option_and_then (λ all. if nat_le (length all) MAX_CHECKS then Some all else None) checks
