-- Helps: the checks of a place, which are listed once for all rows of a table, and its columns.
use Rattle.std.specs.Prelude.{ℕ, suc, ◌<◌, List, [], ◌∷◌, length, map, slice_index_or}
use Rattle.std.specs.List.{AllByRecursion}
use Rattle.escrow_checks.specs.declared.check.Check.{Check}
use Rattle.escrow_checks.specs.declared.spread.Spread.{Spread}
use Rattle.escrow_bounds.specs.declared.sums.Sum.{Sum}
use Rattle.escrow_bounds.specs.Columns.{column_check}
use Rattle.escrow_bounds.specs.Place.{Tracked}

-- the check at an index of a list; past the end it is one that every row meets
abbrev pub listed : List Check → ℕ → Check
listed list index = slice_index_or list index (column_check 0 0)

-- the check of a sum, with its spread
abbrev pub tracked : List Check → Sum → Tracked
tracked list sum = record { check = listed list sum.check; spread = sum.spread }

-- the same for several sums
abbrev pub all_tracked : List Check → List Sum → List Tracked
all_tracked list sums = map (tracked list) sums

-- the check of each sum is in the list
abbrev pub AreListed : List Check → List Sum → Type 0
AreListed list sums = AllByRecursion (λ (sum : Sum). sum.check < length list) sums

-- a column among several, with its spread
abbrev pub tracked_column : ℕ → ℕ → Spread → Tracked
tracked_column columns place spread = record { check = column_check columns place; spread = spread }

-- the same for consecutive columns, from a place on
abbrev pub columns_from : ℕ → ℕ → List Spread → List Tracked
columns_from columns place [] = []
columns_from columns place (spread ∷ spreads) =
    tracked_column columns place spread ∷ columns_from columns (suc place) spreads

-- the same for all columns
abbrev pub all_columns : List Spread → List Tracked
all_columns spreads = columns_from (length spreads) 0 spreads
