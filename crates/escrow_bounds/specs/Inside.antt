-- Helps: what the fields of a place hold.
use Rattle.std.specs.Prelude.{◌≡◌, ℤ, List, length}
use Rattle.std.specs.List.{AllByRecursion}
use Rattle.escrow_checks.specs.Form.{IsCovered}
use Rattle.escrow_checks.specs.declared.check.Check.{Check}
use Rattle.escrow_bounds.specs.declared.place.Place.TheInside.{Inside}
use Rattle.escrow_bounds.specs.Columns.{column_checks}
use Rattle.escrow_bounds.specs.Counts.{Counts}
use Rattle.escrow_bounds.specs.Listed.{all_tracked, all_columns}
use Rattle.escrow_bounds.specs.Place.{Place, checks_of}

-- what the fields keep
abbrev pub place_of : Inside → Place
place_of place =
    record {
      amounts = place.amounts.items;
      count = place.count;
      checks = all_tracked place.list.value place.sums.items;
      columns = all_columns place.columns.items;
    }

-- a valid place: there is an amount for each coefficient, a form for each column, and it counts some reservations
pub record IsPlace (place : Place) : Type 0 where
  pub covered : AllByRecursion (λ (check : Check). IsCovered check.coeffs place.amounts) (checks_of place.checks)
  pub columns : checks_of place.columns ≡ column_checks (length place.amounts) (length place.amounts)
  pub reservations : List (List ℤ)
  pub counts : Counts place reservations
