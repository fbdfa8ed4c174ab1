use Rattle.std.proofs.Common.{◌≡◌, [], length}
use Rattle.escrow_bounds.specs.Columns.{column_checks}
use Rattle.escrow_bounds.specs.Counts.{HaveSums}
use Rattle.escrow_bounds.specs.Listed.{columns_from}
use Rattle.escrow_bounds.specs.Place.{checks_of}
use Rattle.escrow_bounds.proofs.sums.all_spreads.Given as goal

abbrev pub invariant-loop : goal.invariant-loop
invariant-loop l = record {
  many : length l.spreads.items ≡ l.counter;
  checks : checks_of (columns_from l.columns 0 l.spreads.items) ≡ column_checks l.columns l.counter;
  sums : HaveSums (columns_from l.columns 0 l.spreads.items) [];
}
