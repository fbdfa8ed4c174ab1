use Rattle.std.proofs.Common.{◌≡◌, map, take}
use Rattle.escrow_rows.specs.Listing.{listed_row}
use Rattle.escrow_rows.proofs.tables.listed_tables.Given as goal

abbrev pub invariant-loop-row : goal.invariant-loop-row
invariant-loop-row l = take l.row-index l.rows ≡ map listed_row l.tables.items
