use Rattle.std.proofs.Common.{◌≡◌, take}
use Rattle.escrow_tables.specs.Inside.{catalog_of}
use Rattle.escrow_tables.proofs.whole.definitions.Given as goal

abbrev pub invariant-loop-counted : goal.invariant-loop-counted
invariant-loop-counted l = l.catalog.items ≡ catalog_of (take l.counted-index l.tables)
