use Rattle.std.proofs.Common.{◌≡◌, take}
use Rattle.std.specs.Prelude.{map}
use Rattle.escrow_machine.specs.Journal.{entry_of, of_table}
use Rattle.escrow_core.proofs.database.journal.journal_entries.Given as goal

abbrev pub invariant-loop-r : goal.invariant-loop-r
invariant-loop-r g l = l.entries ≡ map (entry_of l.tables.catalog) (of_table l.table (take l.r-index (map (λ r. r.now) l.r-items)))
