use Rattle.std.proofs.Common.{to_z-of_z, arith}
use Rattle.sqlite_value.specs.Keys.{first_key}
use Rattle.escrow_memory.proofs.NarrowLemmas.{ints_descending, ints_ascending}
use Rattle.escrow_memory.proofs.narrow.compare_ints.Goals as goal

pub returns-then-first : goal.returns-then-first
returns-then-first c = grind (arith, to_z-of_z, c.first.ensures, ints_descending (first_key c.args.order) c.args.a c.args.b)

pub returns-else-first : goal.returns-else-first
returns-else-first c = grind (arith, to_z-of_z, c.first.ensures, ints_ascending (first_key c.args.order) c.args.a c.args.b)
