use Rattle.std.proofs.Common.{to_z-of_z, arith}
use Rattle.sqlite_value.proofs.OrderLemmas.{value_cmp-Int}
use Rattle.escrow_memory.proofs.probe.with_rowid.Goals as goal

pub returns-in-Some-Int : goal.returns-in-Some-Int
returns-in-Some-Int c =
    let ints = c.in-Some-Int in
    grind (arith, to_z-of_z, ints.ensures, value_cmp-Int ints.found ints.wanted)
