use Rattle.std.proofs.Common.{to_z-of_z, arith}
use Rattle.escrow_memory.proofs.NarrowLemmas.{narrow_first}
use Rattle.escrow_memory.proofs.narrow.NarrowFields.split_first.Goals as goal

pub returns : goal.returns
returns c =
    let read = c.in_ok-value.ensures in
    let first = narrow_first c.args.self.types.now c.args.self.body.now (omega arith) read.narrow in
    grind (arith, to_z-of_z, first, read.value, read.behind)
