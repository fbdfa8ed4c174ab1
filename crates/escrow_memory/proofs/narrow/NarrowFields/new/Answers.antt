use Rattle.std.proofs.Common.{arith}
use Rattle.std.proofs.lemmas.List.{take_rest}
use Rattle.escrow_memory.proofs.NarrowLemmas.{narrow_fields}
use Rattle.escrow_memory.proofs.narrow.NarrowFields.new.Goals as goal

pub returns : goal.returns
returns c =
    let types = take_rest c.in_ok-header.header.now 1 in
    let fields = narrow_fields c.args.entry.now (omega arith) (omega arith) in
    grind (arith, types, fields, c.in_ok-header.ensures.cases)
