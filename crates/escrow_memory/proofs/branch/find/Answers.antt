use Rattle.std.proofs.Common.{refl, arith, length}
use Rattle.std.proofs.lemmas.Option.{slice_get_read}
use Rattle.escrow_memory.proofs.branch.find.Goals as goal

-- the place is in the child or right after its last entry
pub returns-then-left-len-clause-inside : goal.returns-then-left-len-clause-inside
returns-then-left-len-clause-inside g c =
    let child = c.index-children-place in
    let counted = c.requires.counted c.loop-place.place child.result c.loop-place-test.true in
    rw (slice_get_read c.args.children.now (length c.args.children.now) c.loop-place.place child.result refl c.loop-place-test.true child.is, child.is) (omega arith)
