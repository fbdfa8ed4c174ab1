use Rattle.std.proofs.Common.{◌∙◌, sym}
use Rattle.escrow_shards.proofs.Matching.{fit_parts_here}
use Rattle.escrow_shards.proofs.close.matched.matched_parts.Goals as goal

pub loop-part-preserved : goal.loop-part-preserved
loop-part-preserved g c =
    let took = rw c.entries.ensures at c.in_ok-next.ensures.some.1 in
    record {
      within = c.in_ok-next.ensures.some.0;
      fits = fit_parts_here c.args.database c.args.session c.args.receipts.now c.args.parts.now c.loop-part.part-index c.loop-part.next c.in_ok-next.next
          c.part-item.result c.loop-part-test.true c.part-item.is (sym c.is_of.ensures ∙ c.if-not-is_of.false) took c.loop-part.invariant.fits;
    }
