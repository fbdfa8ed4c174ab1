use Rattle.std.proofs.Common.{arith, refl}
use Rattle.escrow_serve.proofs.TotalsLemmas.{totals_with}
use Rattle.escrow_serve.proofs.totals.Totals.count.Goals as goal

pub returns : goal.returns
returns c = λ answered most are below.
    let place = c.place_of-place.ensures in
    let reached = c.reach.new.self in
    let tally = c.index-tally.result.now in
    totals_with reached _ c.args.session c.place_of-place.result c.args.reply.now tally tally c.with.result place.is_session place.value (omega (arith, c.reach.ensures.within, reached.tallies.ok.0))
    c.index-tally.ensures refl c.with.ensures.tally answered most (c.reach.ensures.same answered most are) below
