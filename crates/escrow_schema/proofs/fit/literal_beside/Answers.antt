use Rattle.std.proofs.Common.{add-one, sym, ◌∙◌}
use Rattle.escrow_schema.proofs.AskedLemmas.{beside_later}
use Rattle.escrow_schema.proofs.fit.literal_beside.Goals as goal

pub loop-i-preserved : goal.loop-i-preserved
loop-i-preserved c =
    let names = c.args.names.now in
    let literals = c.args.literals.now in
    let later = beside_later names literals c.loop-i.i c.index-names-i.result c.args.name.now c.loop-i-test.true c.index-names-i.is (sym c.eq.ensures ∙ c.if-eq.false) in
    rw add-one (sym later ∙ c.loop-i.invariant)
