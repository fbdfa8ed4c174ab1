use Rattle.escrow_schema.proofs.UnitLemmas.{ranged}
use Rattle.escrow_schema.proofs.ranges.range_check.Goals as goal

pub returns : goal.returns
returns c = λ d.
    ranged c.args.columns.now c.args.place c.index-columns-place.result d c.args.name c.unit.result c.scale.result c.range_span.result c.requires.columns c.requires.within c.index-columns-place.is
    (c.requires.named c.index-columns-place.result) c.unit.ensures c.scale.ensures c.range_span.ensures
