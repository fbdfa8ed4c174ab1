use Rattle.std.proofs.Common.{refl, sym}
use Rattle.escrow_num.proofs.DecimalLemmas.{units-product}
use Rattle.escrow_num.proofs.decimal.Decimal.of_units.Goals as goal

pub invariant_of-result : goal.invariant_of-result
invariant_of-result c = (
  c.args.scale,
  c.get.result,
  record {
    scaled = c.unit.ensures.within;
    worth = sym (units-product c.get.result c.get.result c.from.result c.from-2.result c.unit.result c.args.scale refl c.get.ensures.within c.from.ensures c.from-2.ensures c.unit.ensures.value);
    small = c.get.ensures.within;
  },
)

pub returns : goal.returns
returns c =
    units-product c.args.units c.get.result c.from.result c.from-2.result c.unit.result c.args.scale c.get.ensures.value c.get.ensures.within c.from.ensures c.from-2.ensures c.unit.ensures.value
