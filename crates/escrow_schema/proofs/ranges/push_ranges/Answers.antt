use Rattle.std.proofs.Common.{arith}
use Rattle.escrow_schema.proofs.UnitLemmas.{short_at}
use Rattle.escrow_schema.proofs.ranges.push_ranges.Goals as goal

pub range_name-requires : goal.range_name-requires
range_name-requires c = short_at c.args.columns.now c.loop-place.place c.index-columns-place.result c.requires.2 (omega arith)
