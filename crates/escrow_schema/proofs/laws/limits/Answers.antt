use Rattle.std.specs.Prelude.{refl}
use Rattle.escrow_schema.proofs.laws.limits.Goals as goal

pub returns : goal.returns
returns c = record {
  tables = refl;
  rows = refl;
  fewest_columns = refl;
  columns = refl;
  digits = refl;
  bytes = refl;
}
