use Rattle.std.specs.Prelude.{refl}
use Rattle.escrow_sql.proofs.laws.limits.Goals as goal

pub returns : goal.returns
returns c = refl
