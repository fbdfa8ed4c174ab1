use Rattle.std.specs.Prelude.{refl}
use Rattle.escrow_script.proofs.laws.limits.Goals as goal

pub returns : goal.returns
returns c = record {
  databases = refl;
  lines = refl;
  scripts = refl;
  streams = refl;
  reads = refl;
}
