use Rattle.std.specs.Prelude.{refl}
use Rattle.escrow_core.proofs.laws.limits.Goals as goal

pub returns : goal.returns
returns c = record {
  held_back = refl;
  together = refl;
  remembered = refl;
  in_place = refl;
}
