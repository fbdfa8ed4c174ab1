use Rattle.std.specs.Prelude.{refl}
use Rattle.escrow_reply.proofs.laws.limits.Goals as goal

pub returns : goal.returns
returns c = record {
  short = refl;
  front = refl;
}
