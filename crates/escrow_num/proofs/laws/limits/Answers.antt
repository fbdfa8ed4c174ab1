use Rattle.std.specs.Prelude.{refl}
use Rattle.escrow_num.proofs.laws.limits.Goals as goal

pub returns : goal.returns
returns c = record {
  sessions = refl;
  shared_sessions = refl;
  amounts = refl;
  wide_sums = refl;
  ids = refl;
  written_names = refl;
  names = refl;
  scales = refl;
  decimals = refl;
  texts = refl;
}
