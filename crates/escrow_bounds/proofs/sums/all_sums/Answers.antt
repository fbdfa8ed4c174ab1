use Rattle.std.proofs.Common.{◌<◌, [], length, refl}
use Rattle.escrow_bounds.specs.Listed.{listed}
use Rattle.escrow_bounds.specs.declared.sums.Sum.{Sum}
use Rattle.escrow_bounds.proofs.Listing.{taken_pushed, listed_pushed, sums_pushed}
use Rattle.escrow_bounds.proofs.sums.all_sums.Goals as goal

pub loop-check-preserved : goal.loop-check-preserved
loop-check-preserved c =
    let list = c.args.list.now in
    let sums = c.loop-check.sums.items in
    let i = c.loop-check.check in
    let sum : Sum = record { check = i; spread = c.new.result } in
    let below : i < length list = c.loop-check-test.true in
    rw c.in_ok-push.ensures.items (record {
      checks = taken_pushed list sums sum i refl below c.loop-check.invariant.checks;
      listed = listed_pushed list sums sum below c.loop-check.invariant.listed;
      sums = sums_pushed list sums sum [] (c.new.ensures (listed list i).coeffs) c.loop-check.invariant.sums;
    })
