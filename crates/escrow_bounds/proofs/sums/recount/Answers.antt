use Rattle.std.proofs.Common.{◌≡◌, ◌<◌, ◌≤◌, length, get_or, subst, arith}
use Rattle.escrow_bounds.specs.declared.sums.Sum.{Sum}
use Rattle.escrow_bounds.specs.Listed.{tracked, all_tracked}
use Rattle.escrow_bounds.specs.Recounting.{counted_before}
use Rattle.escrow_bounds.proofs.Forms.{sums_at}
use Rattle.escrow_bounds.proofs.Listing.{RecountSum, sum_listed, tracked_at, length-tracked, sums_recounted, listed_recounted}
use Rattle.escrow_bounds.proofs.Steps.{stepped_first, stepped_at, stepped_more, stepped_last}
use Rattle.escrow_bounds.proofs.sums.recount.Goals as goal

pub loop-sum-init : goal.loop-sum-init
loop-sum-init c = stepped_first (RecountSum c.args.list.now c.args.counting c.args.changes.now) c.args.sums.now

pub recount-requires : goal.recount-requires
recount-requires c =
    let list = c.args.list.now in
    let i = c.loop-sum.sum-index in
    let sum = get_or c.loop-sum.sums i c.sum-item.result in
    let is : sum ≡ get_or c.loop-sum.sums i sum = subst (λ (s : Sum). s ≡ get_or c.loop-sum.sums i s) c.sum-item.is c.sum-item.is in
    let below : i < length c.loop-sum.sums = omega (arith, c.loop-sum.auto.sums, c.loop-sum-test.true) in
    let at = stepped_at (RecountSum list c.args.counting c.args.changes.now) i c.args.sums.now c.loop-sum.sums sum below c.loop-sum.invariant is in
    let many = length-tracked list c.args.sums.now in
    let within : i < length (all_tracked list c.args.sums.now) = omega (arith, many, at.0) in
    let given = c.requires.counted in
    record {
      listed = sum_listed list c.args.sums.now i sum at.0 at.1 c.requires.listed;
      counted = (given.0, given.1, sums_at (all_tracked list c.args.sums.now) (counted_before c.args.counting given.0 c.args.changes.now given.1) i (tracked list sum) within (tracked_at list c.args.sums.now i sum at.0 at.1) given.2, given.3);
    }

pub loop-sum-preserved : goal.loop-sum-preserved
loop-sum-preserved c =
    let i = c.loop-sum.sum-index in
    let sum = get_or c.loop-sum.sums i c.sum-item.result in
    let is : sum ≡ get_or c.loop-sum.sums i sum = subst (λ (s : Sum). s ≡ get_or c.loop-sum.sums i s) c.sum-item.is c.sum-item.is in
    let below : i < length c.loop-sum.sums = omega (arith, c.loop-sum.auto.sums, c.loop-sum-test.true) in
    stepped_more (RecountSum c.args.list.now c.args.counting c.args.changes.now) i c.args.sums.now c.loop-sum.sums sum c.recount.new.self below c.loop-sum.invariant is (c.recount.ensures.check, c.recount.ensures.counted)

pub returns : goal.returns
returns c =
    let list = c.args.list.now in
    let past : length c.loop-sum.sums ≤ c.loop-sum.sum-index = omega (arith, c.loop-sum.auto.sums, c.loop-sum-test.false) in
    let all = stepped_last (RecountSum list c.args.counting c.args.changes.now) c.loop-sum.sum-index c.args.sums.now c.loop-sum.sums past c.loop-sum.invariant in
    record {
      counted = sums_recounted list c.args.counting c.args.changes.now c.args.sums.now c.loop-sum.sums all;
      listed = listed_recounted list c.args.counting c.args.changes.now c.args.sums.now c.loop-sum.sums all c.requires.listed;
    }
