use Rattle.std.proofs.Common.{ℤ, List, take, subst}
use Rattle.escrow_bounds.specs.Counts.{GivesBack}
use Rattle.escrow_bounds.specs.Bounds.{place_at, Becomes}
use Rattle.escrow_bounds.proofs.Ending.{IsRemoved, counted_first, shown_is, removed_counts, removed_ended, removed_counting}
use Rattle.escrow_bounds.proofs.bounds.Bounds.remove_one.Goals as goal

pub remove_at-requires : goal.remove_at-requires
remove_at-requires c =
    let is = shown_is c.deltas-amounts.result c.len.result c.as_slice.result.now c.args.r.now.changes c.len.ensures c.as_slice.ensures c.deltas-amounts.ensures in
    let counted = counted_first c.args.self.now c.args.r.now c.requires.counted.0 (take c.len.result c.deltas-amounts.result) is c.requires.counted.1 in
    let at = rw c.unwrap-index.ensures at c.find.ensures.at in
    (c.args.r.now.row, counted.0, counted.1, counted.2, at, counted.3, counted.4)

gone : (c : goal.After-release_at) → IsRemoved c.args.end c.args.r.now c.args.self.now c.remove_at.new.self c.release_at.new.self
gone c =
    let is = shown_is c.deltas-amounts.result c.len.result c.as_slice.result.now c.args.r.now.changes c.len.ensures c.as_slice.ensures c.deltas-amounts.ensures in
    let row = c.args.r.now.row in
    let at = rw c.unwrap-index.ensures at c.find.ensures.at in
    let still = c.remove_at.ensures.at row at in
    record {
      gives = subst (λ (changes : List ℤ). Becomes (GivesBack c.args.end changes) (place_at c.args.self.now row) (place_at c.remove_at.new.self row)) is (c.remove_at.ensures.gives row at);
      removed = c.remove_at.ensures.others row at;
      empty = c.release_at.ensures.empty row still;
      counting = c.release_at.ensures.counting row still;
      released = c.release_at.ensures.others row still;
    }

pub returns-clause-counts : goal.returns-clause-counts
returns-clause-counts c = λ rest counts. removed_counts c.args.end c.args.r.now c.args.self.now c.remove_at.new.self c.release_at.new.self rest (gone c) counts

pub returns-clause-ends : goal.returns-clause-ends
returns-clause-ends c = removed_ended c.args.end c.args.r.now c.args.self.now c.remove_at.new.self c.release_at.new.self c.requires.counted.0 (gone c) c.requires.counted.1

pub returns-clause-counting : goal.returns-clause-counting
returns-clause-counting c = λ all. removed_counting c.args.end c.args.r.now c.args.self.now c.remove_at.new.self c.release_at.new.self (gone c) all
