use Rattle.std.proofs.Common.{◌≡◌, map, None, unwrap_or, option_map, get_or, refl}
use Rattle.sqlite_trees.specs.View.{View, Commits, OnlyCommits}
use Rattle.escrow_memory.specs.Store.{trees_of, current, left_of, snapshot_of, block_view}
use Rattle.escrow_memory.proofs.store.BlockStoreStore.commit.Goals as goal

only_commits : (old new : View) → Commits old new → OnlyCommits old new
only_commits old new commits = λ i. record (commits.is i) { committed = new.committed }

pub returns-in-Some-clause-ok : goal.returns-in-Some-clause-ok
returns-in-Some-clause-ok c _ =
    let s = c.args.self.now in
    let none : c.take.new.self ≡ None = c.take.ensures.after in
    let all : c.in-Some.forest ≡ current s = rw (← c.in-Some.ensures.value) refl in
    let seen : unwrap_or c.take.new.self c.in-Some.forest ≡ current s = rw none all in
    record {
      sound = c.if-self.false;
      is = λ i. record (block_view s) {
        trees = (snapshot_of (seen i)).trees;
        committed = (snapshot_of (all i)).trees;
        cursors = λ k. option_map (left_of (trees_of (unwrap_or c.take.new.self c.in-Some.forest))) (get_or s.cursors.items k None);
        shape = (snapshot_of (seen i)).shape;
        reals = (snapshot_of (seen i)).reals;
        committed_shape = (snapshot_of (all i)).shape;
        committed_reals = (snapshot_of (all i)).reals;
        marks = map (λ mark. snapshot_of (unwrap_or mark c.in-Some.forest)) (c.clear.ensures.items i);
      };
    }

pub returns-in-Some-clause-frame : goal.returns-in-Some-clause-frame
returns-in-Some-clause-frame c clean = let commits = returns-in-Some-clause-ok c clean in only_commits _ _ commits

pub returns-in_default-clause-ok : goal.returns-in_default-clause-ok
returns-in_default-clause-ok c _ =
    let s = c.args.self.now in
    let none : c.take.new.self ≡ None = c.take.ensures.after in
    let base : s.base ≡ current s = rw (← c.in_default.ensures.value) refl in
    let seen : unwrap_or c.take.new.self s.base ≡ current s = rw none base in
    record {
      sound = c.if-self.false;
      is = λ i. record (block_view s) {
        trees = (snapshot_of (seen i)).trees;
        committed = (snapshot_of (base i)).trees;
        cursors = λ k. option_map (left_of (trees_of (unwrap_or c.take.new.self s.base))) (get_or s.cursors.items k None);
        shape = (snapshot_of (seen i)).shape;
        reals = (snapshot_of (seen i)).reals;
        committed_shape = (snapshot_of (base i)).shape;
        committed_reals = (snapshot_of (base i)).reals;
        marks = map (λ mark. snapshot_of (unwrap_or mark s.base)) (c.clear.ensures.items i);
      };
    }

pub returns-in_default-clause-frame : goal.returns-in_default-clause-frame
returns-in_default-clause-frame c clean = let commits = returns-in_default-clause-ok c clean in only_commits _ _ commits
