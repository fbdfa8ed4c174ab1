use Rattle.sqlite_trees.specs.declared.store.Direction.{Direction}
use Rattle.sqlite_trees.specs.declared.store.Direction.TheVariants.{Forward, Backward}
use Rattle.std.proofs.Common.{◌≡◌, ℕ, [], get_or, ◌∙◌, arith}
use Rattle.escrow_memory.specs.Store.{trees_of, current, left_from}
use Rattle.escrow_memory.proofs.Forests.{found_there, none_there}
use Rattle.escrow_memory.proofs.Searches.{none_from, none_before, next_from, next_before}
use Rattle.escrow_memory.proofs.store.BlockStore.step.Goals.{in-Forward, in-Backward}
use Rattle.escrow_memory.proofs.store.BlockStore.step.Goals as goal

-- without a tree no rows remain
empty_left : (direction : Direction) (at : ℕ) → left_from direction at [] ≡ []
empty_left Forward at = none_from [] at (omega arith)
empty_left Backward at = none_before [] at (omega arith)

pub returns-in_default : goal.returns-in_default
returns-in_default c =
    let trees = trees_of (current c.args.self.now) in
    let (_, rows, _) = none_there trees c.args.cursor.tree (rw c.current.ensures at (c.tree.ensures.none c.in_default.is)) in
    rw rows (empty_left c.args.cursor.direction c.args.cursor.at)

pub returns-in_default-direction : goal.returns-in_default-direction
returns-in_default-direction c =
    let (_, held, _) = found_there (trees_of (current c.args.self.now)) c.args.cursor.tree _ (rw c.current.ensures at c.in-Some.ensures.some) in
    rw (c.in-Forward.is, held) (none_from c.in-Some.tree.now.rows c.args.cursor.at (omega (arith, c.len-len.ensures, c.if-cursor-len.false)))

pub returns-in_default-direction-2 : goal.returns-in_default-direction-2
returns-in_default-direction-2 c =
    let (_, held, _) = found_there (trees_of (current c.args.self.now)) c.args.cursor.tree _ (rw c.current.ensures at c.in-Some.ensures.some) in
    rw (c.in-Backward.is, held) (none_before c.in-Some.tree.now.rows c.args.cursor.at (rw (← c.len-len.ensures, ← c.min.ensures) c.if-min-gt0.false))

pub returns-in_ok-read_into : goal.returns-in_ok-read_into
returns-in_ok-read_into c =
    let rows = c.in-Some.tree.now.rows in
    let (_, held, _) = found_there (trees_of (current c.args.self.now)) c.args.cursor.tree _ (rw c.current.ensures at c.in-Some.ensures.some) in
    let read : c.read_into.new.row ≡ get_or rows c.match-cursor.at.0 [] = c.in_ok-read_into.ensures ∙ c.in-Some-get.ensures.some.1 in
    elim c.match-cursor.branch [
      | in-Forward w ↦ rw (w.in-Forward.is, held, read, w.at-is) (next_from rows c.args.cursor.at (omega (arith, w.if-cursor-len.true, c.len-len.ensures)))
      | in-Backward w ↦ rw (w.in-Backward.is, held, read, w.at-is, w.min-at.ensures, c.len-len.ensures) (next_before rows c.args.cursor.at (omega (arith, w.if-min-gt0.true, w.min.ensures, c.len-len.ensures)))
    ]
