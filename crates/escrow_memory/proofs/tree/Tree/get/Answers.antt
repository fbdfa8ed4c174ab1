use Rattle.std.proofs.Common.{◌≡◌, ◌∙◌, true, get_or, [], to_z-of_z}
use Rattle.sqlite_trees.specs.Tree.{has_rowid}
use Rattle.sqlite_trees.proofs.MemoryLemmas.{found_at}
use Rattle.escrow_memory.proofs.Edits as lemma
use Rattle.escrow_memory.proofs.tree.Tree.get.Goals as goal

pub returns-in-Some : goal.returns-in-Some
returns-in-Some c =
    let fits = c.ranges.id in
    let place = simp to_z-of_z at c.in-Some.ensures.place in
    let own = simp to_z-of_z at c.in-Some.ensures.own in
    let (inside, reads) = c.in-Some.ensures.entry in
    let same : has_rowid c.args.id (get_or c.args.self.now.rows c.in-Some.field-0-0 []) ≡ true = cc (own, reads) in
    found_at c.args.id _ _ (lemma.table_rises c.args.self.now c.requires) place inside same ∙ cc (c.in_ok-read_into.ensures, reads)
