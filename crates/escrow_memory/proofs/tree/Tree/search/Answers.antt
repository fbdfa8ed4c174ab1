use Rattle.std.proofs.Common.{◌≡◌, ◌∙◌, true, false, get_or, [], to_z-of_z, arith}
use Rattle.sqlite_value.specs.declared.value.Value.TheVariants.{Int}
use Rattle.sqlite_value.proofs.OrderLemmas.{value_cmp_total}
use Rattle.sqlite_trees.specs.Tree.{rowid, has_rowid}
use Rattle.sqlite_trees.proofs.MemoryLemmas.{found_at, missing_at}
use Rattle.escrow_memory.proofs.Edits as lemma
use Rattle.escrow_memory.proofs.tree.Tree.search.Goals as goal

pub seek-requires : goal.seek-requires
seek-requires c =
    let fits = c.ranges.id in
    rw to_z-of_z (lemma.cut_below _ value_cmp_total rowid (Int c.args.id) _ (lemma.table_rises c.args.self.now c.requires))

pub returns-in_default : goal.returns-in_default
returns-in_default c =
    let fits = c.ranges.id in
    let place = simp to_z-of_z at c.seek.ensures.place in
    missing_at c.args.id _ _ (lemma.table_rises c.args.self.now c.requires) place (λ within. absurd (omega (arith, c.seek.ensures.none c.in_default.is)))

pub returns-in_ok-read_into : goal.returns-in_ok-read_into
returns-in_ok-read_into c =
    let fits = c.ranges.id in
    let place = simp to_z-of_z at c.seek.ensures.place in
    let compared = simp to_z-of_z at c.with_rowid.ensures in
    let (inside, reads) = rw c.in-Some.is at c.seek.ensures.some in
    let same : has_rowid c.args.id (get_or c.args.self.now.rows c.seek.result.0 []) ≡ true = cc in
    found_at c.args.id _ _ (lemma.table_rises c.args.self.now c.requires) place inside same ∙ cc (c.in_ok-read_into.ensures)

pub returns-else-is_eq : goal.returns-else-is_eq
returns-else-is_eq c =
    let fits = c.ranges.id in
    let place = simp to_z-of_z at c.seek.ensures.place in
    let compared = simp to_z-of_z at c.with_rowid.ensures in
    let (inside, reads) = rw c.in-Some.is at c.seek.ensures.some in
    let other : has_rowid c.args.id (get_or c.args.self.now.rows c.seek.result.0 []) ≡ false = cc in
    missing_at c.args.id _ _ (lemma.table_rises c.args.self.now c.requires) place (λ within. other)
