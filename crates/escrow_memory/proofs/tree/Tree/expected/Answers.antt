use Rattle.std.proofs.Common.{◌≡◌, get_or, true, is_eq, []}
use Rattle.sqlite_value.specs.Value.{owned}
use Rattle.sqlite_value.specs.Order.{value_cmp}
use Rattle.sqlite_value.proofs.OrderLemmas.{value_cmp_total}
use Rattle.sqlite_trees.specs.Tree.{rowid}
use Rattle.escrow_memory.proofs.Edits as lemma
use Rattle.escrow_memory.proofs.tree.Tree.expected.Goals as goal

pub returns-then-is_eq-clause-place : goal.returns-then-is_eq-clause-place
returns-then-is_eq-clause-place c =
    let (inside, reads) = c.in_ok-at.ensures in
    let own : is_eq (value_cmp (rowid (get_or c.args.self.now.rows c.in_ok-at.at [])) (owned c.args.id)) ≡ true = cc (c.is_eq.ensures, c.if-is_eq.true, c.with_rowid.ensures, reads) in
    lemma.place_of_own _ value_cmp_total rowid (owned c.args.id) _ _ (lemma.table_rises c.args.self.now c.requires) inside own
