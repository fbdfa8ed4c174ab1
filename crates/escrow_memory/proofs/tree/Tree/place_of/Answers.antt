use Rattle.std.proofs.Common.{is_eq}
use Rattle.sqlite_value.specs.Value.{owned}
use Rattle.sqlite_value.specs.Order.{value_cmp}
use Rattle.sqlite_value.proofs.OrderLemmas.{value_cmp_total}
use Rattle.sqlite_trees.specs.Tree.{rowid}
use Rattle.escrow_memory.proofs.Edits as lemma
use Rattle.escrow_memory.proofs.tree.Tree.place_of.Goals as goal

pub seek-at-requires : goal.seek-at-requires
seek-at-requires c = lemma.cut_below _ value_cmp_total rowid _ _ (lemma.table_rises c.args.self.now c.requires)

pub returns-clause-test : goal.returns-clause-test
returns-clause-test c =
    lemma.tested_at (λ row. is_eq (value_cmp (rowid row) (owned c.args.id))) _ _ c.seek-at.result.1 c.has_rowid.result c.seek-at.ensures.some c.seek-at.ensures.none c.has_rowid.ensures.some c.has_rowid.ensures.none
