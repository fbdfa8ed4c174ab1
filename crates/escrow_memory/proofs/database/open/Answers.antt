use Rattle.std.proofs.Common.{◌≡◌, ◌∙◌, [], true, refl, ap}
use Rattle.sqlite_trees.specs.Tree.{Trees}
use Rattle.sqlite_trees.specs.Objects.{catalog_tree}
use Rattle.sqlite_trees.proofs.Doubt.{no_doubt}
use Rattle.escrow_memory.specs.Store.{block_view}
use Rattle.escrow_memory.proofs.Emptiness.{lists_none}
use Rattle.escrow_memory.proofs.database.open.Goals as goal

pub returns-in-Ok-clause-empty : goal.returns-in-Ok-clause-empty
returns-in-Ok-clause-empty c =
    let clean = no_doubt true refl in
    let (opened, live) = c.in-Ok.ensures.opens clean in
    let (sound, _) = live opened.is_open in
    let none : (block_view c.in-Ok.conn.store).trees catalog_tree ≡ [] = ap (λ (trees : Trees). trees catalog_tree) (c.in-Ok.ensures.trees clean) ∙ c.in_ok-new.ensures.unlisted refl in
    lists_none c.in-Ok.conn.schema (rw none at sound.lists)
