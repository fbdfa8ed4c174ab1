-- Believed: what a tree shows, and a list of trees that share their nodes.
use Rattle.std.specs.Prelude.{List, map}
use Rattle.sqlite_trees.specs.Listing.{Heading}
use Rattle.escrow_memory.specs.declared.tree.Tree.{Tree}
use Rattle.escrow_memory.specs.declared.shared.Shared.{Shared}
use Rattle.escrow_memory.specs.Held.{Held}

-- the heading of a tree: its shape, its REAL columns, and its type, name, table and SQL text
abbrev pub heading : Tree → Heading
heading tree = (tree.shape, tree.reals, tree.described.value)

-- what a tree shows, whatever nodes hold its rows
abbrev pub held : Tree → Held
held tree = (heading tree, tree.rows)

-- what trees show, whatever other owners they have
abbrev pub all_held : List Shared → List Held
all_held = map (λ shared. held shared.tree.value)
