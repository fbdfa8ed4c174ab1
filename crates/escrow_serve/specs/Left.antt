-- Believed: what a crash leaves of a database.
use Rattle.sqlite.specs.Held.{state}
use Rattle.sqlite_trees.specs.declared.store.Store.{Ghosts}
use Rattle.sqlite_trees.specs.Tree.{Trees}
use Rattle.escrow_rows.specs.Answers.{IsUsable}
use Rattle.escrow_core.specs.Database.{Database}
use Rattle.escrow_core.specs.Serves.{AreHeldOf}

-- what a crash leaves of a database whose store can be used: exactly the tables and the rows of its state
abbrev pub LeavesItsRows : {S : Type 0} → Ghosts S → Database S → Type 0
LeavesItsRows g database =
    IsUsable (state g database.store) → (trees : Trees) → (state g database.store).may_leave trees
    → AreHeldOf database.state trees
