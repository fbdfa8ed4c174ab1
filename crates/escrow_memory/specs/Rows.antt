-- Believed: the rows of a node, and a change of them.
use Rattle.std.specs.Prelude.{ℕ, ◌+◌, Bool, IsTrue, List, [], ◌++◌, ◌∷◌, take, drop, Option, None, Some}
use Rattle.std.specs.Borrow.{Bor}
use Rattle.sqlite_value.specs.Order.{Row}
use Rattle.sqlite_record.specs.Record.{decode}
use Rattle.sqlite_trees.specs.Tree.{IsAscending}

-- the rows with `cut` of them removed at a place, and the new ones inserted there
abbrev pub spliced : ℕ → ℕ → List Row → List Row → List Row
spliced at cut new rows = take at rows ++ new ++ drop (at + cut) rows

-- the row of an entry, if there is an entry
abbrev pub entry_rows : Option (Bor (List ℕ)) → List Row
entry_rows None = []
entry_rows (Some entry) = decode entry.now ∷ []

-- the rows of a node, if there is one
abbrev pub next_rows : {N : Type 0} → (N → List Row) → Option N → List Row
next_rows rows None = []
next_rows rows (Some node) = rows node

-- each row before one that passes passes too
abbrev pub IsCut : (Row → Bool) → List Row → Type 0
IsCut test = IsAscending (λ a b. IsTrue (test b) → IsTrue (test a))
