-- Believed: databases as they are when sharing begins.
use Rattle.std.specs.Prelude.{◌≡◌, Bool, List, [], ◌∷◌}
use Rattle.std.specs.List.{list_any}
use Rattle.sqlite.specs.Held.{state}
use Rattle.sqlite.specs.State.{HasCleanDisk}
use Rattle.sqlite_trees.specs.declared.store.Store.{Ghosts}
use Rattle.escrow_core.specs.Database.{Database}
use Rattle.escrow_machine.specs.State.{has_open}
use Rattle.escrow_shards.specs.Opening.{Opening}

-- whether something is open in some database
abbrev pub any_open : {S : Type 0} → List (Database S) → Bool
any_open databases = list_any (λ d. has_open d.state) databases

-- A database is unchanged but for its store: it was only read. Its disk is clean only if it was clean before.
pub record IsRead {S : Type 0} (g : Ghosts S) (old new : Database S) : Type 0 where
  pub unchanged : new.state ≡ old.state
  pub clean : HasCleanDisk (state g new.store) → HasCleanDisk (state g old.store)

-- each of several databases was only read
abbrev pub AreRead : {S : Type 0} → Ghosts S → List (Database S) → List (Database S) → Type 0
AreRead g [] [] = Unit {0}
AreRead g [] (n ∷ news) = ⊥
AreRead g (o ∷ olds) [] = ⊥
AreRead g (o ∷ olds) (n ∷ news) = IsRead g o n × AreRead g olds news

-- a database as it was at an opening
abbrev pub database_at : {S : Type 0} → Opening S → Database S
database_at b = record { store = b.store; state = b.state }
