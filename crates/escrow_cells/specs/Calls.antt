-- Believed: how calls change a store.
use Rattle.std.specs.Prelude.{◌≡◌, Bool, true, false, Result, Ok, Err, IsTrue}
use Rattle.sqlite_trees.specs.Tree.{Trees}
use Rattle.sqlite.specs.Effect.{Database}
use Rattle.sqlite.specs.State.{State, HasCleanDisk, Survives}

-- a usable store: its disk returned what was written, and no fault has shut it
abbrev pub IsUsable : State → Type 0
IsUsable s = HasCleanDisk s × IsTrue s.is_open

-- a call that returns whether it did what was asked has done it
abbrev pub was_done : {E : Type 0} → Result Bool E → Bool
was_done (Ok done) = done
was_done (Err e) = false

-- a call only reads: if the store is usable after it, it holds what it held, and a crash leaves what it might have left
-- before
pub record OnlyReads (old new : State) : Type 0 where
  pub same : IsUsable new → new.now ≡ old.now
  pub usable : IsUsable new → IsUsable old
  pub survives : Survives old new (λ _. ⊥)

-- A call writes, in one transaction. If it is done and the disk returned what was written, the store is open, the call
-- made its database from the old one, and a crash leaves this database. Otherwise the store holds what it held.
-- Whatever happens, a crash leaves what it might have left before, or, if the store was open, a database that the call
-- makes. After a fault has shut a store, nothing more is written to it.
pub record Transacts (old new : State) (is_done : Bool) (Makes : Database → Database → Type 0) : Type 0 where
  pub done : is_done ≡ true → HasCleanDisk new → IsTrue new.is_open × Makes old.now new.now
  pub refused : is_done ≡ false → IsUsable new → new.now ≡ old.now
  pub usable : IsUsable new → IsUsable old
  pub durable : is_done ≡ true → HasCleanDisk new → (trees : Trees) → new.may_leave trees → trees ≡ new.now.trees
  pub survives : Survives old new
      (λ trees. IsTrue old.is_open × (db : Database) × Makes old.now db × (trees ≡ db.trees))
