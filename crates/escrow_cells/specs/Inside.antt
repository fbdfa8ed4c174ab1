-- Helps: what private contracts say of a call inside a transaction. No contract of a public call uses it.
use Rattle.std.specs.Prelude.{◌≡◌, ◌<◌, ℕ, Bool, true, IsTrue, List, length, Ok}
use Rattle.sqlite_value.specs.Order.{Row}
use Rattle.sqlite.specs.Effect.{Database}
use Rattle.sqlite.specs.State.{State, HasCleanDisk, KeepsCommit, Survives, Executes}
use Rattle.escrow_cells.specs.declared.step.Step.{Step}
use Rattle.escrow_cells.specs.Step.{Does}

-- nothing is committed, and a crash leaves what it left before
pub record IsPending (old new : State) : Type 0 where
  pub survives : Survives old new (λ _. ⊥)
  pub kept : HasCleanDisk new → KeepsCommit old new

-- A statement inside a transaction. If it is done, the store was open, the transaction goes on, and the statement did
-- what its text says. Whatever happens, nothing is committed.
pub record Wrote (sql : List ℕ) (params : Row) (old new : State) (is_done : Bool) : Type 0 where
  pub done : is_done ≡ true → HasCleanDisk new → IsTrue old.in_transaction → IsTrue new.in_transaction × (n : ℕ)
      × Executes sql params old new (Ok n)
  pub was_open : is_done ≡ true → HasCleanDisk new → IsTrue old.in_transaction → IsTrue old.is_open
  pub pending : IsPending old new

-- A call inside a transaction, of this many steps. If it is done, the transaction goes on, the call made its database
-- from the old one, and if there was a step, the store was open. Whatever happens, nothing is committed.
pub record Acts (old new : State) (is_done : Bool) (steps : ℕ) (Makes : Database → Database → Type 0) : Type 0 where
  pub done : is_done ≡ true → HasCleanDisk new → IsTrue old.in_transaction → IsTrue new.in_transaction
      × Makes old.now new.now
  pub was_open : is_done ≡ true → HasCleanDisk new → IsTrue old.in_transaction → 0 < steps → IsTrue old.is_open
  pub pending : IsPending old new

-- a call inside a transaction that does these steps
abbrev pub ActsBy : State → State → Bool → List Step → Type 0
ActsBy old new is_done steps = Acts old new is_done (length steps) (Does steps)

-- a transaction that has begun goes on after this many steps, and its database is made from the old one
pub record GoesOn (steps : ℕ) (Makes : Database → Database → Type 0) (old new : State) : Type 0 where
  pub pending : IsPending old new
  pub inside : HasCleanDisk new → IsTrue new.in_transaction
  pub was_open : HasCleanDisk new → 0 < steps → IsTrue old.is_open
  pub made : HasCleanDisk new → Makes old.now new.now
