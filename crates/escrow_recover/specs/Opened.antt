-- Believed: what is known of a store that is opened, and why one isn't.
use Rattle.std.specs.Prelude.{List, IsTrue}
use Rattle.std.specs.List.{AllByRecursion}
use Rattle.sqlite.specs.State.{State}
use Rattle.escrow_num.specs.declared.refusal.Refusal.{Refusal}
use Rattle.escrow_num.specs.declared.refusal.Refusal.TheVariants as refusal
use Rattle.escrow_num.specs.declared.row.Row.{Row}
use Rattle.escrow_schema.specs.declared.counted_table.CountedTable.{CountedTable}
use Rattle.escrow_schema.specs.Stored.{stored_of}
use Rattle.escrow_recover.specs.Stored.{HasCount, IsStoreOf}

-- a store is open, and is the store of these tables, with their numbers of rows, and of these rows
pub record Stores (s : State) (tables : List CountedTable) (rows : List Row) : Type 0 where
  pub is_open : IsTrue s.is_open
  pub store : IsStoreOf (stored_of tables) rows s.now
  pub counts : AllByRecursion (HasCount rows) tables

-- a store is open, and is the store of these tables, with their numbers of rows, and of some rows
abbrev pub IsOpened : State → List CountedTable → Type 0
IsOpened s tables = (rows : List Row) × Stores s tables rows

-- why a store isn't opened: for memory (51), by the store (60), as no store (61), or as one of another format (62)
abbrev pub IsOpening : Refusal → Type 0
IsOpening refusal.Memory = Unit {0}
IsOpening refusal.Store = Unit {0}
IsOpening refusal.ForeignStore = Unit {0}
IsOpening refusal.UnknownVersion = Unit {0}
IsOpening _ = ⊥
