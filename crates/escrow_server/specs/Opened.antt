-- Helps: how databases begin whose stores were opened. No contract of a public call uses it.
use Rattle.std.specs.Prelude.{◌≡◌, Result, IsOk, List}
use Rattle.sqlite_trees.specs.declared.store.Store.{Ghosts}
use Rattle.escrow_core.specs.Database.{Database}
use Rattle.escrow_machine.specs.State.{State}
use Rattle.escrow_server.specs.declared.fault.RunFault.{RunFault}
use Rattle.escrow_serve.specs.Output.{states_of, HaveCleanDisks}

-- all stores were opened, each disk returned what was written, and these are the states of the databases
abbrev pub IsOpened : {S : Type 0} → Ghosts S → Result (Unit {0}) RunFault → List (Database S) → List State → Type 0
IsOpened g opened databases old = IsOk opened × HaveCleanDisks g databases × (old ≡ states_of databases)
