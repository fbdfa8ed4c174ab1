-- Threads may share what reports the progress of a script.
use denote.RattleType.{RattleType}
use denote.Param.Send.{IsSend}
use Rattle.std.proofs.Crossing.{Arc-send}
use Rattle.std.specs.contracts.alloc.Global as Global
use Rattle.std.specs.contracts.impls.GlobalAllocator.TheImpl.{ghosts}
use Rattle.std.specs.contracts.sync.Arc as Arc
use Rattle.sqlite_trees.specs.declared.store.Alter.{Ghosts as Alter}
use Rattle.sqlite_trees.specs.declared.store.Store.{Ghosts}
use Rattle.escrow_stats.proofs.Crossing.{watcher_send}
use Rattle.escrow_stats.specs.contracts.watcher.Watcher as Watcher
use Rattle.escrow_server.proofs.monitor.Monitor.TheSendSync as Crosses
use Rattle.escrow_server.specs.contracts.monitor.Monitor as Monitor

module _ (S : RattleType) (alter : Alter S.Denot) (store : Ghosts S.Denot) where
  pub monitor_send : IsSend (Arc.the_row (Monitor.the_row (Watcher.the_row S alter store)) Global.the_row ghosts)
  monitor_send =
      let watcher = watcher_send S alter store in
      Arc-send _ (Crosses.the_send _ watcher) (Crosses.the_sync _ watcher)
