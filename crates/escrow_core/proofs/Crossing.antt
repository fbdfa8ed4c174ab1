-- A database may move between threads if its store may.
use denote.RattleType.{RattleType}
use denote.Param.Send.{IsSend, sendable}
use Rattle.std.proofs.Crossing.{crosses}
use Rattle.sqlite_trees.specs.declared.store.Store.{Ghosts}
use Rattle.escrow_reserved.proofs.recent.Recent.TheSendSync as Recent
use Rattle.escrow_reserved.proofs.reserved.Reserved.TheSendSync as Reserved
use Rattle.escrow_rows.proofs.store.RowStore.TheSendSync as RowStore
use Rattle.escrow_schema.proofs.catalog.Catalog.TheSendSync as Catalog
use Rattle.escrow_tables.specs.contracts.tables.Tables as Tables
use Rattle.escrow_core.specs.contracts.database.Database as Database

module _ (S : RattleType) (g : Ghosts S.Denot) (store : IsSend S) where
  tables : IsSend (Tables.the_row S g)
  tables = search (RowStore.the_send, Catalog.the_send, sendable, crosses) depth 60 fits 40000

  pub database_send : IsSend (Database.the_row S g)
  database_send = search (tables, Reserved.the_send, Recent.the_send, sendable, crosses) depth 60 fits 40000
