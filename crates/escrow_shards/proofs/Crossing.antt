-- All threads may use the databases they share, if a store may move between threads: the part under a lock moves, and
-- the rest is only read.
use denote.RattleType.{RattleType}
use denote.Param.Send.{IsSend, IsSync, recorded_send, sendable, struct_send}
use denote.Struct.Declared.{shape}
use denote.Struct.Struct.{Struct}
use Rattle.std.proofs.Crossing.{crosses}
use Rattle.sqlite_trees.specs.declared.store.Alter.{Ghosts as Alter}
use Rattle.sqlite_trees.specs.declared.store.Store.{Ghosts}
use Rattle.escrow_transcript.proofs.base.Base.TheSendSync as Base
use Rattle.escrow_transcript.proofs.entry.Entry.TheSendSync as Entry
use Rattle.escrow_transcript.specs.contracts.base.Base as base
use Rattle.escrow_transcript.specs.contracts.entry.Entry as entry
use Rattle.escrow_core.proofs.Crossing.{database_send}
use Rattle.escrow_history.specs.contracts.audited.Audited as Audited
use Rattle.escrow_stats.proofs.Crossing.{board_send}
use Rattle.escrow_shards.specs.contracts.close.Closed as Closed
use Rattle.escrow_shards.specs.contracts.under_lock.Locked as Locked
use Rattle.escrow_shards.specs.contracts.opening.Opening as Opening
use Rattle.escrow_shards.specs.contracts.close.room.Room as Room
use Rattle.escrow_shards.specs.contracts.shard.Shard as Shard
use Rattle.escrow_shards.specs.contracts.shared.Shared as Shared
use Rattle.escrow_shards.specs.contracts.commit_queue.CommitQueue as CommitQueue
use Rattle.escrow_shards.specs.contracts.watched.Watched as Watched
use Rattle.escrow_shards.specs.contracts.watched.Watched.TheInside as Inside

base_send : IsSend base.the_row
base_send = Base.the_send

base_sync : IsSync base.the_row
base_sync = Base.the_sync

entry_send : IsSend entry.the_row
entry_send = Entry.the_send

-- the waiting COMMITs
queue_send : IsSend CommitQueue.the_row
queue_send = search (sendable, crosses) depth 80 fits 20000

module _ (S : RattleType) (g : Ghosts S.Denot) (store : IsSend S) where
  audited : IsSend (Audited.the_row S g)
  audited = search (database_send, base_send, entry_send, sendable, crosses) depth 80 fits 20000

  -- the contents of a lock
  pub locked_send : IsSend (Locked.the_row S g)
  locked_send = search (audited, sendable, crosses) depth 20

  opening_send : IsSend (Opening.the_row S g)
  opening_send = search (base_send, sendable, crosses) depth 80 fits 20000

  opening_sync : IsSync (Opening.the_row S g)
  opening_sync = search (base_sync, sendable, crosses) depth 80 fits 20000

  closed : IsSend (Closed.the_row S g)
  closed = search (audited, opening_send, sendable, crosses) depth 20

  room : IsSend (Room.the_row S g)
  room = search (closed, sendable, crosses) depth 20

  module _ (L : RattleType) (lock : IsSend L) where
    shard_if : IsSend CommitQueue.the_row → IsSync (Shard.the_row S L g)
    shard_if queue = search (lock, queue, opening_sync, sendable, crosses) depth 20

    shard : IsSync (Shard.the_row S L g)
    shard = shard_if queue_send

    pub shared_sync : IsSync (Shared.the_row S L g)
    shared_sync = search (shard, room, sendable, crosses) depth 20

  -- the contents of a lock may move too, if the database is watched
  inside : (R : RattleType) (alter : Alter S.Denot) → IsSend R → IsSend (Inside.the_row S R alter g)
  inside R alter rt =
      let T = Inside.the_type S R alter g in
      recorded_send (Struct (shape T)) T.D T.to T.to_one (struct_send (shape T) (search (audited, sendable, crosses) depth 20, (search (board_send S alter g R rt), tt)))

  pub watched_send : (R : RattleType) (alter : Alter S.Denot) → IsSend R → IsSend (Watched.the_row S R alter g)
  watched_send R alter rt = search (inside R alter rt, sendable) depth 10
