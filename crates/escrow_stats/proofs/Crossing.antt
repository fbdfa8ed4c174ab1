-- A board and its watchers may move between threads.
use denote.RattleType.{RattleType}
use denote.Param.Send.{IsSend, IsSync, recorded_send, sendable, struct_send}
use denote.Struct.Declared.{shape}
use denote.Struct.Struct.{Struct}
use denote.Struct.Tuple.{Tuple}
use mathlib.Core.List.{[], ◌∷◌}
use Rattle.std.proofs.Crossing.{crosses, frees, send}
use Rattle.std_heap.specs.contracts.Global as Heap
use Rattle.std_heap.specs.contracts.GlobalAllocator.TheImpl.{ghosts}
use Rattle.sqlite_trees.specs.declared.store.Alter.{Ghosts as Alter}
use Rattle.sqlite_trees.specs.declared.store.Store.{Ghosts}
use Rattle.atomic_table.proofs.shared.Seat.TheSendSync as Seat
use Rattle.atomic_table.proofs.shared.Shared.TheSendSync as Shared
use Rattle.atomic_table.proofs.send_lease.SendLease.TheSendSync as Lease
use Rattle.left_right.proofs.part.Deed.TheSendSync as DeedSend
use Rattle.left_right.specs.contracts.part.Deed as Deed
use Rattle.left_right.proofs.part.Part.TheSendSync as Part
use Rattle.left_right.specs.contracts.desk.Desk as Desk
use Rattle.left_right.specs.contracts.part.Part as PartRow
use Rattle.left_right.specs.contracts.writer.Writer as Writer
use Rattle.left_right.specs.declared.Absorb.{Ghosts as Absorb}
use Rattle.crossbeam_utils.specs.declared.rule.Protocol.{Ghosts as Protocol}
use Rattle.escrow_stats.specs.contracts.board.Board as Board
use Rattle.escrow_stats.specs.contracts.board.Board.TheInside as Inside
use Rattle.escrow_stats.specs.contracts.known.Prefixes as Prefixes
use Rattle.escrow_stats.specs.contracts.known.PrefixesProtocolShownKnown.TheImpl as Rule
use Rattle.escrow_stats.specs.contracts.known.Known as Known
use Rattle.escrow_stats.specs.contracts.shown.Post as Post
use Rattle.escrow_stats.specs.contracts.shown.ShownAbsorbPost.TheImpl as Absorbing
use Rattle.escrow_stats.specs.contracts.shown.Shown as Shown
use Rattle.escrow_stats.specs.contracts.tally.Tally as Tally
use Rattle.escrow_stats.specs.contracts.watcher.Watcher as Watcher

shown_sync : IsSync Shown.the_row
shown_sync = search (sendable, crosses) depth 40 fits 20000

shown_send : IsSend Shown.the_row
shown_send = search (sendable, crosses) depth 40 fits 20000

post_send : IsSend Post.the_row
post_send = search (sendable, crosses) depth 40 fits 20000

part_send : IsSend (PartRow.the_row Shown.the_row)
part_send = Part.the_send Shown.the_row shown_sync

deed_send : IsSend (Deed.the_row Shown.the_row Heap.the_row ghosts)
deed_send = DeedSend.the_send Shown.the_row Heap.the_row ghosts shown_send send (record { frees = λ a τ p. frees.frees a τ p })

module _ (V F St : RattleType) (rule : Protocol F.Denot Shown.the_row.Denot V.Denot) (absorbs : Absorb Shown.the_row.Denot Post.the_row.Denot St.Denot) where
  -- the two copies that a board has, and its writing end, as fields of the struct that holds them
  desk_send : IsSend (Struct (shape (Desk.the_type Shown.the_row V F Heap.the_row rule ghosts)))
  desk_send =
      struct_send (shape (Desk.the_type Shown.the_row V F Heap.the_row rule ghosts)) (
        search (Shared.the_send, Shared.the_sync, Lease.the_send, Lease.the_sync, part_send, sendable, crosses) depth 80 fits 20000,
        (
          search (Seat.the_send, part_send, sendable, crosses) depth 80 fits 20000,
          (search sendable, (search sendable, (search (sendable, crosses) depth 20, (deed_send, (part_send, (deed_send, (part_send, tt))))))),
        ),
      )

  writer_send : IsSend (Struct (shape (Writer.the_type Shown.the_row Post.the_row V F Heap.the_row St absorbs rule ghosts)))
  writer_send =
      struct_send (shape (Writer.the_type Shown.the_row Post.the_row V F Heap.the_row St absorbs rule ghosts))
      (desk_send, (search (post_send, sendable, crosses) depth 40, (search sendable, (search sendable, tt))))

module _ (S : RattleType) (alter : Alter S.Denot) (store : Ghosts S.Denot) where
  pub watcher_send : IsSend (Watcher.the_row S alter store)
  watcher_send = search (Seat.the_send, Shared.the_send, Shared.the_sync, Lease.the_send, Lease.the_sync, part_send, sendable, crosses) depth 80 fits 20000

  inside : (R : RattleType) → IsSend R → IsSend (Inside.the_row S R alter store)
  inside R rt =
      let T = Inside.the_type S R alter store in
      recorded_send (Struct (shape T)) T.D T.to T.to_one
      (struct_send (shape T) (writer_send Known.the_row (Prefixes.the_row S) (Tuple (Tally.the_row ∷ Post.the_row ∷ [])) (Rule.ghosts S alter Rule.no_dict store Rule.no_dict) Absorbing.ghosts, (search (sendable, crosses) depth 20, (search (sendable, crosses) depth 20, (search (rt, sendable), tt)))))

  pub board_send : (R : RattleType) → IsSend R → IsSend (Board.the_row S R alter store)
  board_send R rt = search (inside R rt, sendable) depth 10
