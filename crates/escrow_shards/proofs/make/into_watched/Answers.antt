use Rattle.std.proofs.Common.{◌≡◌, ◌++◌, length, reverse, refl, sym, ap, ◌∙◌, subst}
use Rattle.std.proofs.lemmas.List.{append-nil}
use Rattle.escrow_stats.specs.Watching.{IsNewBoard}
use Rattle.escrow_shards.specs.Watchers.{new_board}
use Rattle.escrow_shards.proofs.UnderLocks.{last_seen, next_order, room_first, room_stays}
use Rattle.escrow_shards.proofs.Watching.{last_board}
use Rattle.escrow_shards.proofs.make.into_watched.Goals as goal

pub loop-start-init : goal.loop-start-init
loop-start-init g c = record {
  seen = c.requires.seen;
  boards = c.requires.boards;
  order = ap (λ bs. c.args.starts.items ++ reverse bs) c.requires.empty ∙ append-nil c.args.starts.items;
  room = room_first _ _ _ (c.args.shards.ok.0 ∙ ap length c.requires.empty) c.requires.room;
}

pub begin_watched-requires-clause-seen : goal.begin_watched-requires-clause-seen
begin_watched-requires-clause-seen g c =
    let at = c.loop-start in
    (last_seen at.starts.items c.pop.new.self.items at.databases.items c.pop-in-Some.new.self.items c.in-Some.start c.in-Some-pop.database
    at.invariant.seen c.in-Some.ensures.items c.in-Some-pop.ensures.items).1

pub begin_watched-requires-clause-board : goal.begin_watched-requires-clause-board
begin_watched-requires-clause-board g c =
    let at = c.loop-start in
    let is : c.in-Some-pop-2.board ≡ new_board c.in-Some.start =
    (last_board at.starts.items c.pop.new.self.items at.boards.items c.pop-in-Some-2.new.self.items c.in-Some.start c.in-Some-pop-2.board
    at.invariant.boards c.in-Some.ensures.items c.in-Some-pop-2.ensures.items).1 in
    subst (IsNewBoard c.in-Some.start.base) (sym is) (record { begins = refl; unserved = refl; unshown = refl; sure = refl })

pub loop-start-preserved : goal.loop-start-preserved
loop-start-preserved g c =
    let at = c.loop-start in
    let start = c.in-Some.start in
    record {
      seen =
          (last_seen at.starts.items c.pop.new.self.items at.databases.items c.pop-in-Some.new.self.items start c.in-Some-pop.database
          at.invariant.seen c.in-Some.ensures.items c.in-Some-pop.ensures.items).0;
      boards =
          (last_board at.starts.items c.pop.new.self.items at.boards.items c.pop-in-Some-2.new.self.items start c.in-Some-pop-2.board
          at.invariant.boards c.in-Some.ensures.items c.in-Some-pop-2.ensures.items).0;
      order =
          next_order at.starts.items c.pop.new.self.items at.shards.items c.push_reserved.new.self.items c.args.starts.items start c.begin_watched.result
          at.invariant.order c.in-Some.ensures.items c.push_reserved.ensures.items c.begin_watched.ensures;
      room = room_stays _ _ _ _ _ _ at.invariant.room c.in-Some-pop.ensures.cases c.push_reserved.ensures.len c.push_reserved.ensures.capacity;
    }
