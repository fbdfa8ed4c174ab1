use Rattle.std.proofs.Common.{◌++◌, length, reverse, sym, ap, ◌∙◌}
use Rattle.std.proofs.lemmas.List.{append-nil, nil_from_length}
use Rattle.escrow_shards.proofs.UnderLocks.{last_seen, next_order, room_for, room_stays, room_first}
use Rattle.escrow_shards.proofs.make.into_shards.Goals as goal

pub push_reserved-requires : goal.push_reserved-requires
push_reserved-requires g c = room_for _ _ _ _ c.loop-start.invariant.room c.in-Some-pop.ensures.cases

pub begin-requires : goal.begin-requires
begin-requires g c =
    (last_seen c.loop-start.starts.items c.pop.new.self.items c.loop-start.databases.items c.pop-in-Some.new.self.items c.in-Some.start c.in-Some-pop.database
    c.loop-start.invariant.seen c.in-Some.ensures.items c.in-Some-pop.ensures.items).1

pub loop-start-init : goal.loop-start-init
loop-start-init g c = record {
  seen = c.requires.seen;
  order = ap (λ bs. c.args.starts.items ++ reverse bs) c.requires.empty ∙ append-nil c.args.starts.items;
  room = room_first _ _ _ (c.args.shards.ok.0 ∙ ap length c.requires.empty) c.requires.room;
}

pub loop-start-preserved : goal.loop-start-preserved
loop-start-preserved g c = record {
  seen =
      (last_seen c.loop-start.starts.items c.pop.new.self.items c.loop-start.databases.items c.pop-in-Some.new.self.items c.in-Some.start c.in-Some-pop.database
      c.loop-start.invariant.seen c.in-Some.ensures.items c.in-Some-pop.ensures.items).0;
  order =
      next_order c.loop-start.starts.items c.pop.new.self.items c.loop-start.shards.items c.push_reserved.new.self.items c.args.starts.items c.in-Some.start c.begin.result
      c.loop-start.invariant.order c.in-Some.ensures.items c.push_reserved.ensures.items c.begin.ensures;
  room = room_stays _ _ _ _ _ _ c.loop-start.invariant.room c.in-Some-pop.ensures.cases c.push_reserved.ensures.len c.push_reserved.ensures.capacity;
}

pub returns : goal.returns
returns g c =
    let none = nil_from_length c.loop-start.starts.items (sym c.loop-start.starts.ok.0 ∙ c.in_default.ensures.cases.0) in
    c.reverse.ensures.items ∙ ap (λ bs. bs ++ reverse c.loop-start.shards.items) (sym none) ∙ c.loop-start.invariant.order
