use Rattle.std.proofs.Common.{◌<◌, All, sym, subst, ◌∙◌}
use Rattle.std.specs.Iterator.{HoldsAlong}
use Rattle.escrow_sessions.specs.Slots.{IsNewSlot}
use Rattle.escrow_sessions.proofs.Places.{zip_long}
use Rattle.escrow_sessions.proofs.Placing.{all_fed}
use Rattle.escrow_sessions.proofs.fed.fn.serve_fed.scope.Goals as goal

pub feed-requires : goal.feed-requires
feed-requires g c =
    let long = zip_long IsNewSlot c.captures.passes.items c.start_all-slots.result.items c.start_all-slots.ensures in
    record {
      can = c.requires.can;
      ends = c.requires.ends;
      places = subst (λ n. HoldsAlong g.I.Iterator.next_gives c.captures.items (All (λ x. x.0 < n))) long c.requires.places;
    }

pub join_all-requires : goal.join_all-requires
join_all-requires g c =
    let long = zip_long IsNewSlot c.captures.passes.items c.start_all-slots.result.items c.start_all-slots.ensures in
    let same = c.end.new.slots.ok.0 ∙ c.end.ensures.count ∙ c.feed.ensures.2.count ∙ sym long ∙ sym c.captures.passes.ok.0 in
    record {
      empty = c.requires.none_done;
      room = rw same c.requires.done_fit;
    }

pub returns : goal.returns
returns g c =
    let fed = c.feed.ensures in (
      fed.0,
      fed.1,
      all_fed c.captures.passes.items fed.0 c.start_all-slots.result.items c.feed.new.slots.items c.end.new.slots.items c.join_all.result.items c.start_all-slots.ensures fed.2 c.end.ensures
          c.join_all.ensures,
    )
