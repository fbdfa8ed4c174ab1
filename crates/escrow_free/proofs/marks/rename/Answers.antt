use Rattle.std.proofs.Common.{◌<◌, length, map, refl, arith, rules}
use Rattle.escrow_free.specs.Ranks.{renamed}
use Rattle.escrow_sessions.proofs.Places.{all_parts}
use Rattle.escrow_free.proofs.Marking.{head_named, tail_named, changed_more}
use Rattle.escrow_free.proofs.marks.rename.Goals as goal

pub loop-item-init : goal.loop-item-init
loop-item-init c = record {
  named = all_parts (λ x. x.0 < length c.args.ranks.now) c.args.items.now c.requires;
  so_far = search rules;
}

pub offset_bounds-ranks-item : goal.offset_bounds-ranks-item
offset_bounds-ranks-item c =
    let below = head_named (λ x. x.0 < length c.args.ranks.now) c.loop-item.items c.loop-item.item-index c.item-item.result (omega arith) c.loop-item.invariant.named in
    search rules

pub bounds-ranks-item : goal.bounds-ranks-item
bounds-ranks-item c = head_named (λ x. x.0 < length c.args.ranks.now) c.loop-item.items c.loop-item.item-index c.item-item.result (omega arith) c.loop-item.invariant.named

pub loop-item-preserved : goal.loop-item-preserved
loop-item-preserved c = record {
  named = tail_named (λ x. x.0 < length c.args.ranks.now) c.loop-item.items c.loop-item.item-index _ (omega arith) c.loop-item.invariant.named;
  so_far =
      changed_more (renamed c.args.ranks.now) c.loop-item.items (map (renamed c.args.ranks.now) c.args.items.now) c.loop-item.item-index c.item-item.result _ (omega arith) refl c.loop-item.invariant.so_far;
}
