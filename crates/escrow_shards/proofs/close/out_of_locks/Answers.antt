use Rattle.std.proofs.Common.{◌≡◌, ◌∷◌, [], ◌++◌, length, map, refl, vec_len, ap, ap₂, ◌∙◌, append_assoc, sym, add-one}
use Rattle.std.specs.Vec.Iter.{into_iter_items}
use Rattle.std.proofs.lemmas.List.{map_push, append-nil, nil_from_length}
use Rattle.escrow_shards.specs.Closed.{opening_of}
use Rattle.escrow_shards.proofs.Places.{count_first, room_left, still_fits, one_less}
use Rattle.escrow_shards.proofs.close.out_of_locks.Goals as goal

pub push_reserved-requires : goal.push_reserved-requires
push_reserved-requires g c = room_left _ _ _ _ _ c.loop-shard.invariant.count c.in-Some.ensures.steps.1 c.loop-shard.invariant.wide

pub loop-shard-preserved : goal.loop-shard-preserved
loop-shard-preserved g c =
    let at = c.loop-shard in
    let steps : into_iter_items at.shard-iterator ≡ c.in-Some.shard ∷ into_iter_items c.next.new.self = c.in-Some.ensures.steps.0 in
    record {
      rest = append_assoc at.yielded (c.in-Some.shard ∷ []) _ ∙ rw (← steps) at.invariant.rest;
      long = one_less _ _ _ _ at.invariant.long c.in-Some.ensures.steps.1 (ap length steps ∙ sym (add-one _));
      so_far =
          ap (λ xs. map opening_of xs) c.push_reserved.ensures.items ∙ map_push opening_of at.closed.items c.close.result
          ∙ ap₂ (λ xs x. xs ++ x ∷ []) at.invariant.so_far c.close.ensures;
      count = still_fits _ _ _ _ _ at.invariant.count c.in-Some.ensures.steps.1 c.push_reserved.ensures.len;
      wide = rw c.push_reserved.ensures.capacity at.invariant.wide;
    }

pub loop-shard-init : goal.loop-shard-init
loop-shard-init g c =
    let gives = c.into_iter-shard-iterator.ensures.into_iter_gives in
    let shards = c.args.shards in
    let closed = c.args.room.closed in
    let as_long : vec_len shards ≡ length shards.items = shards.ok.0 in
    let none : vec_len closed ≡ length closed.items = closed.ok.0 in
    record {
      rest = refl;
      long = gives.1 ∙ as_long ∙ ap length (sym gives.0);
      so_far = ap (λ xs. map opening_of xs) (nil_from_length closed.items (sym none ∙ c.args.room.none_yet));
      count = count_first _ _ _ _ c.args.room.none_yet gives.1 c.requires;
      wide = c.args.room.wide;
    }

pub returns : goal.returns
returns g c =
    let at = c.loop-shard in
    let none = nil_from_length (into_iter_items at.shard-iterator) (sym at.invariant.long ∙ c.in-None.ensures.steps.0) in
    at.invariant.so_far ∙ sym (append-nil at.yielded) ∙ ap (λ xs. at.yielded ++ xs) (sym none) ∙ at.invariant.rest ∙ c.into_iter-shard-iterator.ensures.into_iter_gives.0
