use Rattle.std.proofs.Common.{◌≡◌, ◌∷◌, [], ◌++◌, length, map, refl, ap, ap₂, ◌∙◌, append_assoc, sym, add-one, arith}
use Rattle.std.specs.Vec.Iter.{into_iter_items}
use Rattle.std.proofs.lemmas.List.{map_push, append-nil, nil_from_length}
use Rattle.escrow_core.specs.Database.{Database}
use Rattle.escrow_server.specs.Free.{ended_of}
use Rattle.escrow_server.proofs.free.put_back.Goals as goal

pub loop-ended-init : goal.loop-ended-init
loop-ended-init g c =
    let gives = c.into_iter-ended-iterator.ensures.into_iter_gives in
    record {
      rest = refl;
      long = gives.1 ∙ c.args.closed.ok.0 ∙ ap length (sym gives.0);
      so_far = nil_from_length c.args.databases.now.items (sym c.args.databases.now.ok.0 ∙ c.requires.none);
      count = (let none = c.requires.none in let few = c.requires.few in let as_long = gives.1 in omega (arith, none, few, as_long));
      wide = c.requires.room;
    }

pub loop-ended-preserved : goal.loop-ended-preserved
loop-ended-preserved g c =
    let at = c.loop-ended in
    let steps : into_iter_items at.ended-iterator ≡ c.in-Some.ended ∷ into_iter_items c.next.new.self = c.in-Some.ensures.steps.0 in
    record {
      rest = append_assoc at.yielded (c.in-Some.ended ∷ []) _ ∙ rw (← steps) at.invariant.rest;
      long = (let l = at.invariant.long in let gone = c.in-Some.ensures.steps.1 in let one = ap length steps ∙ sym (add-one _) in omega (arith, l, gone, one));
      so_far = c.push_reserved.ensures.items
          ∙ ap₂ (λ xs (x : Database _). xs ++ x ∷ []) at.invariant.so_far (ap₂ (λ s t. record { store = s; state = t }) c.into_parts-database.ensures.store c.into_parts-database.ensures.state)
          ∙ sym (map_push ended_of at.yielded c.in-Some.ended);
      count = (let l = at.invariant.count in let gone = c.in-Some.ensures.steps.1 in let more = c.push_reserved.ensures.len in omega (arith, l, gone, more));
      wide = rw c.push_reserved.ensures.capacity at.invariant.wide;
    }

pub returns : goal.returns
returns g c =
    let at = c.loop-ended in
    let none = nil_from_length (into_iter_items at.ended-iterator) (sym at.invariant.long ∙ c.in-None.ensures.steps.0) in
    at.invariant.so_far
    ∙ ap (λ cs. map ended_of cs) (sym (append-nil at.yielded) ∙ ap (λ cs. at.yielded ++ cs) (sym none) ∙ at.invariant.rest ∙ c.into_iter-ended-iterator.ensures.into_iter_gives.0)
