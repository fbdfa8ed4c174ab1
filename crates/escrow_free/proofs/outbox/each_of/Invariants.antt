use Rattle.std.proofs.Common.{◌≡◌, ◌++◌, length}
use Rattle.std.specs.List.{AllZip}
use Rattle.std.specs.Vec.Iter.{into_iter_items, into_iter_len}
use Rattle.escrow_free.proofs.outbox.each_of.Given as goal

abbrev pub invariant-loop-x : goal.invariant-loop-x
invariant-loop-x g l = record {
  rest : l.yielded ++ into_iter_items l.x-iterator ≡ into_iter_items l.initial.x-iterator;
  long : into_iter_len l.x-iterator ≡ length (into_iter_items l.x-iterator);
  so_far : AllZip (λ x y. goal.F-post g l.f x y) l.yielded l.ys.items;
}
