use Rattle.std.proofs.Common.{◌≡◌, ◌<◌, ◌++◌, length}
use Rattle.std.specs.List.{AllByRecursion}
use Rattle.std.specs.Vec.Iter.{into_iter_items, into_iter_len}
use Rattle.escrow_free.specs.Dealing.{AreDealt}
use Rattle.escrow_free.proofs.dealing.deal.Given as goal

abbrev pub invariant-loop-place : goal.invariant-loop-place
invariant-loop-place l = record {
  rest : l.yielded ++ into_iter_items l.place-iterator ≡ into_iter_items l.initial.place-iterator;
  long : into_iter_len l.place-iterator ≡ length (into_iter_items l.place-iterator);
  named : AllByRecursion (λ x. x.0 < length l.fn.passes.items) (into_iter_items l.place-iterator);
  so_far : AreDealt l.fn.passes.items l.yielded l.feeds.items;
}
