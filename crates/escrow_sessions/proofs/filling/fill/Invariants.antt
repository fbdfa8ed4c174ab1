use Rattle.std.proofs.Common.{◌≡◌, ◌+◌, ◌≤◌, ◌++◌, ℕ, length, vec_len}
use Rattle.std.specs.List.{AllByRecursion, AllZip}
use Rattle.std.specs.Vec.{vec_capacity}
use Rattle.std.specs.Vec.Iter.{into_iter_items, into_iter_len}
use Rattle.escrow_sessions.proofs.filling.fill.Given as goal

abbrev pub invariant-loop-x : goal.invariant-loop-x
invariant-loop-x g l = record {
  rest : l.yielded ++ into_iter_items l.x-iterator ≡ into_iter_items l.initial.x-iterator;
  long : into_iter_len l.x-iterator ≡ length (into_iter_items l.x-iterator);
  can : AllByRecursion (λ x. (place : ℕ) → goal.F-pre g l.f place x) (into_iter_items l.x-iterator);
  so_far : AllZip (λ x y. (place : ℕ) × goal.F-post g l.f place x y) l.yielded l.ys.items;
  room : vec_len l.ys + into_iter_len l.x-iterator ≤ vec_capacity l.ys;
}
