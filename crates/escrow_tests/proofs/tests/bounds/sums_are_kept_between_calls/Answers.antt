use Rattle.std.specs.Prelude.{[], ◌∷◌, IsSome}
use Rattle.std.proofs.Common.{arith, refl, sym, subst}
use Rattle.escrow_tests.proofs.tests.bounds.sums_are_kept_between_calls.Goals as goal

pub worst-requires : goal.worst-requires
worst-requires g c = (c.as_slice-2.result.now ∷ [], c.add.ensures [] c.reserve.ensures)

pub verdict-broken-requires : goal.verdict-broken-requires
verdict-broken-requires g c = let one = c.add.ensures [] c.reserve.ensures in subst (λ place. IsSome place) (sym one.1) refl

pub add-requires-2 : goal.add-requires-2
add-requires-2 g c = (c.as_slice-2.result.now ∷ [], c.add.ensures [] c.reserve.ensures, omega arith)

pub worst-requires-2 : goal.worst-requires-2
worst-requires-2 g c = (c.as_slice-4.result.now ∷ c.as_slice-2.result.now ∷ [], c.add-2.ensures (c.as_slice-2.result.now ∷ []) (c.add.ensures [] c.reserve.ensures))

pub commit_first-requires : goal.commit_first-requires
commit_first-requires g c =
    let both = c.add-2.ensures (c.as_slice-2.result.now ∷ []) (c.add.ensures [] c.reserve.ensures) in
    rw (c.as_slice-5.ensures, c.as_slice-6.ensures) (rw (c.as_slice-2.ensures, c.as_slice-4.ensures) at both)

pub worst-requires-3 : goal.worst-requires-3
worst-requires-3 g c = (c.as_slice-6.result.now ∷ [], c.commit_first.ensures)
