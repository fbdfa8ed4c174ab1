-- Places in which no COMMIT waits.
use Rattle.std.specs.Prelude.{false, sum_by}
use Rattle.std.proofs.Common.{◌≡◌, ℕ, zero, suc, ◌-◌, get_or, replicate, refl, sym, subst, arith}
use Rattle.std.proofs.lemmas.List.{length-replicate}
use Rattle.std.proofs.lemmas.List.Sums.{sum_by-cons}
use Rattle.escrow_shards.specs.declared.commit_queue.CommitState.TheVariants as state
use Rattle.escrow_shards.specs.declared.commit_queue.TheConstants.CommitQueue.{COUNT}
use Rattle.escrow_shards.specs.CommitPlaces.{waits_in, AreInPlaces, IsPlaceOf}

free_at : (count k : ℕ) → get_or (replicate count state.Free) k state.Free ≡ state.Free
free_at zero k = refl
free_at (suc count) zero = refl
free_at (suc count) (suc k) = free_at count k

none_counted : (count : ℕ) → 0 ≡ sum_by waits_in (replicate count state.Free)
none_counted zero = refl
none_counted (suc count) = let more = sum_by-cons waits_in state.Free (replicate count state.Free) in let rest = none_counted count in omega (arith, more, rest)

-- none of them has a COMMIT that was served, and no session leads
pub none_placed : AreInPlaces (record { places = replicate COUNT state.Free; is_led = false }) 0
none_placed = record {
  count = length-replicate COUNT state.Free;
  counted = none_counted COUNT;
  named = λ session _. subst (IsPlaceOf session) (sym (free_at COUNT (session - 1))) tt;
  led = λ some. absurd (omega (arith, some));
}
