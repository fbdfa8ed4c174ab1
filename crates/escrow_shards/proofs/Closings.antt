-- What was found of databases taken out of their locks, in the words of a close.
use Rattle.std.proofs.Common.{◌≡◌, ℕ, List, length, map, sym, ap, ◌∙◌, subst}
use Rattle.std.proofs.lemmas.List.{length-map}
use Rattle.sqlite_trees.specs.declared.store.Store.{Ghosts}
use Rattle.escrow_shards.specs.declared.close.Cause.{Cause}
use Rattle.escrow_shards.specs.Opening.{Opening}
use Rattle.escrow_shards.specs.Closed.{Closed, opening_of}
use Rattle.escrow_shards.specs.Found.{AreFound}
use Rattle.escrow_shards.specs.Shared.{Shared}
use Rattle.escrow_shards.specs.Part.{Part}
use Rattle.escrow_shards.specs.Pass.{Pass, AreAllPasses}
use Rattle.escrow_shards.specs.Whole.{AreWhole, IsTrueOf}

-- databases with these openings
abbrev pub sharing_of : {S : Type 0} → List (Opening S) → ℕ → Shared S
sharing_of openings sessions = record { openings = openings; sessions = sessions }

module _ {S : Type 0} (g : Ghosts S) (sharing : Shared S) (openings : List (Opening S)) (sessions : ℕ)
    (passes others : List Pass) (parts pieces : List (Part S)) (closed found : List (Closed S)) where
  pub whole_of : found ≡ closed → others ≡ passes → pieces ≡ parts → sharing_of openings sessions ≡ sharing → map opening_of closed ≡ openings
      → AreFound g sessions others pieces found → AreWhole g sharing passes parts closed
  whole_of closed_is seats_is parts_is sharing_is opened all =
      let a : AreFound g sessions others pieces closed = subst (λ (x : List (Closed S)). AreFound g sessions others pieces x) closed_is all in
      let b : AreFound g sessions passes pieces closed = subst (λ (x : List Pass). AreFound g sessions x pieces closed) seats_is a in
      let d : AreFound g sessions passes parts closed = subst (λ (x : List (Part S)). AreFound g sessions passes x closed) parts_is b in
      let long : length closed ≡ length openings = sym (length-map closed opening_of) ∙ ap (λ (bs : List (Opening S)). length bs) opened in
      let whole : AreWhole g (sharing_of openings sessions) passes parts closed = record {
        openings = opened;
        all_seats = subst (λ (n : ℕ). AreAllPasses n sessions passes) long d.all_seats;
        each = d.each;
        receipts = d.receipts;
        asked = d.asked;
      } in
      subst (λ (h : Shared S). AreWhole g h passes parts closed) sharing_is whole

  pub true_of : found ≡ closed → others ≡ passes → pieces ≡ parts → sharing_of openings sessions ≡ sharing → (cause : Cause)
      → IsTrueOf sessions others pieces found cause → IsTrueOf sharing.sessions passes parts closed cause
  true_of closed_is seats_is parts_is sharing_is cause holds =
      let a : IsTrueOf sessions others pieces closed cause = subst (λ (x : List (Closed S)). IsTrueOf sessions others pieces x cause) closed_is holds in
      let b : IsTrueOf sessions passes pieces closed cause = subst (λ (x : List Pass). IsTrueOf sessions x pieces closed cause) seats_is a in
      let d : IsTrueOf sessions passes parts closed cause = subst (λ (x : List (Part S)). IsTrueOf sessions passes x closed cause) parts_is b in
      subst (λ (h : Shared S). IsTrueOf h.sessions passes parts closed cause) sharing_is d
