-- What calls do with a row's place.
use Rattle.std.specs.Prelude.{◌≡◌, ◌<◌, ℤ, List, [], ◌∷◌, length}
use Rattle.std.proofs.Common.{ap, arith}
use Rattle.std.proofs.lemmas.List.{length-map}
use Rattle.escrow_num.specs.declared.session.End.{End}
use Rattle.escrow_num.specs.declared.value.RowName.{RowName}
use Rattle.escrow_bounds.specs.Counts.{TakesIn, GivesBack}
use Rattle.escrow_bounds.specs.Place.{Place, Tracked, checks_of}
use Rattle.escrow_bounds.specs.Bounds.{Bounds, place_at, Becomes}
use Rattle.escrow_tests.specs.Placed.{IsPlaced}

as_many : (old new : Place) → checks_of new.checks ≡ checks_of old.checks → 0 < length old.checks → 0 < length new.checks
as_many old new same some =
    omega (arith, some, ap length same, length-map new.checks (λ (form : Tracked). form.check), length-map old.checks (λ (form : Tracked). form.check))

pub one_more : (old new : Bounds) (row : RowName) (changes : List ℤ) (held : List (List ℤ)) → Becomes (TakesIn changes) (place_at old row) (place_at new row)
    → IsPlaced old row held → IsPlaced new row (changes ∷ held)
one_more old new row changes held becomes placed =
    let after = becomes placed.0 placed.1 in
    (after.0, after.1, as_many placed.0 after.0 after.2.checks placed.2, after.2.counts [] held placed.3)

pub one_less : (end : End) (old new : Bounds) (row : RowName) (first second : List ℤ) → Becomes (GivesBack end first) (place_at old row) (place_at new row)
    → IsPlaced old row (second ∷ first ∷ []) → IsPlaced new row (second ∷ [])
one_less end old new row first second becomes placed =
    let after = becomes placed.0 placed.1 in
    (after.0, after.1, as_many placed.0 after.0 after.2.checks placed.2, after.2.counts (second ∷ []) [] placed.3)
