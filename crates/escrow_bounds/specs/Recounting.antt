-- Helps: which reservations are counted before and after one more is counted, or one is removed.
use Rattle.std.specs.Prelude.{◌≡◌, ℤ, ◌<◌, List, ◌∷◌, ◌++◌, length}
use Rattle.escrow_checks.specs.declared.spread.TheConstants.Spread.{MAX_OPEN}
use Rattle.escrow_bounds.specs.declared.sums.Counting.{Counting}
use Rattle.escrow_bounds.specs.declared.sums.Counting.TheVariants as counting
use Rattle.escrow_bounds.specs.Counts.{HaveSums, Counts}
use Rattle.escrow_bounds.specs.Place.{Place, checks_of, Tracked}

-- those that are counted before
abbrev pub counted_before : Counting → List (List ℤ) → List ℤ → List (List ℤ) → List (List ℤ)
counted_before counting.In before changes after = before ++ after
counted_before counting.Out before changes after = before ++ changes ∷ after

-- those that are counted after
abbrev pub counted_after : Counting → List (List ℤ) → List ℤ → List (List ℤ) → List (List ℤ)
counted_after counting.In before changes after = before ++ changes ∷ after
counted_after counting.Out before changes after = before ++ after

-- there is room for one more beside the others
abbrev pub HasRoom : Counting → List (List ℤ) → Type 0
HasRoom counting.In others = length others < MAX_OPEN
HasRoom counting.Out others = Unit {0}

-- a place has room for the changes, or counts them
abbrev pub CanRecount : Counting → List ℤ → Place → Type 0
CanRecount counting.In changes place = place.count < MAX_OPEN
CanRecount counting.Out changes place =
    (before : List (List ℤ)) × (after : List (List ℤ)) × Counts place (before ++ changes ∷ after)

-- forms of the same checks, whose sums change from those before to those after
abbrev pub AreRecounted : Counting → List ℤ → List Tracked → List Tracked → Type 0
AreRecounted kind changes old new =
    (checks_of new ≡ checks_of old)
    × ((before after : List (List ℤ)) → HaveSums old (counted_before kind before changes after)
    → HaveSums new (counted_after kind before changes after))

-- a place whose count changes from those before to those after
pub record IsRecounted (kind : Counting) (changes : List ℤ) (old new : Place) : Type 0 where
  pub amounts : new.amounts ≡ old.amounts
  pub checks : checks_of new.checks ≡ checks_of old.checks
  pub counts : (before after : List (List ℤ)) → Counts old (counted_before kind before changes after)
      → Counts new (counted_after kind before changes after)
