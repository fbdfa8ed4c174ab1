-- Items at their places.
use Rattle.std.proofs.Common.{◌≡◌, ℕ, ◌+◌, ◌<◌, ◌≤◌, arith, Some, List, [], ◌∷◌, length, get_or, refl, sym, ◌∙◌, subst}
use Rattle.std.specs.List.{AllByRecursion, slice_get}
use Rattle.std.proofs.lemmas.Option.{slice_get_read}
use Rattle.escrow_shards.specs.Found.{IsAmong}
use Rattle.escrow_shards.specs.Pass.{Pass, IsPassOf}

-- the item at a place
pub there : {X : Type 0} (xs : List X) (i : ℕ) (x : X) → i < length xs → x ≡ get_or xs i x → slice_get xs i ≡ Some x
there xs i x below at = slice_get_read xs (length xs) i x refl below at

-- what holds of the item holds of whatever is found there
pub at_place : {X : Type 0} (P : X → Type 0) (xs : List X) (i : ℕ) (x : X) → i < length xs → x ≡ get_or xs i x → P x → (y : X) → slice_get xs i ≡ Some y → P y
at_place P xs i x below at holds y found =
    let both : Some x ≡ Some y = sym (there xs i x below at) ∙ found in
    let same : x ≡ y = cc in
    subst P same holds

-- passes belong to existing databases
pub all_among : (databases sessions : ℕ) (passes : List Pass) → AllByRecursion (IsPassOf databases sessions) passes → AllByRecursion (IsAmong databases) passes
all_among databases sessions [] all = tt
all_among databases sessions (s ∷ ss) all = (all.0.database, all_among databases sessions ss all.1)

-- a number below an end
pub below_end : (d n m : ℕ) → d < n → n ≤ m → d < m
below_end d n m below past = omega arith

-- while something remains, there is room
pub room_left : (count left rest most room : ℕ) → count + left ≤ most → rest + 1 ≡ left → most ≤ room → count < room
room_left count left rest most room fits gone wide = omega arith

pub still_fits : (count left rest new most : ℕ) → count + left ≤ most → rest + 1 ≡ left → new ≡ count + 1 → new + rest ≤ most
still_fits count left rest new most fits gone more = omega arith

pub one_less : (left rest n m : ℕ) → left ≡ n → rest + 1 ≡ left → n ≡ m + 1 → rest ≡ m
one_less left rest n m same gone short = omega arith

pub count_first : (a b n most : ℕ) → a ≡ 0 → b ≡ n → n ≤ most → a + b ≤ most
count_first a b n most none same few = omega arith
