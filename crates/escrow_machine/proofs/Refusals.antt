-- Lists of refusals: if none applies, each test failed; what holds for each holds for the first that applies.
use Rattle.std.specs.Prelude.{◌≡◌, ℕ, ◌<◌, Bool, true, false, nat_le, is_some, is_none, option_map, IfSome, IsSome, Option, Some, None, Result, Ok, Err, List, [], ◌∷◌, ◌++◌}
use Rattle.std.specs.List.{AllByRecursion}
use Rattle.std.proofs.Common.{refl, subst, arith}
use Rattle.std.proofs.lemmas.Bool.Decides.{nat_tests}
use Rattle.escrow_num.specs.declared.refusal.Violation.{Violation}
use Rattle.escrow_num.specs.declared.refusal.Refusal.{Refusal}
use Rattle.escrow_num.specs.declared.refusal.Refusal.TheVariants as refusal
use Rattle.escrow_num.specs.Refusal.{refuse_if, first_refusal}

-- if no refusal applies, neither the first nor any other does
pub record IsPassed (o : Option Refusal) (rest : List (Option Refusal)) : Type 0 where
  pub first : o ≡ None
  pub others : first_refusal rest ≡ None

pub passed : (o : Option Refusal) (rest : List (Option Refusal)) → first_refusal (o ∷ rest) ≡ None → IsPassed o rest
passed None rest none = record { first = refl; others = none }
passed (Some r) rest none = absurd (cc)

-- and each is none
pub all_passed : (refusals : List (Option Refusal)) → first_refusal refusals ≡ None → AllByRecursion (λ o. o ≡ None) refusals
all_passed [] none = tt
all_passed (None ∷ refusals) none = (refl, all_passed refusals none)
all_passed (Some r ∷ refusals) none = absurd (cc)

pub none_in_front : (early late : List (Option Refusal)) → first_refusal (early ++ late) ≡ None → first_refusal early ≡ None
none_in_front [] late none = refl
none_in_front (None ∷ early) late none = none_in_front early late none
none_in_front (Some r ∷ early) late none = absurd (cc)

-- a list's first refusal is also the first if more are appended
pub first_in_front : (early late : List (Option Refusal)) (r : Refusal) → first_refusal early ≡ Some r → first_refusal (early ++ late) ≡ Some r
first_in_front [] late r first = absurd (cc)
first_in_front (None ∷ early) late r first = first_in_front early late r first
first_in_front (Some other ∷ early) late r first = first

-- if none of a list applies, the first is that of the appended ones
pub first_behind : (early late : List (Option Refusal)) → first_refusal early ≡ None → first_refusal (early ++ late) ≡ first_refusal late
first_behind [] late none = refl
first_behind (None ∷ early) late none = first_behind early late none
first_behind (Some r ∷ early) late none = absurd (cc)

-- if a test refuses nothing, it is false
pub failed : (b : Bool) (r : Refusal) → refuse_if b r ≡ None → b ≡ false
failed true r e = absurd (cc)
failed false r e = refl

pub unbroken : (o : Option Violation) → option_map refusal.Check o ≡ None → o ≡ None
unbroken (Some violation) e = absurd (cc)
unbroken None e = refl

pub none_there : {A : Type 0} (o : Option A) → is_some o ≡ false → o ≡ None
none_there (Some x) e = absurd (cc)
none_there None e = refl

-- an item is there if its absence is not refused, and absent if its presence is not refused
pub present : {A : Type 0} (o : Option A) (r : Refusal) → refuse_if (is_none o) r ≡ None → (x : A) × (o ≡ Some x)
present (Some x) r e = (x, refl)
present None r e = absurd (cc)

pub absent : {A : Type 0} (o : Option A) (r : Refusal) → refuse_if (is_some o) r ≡ None → o ≡ None
absent (Some x) r e = absurd (cc)
absent None r e = refl

-- an item is there if its absence is not refused; an absent item is refused
pub there : {A : Type 0} (o : Option A) (r : Refusal) → refuse_if (is_none o) r ≡ None → IsSome o
there (Some x) r e = refl
there None r e = absurd (cc)

pub standing : {A : Type 0} (o : Option A) → IsSome o → is_none o ≡ false
standing (Some x) is = refl
standing None is = absurd (cc)

pub lacking : {A : Type 0} (o : Option A) (r : Refusal) (rest : List (Option Refusal)) → o ≡ None → first_refusal (refuse_if (is_none o) r ∷ rest) ≡ Some r
lacking o r rest e = rw e refl

pub some_found : {A : Type 0} (o : Option A) → is_some o ≡ true → (x : A) × (o ≡ Some x)
some_found (Some x) e = (x, refl)
some_found None e = absurd (cc)

pub below : (limit n : ℕ) → nat_le limit n ≡ false → n < limit
below limit n e = grind (arith, nat_tests)

-- what holds for each refusal holds for the first that applies
pub first_among : (P : Refusal → Type 0) (refusals : List (Option Refusal)) → AllByRecursion (λ o. IfSome o P) refusals
    → (r : Refusal) → first_refusal refusals ≡ Some r → P r
first_among P [] all r first = absurd (cc)
first_among P (None ∷ refusals) all r first = first_among P refusals all.1 r first
first_among P (Some other ∷ refusals) all r first = let same : other ≡ r = cc in subst P same all.0

pub if_among : (P : Refusal → Type 0) (b : Bool) (r : Refusal) → P r → IfSome (refuse_if b r) P
if_among P true r h = h
if_among P false r h = tt

pub check_among : (P : Refusal → Type 0) (o : Option Violation) → ((violation : Violation) → P (refusal.Check violation)) → IfSome (option_map refusal.Check o) P
check_among P None h = tt
check_among P (Some violation) h = h violation

-- if the first that applies is not this refusal, it is among the others
pub passed_over : (o : Option Refusal) (refusals : List (Option Refusal)) (r : Refusal) → IfSome o (λ other. ¬ (other ≡ r))
    → first_refusal (o ∷ refusals) ≡ Some r → first_refusal refusals ≡ Some r
passed_over None refusals r differs first = first
passed_over (Some other) refusals r differs first = absurd (differs (cc))

-- a call that succeeds has no reason to be refused
pub no_reason : {T : Type 0} (o : Option Refusal) (result : Result T Refusal) (x : T) → result ≡ Ok x → IfSome o (λ r. result ≡ Err r) → o ≡ None
no_reason None result x is h = refl
no_reason (Some r) result x is h = absurd (cc)
