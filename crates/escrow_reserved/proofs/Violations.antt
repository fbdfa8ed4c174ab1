-- The first broken check, as checks are walked.
use Rattle.std.proofs.Common.{◌≡◌, ℕ, ◌+◌, ℤ, ◌<◌, true, false, Option, Some, None, List, length, get_or, drop, refl, add-one, drop-cons}
use Rattle.std.specs.Prelude.{is_some}
use Rattle.escrow_num.specs.declared.refusal.Violation.{Violation}
use Rattle.escrow_checks.specs.declared.check.Check.{Check}
use Rattle.escrow_checks.specs.Grant.{broken_by, broken}

pub broken_here : (checks : List Check) (i : ℕ) (check : Check) (amounts changes : List ℤ) (reservations : List (List ℤ)) (found : Option Violation)
    → i < length checks → check ≡ get_or checks i check → found ≡ broken_by check amounts changes reservations → is_some found ≡ true
    → found ≡ broken (drop i checks) amounts changes reservations
broken_here checks i check amounts changes reservations None below at is some = absurd (cc)
broken_here checks i check amounts changes reservations (Some violation) below at is some =
    rw (drop-cons checks i check, ← at, ← is) refl

pub broken_past : (checks : List Check) (i : ℕ) (check : Check) (amounts changes : List ℤ) (reservations : List (List ℤ)) (found : Option Violation)
    → i < length checks → check ≡ get_or checks i check → found ≡ broken_by check amounts changes reservations → is_some found ≡ false
    → broken (drop (i + 1) checks) amounts changes reservations ≡ broken (drop i checks) amounts changes reservations
broken_past checks i check amounts changes reservations (Some violation) below at is none = absurd (cc)
broken_past checks i check amounts changes reservations None below at is none =
    rw (drop-cons checks i check, ← at, ← is, add-one) refl
