-- When a session may have one more reservation, and what may refuse it.
use Rattle.std.specs.Prelude.{◌≡◌, ℕ, ◌<◌, ◌≤◌, Bool, true, false, nat_le, nat_lt, None, IfSome, [], ◌∷◌, length}
use Rattle.std.proofs.Common.{refl, arith}
use Rattle.std.proofs.lemmas.Bool.{leb-false, ltb-false}
use Rattle.std.proofs.lemmas.Bool.Decides.{nat_tests}
use Rattle.escrow_num.specs.declared.refusal.Refusal.{Refusal}
use Rattle.escrow_num.specs.declared.refusal.Refusal.TheVariants as refusal
use Rattle.escrow_num.specs.declared.reservation.TheConstants.Reservation.{MAX_ID}
use Rattle.escrow_num.specs.Refusal.{refuse_if, first_refusal}
use Rattle.escrow_journal.specs.declared.journal.TheConstants.Journal.{MAX_RESERVATIONS}
use Rattle.escrow_journal.specs.Open.{Open, grant_refusal}
use Rattle.escrow_journal.specs.Reservations.{own}

-- the session has room for one more reservation, and an id is left for it
pub record IsFree (session : ℕ) (o : Open) : Type 0 where
  pub room : length (own session o.reservations) < MAX_RESERVATIONS
  pub more_ids : o.next_id ≤ MAX_ID

first_none : (a b : Bool) (r t : Refusal) → first_refusal (refuse_if a r ∷ refuse_if b t ∷ []) ≡ None → (a ≡ false) × (b ≡ false)
first_none true b r t none = absurd (cc)
first_none false true r t none = absurd (cc)
first_none false false r t none = (refl, refl)

pub is_free : (session : ℕ) (o : Open) → grant_refusal session o ≡ None → IsFree session o
is_free session o none =
    let held = length (own session o.reservations) in
    let tests = first_none (nat_le MAX_RESERVATIONS held) (nat_lt MAX_ID o.next_id) refusal.TooManyReservations refusal.NoMoreIds none in
    record { room = leb-false MAX_RESERVATIONS held tests.0; more_ids = ltb-false MAX_ID o.next_id tests.1 }

not_full : (limit n : ℕ) → n < limit → nat_le limit n ≡ false
not_full limit n lower = grind (arith, nat_tests)

not_past : (limit n : ℕ) → n ≤ limit → nat_lt limit n ≡ false
not_past limit n up_to = grind (arith, nat_tests)

pub unrefused : (session : ℕ) (o : Open) → IsFree session o → grant_refusal session o ≡ None
unrefused session o free =
    rw (not_full MAX_RESERVATIONS (length (own session o.reservations)) free.room, not_past MAX_ID o.next_id free.more_ids) refl

two_among : (P : Refusal → Type 0) (a b : Bool) (r t : Refusal) → P r → P t → IfSome (first_refusal (refuse_if a r ∷ refuse_if b t ∷ [])) P
two_among P true b r t first second = first
two_among P false true r t first second = second
two_among P false false r t first second = tt

-- what holds for both reasons holds for the one that applies
pub grant_among : (P : Refusal → Type 0) (session : ℕ) (o : Open) → P refusal.TooManyReservations → P refusal.NoMoreIds → IfSome (grant_refusal session o) P
grant_among P session o many ids =
    two_among P (nat_le MAX_RESERVATIONS (length (own session o.reservations))) (nat_lt MAX_ID o.next_id) refusal.TooManyReservations refusal.NoMoreIds many ids
