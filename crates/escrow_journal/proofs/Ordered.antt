-- In a list of reservations in order of grant, those from an id on are the last ones.
use Rattle.std.specs.Prelude.{◌≡◌, ℕ, ◌+◌, Bool, true, false, not, ◌&&◌, nat_le, cond, List, [], ◌∷◌, filter, take, drop, IsTrue}
use Rattle.std.specs.List.{position_or_len, AllByRecursion}
use Rattle.std.proofs.Common.{refl, sym, ap, ◌∙◌, arith, eq-eqb}
use Rattle.std.proofs.Math.Numerals.{one-add}
use Rattle.std.proofs.lemmas.Bool.{leb-true, le-leb, ltb-true}
use Rattle.escrow_num.specs.Ascending.{IsAscending}
use Rattle.escrow_num.specs.declared.reservation.Reservation.{Reservation}
use Rattle.escrow_num.specs.declared.reservation.Savepoint.{Savepoint}
use Rattle.escrow_journal.specs.Reservations.{reservation_before}
use Rattle.escrow_journal.specs.Savepoints.{is_after, after, not_after}
use Rattle.escrow_journal.proofs.Filters.{filter_all, filter_none, filter_same, filter_others}

-- a reservation has this id or a greater one
abbrev pub is_from : ℕ → Reservation → Bool
is_from id r = nat_le id r.id

-- the index of the first of them
abbrev pub first_from : ℕ → List Reservation → ℕ
first_from id rs = position_or_len (is_from id) rs

-- every reservation after one of them is one of them
all_from : (id : ℕ) (r : Reservation) (rs : List Reservation) → is_from id r ≡ true
    → AllByRecursion (λ later. IsTrue (reservation_before r later)) rs → AllByRecursion (λ later. is_from id later ≡ true) rs
all_from id r [] here rising = tt
all_from id r (x ∷ xs) here rising = (
  (let low = leb-true id r.id here in let next = ltb-true r.id x.id rising.0 in le-leb id x.id (omega arith)),
  all_from id r xs here rising.1,
)

later_step : (b : Bool) (r : Reservation) (kept rs : List Reservation) (n : ℕ) → (b ≡ true → kept ≡ rs) → kept ≡ drop n rs
    → cond b (r ∷ kept) kept ≡ drop (cond (not b) (1 + n) 0) (r ∷ rs)
later_step true r kept rs n all rest = ap (λ ys. r ∷ ys) (all refl)
later_step false r kept rs n all rest = rw one-add rest

-- the reservations from an id on are the last ones
pub from_is : (id : ℕ) (rs : List Reservation) → IsAscending reservation_before rs → filter (is_from id) rs ≡ drop (first_from id rs) rs
from_is id [] rising = refl
from_is id (r ∷ rs) rising =
    later_step (is_from id r) r (filter (is_from id) rs) rs (first_from id rs)
    (λ here. filter_all (is_from id) rs (all_from id r rs here rising.0)) (from_is id rs rising.1)

earlier_step : (b : Bool) (r : Reservation) (kept rs : List Reservation) (n : ℕ) → (b ≡ true → kept ≡ []) → kept ≡ take n rs
    → cond (not b) (r ∷ kept) kept ≡ take (cond (not b) (1 + n) 0) (r ∷ rs)
earlier_step true r kept rs n none rest = none refl
earlier_step false r kept rs n none rest = rw one-add (ap (λ ys. r ∷ ys) rest)

-- the others are the first ones
pub below_is : (id : ℕ) (rs : List Reservation) → IsAscending reservation_before rs → filter (λ r. not (is_from id r)) rs ≡ take (first_from id rs) rs
below_is id [] rising = refl
below_is id (r ∷ rs) rising =
    earlier_step (is_from id r) r (filter (λ x. not (is_from id x)) rs) rs (first_from id rs)
    (λ here. filter_none (is_from id) rs (all_from id r rs here rising.0)) (below_is id rs rising.1)

-- of one session's reservations, those after its savepoint are those from the savepoint's id on
is_after_is : (p : Savepoint) (session : ℕ) (rs : List Reservation) → p.session ≡ session → AllByRecursion (λ r. r.session ≡ session) rs
    → AllByRecursion (λ r. is_after p r ≡ is_from p.id r) rs
is_after_is p session [] same own = tt
is_after_is p session (r ∷ rs) same own = (ap (λ b. b && is_from p.id r) (eq-eqb r.session p.session (own.0 ∙ sym same)), is_after_is p session rs same own.1)

pub after_is : (p : Savepoint) (session : ℕ) (rs : List Reservation) → p.session ≡ session → AllByRecursion (λ r. r.session ≡ session) rs
    → IsAscending reservation_before rs → after p rs ≡ drop (first_from p.id rs) rs
after_is p session rs same own rising = filter_same (is_after p) (is_from p.id) rs (is_after_is p session rs same own) ∙ from_is p.id rs rising

pub not_after_is : (p : Savepoint) (session : ℕ) (rs : List Reservation) → p.session ≡ session → AllByRecursion (λ r. r.session ≡ session) rs
    → IsAscending reservation_before rs → not_after p rs ≡ take (first_from p.id rs) rs
not_after_is p session rs same own rising = filter_others (is_after p) (is_from p.id) rs (is_after_is p session rs same own) ∙ below_is p.id rs rising
