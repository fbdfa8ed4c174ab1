-- Open reservations, and the places that count them.
use Rattle.std.specs.Prelude.{◌≡◌, ◌+◌, map, take, ◌<◌, ◌≤◌, ℕ, zero, suc, ℤ, Bool, true, false, not, nat_eq, nat_le, is_some, option_map, unwrap_or, Option, Some, None, IsSome, List, [], ◌∷◌, ◌++◌, length, ◌==◌}
use Rattle.std.specs.List.{AllByRecursion, list_any}
use Rattle.std.proofs.Common.{inl, inr, refl, sym, ap, ap₂, subst, ◌∙◌, arith, cond, get_or, append-nil}
use Rattle.std.proofs.lemmas.List.{map_more, map_push}
use Rattle.std.proofs.lemmas.Bool.{or_left, or_right}
use Rattle.escrow_num.specs.declared.reservation.Reservation.{Reservation}
use Rattle.escrow_num.specs.declared.reservation.Savepoint.{Savepoint}
use Rattle.escrow_num.specs.declared.value.RowName.{RowName}
use Rattle.escrow_num.specs.Order.{same_row}
use Rattle.escrow_num.specs.Reservation.{deltas}
use Rattle.escrow_num.specs.declared.refusal.Refusal.TheVariants as refusal
use Rattle.escrow_num.specs.Refusal.{refuse_if}
use Rattle.escrow_num.proofs.Items.{Has, all_filter, has_all, has_filter}
use Rattle.escrow_num.proofs.Orders.{same_row_itself}
use Rattle.escrow_checks.specs.declared.coefficients.TheConstants.Coefficients.{MAX_LEN}
use Rattle.escrow_checks.specs.declared.check.Check.{Check}
use Rattle.escrow_checks.specs.Grant.{broken}
use Rattle.escrow_checks.specs.declared.spread.TheConstants.Spread.{MAX_OPEN}
use Rattle.escrow_bounds.specs.Counts.{Counts, TakesIn, is_counting}
use Rattle.escrow_bounds.specs.Held.{of_row, AllCount, CountsAll}
use Rattle.escrow_bounds.specs.Place.{Place}
use Rattle.escrow_bounds.specs.Bounds.{Bounds, place_at, Becomes, OthersStay}
use Rattle.escrow_bounds.proofs.Counting.{counting_is, placed_is}
use Rattle.escrow_bounds.proofs.LawLemmas.{add_counts}
use Rattle.escrow_bounds.proofs.Reordering.{parts_count}
use Rattle.escrow_journal.specs.Open.{Open, open_after_rollback_to, grant_refusal, open_after_grant, returned_to}
use Rattle.escrow_journal.specs.Reservations.{own, others}
use Rattle.escrow_journal.specs.Savepoints.{savepoint_of, after, is_after, not_after}
use Rattle.escrow_machine.specs.State.{on_row}
use Rattle.escrow_machine.specs.Walked.{IsShort}
use Rattle.escrow_machine.proofs.Choices.{append_all}
use Rattle.escrow_machine.proofs.Refusals.{all_passed, failed, below}
use Rattle.escrow_reserved.specs.Reserved.{AreAmounts, AreCounted, ArePlaced, Releases, reason_by}
use Rattle.escrow_reserved.proofs.Places.{some_same}

not_zero : (n : ℕ) → not (nat_eq n 0) ≡ true → 0 < n
not_zero zero is = absurd (cc)
not_zero (suc n) is = omega arith

-- if exactly the reserved rows have places, each place counts a reservation; and conversely
pub all_count : (reservations : List Reservation) (places : Bounds) → ArePlaced reservations places → CountsAll places reservations → AllCount places
all_count reservations places placed counts = λ row place at.
    let here : is_some (place_at places row) ≡ true = ap (λ (p : Option Place). is_some p) at in
    let counting : is_counting (Some place) ≡ true = ap (λ (p : Option Place). is_counting p) (sym at) ∙ counting_is places reservations row counts ∙ sym (placed row) ∙ here in
    not_zero place.count counting

pub all_placed : (reservations : List Reservation) (places : Bounds) → AllCount places → CountsAll places reservations → ArePlaced reservations places
all_placed reservations places counting counts = λ row. placed_is places reservations row counting counts

-- a session's reservations, followed by the others
pub own_first : (session : ℕ) (reservations : List Reservation) (places : Bounds) → CountsAll places reservations → CountsAll places (own session reservations ++ others session reservations)
own_first session reservations places counts = parts_count (λ (r : Reservation). r.session == session) places reservations counts

-- the reservations after a savepoint, followed by the rest
pub after_first : (p : Savepoint) (reservations : List Reservation) (places : Bounds) → CountsAll places reservations → CountsAll places (after p reservations ++ not_after p reservations)
after_first p reservations places counts = parts_count (is_after p) places reservations counts

-- each of the two lists is short
pub short_own : (session : ℕ) (reservations : List Reservation) → AllByRecursion IsShort reservations → AllByRecursion IsShort (own session reservations)
short_own session reservations short = all_filter IsShort (λ (r : Reservation). r.session == session) reservations short

pub short_others : (session : ℕ) (reservations : List Reservation) → AllByRecursion IsShort reservations → AllByRecursion IsShort (others session reservations)
short_others session reservations short = all_filter IsShort (λ (r : Reservation). not (r.session == session)) reservations short

-- a place that is released if it counts nothing is released if its row is not reserved
pub released_is : (reservations : List Reservation) (row : RowName) (old new : Bounds) → CountsAll old reservations
    → (is_counting (place_at old row) ≡ false → place_at new row ≡ None) → (is_counting (place_at old row) ≡ true → new ≡ old) → Releases reservations row old new
released_is reservations row old new counts empty counting = record {
  free = λ none. empty (counting_is old reservations row counts ∙ none);
  reserved = λ some. counting (counting_is old reservations row counts ∙ some);
}

-- if there is no reason against a reservation, the table of transactions has none
pub free_of : (session : ℕ) (checks : List Check) (amounts changes : List ℤ) (reservations : List (List ℤ)) (o : Open) → reason_by session checks amounts changes reservations o ≡ None
    → grant_refusal session o ≡ None
free_of session checks amounts changes reservations o none =
    let full = refuse_if (nat_le MAX_OPEN (length reservations)) refusal.TooManyReservations in
    (all_passed (full ∷ grant_refusal session o ∷ option_map refusal.Check (broken checks amounts changes reservations) ∷ []) none).1.0

-- and fewer reservations are of its row than may be
pub room_of : (session : ℕ) (checks : List Check) (amounts changes : List ℤ) (reservations : List (List ℤ)) (o : Open) → reason_by session checks amounts changes reservations o ≡ None
    → length reservations < MAX_OPEN
room_of session checks amounts changes reservations o none =
    let full = nat_le MAX_OPEN (length reservations) in
    let each = all_passed (refuse_if full refusal.TooManyReservations ∷ grant_refusal session o ∷ option_map refusal.Check (broken checks amounts changes reservations) ∷ []) none in
    below MAX_OPEN (length reservations) (failed full refusal.TooManyReservations each.0)

-- a row's open reservations are as many as those whose changes its place counts
pub on_row_counts : (name : RowName) (reservations : List Reservation) → length (of_row name reservations) ≡ length (on_row name reservations)
on_row_counts name [] = refl
on_row_counts name (r ∷ reservations) = one (same_row name r.row) (deltas r.changes) (of_row name reservations) r (on_row name reservations) (on_row_counts name reservations)
  where
    one : (b : Bool) (changes : List ℤ) (all : List (List ℤ)) (r : Reservation) (rs : List Reservation) → length all ≡ length rs
        → length (cond b (changes ∷ all) all) ≡ length (cond b (r ∷ rs) rs)
    one true changes all r rs is = ap suc is
    one false changes all r rs is = is

-- one more reservation is counted, at the end
pub granted_counts : (session : ℕ) (row : RowName) (changes : List (Option ℤ)) (o : Open) (old new : Bounds) → CountsAll old o.reservations → AllByRecursion IsShort o.reservations → length changes ≤ MAX_LEN
    → IsSome (place_at old row) → Becomes (TakesIn (deltas changes)) (place_at old row) (place_at new row) → OthersStay row old new
    → AreCounted (record { txns = open_after_grant session row changes o; places = new })
granted_counts session row changes o old new counts short few there becomes others =
    let r : Reservation = record { id = o.next_id; session = session; row = row; changes = changes } in
    record {
      counts = add_counts old new r o.reservations [] (subst (λ (rs : List Reservation). CountsAll old rs) (sym (append-nil o.reservations)) counts) there becomes others;
      short = append_all IsShort o.reservations (r ∷ []) short (few, tt);
    }

-- the reservations after a savepoint, if it exists, followed by the rest
pub later_first : (session : ℕ) (name : List ℕ) (o : Open) (later : List Reservation) (places : Bounds) → Some later ≡ option_map (λ p. after p o.reservations) (savepoint_of session name o.savepoints)
    → CountsAll places o.reservations → CountsAll places (later ++ (open_after_rollback_to session name o).reservations)
later_first session name o later places is counts = at (savepoint_of session name o.savepoints) is
  where
    at : (p : Option Savepoint) → Some later ≡ option_map (λ p. after p o.reservations) p → CountsAll places (later ++ (unwrap_or (option_map (returned_to o) p) o).reservations)
    at None is = absurd (cc)
    at (Some p) is =
        subst (λ (rs : List Reservation). CountsAll places (rs ++ not_after p o.reservations)) (sym (some_same is)) (after_first p o.reservations places counts)

pub later_short : (session : ℕ) (name : List ℕ) (o : Open) (later : List Reservation) → Some later ≡ option_map (λ p. after p o.reservations) (savepoint_of session name o.savepoints)
    → AllByRecursion IsShort o.reservations → AllByRecursion IsShort later
later_short session name o later is short = at (savepoint_of session name o.savepoints) is
  where
    at : (p : Option Savepoint) → Some later ≡ option_map (λ p. after p o.reservations) p → AllByRecursion IsShort later
    at None is = absurd (cc)
    at (Some p) is = subst (AllByRecursion IsShort) (sym (some_same is)) (all_filter IsShort (is_after p) o.reservations short)

-- the rest is short
pub short_cut : (session : ℕ) (name : List ℕ) (o : Open) → AllByRecursion IsShort o.reservations → AllByRecursion IsShort (open_after_rollback_to session name o).reservations
short_cut session name o short = at (savepoint_of session name o.savepoints)
  where
    at : (p : Option Savepoint) → AllByRecursion IsShort (unwrap_or (option_map (returned_to o) p) o).reservations
    at None = short
    at (Some p) = all_filter IsShort (λ (r : Reservation). not (is_after p r)) o.reservations short

-- the amounts of one more place
pub amounts_more : {A : Type 0} (of : A → List ℤ) (places : Bounds) (reservations : List Reservation) (before : List A) (i : ℕ) (r : Reservation) (amounts : A)
    → i < length reservations → r ≡ get_or reservations i r → option_map (λ (place : Place). place.amounts) (place_at places r.row) ≡ Some (of amounts)
    → AreAmounts places (take i reservations) (map of before) → AreAmounts places (take (i + 1) reservations) (map of (before ++ amounts ∷ []))
amounts_more of places reservations before i r amounts below at has so_far =
    let own : Reservation → Option (List ℤ) = λ r. option_map (λ (place : Place). place.amounts) (place_at places r.row) in
    map_more own reservations i r below
    ∙ ap₂ (λ (zs : List (Option (List ℤ))) (z : Option (List ℤ)). zs ++ z ∷ []) so_far (sym (ap own at) ∙ has)
    ∙ sym (ap (map Some) (map_push of before amounts) ∙ map_push Some (map of before) (of amounts))

-- an open reservation has a place
pub open_placed : (places : Bounds) (reservations : List Reservation) (r : Reservation) → CountsAll places reservations → Has reservations r → IsSome (place_at places r.row)
open_placed places reservations r counts has = counting_some (place_at places r.row) (counting_is places reservations r.row counts ∙ any_has (λ (x : Reservation). same_row x.row r.row) reservations r has (same_row_itself r.row))
  where
    counting_some : (p : Option Place) → is_counting p ≡ true → IsSome p
    counting_some None is = absurd (cc)
    counting_some (Some place) is = refl

    any_has : (p : Reservation → Bool) (rs : List Reservation) (x : Reservation) → Has rs x → p x ≡ true → list_any p rs ≡ true
    any_has p [] x has is = absurd has
    any_has p (y ∷ rs) x (inl same) is = or_left (p y) (list_any p rs) (ap p same ∙ is)
    any_has p (y ∷ rs) x (inr later) is = or_right (p y) (list_any p rs) (any_has p rs x later is)

pub own_placed : (session : ℕ) (places : Bounds) (reservations : List Reservation) → CountsAll places reservations → AllByRecursion (λ r. IsSome (place_at places r.row)) (own session reservations)
own_placed session places reservations counts =
    has_all (λ (r : Reservation). IsSome (place_at places r.row)) (own session reservations)
    (λ r has. open_placed places reservations r counts (has_filter (λ (x : Reservation). x.session == session) reservations r has).0)
