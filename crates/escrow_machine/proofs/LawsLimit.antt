-- The limit of a row comes behind that of its sessions, if they are few.
use Rattle.std.specs.Prelude.{◌≡◌, ℕ, zero, suc, ◌+◌, ◌*◌, ◌≤◌, ◌==◌, Bool, true, false, not, nat_le, nat_lt, is_none, option_map, Option, List, [], ◌∷◌, filter, length}
use Rattle.std.proofs.Common.{inl, inr, refl, sym, ap, subst, arith, mul-suc, le_trans}
use Rattle.std.proofs.lemmas.Bool.{cases_lt, cond_both, eqb-false, le-leb, leb-true, not-true}
use Rattle.std.proofs.lemmas.List.Filters.{length-filter_both}
use Rattle.escrow_num.specs.declared.refusal.Refusal.{Refusal}
use Rattle.escrow_num.specs.declared.refusal.Refusal.TheVariants as refusal
use Rattle.escrow_num.specs.declared.reservation.Reservation.{Reservation}
use Rattle.escrow_num.specs.declared.reservation.TheConstants.Reservation.{MAX_ID}
use Rattle.escrow_num.specs.declared.value.RowName.{RowName}
use Rattle.escrow_num.specs.Order.{same_row}
use Rattle.escrow_num.specs.Refusal.{refuse_if, first_refusal}
use Rattle.escrow_num.proofs.Items.{Has, all_has, has_filter}
use Rattle.escrow_checks.specs.declared.spread.TheConstants.Spread.{MAX_OPEN}
use Rattle.escrow_journal.specs.declared.journal.TheConstants.Journal.{MAX_RESERVATIONS}
use Rattle.escrow_journal.specs.Reservations.{own}
use Rattle.escrow_schema.specs.Rows.{row_named}
use Rattle.escrow_machine.specs.Asked.{row_name, reservation_from, violation_of}
use Rattle.escrow_machine.specs.Laws.{SessionsFillFirst}
use Rattle.escrow_machine.specs.State.{State, is_row_full, on_row}
use Rattle.escrow_machine.specs.Valid.{IsReservationIn}
use Rattle.escrow_machine.proofs.Lengths.{length-by_number, length-filter_filter}

-- with at most m items of each number from 1 to n, all but those of one number are at most m * (n - 1)
length-but_one : {A : Type 0} (number : A → ℕ) (m n one : ℕ) (xs : List A) → 1 ≤ one → one ≤ n → ((x : A) → Has xs x → (1 ≤ number x) × (number x ≤ n))
    → ((k : ℕ) → length (filter (λ x. number x == k) xs) ≤ m) → length xs + m ≤ m * n + length (filter (λ x. number x == one) xs)
length-but_one number m zero one xs first within numbered few = absurd (omega arith)
length-but_one {A} number m (suc n) one xs first within numbered few =
    let last : A → Bool = λ x. number x == suc n in
    let other : A → Bool = λ x. not (number x == suc n) in
    let in_range : (x : A) → Has (filter other xs) x → (1 ≤ number x) × (number x ≤ n) = λ x h.
    let kept = has_filter other xs x h in
    let range = numbered x kept.0 in
    let differs = eqb-false (number x) (suc n) (not-true (number x == suc n) kept.1) in
    (range.0, below_last (number x) n range.1 differs) in
    let fewer : (k : ℕ) → length (filter (λ x. number x == k) (filter other xs)) ≤ m = λ k.
    le_trans (length-filter_filter (λ x. number x == k) other xs) (few k) in
    let parts = length-filter_both last other (λ _. refl) xs in
    elim (cases_lt one (suc n)) [
      | inl below ↦ (let rest = length-but_one number m n one (filter other xs) first (omega (arith, below)) in_range fewer in
          let mine = length-filter_filter (λ x. number x == one) other xs in
          let of_last = few (suc n) in
          omega (arith, mul-suc m n, parts, rest, mine, of_last))
      | inr past ↦ (let rest = length-by_number number m n (filter other xs) in_range fewer in
          let is : one ≡ suc n = omega (arith, past, within) in
          subst (λ k. length xs + m ≤ m * suc n + length (filter (λ x. number x == k) xs)) (sym is)
          (omega (arith, mul-suc m n, parts, rest)))
    ]
  where
    below_last : (k n : ℕ) → k ≤ suc n → ¬ (k ≡ suc n) → k ≤ n
    below_last k n h differs = elim (cases_lt k (suc n)) [ inl l ↦ omega arith | inr l ↦ absurd (differs (omega arith)) ]

-- at most all items pass a test
length-filter_all : {A : Type 0} (p : A → Bool) (xs : List A) → length (filter p xs) ≤ length xs
length-filter_all p [] = omega arith
length-filter_all p (x ∷ xs) =
    let rest = length-filter_all p xs in
    cond_both (p x) (x ∷ filter p xs) (filter p xs) (λ zs. length zs ≤ suc (length xs)) (λ _. omega (arith, rest)) (λ _. omega (arith, rest))

-- a refusal that comes only if the next one does leaves the first refusal
same_first : (no_row full own_full : Bool) (q r : Refusal) (ids last : Option Refusal) → (full ≡ true → own_full ≡ true)
    → first_refusal (refuse_if no_row q ∷ refuse_if full r ∷ first_refusal (refuse_if own_full r ∷ ids ∷ []) ∷ last ∷ [])
    ≡ first_refusal (refuse_if no_row q ∷ first_refusal (refuse_if own_full r ∷ ids ∷ []) ∷ last ∷ [])
same_first true full own_full q r ids last implies = refl
same_first false false own_full q r ids last implies = refl
same_first false true true q r ids last implies = refl
same_first false true false q r ids last implies = let is = implies refl in absurd (cc)

pub sessions_fill_first : SessionsFillFirst
sessions_fill_first s sessions session table key changes valid few up_to first within =
    let name = row_name table key in
    let numbered : (r : Reservation) → Has s.reservations r → (1 ≤ r.session) × (r.session ≤ sessions) = λ r h. (
      (all_has (IsReservationIn s.catalog s.next_id) s.reservations valid.orderly.reservations_in r h).session.0,
      all_has (λ (x : Reservation). x.session ≤ sessions) s.reservations up_to r h,
    ) in
    let own_full : is_row_full s name ≡ true → nat_le MAX_RESERVATIONS (length (own session s.reservations)) ≡ true = λ full.
    let many = leb-true MAX_OPEN (length (on_row name s.reservations)) full in
    let of_all = length-filter_all (λ (r : Reservation). same_row name r.row) s.reservations in
    let all = length-but_one (λ (r : Reservation). r.session) MAX_RESERVATIONS sessions session s.reservations first within numbered valid.orderly.few_reservations in
    le-leb MAX_RESERVATIONS (length (own session s.reservations)) (omega (arith, many, of_all, all, few)) in
    same_first (is_none (row_named s.rows name)) (is_row_full s name) (nat_le MAX_RESERVATIONS (length (own session s.reservations)))
    refusal.NoSuchRow refusal.TooManyReservations (refuse_if (nat_lt MAX_ID s.next_id) refusal.NoMoreIds)
    (option_map refusal.Check (violation_of s (reservation_from s session name changes))) own_full
