-- Merging two sorted lists of reservations: the next one is the first of either list.
use Rattle.std.specs.Prelude.{◌≡◌, ◌⊎◌, ℕ, ◌+◌, ◌-◌, ◌<◌, ◌≤◌, nat_lt, List, [], ◌∷◌, ◌++◌, length, IsTrue}
use Rattle.std.specs.List.{AllByRecursion}
use Rattle.std.proofs.Common.{inl, inr, zero, suc, ap, sym, ◌∙◌, subst, le_trans, take, drop, get_or, map, Bor, arith}
use Rattle.std.proofs.lemmas.Bool.{cond-true, lt-ltb, le-leb, leb-true}
use Rattle.std.proofs.lemmas.List.{append-nil, append_assoc, drop_more, drop_all, drop-map, take_rest, get_or-map, length-map, map_push, map-append}
use Rattle.std.proofs.lemmas.List.Concat.{flat_map-append}
use Rattle.escrow_num.specs.Ascending.{IsAscending}
use Rattle.escrow_num.specs.declared.reservation.Reservation.{Reservation}
use Rattle.escrow_num.proofs.Items.{all_has, has_all}
use Rattle.escrow_journal.specs.Journal.{Journal, IsJournal}
use Rattle.escrow_txn.specs.Joined.{put, by_id, in_order}
use Rattle.escrow_txn.proofs.ById.{put_front, all_by_id, by_id_order, by_id_in_order, by_id_rising, by_id_append}
use Rattle.escrow_txn.proofs.Places.{all_append}
use Rattle.escrow_txn.proofs.Sessions.{reservations_of}

-- the reservations that references point to
abbrev pub read : List (Bor Reservation) → List Reservation
read rs = map (λ r. r.now) rs

length_read : (rs : List (Bor Reservation)) → length (read rs) ≡ length rs
length_read rs = length-map rs (λ (r : Bor Reservation). r.now)

-- the end of a sorted list is sorted
order_drop : (xs : List Reservation) (i : ℕ) → IsAscending in_order xs → IsAscending in_order (drop i xs)
order_drop xs zero order = order
order_drop [] (suc i) order = tt
order_drop (x ∷ xs) (suc i) order = order_drop xs i order.1

-- the reservations above the first one of a sorted list
all_above : (x y : Reservation) (ys : List Reservation) → IsAscending in_order (y ∷ ys) → x.id ≤ y.id → AllByRecursion (λ z. IsTrue (in_order x z)) (y ∷ ys)
all_above x y ys order less = (
  le-leb x.id y.id less,
  has_all (λ z. IsTrue (in_order x z)) ys (λ z h. le-leb x.id z.id (le_trans less (leb-true y.id z.id (all_has (λ w. IsTrue (in_order y w)) ys order.0 z h)))),
)

all_below : (y x : Reservation) (xs : List Reservation) → IsAscending in_order (x ∷ xs) → y.id < x.id → AllByRecursion (λ z. IsTrue (nat_lt y.id z.id)) (x ∷ xs)
all_below y x xs order less = (
  lt-ltb y.id x.id less,
  has_all (λ z. IsTrue (nat_lt y.id z.id)) xs (λ z h. lt-ltb y.id z.id (omega (arith, leb-true x.id z.id (all_has (λ w. IsTrue (in_order x w)) xs order.0 z h)))),
)

-- the next is the first of the one list, if it is above none
front_first : (x : Reservation) (xs ys : List Reservation) → IsAscending in_order (x ∷ xs) → AllByRecursion (λ z. IsTrue (in_order x z)) ys
    → by_id ((x ∷ xs) ++ ys) ≡ x ∷ by_id (xs ++ ys)
front_first x xs ys order above =
    put_front x (by_id (xs ++ ys)) (all_by_id (λ z. IsTrue (in_order x z)) (xs ++ ys) (all_append (λ z. IsTrue (in_order x z)) xs ys order.0 above))

-- the next is the first of the other list, if it is below all of the one and above none of its own
back_first : (y : Reservation) (xs ys : List Reservation) → AllByRecursion (λ z. IsTrue (nat_lt y.id z.id)) xs → IsAscending in_order (y ∷ ys)
    → by_id (xs ++ (y ∷ ys)) ≡ y ∷ by_id (xs ++ ys)
back_first y [] ys below order = put_front y (by_id ys) (all_by_id (λ z. IsTrue (in_order y z)) ys order.0)
back_first y (x ∷ xs) ys below order =
    ap (put x) (back_first y xs ys below.1 order) ∙ cond-true (nat_lt y.id x.id) (y ∷ put x (by_id (xs ++ ys))) (x ∷ y ∷ by_id (xs ++ ys)) below.0

-- a reservation is the next one of a sorted list, after some were taken
record IsNext (xs : List Reservation) (i : ℕ) (x : Reservation) : Type 0 where
  here : drop i xs ≡ x ∷ drop (i + 1) xs
  order : IsAscending in_order (x ∷ drop (i + 1) xs)

next_at : (xs : List (Bor Reservation)) (i : ℕ) (r : Bor Reservation) → IsAscending in_order (read xs) → i < length xs → r ≡ get_or xs i r
    → IsNext (read xs) i r.now
next_at xs i r order within is =
    let first : get_or (read xs) i r.now ≡ r.now = get_or-map (λ (b : Bor Reservation). b.now) xs i r r.now within ∙ ap (λ (b : Bor Reservation). b.now) (sym is) in
    let here : drop i (read xs) ≡ r.now ∷ drop (i + 1) (read xs) =
    drop_more (read xs) i r.now (omega (arith, length_read xs)) ∙ ap (λ x. x ∷ drop (i + 1) (read xs)) first in
    record { here = here; order = subst (IsAscending in_order) here (order_drop (read xs) i order) }

-- the next of the one list is the next of both
take_front : (xs ys : List Reservation) (i j : ℕ) (x y : Reservation) → IsNext xs i x → IsNext ys j y → x.id ≤ y.id
    → by_id (drop i xs ++ drop j ys) ≡ x ∷ by_id (drop (i + 1) xs ++ drop j ys)
take_front xs ys i j x y front back less =
    ap (λ rs. by_id (rs ++ drop j ys)) front.here
    ∙ front_first x (drop (i + 1) xs) (drop j ys) front.order
    (subst (AllByRecursion (λ z. IsTrue (in_order x z))) (sym back.here) (all_above x y (drop (j + 1) ys) back.order less))

-- the next of the other list is the next of both
take_back : (xs ys : List Reservation) (i j : ℕ) (x y : Reservation) → IsNext xs i x → IsNext ys j y → y.id < x.id
    → by_id (drop i xs ++ drop j ys) ≡ y ∷ by_id (drop i xs ++ drop (j + 1) ys)
take_back xs ys i j x y front back less =
    ap (λ rs. by_id (drop i xs ++ rs)) back.here
    ∙ back_first y (drop i xs) (drop (j + 1) ys)
    (subst (AllByRecursion (λ z. IsTrue (nat_lt y.id z.id))) (sym front.here) (all_below y x (drop (i + 1) xs) front.order less)) back.order

-- the merged part of two lists, after some of each were taken
pub record IsMerged (front back : List (Bor Reservation)) (i j : ℕ) (done : List (Bor Reservation)) : Type 0 where
  pub in_front : i ≤ length front
  pub in_back : j ≤ length back
  pub merged : read done ++ by_id (drop i (read front) ++ drop j (read back)) ≡ by_id (read front ++ read back)

merged_more : (done new : List (Bor Reservation)) (r : Bor Reservation) (rest rest_after all : List Reservation) → new ≡ done ++ r ∷ []
    → by_id rest ≡ r.now ∷ by_id rest_after → read done ++ by_id rest ≡ all → read new ++ by_id rest_after ≡ all
merged_more done new r rest rest_after all pushed taken so_far =
    ap (λ rs. rs ++ by_id rest_after) (ap read pushed ∙ map_push (λ (x : Bor Reservation). x.now) done r)
    ∙ append_assoc (read done) (r.now ∷ []) (by_id rest_after) ∙ ap (λ rs. read done ++ rs) (sym taken) ∙ so_far

-- one step of merging takes from the one list
pub merged_front : (front back done new : List (Bor Reservation)) (i j : ℕ) (x y : Bor Reservation)
    → IsAscending in_order (read front) → IsAscending in_order (read back) → i < length front → j < length back
    → x ≡ get_or front i x → y ≡ get_or back j y → x.now.id ≤ y.now.id → new ≡ done ++ x ∷ []
    → IsMerged front back i j done → IsMerged front back (i + 1) j new
merged_front front back done new i j x y front_order back_order in_front in_back x_is y_is less pushed so_far = record {
  in_front = omega arith;
  in_back = so_far.in_back;
  merged = merged_more done new x (drop i (read front) ++ drop j (read back)) (drop (i + 1) (read front) ++ drop j (read back)) (by_id (read front ++ read back))
      pushed (take_front (read front) (read back) i j x.now y.now (next_at front i x front_order in_front x_is) (next_at back j y back_order in_back y_is) less)
      so_far.merged;
}

-- one step takes from the other list
pub merged_back : (front back done new : List (Bor Reservation)) (i j : ℕ) (x y : Bor Reservation)
    → IsAscending in_order (read front) → IsAscending in_order (read back) → i < length front → j < length back
    → x ≡ get_or front i x → y ≡ get_or back j y → y.now.id < x.now.id → new ≡ done ++ y ∷ []
    → IsMerged front back i j done → IsMerged front back i (j + 1) new
merged_back front back done new i j x y front_order back_order in_front in_back x_is y_is less pushed so_far = record {
  in_front = so_far.in_front;
  in_back = omega arith;
  merged = merged_more done new y (drop i (read front) ++ drop j (read back)) (drop i (read front) ++ drop (j + 1) (read back)) (by_id (read front ++ read back))
      pushed (take_back (read front) (read back) i j x.now y.now (next_at front i x front_order in_front x_is) (next_at back j y back_order in_back y_is) less)
      so_far.merged;
}

-- if one of the lists is at its end, the rest is sorted
rest_in_order : (xs ys : List Reservation) (i j : ℕ) → IsAscending in_order xs → IsAscending in_order ys → (length xs ≤ i) ⊎ (length ys ≤ j)
    → IsAscending in_order (drop i xs ++ drop j ys)
rest_in_order xs ys i j front back (inl past) =
    subst (λ rs. IsAscending in_order (rs ++ drop j ys)) (sym (drop_all i xs past)) (order_drop ys j back)
rest_in_order xs ys i j front back (inr past) =
    subst (λ rs. IsAscending in_order (drop i xs ++ rs)) (sym (drop_all j ys past))
    (subst (IsAscending in_order) (sym (append-nil (drop i xs))) (order_drop xs i front))

-- the rest is appended to the merged part
pub merged_rest : (front back done : List (Bor Reservation)) (i j : ℕ) → IsAscending in_order (read front) → IsAscending in_order (read back)
    → (length front ≤ i) ⊎ (length back ≤ j) → IsMerged front back i j done
    → read ((done ++ take (length front - i) (drop i front)) ++ take (length back - j) (drop j back)) ≡ by_id (read front ++ read back)
merged_rest front back done i j front_order back_order past so_far =
    let past_read : (length (read front) ≤ i) ⊎ (length (read back) ≤ j) =
    elim past [ inl p ↦ inl (omega (arith, p, length_read front)) | inr p ↦ inr (omega (arith, p, length_read back)) ] in
    let rest = drop i (read front) ++ drop j (read back) in
    simp (take_rest, map-append, ← drop-map)
    (append_assoc (read done) (drop i (read front)) (drop j (read back))
    ∙ ap (λ rs. read done ++ rs) (sym (by_id_in_order rest (rest_in_order (read front) (read back) i j front_order back_order past_read)))
    ∙ so_far.merged)

-- the reservations of one journal are sorted
pub one_merged : (journals : List Journal) (journal : Journal) → length journals ≡ 1 → journal ≡ get_or journals 0 journal → AllByRecursion IsJournal journals
    → journal.reservations ≡ by_id (reservations_of journals)
one_merged [] journal one is each = absurd (omega arith)
one_merged (l ∷ []) journal one is each =
    ap (λ (x : Journal). x.reservations) is ∙ sym (ap by_id (append-nil l.reservations) ∙ by_id_rising l.reservations each.0.reservation_order)
one_merged (l ∷ m ∷ journals) journal one is each = absurd (omega arith)

-- the merged reservations are sorted
pub merged_order : (rs : List (Bor Reservation)) (xs : List Reservation) → read rs ≡ by_id xs → IsAscending in_order (read rs)
merged_order rs xs is = subst (IsAscending in_order) (sym is) (by_id_order xs)

-- the reservations of two parts of the journals, each sorted, are sorted together
pub halves_merged : (journals front back : List Journal) → journals ≡ front ++ back
    → by_id (by_id (reservations_of front) ++ by_id (reservations_of back)) ≡ by_id (reservations_of journals)
halves_merged journals front back split =
    by_id_append (reservations_of front) (reservations_of back)
    ∙ ap by_id (sym (flat_map-append (λ (journal : Journal). journal.reservations) front back)) ∙ ap (λ ls. by_id (reservations_of ls)) (sym split)
