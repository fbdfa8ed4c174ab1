-- Reservations in order of id.
use Rattle.std.specs.Prelude.{◌≡◌, ◌⊎◌, ◌≤◌, Bool, true, false, cond, nat_lt, List, [], ◌∷◌, ◌++◌, filter, IsTrue}
use Rattle.std.specs.List.{AllByRecursion}
use Rattle.std.proofs.Common.{inl, inr, refl, ap, sym, ◌∙◌, subst, le_trans, arith}
use Rattle.std.proofs.lemmas.Bool.{cond_both, cond-true, cond-false, ltb-true, ltb-false, leb-true, leb-false, le-leb, lt-leb, le-ltb}
use Rattle.escrow_num.specs.Ascending.{IsAscending}
use Rattle.escrow_num.specs.declared.reservation.Reservation.{Reservation}
use Rattle.escrow_num.proofs.Items.{Has, all_has, has_all, all_filter}
use Rattle.escrow_num.proofs.Put.{put as put_before, has_put as has_put_before, put_ascending}
use Rattle.escrow_journal.specs.Reservations.{reservation_before}
use Rattle.escrow_txn.specs.Joined.{put, by_id, in_order}

put_step : (r x : Reservation) (before after : List Reservation)
    → cond (nat_lt x.id r.id) after before ≡ cond (in_order r x) before after
put_step r x before after =
    cond_both (nat_lt x.id r.id) after before (λ ys. ys ≡ cond (in_order r x) before after)
    (λ t. sym (cond-false (in_order r x) before after (lt-leb r.id x.id (ltb-true x.id r.id t))))
    (λ f. sym (cond-true (in_order r x) before after (le-leb r.id x.id (ltb-false x.id r.id f))))

-- a reservation is inserted before the first one whose id is not below its own
put_is : (r : Reservation) (xs : List Reservation) → put r xs ≡ put_before in_order r xs
put_is r [] = refl
put_is r (x ∷ xs) = ap (λ ys. cond (nat_lt x.id r.id) (x ∷ ys) (r ∷ x ∷ xs)) (put_is r xs) ∙ put_step r x (r ∷ x ∷ xs) (x ∷ put_before in_order r xs)

-- the items are the new one and the others
has_put : (r : Reservation) (xs : List Reservation) (x : Reservation) → Has (put r xs) x → (r ≡ x) ⊎ Has xs x
has_put r xs x h = has_put_before in_order r xs x (subst (λ ys. Has ys x) (put_is r xs) h)

has_by_id : (xs : List Reservation) (x : Reservation) → Has (by_id xs) x → Has xs x
has_by_id [] x h = h
has_by_id (r ∷ rest) x h = elim (has_put r (by_id rest) x h) [ inl e ↦ inl e | inr k ↦ inr (has_by_id rest x k) ]

-- what holds for all reservations holds for them in order
pub all_by_id : (P : Reservation → Type 0) (xs : List Reservation) → AllByRecursion P xs → AllByRecursion P (by_id xs)
all_by_id P xs all = has_all P (by_id xs) (λ x h. all_has P xs all x (has_by_id xs x h))

-- they are in order
pub by_id_order : (xs : List Reservation) → IsAscending in_order (by_id xs)
by_id_order [] = tt
by_id_order (r ∷ rest) =
    subst (IsAscending in_order) (sym (put_is r (by_id rest)))
    (put_ascending in_order
    (λ x y z a b. le-leb x.id z.id (le_trans (leb-true x.id y.id a) (leb-true y.id z.id b)))
    r (by_id rest)
    (λ y _ f. le-leb y.id r.id (omega (arith, leb-false r.id y.id f)))
    (by_id_order rest))

-- a reservation that is above none is inserted at the front
pub put_front : (r : Reservation) (xs : List Reservation) → AllByRecursion (λ x. IsTrue (in_order r x)) xs → put r xs ≡ r ∷ xs
put_front r [] all = refl
put_front r (x ∷ xs) all = cond-false (nat_lt x.id r.id) (x ∷ put r xs) (r ∷ x ∷ xs) (le-ltb x.id r.id (leb-true r.id x.id all.0))

-- a reservation above all others is put at the end
put_last : (r : Reservation) (xs : List Reservation) → AllByRecursion (λ x. IsTrue (nat_lt x.id r.id)) xs → put r xs ≡ xs ++ r ∷ []
put_last r [] all = refl
put_last r (x ∷ xs) all = cond-true (nat_lt x.id r.id) (x ∷ put r xs) (r ∷ x ∷ xs) all.0 ∙ ap (λ ys. x ∷ ys) (put_last r xs all.1)

-- a reservation above all others stays at the end
put_push : (x r : Reservation) (xs : List Reservation) → IsTrue (nat_lt x.id r.id) → put x (xs ++ r ∷ []) ≡ put x xs ++ r ∷ []
put_push x r [] less = cond-false (nat_lt r.id x.id) (r ∷ x ∷ []) (x ∷ r ∷ []) (le-ltb r.id x.id (omega (arith, ltb-true x.id r.id less)))
put_push x r (y ∷ ys) less =
    ap (λ zs. cond (nat_lt y.id x.id) (y ∷ zs) (x ∷ y ∷ ys ++ r ∷ [])) (put_push x r ys less)
    ∙ cond_both (nat_lt y.id x.id) (y ∷ put x ys) (x ∷ y ∷ ys)
    (λ zs. cond (nat_lt y.id x.id) (y ∷ put x ys ++ r ∷ []) (x ∷ y ∷ ys ++ r ∷ []) ≡ zs ++ r ∷ [])
    (λ t. cond-true (nat_lt y.id x.id) (y ∷ put x ys ++ r ∷ []) (x ∷ y ∷ ys ++ r ∷ []) t)
    (λ f. cond-false (nat_lt y.id x.id) (y ∷ put x ys ++ r ∷ []) (x ∷ y ∷ ys ++ r ∷ []) f)

-- reservations that are already in order are unchanged
pub by_id_in_order : (xs : List Reservation) → IsAscending in_order xs → by_id xs ≡ xs
by_id_in_order [] order = refl
by_id_in_order (r ∷ rest) order = ap (put r) (by_id_in_order rest order.1) ∙ put_front r rest order.0

pub rising_in_order : (xs : List Reservation) → IsAscending reservation_before xs → IsAscending in_order xs
rising_in_order [] order = tt
rising_in_order (r ∷ rest) order = (
  has_all (λ x. IsTrue (in_order r x)) rest (λ x h. le-leb r.id x.id (omega (arith, ltb-true r.id x.id (all_has (λ y. IsTrue (nat_lt r.id y.id)) rest order.0 x h)))),
  rising_in_order rest order.1,
)

-- two reservations with different ids may be inserted in either order
put_swap : (x r : Reservation) (zs : List Reservation) → IsTrue (nat_lt x.id r.id) → put r (put x zs) ≡ put x (put r zs)
put_swap x r [] less = grind arith
put_swap x r (z ∷ zs) less = grind (arith, put_swap x r zs less)

-- reservations put one after another into a list
abbrev put_all : List Reservation → List Reservation → List Reservation
put_all [] zs = zs
put_all (x ∷ xs) zs = put x (put_all xs zs)

put_all_swap : (r : Reservation) (xs zs : List Reservation) → put_all (put r xs) zs ≡ put r (put_all xs zs)
put_all_swap r [] zs = refl
put_all_swap r (x ∷ xs) zs =
    cond_both (nat_lt x.id r.id) (x ∷ put r xs) (r ∷ x ∷ xs) (λ ys. put_all ys zs ≡ put r (put x (put_all xs zs)))
    (λ t. ap (put x) (put_all_swap r xs zs) ∙ sym (put_swap x r (put_all xs zs) t)) (λ f. refl)

put_all_by_id : (xs zs : List Reservation) → put_all (by_id xs) zs ≡ put_all xs zs
put_all_by_id [] zs = refl
put_all_by_id (r ∷ rest) zs = put_all_swap r (by_id rest) zs ∙ ap (put r) (put_all_by_id rest zs)

by_id_put_all : (xs ys : List Reservation) → by_id (xs ++ ys) ≡ put_all xs (by_id ys)
by_id_put_all [] ys = refl
by_id_put_all (x ∷ xs) ys = ap (put x) (by_id_put_all xs ys)

-- sorting two parts first gives the same order
pub by_id_append : (xs ys : List Reservation) → by_id (by_id xs ++ by_id ys) ≡ by_id (xs ++ ys)
by_id_append xs ys =
    by_id_put_all (by_id xs) (by_id ys) ∙ put_all_by_id xs (by_id (by_id ys)) ∙ ap (put_all xs) (by_id_in_order (by_id ys) (by_id_order ys))
    ∙ sym (by_id_put_all xs ys)

-- the reservations of a journal are already in order
pub by_id_rising : (xs : List Reservation) → IsAscending reservation_before xs → by_id xs ≡ xs
by_id_rising xs order = by_id_in_order xs (rising_in_order xs order)

-- a reservation with an id above all others is the last
pub by_id_last : (r : Reservation) (xs ys : List Reservation)
    → AllByRecursion (λ x. IsTrue (nat_lt x.id r.id)) xs → AllByRecursion (λ x. IsTrue (nat_lt x.id r.id)) ys
    → by_id (xs ++ r ∷ ys) ≡ by_id (xs ++ ys) ++ r ∷ []
by_id_last r [] ys below_xs below_ys = put_last r (by_id ys) (all_by_id (λ x. IsTrue (nat_lt x.id r.id)) ys below_ys)
by_id_last r (x ∷ xs) ys below_xs below_ys =
    ap (put x) (by_id_last r xs ys below_xs.1 below_ys) ∙ put_push x r (by_id (xs ++ ys)) below_xs.0

-- a smaller reservation stays in front of the new one after a filter
below_it : (here there : Bool) (x r : Reservation) (xs : List Reservation) → nat_lt x.id r.id ≡ true
    → cond here (x ∷ cond there (put r xs) xs) (cond there (put r xs) xs) ≡ cond there (put r (cond here (x ∷ xs) xs)) (cond here (x ∷ xs) xs)
below_it true true x r xs t = sym (cond-true (nat_lt x.id r.id) (x ∷ put r xs) (r ∷ x ∷ xs) t)
below_it true false x r xs t = refl
below_it false true x r xs t = refl
below_it false false x r xs t = refl

-- if the first of a sorted list is not below r, none that passes a test is
not_above : (p : Reservation → Bool) (r x : Reservation) (xs : List Reservation) → IsAscending in_order (x ∷ xs) → nat_lt x.id r.id ≡ false
    → AllByRecursion (λ y. IsTrue (in_order r y)) (filter p (x ∷ xs))
not_above p r x xs order f =
    let first : r.id ≤ x.id = ltb-false x.id r.id f in
    let all : AllByRecursion (λ y. IsTrue (in_order r y)) (x ∷ xs) = (
      le-leb r.id x.id first,
      has_all (λ y. IsTrue (in_order r y)) xs (λ y h.
          le-leb r.id y.id (le_trans first (leb-true x.id y.id (all_has (λ z. IsTrue (in_order x z)) xs order.0 y h)))),
    ) in
    all_filter (λ y. IsTrue (in_order r y)) p (x ∷ xs) all

-- filtering a sorted list after putting a reservation gives that reservation, if it passes, among the rest
filter_put : (p : Reservation → Bool) (r : Reservation) (xs : List Reservation) → IsAscending in_order xs
    → filter p (put r xs) ≡ cond (p r) (put r (filter p xs)) (filter p xs)
filter_put p r [] order = refl
filter_put p r (x ∷ xs) order =
    cond_both (nat_lt x.id r.id) (x ∷ put r xs) (r ∷ x ∷ xs)
    (λ ys. filter p ys ≡ cond (p r) (put r (filter p (x ∷ xs))) (filter p (x ∷ xs)))
    (λ t. ap (λ ys. cond (p x) (x ∷ ys) ys) (filter_put p r xs order.1) ∙ below_it (p x) (p r) x r (filter p xs) t)
    (λ f. ap (λ ys. cond (p r) ys (filter p (x ∷ xs))) (sym (put_front r (filter p (x ∷ xs)) (not_above p r x xs order f))))

-- filtering and sorting may be done in either order
pub filter_by_id : (p : Reservation → Bool) (xs : List Reservation) → filter p (by_id xs) ≡ by_id (filter p xs)
filter_by_id p [] = refl
filter_by_id p (r ∷ rest) =
    filter_put p r (by_id rest) (by_id_order rest)
    ∙ ap (λ ys. cond (p r) (put r ys) ys) (filter_by_id p rest)
    ∙ cond_both (p r) (r ∷ filter p rest) (filter p rest) (λ ys. cond (p r) (put r (by_id (filter p rest))) (by_id (filter p rest)) ≡ by_id ys)
    (λ t. cond-true (p r) (put r (by_id (filter p rest))) (by_id (filter p rest)) t)
    (λ f. cond-false (p r) (put r (by_id (filter p rest))) (by_id (filter p rest)) f)
