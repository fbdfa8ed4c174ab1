-- If places count the open reservations, they show which rows and tables are reserved.
use Rattle.std.specs.Prelude.{ℕ, ℤ, ◌<◌, Bool, true, false, not, ◌||◌, nat_eq, Option, Some, None, IsSome, is_some, List, [], ◌∷◌, length, bytes_eq}
use Rattle.std.specs.List.{list_any}
use Rattle.std.specs.Map.{lookup, keys_of}
use Rattle.std.proofs.Common.{◌≡◌, inl, inr, zero, suc, ◌∙◌, cond, refl, sym, ap, subst, arith}
use Rattle.std.proofs.lemmas.Bool.{cond_both, false≢true, or_left, or_right}
use Rattle.std.proofs.Math.Dec.{eqb-suc-zero}
use Rattle.escrow_num.specs.declared.reservation.Reservation.{Reservation}
use Rattle.escrow_num.specs.declared.value.RowName.{RowName}
use Rattle.escrow_num.specs.Order.{same_row}
use Rattle.escrow_num.specs.Reservation.{deltas}
use Rattle.escrow_num.proofs.Items.{Has}
use Rattle.escrow_num.proofs.Orders.{row_same, same_row_itself}
use Rattle.escrow_bounds.specs.Counts.{is_counting, TakesIn}
use Rattle.escrow_bounds.specs.Held.{of_row, CountsJust, CountsAll, AllCount}
use Rattle.escrow_bounds.specs.Place.{Place}
use Rattle.escrow_bounds.specs.Bounds.{Bounds, place_at, OthersStay, Becomes}
use Rattle.escrow_bounds.proofs.LawLemmas.{split, each_row, other_way}

-- ---- tests of a list

-- if any item passes the test, one of the list does
any_has : {X : Type 0} (test : X → Bool) (xs : List X) → list_any test xs ≡ true → (x : X) × Has xs x × (test x ≡ true)
any_has test [] is = absurd (false≢true is)
any_has {X} test (y ∷ ys) is =
    split (test y) (λ passes. (y, inl refl, passes))
    (λ fails.
    let later = any_has test ys (subst (λ (b : Bool). (b || list_any test ys) ≡ true) fails is) in
    (later.0, inr later.1, later.2))

pub has_any : {X : Type 0} (test : X → Bool) (xs : List X) (x : X) → Has xs x → test x ≡ true → list_any test xs ≡ true
has_any test [] x has passes = absurd has
has_any test (y ∷ ys) x (inl is) passes = or_left (test y) (list_any test ys) (ap test is ∙ passes)
has_any test (y ∷ ys) x (inr has) passes = or_right (test y) (list_any test ys) (has_any test ys x has passes)

both_ways : (a b : Bool) → (a ≡ true → b ≡ true) → (b ≡ true → a ≡ true) → a ≡ b
both_ways true b forth back = sym (forth refl)
both_ways false true forth back = back refl
both_ways false false forth back = refl

row_either_way : (a b : RowName) → same_row a b ≡ same_row b a
row_either_way a b = split (same_row a b)
    (λ is. is ∙ sym (subst (λ (row : RowName). same_row row a ≡ true) (row_same a b is) (same_row_itself a)))
    (λ apart. apart ∙ sym (other_way a b apart))

-- ---- a row

-- the list is not empty
abbrev is_any : List (List ℤ) → Bool
is_any [] = false
is_any (changes ∷ reservations) = true

any_one : (is_own rest_any : Bool) (own : List ℤ) (rest : List (List ℤ)) → rest_any ≡ is_any rest → (is_own || rest_any) ≡ is_any (cond is_own (own ∷ rest) rest)
any_one true rest_any own rest is = refl
any_one false rest_any own rest is = is

any_of_row : (row : RowName) (held : List Reservation) → list_any (λ r. same_row r.row row) held ≡ is_any (of_row row held)
any_of_row row [] = refl
any_of_row row (r ∷ held) =
    let rest = list_any (λ (q : Reservation). same_row q.row row) held in
    ap (λ (b : Bool). b || rest) (row_either_way r.row row)
    ∙ any_one (same_row row r.row) rest (deltas r.changes) (of_row row held) (any_of_row row held)

counting_any : (place : Option Place) (reservations : List (List ℤ)) → CountsJust place reservations → is_counting place ≡ is_any reservations
counting_any None reservations counts = sym (ap is_any counts)
counting_any (Some place) [] counts = ap (λ (n : ℕ). not (nat_eq n 0)) counts.0
counting_any (Some place) (changes ∷ reservations) counts = ap not (ap (λ (n : ℕ). nat_eq n 0) counts.0 ∙ eqb-suc-zero (length reservations))

-- a row's place counts a reservation exactly if the row has an open one
pub counting_is : (places : Bounds) (held : List Reservation) (row : RowName) → CountsAll places held
    → is_counting (place_at places row) ≡ list_any (λ r. same_row r.row row) held
counting_is places held row counts = counting_any (place_at places row) (of_row row held) (counts row) ∙ sym (any_of_row row held)

some_counting : (place : Option Place) → ((kept : Place) → place ≡ Some kept → 0 < kept.count) → is_some place ≡ is_counting place
some_counting None each = refl
some_counting (Some kept) each = sym (positive kept.count (each kept refl))
  where
    positive : (n : ℕ) → 0 < n → not (nat_eq n 0) ≡ true
    positive zero above = absurd (omega (arith, above))
    positive (suc n) above = ap not (eqb-suc-zero n)

-- if every place counts a reservation, a row has a place exactly if it has an open reservation
pub placed_is : (places : Bounds) (held : List Reservation) (row : RowName) → AllCount places → CountsAll places held
    → is_some (place_at places row) ≡ list_any (λ r. same_row r.row row) held
placed_is places held row all counts = some_counting (place_at places row) (all row) ∙ counting_is places held row counts

-- ---- a table

-- a table has a row among the keys exactly if it has one among the entries
pub any_key : (table : List ℕ) (places : Bounds) → list_any (λ row. bytes_eq row.table table) (keys_of places) ≡ list_any (λ p. bytes_eq p.0.table table) places
any_key table [] = refl
any_key table (p ∷ places) = ap (λ (b : Bool). bytes_eq p.0.table table || b) (any_key table places)

-- if an entry passes a test, a lookup finds one that passes
entry_found : (test : RowName → Bool) (places : Bounds) (entry : RowName × Place) → Has places entry → test entry.0 ≡ true → is_some (lookup test places) ≡ true
entry_found test [] entry has passes = absurd has
entry_found test (first ∷ places) entry (inl is) passes =
    cond_both (test first.0) (Some first.1) (lookup test places) (λ (o : Option Place). is_some o ≡ true) (λ _. refl)
    (λ fails. absurd (false≢true (sym fails ∙ ap (λ (e : RowName × Place). test e.0) is ∙ passes)))
entry_found test (first ∷ places) entry (inr has) passes =
    cond_both (test first.0) (Some first.1) (lookup test places) (λ (o : Option Place). is_some o ≡ true) (λ _. refl) (λ _. entry_found test places entry has passes)

found_entry : (test : RowName → Bool) (places : Bounds) → is_some (lookup test places) ≡ true → (entry : RowName × Place) × Has places entry × (test entry.0 ≡ true)
found_entry test [] is = absurd (false≢true is)
found_entry test (first ∷ places) is =
    cond_both (test first.0) (Some first.1) (lookup test places) (λ (o : Option Place). is_some o ≡ true → (entry : RowName × Place) × Has (first ∷ places) entry × (test entry.0 ≡ true))
    (λ passes _. (first, inl refl, passes))
    (λ _ found. let later = found_entry test places found in (later.0, inr later.1, later.2)) is

-- if every place counts a reservation, a table has a place exactly if one of its rows has an open reservation
pub table_placed_is : (places : Bounds) (held : List Reservation) (table : List ℕ) → AllCount places → CountsAll places held
    → list_any (λ p. bytes_eq p.0.table table) places ≡ list_any (λ r. bytes_eq r.row.table table) held
table_placed_is places held table all counts = both_ways
    (list_any (λ (p : RowName × Place). bytes_eq p.0.table table) places) (list_any (λ (r : Reservation). bytes_eq r.row.table table) held)
    (λ is.
    let p = any_has (λ (p : RowName × Place). bytes_eq p.0.table table) places is in
    let placed = entry_found (same_row p.0.0) places p.0 p.1 (same_row_itself p.0.0) in
    let r = any_has (λ (r : Reservation). same_row r.row p.0.0) held (sym (placed_is places held p.0.0 all counts) ∙ placed) in
    has_any (λ (r : Reservation). bytes_eq r.row.table table) held r.0 r.1
    (ap (λ (row : RowName). bytes_eq row.table table) (row_same r.0.row p.0.0 r.2) ∙ p.2))
    (λ is.
    let r = any_has (λ (r : Reservation). bytes_eq r.row.table table) held is in
    let held_there = has_any (λ (q : Reservation). same_row q.row r.0.row) held r.0 r.1 (same_row_itself r.0.row) in
    let p = found_entry (same_row r.0.row) places (placed_is places held r.0.row all counts ∙ held_there) in
    has_any (λ (p : RowName × Place). bytes_eq p.0.table table) places p.0 p.1
    (sym (ap (λ (row : RowName). bytes_eq row.table table) (row_same r.0.row p.0.0 p.2)) ∙ r.2))

-- ---- every place counts a reservation

-- the place of every other row counts a reservation
abbrev pub OthersCount : RowName → Bounds → Type 0
OthersCount row places = (other : RowName) (place : Place) → same_row row other ≡ false → place_at places other ≡ Some place → 0 < place.count

-- after `reserve`, the places of other rows still count a reservation
pub reserve_counting : (old new : Bounds) (row : RowName) → AllCount old → OthersStay row old new → OthersCount row new
reserve_counting old new row all others = λ other place apart at. all other place (sym (others other apart) ∙ at)

-- a place that counts a reservation has a count above 0
counting_above : (place : Option Place) (kept : Place) → is_counting place ≡ true → place ≡ Some kept → 0 < kept.count
counting_above place kept counting at = above kept.count (sym (ap is_counting at) ∙ counting)
  where
    above : (n : ℕ) → not (nat_eq n 0) ≡ true → 0 < n
    above zero is = absurd (false≢true is)
    above (suc n) is = omega arith

-- after `add` to a row, every place counts a reservation, even if that row's place counted none before
pub add_counting : (old new : Bounds) (row : RowName) (changes : List ℤ) (held : List Reservation) → OthersCount row old → CountsAll old held → IsSome (place_at old row)
    → Becomes (TakesIn changes) (place_at old row) (place_at new row) → OthersStay row old new → AllCount new
add_counting old new row changes held others_count counts there becomes others =
    each_row (λ (other : RowName). (place : Place) → place_at new other ≡ Some place → 0 < place.count) row
    (λ place at. own (place_at old row) (of_row row held) (counts row) there becomes place at)
    (λ other apart place at. others_count other place apart (sym (others other apart) ∙ at))
  where
    own : (was : Option Place) (reservations : List (List ℤ)) → CountsJust was reservations → IsSome was → Becomes (TakesIn changes) was (place_at new row)
        → (place : Place) → place_at new row ≡ Some place → 0 < place.count
    own None reservations known some becomes place at = absurd (false≢true some)
    own (Some kept) reservations known some becomes place at =
        let taken = becomes kept refl in
        let is : taken.0 ≡ place = cc (taken.1, at) in
        let number = (taken.2.counts [] reservations known).0 in
        subst (λ (p : Place). 0 < p.count) is (omega (arith, number))

-- after `release` of a row, every place counts a reservation, even if that row's place counted none before
pub release_counting : (old new : Bounds) (row : RowName) → OthersCount row old
    → (is_counting (place_at old row) ≡ false → place_at new row ≡ None)
    → (is_counting (place_at old row) ≡ true → new ≡ old)
    → OthersStay row old new → AllCount new
release_counting old new row others_count empty counting others =
    each_row (λ (other : RowName). (place : Place) → place_at new other ≡ Some place → 0 < place.count) row
    (λ place at. split (is_counting (place_at old row))
    (λ some. counting_above (place_at old row) place some (sym (ap (λ (places : Bounds). place_at places row) (counting some)) ∙ at))
    (λ idle. absurd (cc (empty idle, at))))
    (λ other apart place at. others_count other place apart (sym (others other apart) ∙ at))
