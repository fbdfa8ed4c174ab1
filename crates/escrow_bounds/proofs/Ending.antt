-- Places after reservations have ended.
use Rattle.std.specs.Prelude.{ℕ, ℤ, ◌+◌, ◌<◌, ◌≤◌, true, false, Option, Some, None, List, [], ◌∷◌, ◌++◌, length, take, drop}
use Rattle.std.proofs.Common.{◌≡◌, ◌∙◌, refl, sym, ap, subst, get_or}
use Rattle.std.proofs.lemmas.Bool.{cond-false}
use Rattle.std.proofs.lemmas.List.{take_more, take_all, drop_more, drop_all}
use Rattle.escrow_num.specs.declared.reservation.Reservation.{Reservation}
use Rattle.escrow_num.specs.declared.session.End.{End}
use Rattle.escrow_num.specs.declared.session.End.TheVariants as end
use Rattle.escrow_num.specs.declared.value.RowName.{RowName}
use Rattle.escrow_num.specs.Order.{same_row}
use Rattle.escrow_num.specs.Reservation.{deltas}
use Rattle.escrow_bounds.specs.Counts.{Counts, is_counting, GivesBack}
use Rattle.escrow_bounds.specs.Ended.{HasEnded, AreEnded}
use Rattle.escrow_bounds.specs.Held.{of_row, CountsJust, CountsAll, AllCount}
use Rattle.escrow_bounds.specs.Place.{Place}
use Rattle.escrow_bounds.specs.Moved.{all_moved, amounts_after, amounts_after_all}
use Rattle.escrow_bounds.specs.Bounds.{Bounds, place_at, OthersStay, Becomes}
use Rattle.escrow_bounds.proofs.Counting.{release_counting}
use Rattle.escrow_bounds.proofs.Kept.{length-after}
use Rattle.escrow_bounds.proofs.LawLemmas.{split, each_row, other_way, of_append, own_more, remove_counts, release_counts}

-- ---- amounts

-- the number of amounts stays the same
pub length-after_all : (end : End) (amounts : List ℤ) (ended : List (List ℤ)) → length (amounts_after_all end amounts ended) ≡ length amounts
length-after_all end amounts [] = refl
length-after_all end amounts (changes ∷ ended) = length-after_all end (amounts_after end amounts changes) ended ∙ length-after end amounts changes

-- ending two lists one after the other is ending both together
pub after_all-append : (end : End) (amounts : List ℤ) (first second : List (List ℤ)) → amounts_after_all end amounts (first ++ second) ≡ amounts_after_all end (amounts_after_all end amounts first) second
after_all-append end amounts [] second = refl
after_all-append end amounts (changes ∷ first) second = after_all-append end (amounts_after end amounts changes) first second

-- the first reservations have ended, and then one more ends
pub after_one : (row : RowName) (amounts : List ℤ) (ended : List Reservation) (i : ℕ) (r : Reservation) → i < length ended → r ≡ get_or ended i r
    → amounts_after_all end.Commit (amounts_after_all end.Commit amounts (of_row row (take i ended))) (of_row row (r ∷ [])) ≡ amounts_after_all end.Commit amounts (of_row row (take (i + 1) ended))
after_one row amounts ended i r within is =
    let more : take (i + 1) ended ≡ take i ended ++ r ∷ [] = take_more ended i r within ∙ ap (λ (q : Reservation). take i ended ++ q ∷ []) (sym is) in
    sym (
    ap (λ (done : List Reservation). amounts_after_all end.Commit amounts (of_row row done)) more
    ∙ ap (λ (ended : List (List ℤ)). amounts_after_all end.Commit amounts ended) (of_append row (take i ended) (r ∷ []))
    ∙ after_all-append end.Commit amounts (of_row row (take i ended)) (of_row row (r ∷ []))
    )

-- if it is of the row, its changes are added
pub own_moved : (row : RowName) (amounts : List ℤ) (r : Reservation) → true ≡ same_row row r.row → all_moved amounts (deltas r.changes) ≡ amounts_after_all end.Commit amounts (of_row row (r ∷ []))
own_moved row amounts r same = rw (← same) refl

-- if it is of another row, nothing is added
pub other_stays : (row : RowName) (amounts : List ℤ) (r : Reservation) → false ≡ same_row row r.row → amounts ≡ amounts_after_all end.Commit amounts (of_row row (r ∷ []))
other_stays row amounts r apart = rw (← apart) refl

-- after the last one, all have ended
pub after_last : (row : RowName) (amounts : List ℤ) (ended : List Reservation) (i : ℕ) → length ended ≤ i
    → amounts_after_all end.Commit amounts (of_row row (take i ended)) ≡ amounts_after_all end.Commit amounts (of_row row ended)
after_last row amounts ended i past = ap (λ (done : List Reservation). amounts_after_all end.Commit amounts (of_row row done)) (take_all i ended past)

-- ---- places

pub ended_none : (end : End) (places : Bounds) → AreEnded end [] places places
ended_none end places = λ row place at. (place, at, record { checks = refl; amounts = refl })

pub ended_more : (end : End) (first second : List Reservation) (old mid new : Bounds) → AreEnded end first old mid → AreEnded end second mid new → AreEnded end (first ++ second) old new
ended_more end first second old mid new those these = λ row place at.
    let later = these row place at in
    let earlier = those row later.0 later.1 in (
      earlier.0,
      earlier.1,
      record {
        checks = later.2.checks ∙ earlier.2.checks;
        amounts = later.2.amounts
            ∙ ap (λ (amounts : List ℤ). amounts_after_all end amounts (of_row row second)) earlier.2.amounts
            ∙ sym (after_all-append end earlier.0.amounts (of_row row first) (of_row row second))
            ∙ ap (λ (ended : List (List ℤ)). amounts_after_all end earlier.0.amounts ended) (sym (of_append row first second));
      },
    )

-- ---- one reservation ends

there_is : (place : Option Place) (changes : List ℤ) (reservations : List (List ℤ)) → CountsJust place (changes ∷ reservations)
    → (kept : Place) × (place ≡ Some kept) × Counts kept (changes ∷ reservations)
there_is None changes reservations counts = absurd (cc)
there_is (Some kept) changes reservations counts = (kept, refl, counts)

-- the place of its row counts the first reservation
pub counted_first : (places : Bounds) (r : Reservation) (rest : List Reservation) (changes : List ℤ) → changes ≡ deltas r.changes → CountsAll places (r ∷ rest)
    → (place : Place) × (before after : List (List ℤ)) × (place_at places r.row ≡ Some place) × Counts place (before ++ changes ∷ after)
counted_first places r rest changes is counts =
    let others = of_row r.row rest in
    let own = subst (λ (zs : List (List ℤ)). CountsJust (place_at places r.row) zs) (own_more r [] rest ∙ ap (λ (c : List ℤ). c ∷ others) (sym is)) (counts r.row) in
    let place = there_is (place_at places r.row) changes others own in
    (place.0, [], others, place.1, place.2)

-- the places before and after a reservation is removed and its place is released
pub record IsRemoved (end : End) (r : Reservation) (old mid new : Bounds) : Type 0 where
  pub gives : Becomes (GivesBack end (deltas r.changes)) (place_at old r.row) (place_at mid r.row)
  pub removed : OthersStay r.row old mid
  pub empty : is_counting (place_at mid r.row) ≡ false → place_at new r.row ≡ None
  pub counting : is_counting (place_at mid r.row) ≡ true → new ≡ mid
  pub released : OthersStay r.row mid new

pub removed_counts : (end : End) (r : Reservation) (old mid new : Bounds) (rest : List Reservation) → IsRemoved end r old mid new → CountsAll old (r ∷ rest) → CountsAll new rest
removed_counts end r old mid new rest is counts =
    release_counts mid new r.row rest (remove_counts end old mid r [] rest counts is.gives is.removed) is.empty is.counting is.released

pub removed_counting : (end : End) (r : Reservation) (old mid new : Bounds) → IsRemoved end r old mid new → AllCount old → AllCount new
removed_counting end r old mid new is all =
    release_counting mid new r.row (λ other place apart at. all other place (sym (is.removed other apart) ∙ at)) is.empty is.counting is.released

removed_own : (end : End) (r : Reservation) (old mid new : Bounds) (rest : List Reservation) → IsRemoved end r old mid new → CountsAll old (r ∷ rest) → (place : Place) → place_at new r.row ≡ Some place
    → (before : Place) × (place_at old r.row ≡ Some before) × HasEnded end (of_row r.row (r ∷ [])) before place
removed_own end r old mid new rest is counts place at =
    let known = counted_first old r rest (deltas r.changes) refl counts in
    let before = known.0 in
    let given = is.gives before known.3 in
    split (is_counting (place_at mid r.row))
    (λ some.
    let there : place_at mid r.row ≡ Some place = sym (ap (λ (places : Bounds). place_at places r.row) (is.counting some)) ∙ at in
    let same : given.0 ≡ place = cc (given.1, there) in
    let own : of_row r.row (r ∷ []) ≡ deltas r.changes ∷ [] = own_more r [] [] in
    let ended : HasEnded end (deltas r.changes ∷ []) before given.0 = record { checks = given.2.checks; amounts = given.2.amounts } in (
      before,
      known.3,
      subst (λ (kept : Place). HasEnded end (of_row r.row (r ∷ [])) before kept) same
          (subst (λ (zs : List (List ℤ)). HasEnded end zs before given.0) (sym own) ended),
    ))
    (λ idle. absurd (cc (is.empty idle, at)))

removed_other : (end : End) (r : Reservation) (old mid new : Bounds) → IsRemoved end r old mid new → (other : RowName) → same_row r.row other ≡ false → (place : Place) → place_at new other ≡ Some place
    → (before : Place) × (place_at old other ≡ Some before) × HasEnded end (of_row other (r ∷ [])) before place
removed_other end r old mid new is other apart place at =
    let there : place_at old other ≡ Some place = sym (is.removed other apart) ∙ sym (is.released other apart) ∙ at in
    let none : of_row other (r ∷ []) ≡ [] = cond-false (same_row other r.row) (deltas r.changes ∷ []) [] (other_way r.row other apart) in
    let ended : HasEnded end [] place place = record { checks = refl; amounts = refl } in
    (place, there, subst (λ (zs : List (List ℤ)). HasEnded end zs place place) (sym none) ended)

pub removed_ended : (end : End) (r : Reservation) (old mid new : Bounds) (rest : List Reservation) → IsRemoved end r old mid new → CountsAll old (r ∷ rest) → AreEnded end (r ∷ []) old new
removed_ended end r old mid new rest is counts =
    each_row (λ (row : RowName). (place : Place) → place_at new row ≡ Some place → (before : Place) × (place_at old row ≡ Some before) × HasEnded end (of_row row (r ∷ [])) before place) r.row
    (removed_own end r old mid new rest is counts) (removed_other end r old mid new is)

-- ---- reservations end one after another

-- the changes of a reservation, read from the list that shows them
pub shown_is : (amounts : List ℤ) (n : ℕ) (shown changes : List (Option ℤ)) → n ≡ length changes → shown ≡ changes → take (length shown) amounts ≡ deltas shown → take n amounts ≡ deltas changes
shown_is amounts n shown changes many same is = ap (λ (k : ℕ). take k amounts) (many ∙ ap length (sym same)) ∙ is ∙ ap deltas same

-- the next reservation is the first of the remaining ones
pub next_counted : (places : Bounds) (ended rest : List Reservation) (i : ℕ) (r : Reservation) → i < length ended → r ≡ get_or ended i r → CountsAll places (drop i ended ++ rest)
    → CountsAll places (r ∷ drop (i + 1) ended ++ rest)
next_counted places ended rest i r within is counts =
    let here : drop i ended ≡ r ∷ drop (i + 1) ended = drop_more ended i r within ∙ ap (λ (q : Reservation). q ∷ drop (i + 1) ended) (sym is) in
    subst (λ (left : List Reservation). CountsAll places (left ++ rest)) here counts

pub ended_next : (end : End) (old mid new : Bounds) (ended : List Reservation) (i : ℕ) (r : Reservation) → i < length ended → r ≡ get_or ended i r → AreEnded end (take i ended) old mid → AreEnded end (r ∷ []) mid new
    → AreEnded end (take (i + 1) ended) old new
ended_next end old mid new ended i r within is those this =
    let more : take (i + 1) ended ≡ take i ended ++ r ∷ [] = take_more ended i r within ∙ ap (λ (q : Reservation). take i ended ++ q ∷ []) (sym is) in
    subst (λ (done : List Reservation). AreEnded end done old new) (sym more) (ended_more end (take i ended) (r ∷ []) old mid new those this)

-- after the last one, none remains
pub counted_last : (places : Bounds) (ended rest : List Reservation) (i : ℕ) → length ended ≤ i → CountsAll places (drop i ended ++ rest) → CountsAll places rest
counted_last places ended rest i past counts = subst (λ (left : List Reservation). CountsAll places (left ++ rest)) (drop_all i ended past) counts

pub ended_last : (end : End) (old new : Bounds) (ended : List Reservation) (i : ℕ) → length ended ≤ i → AreEnded end (take i ended) old new → AreEnded end ended old new
ended_last end old new ended i past those = subst (λ (done : List Reservation). AreEnded end done old new) (take_all i ended past) those
