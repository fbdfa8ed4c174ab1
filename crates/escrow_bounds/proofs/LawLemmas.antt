-- Whatever calls are made, each place counts exactly the open reservations of its row.
use Rattle.std.specs.Prelude.{ℕ, ℤ, pos, ◌+ℤ◌, Bool, true, false, not, nat_eq, Option, Some, None, IsSome, option_map, List, [], ◌∷◌, ◌++◌, length, map}
use Rattle.std.specs.Int.{int_min, int_max}
use Rattle.std.specs.List.{AllByRecursion}
use Rattle.std.proofs.Common.{◌≡◌, ◌∙◌, cond, refl, sym, ap, ap₂, subst, arith}
use Rattle.std.proofs.lemmas.Bool.{cond-true, cond-false, false≢true}
use Rattle.std.proofs.Math.Dec.{eqb-suc-zero}
use Rattle.std.proofs.lemmas.Int.{ints, clamps}
use Rattle.escrow_num.specs.declared.refusal.Violation.{Violation}
use Rattle.escrow_num.specs.declared.reservation.Reservation.{Reservation}
use Rattle.escrow_num.specs.declared.session.End.{End}
use Rattle.escrow_num.specs.declared.span.Side.{Side}
use Rattle.escrow_num.specs.declared.value.RowName.{RowName}
use Rattle.escrow_num.specs.Order.{same_row}
use Rattle.escrow_num.specs.Reservation.{deltas, changes_at}
use Rattle.escrow_num.specs.Span.{first_broken_of, first_of_two}
use Rattle.escrow_num.proofs.Orders.{row_same, same_row_itself}
use Rattle.escrow_checks.specs.declared.check.Check.{Check}
use Rattle.escrow_checks.specs.Extremes.{least, greatest}
use Rattle.escrow_checks.specs.Form.{form, changed, IsCovered}
use Rattle.escrow_checks.specs.Grant.{broken}
use Rattle.escrow_checks.specs.Spread.{falls, rises}
use Rattle.escrow_checks.proofs.ExtremesLemmas.{least_is, greatest_is}
use Rattle.escrow_checks.proofs.FormLemmas.{form-none, length-changed}
use Rattle.escrow_bounds.specs.Counts.{Counts, is_counting, IsNew, TakesIn, GivesBack}
use Rattle.escrow_bounds.specs.Held.{of_row, CountsJust, CountsAll}
use Rattle.escrow_bounds.specs.Place.{Place}
use Rattle.escrow_bounds.specs.Bounds.{Bounds, place_at, OthersStay, Becomes}

-- ---- other rows add nothing

falls_one : (coeffs : List ℤ) (is_own : Bool) (own : List ℤ) (all some : List (List ℤ)) → falls coeffs all ≡ falls coeffs some
    → falls coeffs (cond is_own own [] ∷ all) ≡ falls coeffs (cond is_own (own ∷ some) some)
falls_one coeffs true own all some is = ap (λ (z : ℤ). int_min (pos 0) (form coeffs own) +ℤ z) is
falls_one coeffs false own all some is = omega (arith, ints, clamps, form-none coeffs, is)

rises_one : (coeffs : List ℤ) (is_own : Bool) (own : List ℤ) (all some : List (List ℤ)) → rises coeffs all ≡ rises coeffs some
    → rises coeffs (cond is_own own [] ∷ all) ≡ rises coeffs (cond is_own (own ∷ some) some)
rises_one coeffs true own all some is = ap (λ (z : ℤ). int_max (pos 0) (form coeffs own) +ℤ z) is
rises_one coeffs false own all some is = omega (arith, ints, clamps, form-none coeffs, is)

falls_same : (coeffs : List ℤ) (row : RowName) (held : List Reservation) → falls coeffs (map (changes_at row) held) ≡ falls coeffs (of_row row held)
falls_same coeffs row [] = refl
falls_same coeffs row (r ∷ held) = falls_one coeffs (same_row row r.row) (deltas r.changes) (map (changes_at row) held) (of_row row held) (falls_same coeffs row held)

rises_same : (coeffs : List ℤ) (row : RowName) (held : List Reservation) → rises coeffs (map (changes_at row) held) ≡ rises coeffs (of_row row held)
rises_same coeffs row [] = refl
rises_same coeffs row (r ∷ held) = rises_one coeffs (same_row row r.row) (deltas r.changes) (map (changes_at row) held) (of_row row held) (rises_same coeffs row held)

pub same_extremes : (coeffs amounts : List ℤ) (row : RowName) (held : List Reservation) → IsCovered coeffs amounts
    → (least coeffs amounts (map (changes_at row) held) ≡ least coeffs amounts (of_row row held))
    × (greatest coeffs amounts (map (changes_at row) held) ≡ greatest coeffs amounts (of_row row held))
same_extremes coeffs amounts row held covered =
    let all = map (changes_at row) held in
    let own = of_row row held in
    let f = form coeffs amounts in (
      least_is coeffs amounts all covered ∙ ap (λ (z : ℤ). f +ℤ z) (falls_same coeffs row held) ∙ sym (least_is coeffs amounts own covered),
      greatest_is coeffs amounts all covered ∙ ap (λ (z : ℤ). f +ℤ z) (rises_same coeffs row held) ∙ sym (greatest_is coeffs amounts own covered),
    )

pub same_grant_rule : (checks : List Check) (amounts changes : List ℤ) (row : RowName) (held : List Reservation) → AllByRecursion (λ (check : Check). IsCovered check.coeffs amounts) checks
    → broken checks amounts changes (map (changes_at row) held) ≡ broken checks amounts changes (of_row row held)
same_grant_rule [] amounts changes row held covered = refl
same_grant_rule (check ∷ checks) amounts changes row held covered =
    let with_new = changed amounts changes in
    let fits : IsCovered check.coeffs with_new = omega (arith, length-changed amounts changes, covered.0) in
    let ends = same_extremes check.coeffs with_new row held fits in
    let violation : ℤ → ℤ → Option Violation =
    λ low high. option_map (λ (limit : Side × ℤ × ℤ). record { check = check.name; side = limit.0; worst = limit.1; limit = limit.2; scale = check.scale }) (first_broken_of check.span low high) in
    ap₂ first_of_two (ap₂ violation ends.0 ends.1) (same_grant_rule checks amounts changes row held covered.1)

-- ---- one row and the others

pub split : {X : Type 0} (b : Bool) → (b ≡ true → X) → (b ≡ false → X) → X
split true holds fails = holds refl
split false holds fails = fails refl

-- what holds for a row and for every other row holds for all rows
pub each_row : (P : RowName → Type 0) (row : RowName) → P row → ((other : RowName) → same_row row other ≡ false → P other) → (other : RowName) → P other
each_row P row own rest other = split (same_row row other) (λ is. subst P (row_same row other is) own) (rest other)

pub other_way : (a b : RowName) → same_row a b ≡ false → same_row b a ≡ false
other_way a b apart =
    split (same_row b a) (λ is. absurd (false≢true (sym apart ∙ subst (λ (row : RowName). same_row row b ≡ true) (row_same b a is) (same_row_itself b)))) (λ isnt. isnt)

append_one : (is_own : Bool) (own : List ℤ) (xs ys all : List (List ℤ)) → all ≡ xs ++ ys → cond is_own (own ∷ all) all ≡ cond is_own (own ∷ xs) xs ++ ys
append_one true own xs ys all is = ap (λ (zs : List (List ℤ)). own ∷ zs) is
append_one false own xs ys all is = is

pub of_append : (row : RowName) (before after : List Reservation) → of_row row (before ++ after) ≡ of_row row before ++ of_row row after
of_append row [] after = refl
of_append row (r ∷ before) after = append_one (same_row row r.row) (deltas r.changes) (of_row row before) (of_row row after) (of_row row (before ++ after)) (of_append row before after)

-- one more reservation is one more of its own row, and none of another
pub own_more : (r : Reservation) (before after : List Reservation) → of_row r.row (before ++ r ∷ after) ≡ of_row r.row before ++ deltas r.changes ∷ of_row r.row after
own_more r before after =
    of_append r.row before (r ∷ after)
    ∙ ap (λ (zs : List (List ℤ)). of_row r.row before ++ zs) (cond-true (same_row r.row r.row) (deltas r.changes ∷ of_row r.row after) (of_row r.row after) (same_row_itself r.row))

other_same : (row : RowName) (r : Reservation) (before after : List Reservation) → same_row row r.row ≡ false → of_row row (before ++ r ∷ after) ≡ of_row row (before ++ after)
other_same row r before after apart =
    of_append row before (r ∷ after)
    ∙ ap (λ (zs : List (List ℤ)). of_row row before ++ zs) (cond-false (same_row row r.row) (deltas r.changes ∷ of_row row after) (of_row row after) apart)
    ∙ sym (of_append row before after)

-- the places of other rows count the same as before
others_count : (old new : Bounds) (row other : RowName) (was is : List Reservation) → CountsAll old was → OthersStay row old new → same_row row other ≡ false → of_row other is ≡ of_row other was
    → CountsJust (place_at new other) (of_row other is)
others_count old new row other was is counts others apart same =
    subst (λ (p : Option Place). CountsJust p (of_row other is)) (sym (others other apart))
    (subst (λ (zs : List (List ℤ)). CountsJust (place_at old other) zs) (sym same) (counts other))

-- ---- calls

pub nothing_counts : CountsAll [] []
nothing_counts = λ row. refl

reserved : (old new : Bounds) (row : RowName) (amounts : List ℤ) (checks : List Check) (held : List Reservation) (was : Option Place) → place_at old row ≡ was → CountsJust was (of_row row held)
    → (IsSome was → new ≡ old) → (was ≡ None → (place : Place) × (place_at new row ≡ Some place) × IsNew amounts checks place) → CountsJust (place_at new row) (of_row row held)
reserved old new row amounts checks held None at counts found made =
    let place = made refl in
    subst (λ (p : Option Place). CountsJust p (of_row row held)) (sym place.1) (subst (λ (zs : List (List ℤ)). Counts place.0 zs) (sym counts) place.2.counts)
reserved old new row amounts checks held (Some kept) at counts found made =
    subst (λ (p : Option Place). CountsJust p (of_row row held)) (sym (ap (λ (places : Bounds). place_at places row) (found refl) ∙ at)) counts

pub reserve_counts : (old new : Bounds) (row : RowName) (amounts : List ℤ) (checks : List Check) (held : List Reservation) → CountsAll old held
    → (IsSome (place_at old row) → new ≡ old)
    → (place_at old row ≡ None → (place : Place) × (place_at new row ≡ Some place) × IsNew amounts checks place)
    → OthersStay row old new → CountsAll new held
reserve_counts old new row amounts checks held counts found made others =
    each_row (λ (other : RowName). CountsJust (place_at new other) (of_row other held)) row
    (reserved old new row amounts checks held (place_at old row) refl (counts row) found made)
    (λ other apart. others_count old new row other held held counts others apart refl)

added : (changes : List ℤ) (xs ys : List (List ℤ)) (was after : Option Place) → CountsJust was (xs ++ ys) → IsSome was → Becomes (TakesIn changes) was after → CountsJust after (xs ++ changes ∷ ys)
added changes xs ys None after counts there becomes = absurd (false≢true there)
added changes xs ys (Some old) after counts there becomes =
    let new = becomes old refl in
    subst (λ (p : Option Place). CountsJust p (xs ++ changes ∷ ys)) (sym new.1) (new.2.counts xs ys counts)

pub add_counts : (old new : Bounds) (r : Reservation) (before after : List Reservation) → CountsAll old (before ++ after) → IsSome (place_at old r.row)
    → Becomes (TakesIn (deltas r.changes)) (place_at old r.row) (place_at new r.row)
    → OthersStay r.row old new → CountsAll new (before ++ r ∷ after)
add_counts old new r before after counts there becomes others =
    let was = subst (λ (zs : List (List ℤ)). CountsJust (place_at old r.row) zs) (of_append r.row before after) (counts r.row) in
    let own = added (deltas r.changes) (of_row r.row before) (of_row r.row after) (place_at old r.row) (place_at new r.row) was there becomes in
    each_row (λ (other : RowName). CountsJust (place_at new other) (of_row other (before ++ r ∷ after))) r.row
    (subst (λ (zs : List (List ℤ)). CountsJust (place_at new r.row) zs) (sym (own_more r before after)) own)
    (λ other apart. others_count old new r.row other (before ++ after) (before ++ r ∷ after) counts others apart (other_same other r before after (other_way r.row other apart)))

not_none : (xs ys : List (List ℤ)) (changes : List ℤ) → ¬ (xs ++ changes ∷ ys ≡ [])
not_none [] ys changes is = absurd (cc)
not_none (x ∷ xs) ys changes is = absurd (cc)

removed : (end : End) (changes : List ℤ) (xs ys : List (List ℤ)) (was after : Option Place) → CountsJust was (xs ++ changes ∷ ys) → Becomes (GivesBack end changes) was after → CountsJust after (xs ++ ys)
removed end changes xs ys None after counts becomes = absurd (not_none xs ys changes counts)
removed end changes xs ys (Some old) after counts becomes =
    let new = becomes old refl in
    subst (λ (p : Option Place). CountsJust p (xs ++ ys)) (sym new.1) (new.2.counts xs ys counts)

pub remove_counts : (end : End) (old new : Bounds) (r : Reservation) (before after : List Reservation) → CountsAll old (before ++ r ∷ after)
    → Becomes (GivesBack end (deltas r.changes)) (place_at old r.row) (place_at new r.row)
    → OthersStay r.row old new → CountsAll new (before ++ after)
remove_counts end old new r before after counts becomes others =
    let was = subst (λ (zs : List (List ℤ)). CountsJust (place_at old r.row) zs) (own_more r before after) (counts r.row) in
    let own = removed end (deltas r.changes) (of_row r.row before) (of_row r.row after) (place_at old r.row) (place_at new r.row) was becomes in
    each_row (λ (other : RowName). CountsJust (place_at new other) (of_row other (before ++ after))) r.row
    (subst (λ (zs : List (List ℤ)). CountsJust (place_at new r.row) zs) (sym (of_append r.row before after)) own)
    (λ other apart. others_count old new r.row other (before ++ r ∷ after) (before ++ after) counts others apart (sym (other_same other r before after (other_way r.row other apart))))

-- if the place of a row counts none, the row has no reservations
none_left : (place : Option Place) (reservations : List (List ℤ)) → CountsJust place reservations → is_counting place ≡ false → reservations ≡ []
none_left None reservations counts idle = counts
none_left (Some place) [] counts idle = refl
none_left (Some place) (changes ∷ reservations) counts idle =
    let some : not (nat_eq place.count 0) ≡ true = ap not (ap (λ (n : ℕ). nat_eq n 0) counts.0 ∙ eqb-suc-zero (length reservations)) in
    absurd (false≢true (sym idle ∙ some))

pub release_counts : (old new : Bounds) (row : RowName) (held : List Reservation) → CountsAll old held
    → (is_counting (place_at old row) ≡ false → place_at new row ≡ None)
    → (is_counting (place_at old row) ≡ true → new ≡ old)
    → OthersStay row old new → CountsAll new held
release_counts old new row held counts empty counting others =
    each_row (λ (other : RowName). CountsJust (place_at new other) (of_row other held)) row
    (split (is_counting (place_at old row))
    (λ some. subst (λ (places : Bounds). CountsJust (place_at places row) (of_row row held)) (sym (counting some)) (counts row))
    (λ idle. subst (λ (p : Option Place). CountsJust p (of_row row held)) (sym (empty idle)) (none_left (place_at old row) (of_row row held) (counts row) idle)))
    (λ other apart. others_count old new row other held held counts others apart refl)
