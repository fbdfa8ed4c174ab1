-- Counting reservations in another order gives the same sums and the same number.
use Rattle.std.specs.Prelude.{ℤ, pos, ◌+ℤ◌, Bool, true, false, not, Option, Some, None, List, [], ◌∷◌, ◌++◌, length, filter}
use Rattle.std.specs.Int.{int_min, int_max}
use Rattle.std.proofs.Common.{◌≡◌, ◌∙◌, cond, suc, refl, sym, ap, subst, arith}
use Rattle.std.proofs.lemmas.Int.{ints}
use Rattle.std.proofs.lemmas.List.{nil_from_length}
use Rattle.escrow_num.specs.declared.reservation.Reservation.{Reservation}
use Rattle.escrow_num.specs.declared.value.RowName.{RowName}
use Rattle.escrow_num.specs.Order.{same_row}
use Rattle.escrow_num.specs.Reservation.{deltas}
use Rattle.escrow_checks.specs.Form.{form}
use Rattle.escrow_checks.specs.Spread.{falls, rises, AreContributions}
use Rattle.escrow_bounds.specs.Counts.{HaveSums}
use Rattle.escrow_bounds.specs.Held.{of_row, CountsJust, CountsAll}
use Rattle.escrow_bounds.specs.Place.{Place, Tracked}
use Rattle.escrow_bounds.specs.Bounds.{Bounds, place_at}
use Rattle.escrow_bounds.proofs.LawLemmas.{of_append}

-- two lists of changes have the same sums and the same number
record Alike (xs ys : List (List ℤ)) : Type 0 where
  number : length ys ≡ length xs
  fall : (coeffs : List ℤ) → falls coeffs ys ≡ falls coeffs xs
  rise : (coeffs : List ℤ) → rises coeffs ys ≡ rises coeffs xs
  bounds : (coeffs : List ℤ) → AreContributions coeffs xs → AreContributions coeffs ys

alike_itself : (xs : List (List ℤ)) → Alike xs xs
alike_itself xs = record { number = refl; fall = λ coeffs. refl; rise = λ coeffs. refl; bounds = λ coeffs known. known }

alike_through : (xs ys zs : List (List ℤ)) → Alike xs ys → Alike ys zs → Alike xs zs
alike_through xs ys zs first second = record {
  number = second.number ∙ first.number;
  fall = λ coeffs. second.fall coeffs ∙ first.fall coeffs;
  rise = λ coeffs. second.rise coeffs ∙ first.rise coeffs;
  bounds = λ coeffs known. second.bounds coeffs (first.bounds coeffs known);
}

alike_first : (x : List ℤ) (xs ys : List (List ℤ)) → Alike xs ys → Alike (x ∷ xs) (x ∷ ys)
alike_first x xs ys is = record {
  number = ap suc is.number;
  fall = λ coeffs. ap (λ (z : ℤ). int_min (pos 0) (form coeffs x) +ℤ z) (is.fall coeffs);
  rise = λ coeffs. ap (λ (z : ℤ). int_max (pos 0) (form coeffs x) +ℤ z) (is.rise coeffs);
  bounds = λ coeffs known. (known.0, is.bounds coeffs known.1);
}

swapped : (a b z : ℤ) → b +ℤ (a +ℤ z) ≡ a +ℤ (b +ℤ z)
swapped a b z = omega (arith, ints)

alike_swapped : (x y : List ℤ) (zs : List (List ℤ)) → Alike (x ∷ y ∷ zs) (y ∷ x ∷ zs)
alike_swapped x y zs = record {
  number = refl;
  fall = λ coeffs. swapped (int_min (pos 0) (form coeffs x)) (int_min (pos 0) (form coeffs y)) (falls coeffs zs);
  rise = λ coeffs. swapped (int_max (pos 0) (form coeffs x)) (int_max (pos 0) (form coeffs y)) (rises coeffs zs);
  bounds = λ coeffs known. (known.1.0, (known.0, known.1.1));
}

-- the first item may move further back
alike_put : (x : List ℤ) (before after : List (List ℤ)) → Alike (x ∷ before ++ after) (before ++ x ∷ after)
alike_put x [] after = alike_itself (x ∷ after)
alike_put x (y ∷ before) after =
    alike_through (x ∷ y ∷ before ++ after) (y ∷ x ∷ before ++ after) (y ∷ (before ++ x ∷ after)) (alike_swapped x y (before ++ after))
    (alike_first y (x ∷ before ++ after) (before ++ x ∷ after) (alike_put x before after))

-- one more item, in front of the first part or of the second
front : (is_own : Bool) (x : List ℤ) (all some rest : List (List ℤ)) → Alike all (some ++ rest) → Alike (cond is_own (x ∷ all) all) (cond is_own (x ∷ some) some ++ rest)
front true x all some rest is = alike_first x all (some ++ rest) is
front false x all some rest is = is

behind : (is_own : Bool) (x : List ℤ) (all some rest : List (List ℤ)) → Alike all (some ++ rest) → Alike (cond is_own (x ∷ all) all) (some ++ cond is_own (x ∷ rest) rest)
behind true x all some rest is = alike_through (x ∷ all) (x ∷ some ++ rest) (some ++ x ∷ rest) (alike_first x all (some ++ rest) is) (alike_put x some rest)
behind false x all some rest is = is

parted_one : (row : RowName) (r : Reservation) (all some rest : List Reservation) (passes : Bool) → Alike (of_row row all) (of_row row some ++ of_row row rest)
    → Alike (of_row row (r ∷ all)) (of_row row (cond passes (r ∷ some) some) ++ of_row row (cond (not passes) (r ∷ rest) rest))
parted_one row r all some rest true is = front (same_row row r.row) (deltas r.changes) (of_row row all) (of_row row some) (of_row row rest) is
parted_one row r all some rest false is = behind (same_row row r.row) (deltas r.changes) (of_row row all) (of_row row some) (of_row row rest) is

-- the items that pass a test, followed by the others, count the same as the list
parted : (test : Reservation → Bool) (row : RowName) (held : List Reservation)
    → Alike (of_row row held) (of_row row (filter test held) ++ of_row row (filter (λ r. not (test r)) held))
parted test row [] = alike_itself []
parted test row (r ∷ held) = parted_one row r held (filter test held) (filter (λ (q : Reservation). not (test q)) held) (test r) (parted test row held)

sums_alike : (xs ys : List (List ℤ)) (forms : List Tracked) → Alike xs ys → HaveSums forms xs → HaveSums forms ys
sums_alike xs ys [] is sums = tt
sums_alike xs ys (first ∷ forms) is sums =
    let coeffs = first.check.coeffs in (
      (sums.0.0 ∙ sym (is.fall coeffs), sums.0.1 ∙ sym (is.rise coeffs), is.bounds coeffs sums.0.2),
      sums_alike xs ys forms is sums.1,
    )

counts_alike : (place : Option Place) (xs ys : List (List ℤ)) → Alike xs ys → CountsJust place xs → CountsJust place ys
counts_alike None xs ys is counts = nil_from_length ys (is.number ∙ ap length counts)
counts_alike (Some place) xs ys is counts = (counts.0 ∙ sym is.number, sums_alike xs ys place.checks is counts.1, sums_alike xs ys place.columns is counts.2)

-- the reservations that pass a test may be counted before the others
pub parts_count : (test : Reservation → Bool) (places : Bounds) (held : List Reservation) → CountsAll places held
    → CountsAll places (filter test held ++ filter (λ r. not (test r)) held)
parts_count test places held counts = λ row.
    let some = filter test held in
    let rest = filter (λ (r : Reservation). not (test r)) held in
    subst (λ (zs : List (List ℤ)). CountsJust (place_at places row) zs) (sym (of_append row some rest))
    (counts_alike (place_at places row) (of_row row held) (of_row row some ++ of_row row rest) (parted test row held) (counts row))
