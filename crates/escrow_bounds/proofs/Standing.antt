-- The index of a row's place, and a write at it.
use Rattle.std.specs.Prelude.{◌≡◌, ℕ, zero, suc, ◌<◌, false, Option, Some, None, option_map, IfSome, List, [], ◌∷◌, ◌++◌, length, position, slice_get}
use Rattle.std.specs.List.{position_or_len}
use Rattle.std.specs.Map.{keys_of}
use Rattle.std.proofs.Common.{refl, sym, ap, subst, arith, ◌∙◌}
use Rattle.std.proofs.lemmas.Map.Entries.{lookup_from_place}
use Rattle.std.proofs.lemmas.Map.Made.{lookup_key_passes}
use Rattle.std.proofs.lemmas.Option.{slice_get-map}
use Rattle.indexmap.specs.IndexMap.{IndexMap, IsUnique, insert_entry, with_value_at}
use Rattle.indexmap.proofs.CallerLemmas.{keys-with_value_at, updates-with_value_at}
use Rattle.indexmap.proofs.MapLemmas.{Found-position, absent_from_lookup, insert_entry-absent, or_len-absent}
use Rattle.escrow_num.specs.declared.value.RowName.{RowName}
use Rattle.escrow_num.specs.Equal.{same_row_equiv}
use Rattle.escrow_num.specs.Order.{same_row}
use Rattle.escrow_num.proofs.Orders.{row_same}
use Rattle.escrow_bounds.specs.At.{IsAt}
use Rattle.escrow_bounds.specs.Place.{Place}
use Rattle.escrow_bounds.specs.Bounds.{Bounds, place_at, Becomes, OthersStay}

some_same : {X : Type 0} {x y : X} → Some x ≡ Some y → x ≡ y
some_same is = cc

abbrev first : RowName × Place → RowName
first p = p.0

get_end : (places : Bounds) (p : RowName × Place) → slice_get (places ++ p ∷ []) (length places) ≡ Some p
get_end [] p = refl
get_end (q ∷ places) p = get_end places p

there_is : {A : Type 0} (xs : List A) (i : ℕ) → i < length xs → (x : A) × (slice_get xs i ≡ Some x)
there_is [] i below = absurd (omega arith)
there_is (x ∷ xs) zero below = (x, refl)
there_is (x ∷ xs) (suc i) below = there_is xs i (omega arith)

-- the entry that is found by a row's name has that name
pub named_there : {V : Type 0} (entries : List (RowName × V)) (name : RowName) (i : ℕ) → position (same_row name) (keys_of entries) ≡ Some i
    → option_map (λ (p : RowName × V). p.0) (slice_get entries i) ≡ Some name
named_there {V} entries name i is =
    let key_of : RowName × V → RowName = λ p. p.0 in
    let found = Found-position (same_row name) entries i is in
    let entry = there_is entries i found.within in
    let key : option_map key_of (slice_get entries i) ≡ Some entry.0.0 = ap (option_map key_of) entry.1 in
    key ∙ ap Some (sym (row_same name entry.0.0 (lookup_key_passes (same_row name) entries entry.0.0 (found.key ∙ slice_get-map key_of entries i ∙ key))))

-- the index that is found is that of the row's place
pub found_at : (places : Bounds) (row : RowName) (found : Option ℕ) → found ≡ position (same_row row) (keys_of places) → IfSome found (λ i. IsAt places row i)
found_at places row None is = tt
found_at places row (Some i) is = named_there places row i (sym is)

-- a new place is the last one
pub made_at : (old new : Bounds) (row : RowName) (place : Place) (i : ℕ) → place_at old row ≡ None → new ≡ insert_entry same_row old row place → i ≡ position_or_len (same_row row) (keys_of old) → IsAt new row i
made_at old new row place i none is at =
    let absent = absent_from_lookup (same_row row) old none in
    let last : i ≡ length old = at ∙ or_len-absent (same_row row) old absent in
    let more : new ≡ old ++ (row, place) ∷ [] = is ∙ insert_entry-absent same_row row place old absent in
    let end : slice_get new i ≡ Some (row, place) = rw (more, last) (get_end old (row, place)) in
    ap (option_map first) end

module _ {S : Type 0} (m : IndexMap RowName Place S) (i : ℕ) (key : RowName) (was : Place) (unique : IsUnique same_row m) (at : slice_get m.entries i ≡ Some (key, was)) where
  -- it is the only entry of its row
  pub own_at : IsAt m.entries key i
  own_at = ap (option_map first) at

  own_key : (row : RowName) → IsAt m.entries row i → key ≡ row
  own_key row is = some_same (sym own_at ∙ is)

  pub own_place : (row : RowName) → IsAt m.entries row i → place_at m.entries row ≡ Some was
  own_place row is = subst (λ (row : RowName). place_at m.entries row ≡ Some was) (own_key row is) (lookup_from_place same_row_equiv m.entries i key was unique at)

  pub own_same : (row : RowName) (place : Place) → IsAt m.entries row i → place_at m.entries row ≡ Some place → place ≡ was
  own_same row place is before = some_same (sym before ∙ own_place row is)

  -- a write there changes the row's place, which keeps its index
  module _ (new : Place) (row : RowName) (is : IsAt m.entries row i) where
    pub still_at : IsAt (with_value_at m i new).entries row i
    still_at = sym (slice_get-map first (with_value_at m i new).entries i) ∙ ap (λ (rows : List RowName). slice_get rows i) (keys-with_value_at m i new) ∙ slice_get-map first m.entries i ∙ is

    pub written : (Step : Place → Place → Type 0) → Step was new → Becomes Step (place_at m.entries row) (place_at (with_value_at m i new).entries row)
    written Step step = λ old before. (
      new,
      subst (λ (row : RowName). place_at (with_value_at m i new).entries row ≡ Some new) (own_key row is) (updates-with_value_at m i new same_row_equiv unique key was at).1,
      subst (λ (kept : Place). Step kept new) (sym (own_same row old is before)) step,
    )

    pub others_stay : OthersStay row m.entries (with_value_at m i new).entries
    others_stay = λ other apart.
        (updates-with_value_at m i new same_row_equiv unique key was at).2 other (subst (λ (row : RowName). same_row row other ≡ false) (sym (own_key row is)) apart)
