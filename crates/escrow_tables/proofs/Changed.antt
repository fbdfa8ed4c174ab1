-- Changes added to amounts, column by column, and amounts replaced.
use Rattle.std.proofs.Common.{◌≡◌, ℕ, ℤ, zero, suc, Option, None, Some, unwrap_or, pos, ◌+◌, ◌-◌, ◌<◌, ◌≤◌, ◌+ℤ◌, List, [], ◌∷◌, ◌++◌, map, length, min, take, get_or, set, refl, ap, sym, ◌∙◌, subst, subst₂, false, arith, add-one}
use Rattle.std.specs.Borrow.{Bor}
use Rattle.std.proofs.lemmas.List.{length-map, length-take-le, take_all, take_more, take-map, get_or-map, length_push}
use Rattle.escrow_num.specs.declared.reservation.Reservation.{Reservation}
use Rattle.escrow_num.specs.declared.value.RowName.{RowName}
use Rattle.escrow_num.specs.Order.{same_row}
use Rattle.escrow_num.specs.Reservation.{deltas, changes_at}
use Rattle.escrow_checks.specs.Form.{changed, all_changed}
use Rattle.escrow_schema.specs.Rows.{replaced}

-- the reservations behind a list of references
abbrev pub read : List (Bor Reservation) → List Reservation
read reservations = map (λ (r : Bor Reservation). r.now) reservations

-- an empty list of changes changes nothing
pub changed_nil : (amounts : List ℤ) → changed amounts [] ≡ amounts
changed_nil [] = refl
changed_nil (a ∷ rest) = refl

-- one more change, at an existing column
changed_suc : (amounts changes : List ℤ) (i : ℕ) (x y : ℤ) → i < length amounts → i < length changes
    → x ≡ get_or (changed amounts (take i changes)) i x → y ≡ get_or changes i y
    → changed amounts (take (suc i) changes) ≡ set (changed amounts (take i changes)) i (x +ℤ y)
changed_suc [] changes i x y below in_changes at_x at_y = absurd (omega arith)
changed_suc (a ∷ rest) [] i x y below in_changes at_x at_y = absurd (omega arith)
changed_suc (a ∷ rest) (c ∷ changes) zero x y below in_changes at_x at_y = rw (at_x, at_y) (ap (λ zs. (a +ℤ c) ∷ zs) (changed_nil rest))
changed_suc (a ∷ rest) (c ∷ changes) (suc i) x y below in_changes at_x at_y =
    ap (λ zs. (a +ℤ c) ∷ zs) (changed_suc rest changes i x y (omega arith) (omega arith) at_x at_y)

-- a change past the last column changes nothing
changed_past : (amounts changes : List ℤ) (i : ℕ) → length amounts ≤ i → changed amounts (take (suc i) changes) ≡ changed amounts (take i changes)
changed_past [] changes i past = refl
changed_past (a ∷ rest) [] zero past = refl
changed_past (a ∷ rest) [] (suc i) past = refl
changed_past (a ∷ rest) (c ∷ changes) zero past = absurd (omega arith)
changed_past (a ∷ rest) (c ∷ changes) (suc i) past = ap (λ zs. (a +ℤ c) ∷ zs) (changed_past rest changes i (omega arith))

-- the changes so far
counted_take : (i : ℕ) (changes : List (Option ℤ)) → deltas (take i changes) ≡ take i (deltas changes)
counted_take i changes = sym (take-map (λ (o : Option ℤ). unwrap_or o (pos 0)) i changes)

-- one more change, at an existing column or past the last one
pub counted_more : (amounts : List ℤ) (changes : List (Option ℤ)) (i : ℕ) (x : ℤ) (o : Option ℤ) → i < length amounts → i < length changes
    → x ≡ get_or (changed amounts (deltas (take i changes))) i x → o ≡ get_or changes i o
    → changed amounts (deltas (take (i + 1) changes)) ≡ set (changed amounts (deltas (take i changes))) i (x +ℤ unwrap_or o (pos 0))
counted_more amounts changes i x o below in_changes at_x at_o =
    let count : Option ℤ → ℤ = λ c. unwrap_or c (pos 0) in
    let at : count o ≡ get_or (deltas changes) i (count o) = ap count at_o ∙ sym (get_or-map count changes i o (count o) in_changes) in
    rw (add-one, counted_take (suc i) changes, counted_take i changes)
    (changed_suc amounts (deltas changes) i x (count o) below (subst (λ n. i < n) (sym (length-map changes count)) in_changes)
    (subst (λ zs. x ≡ get_or (changed amounts zs) i x) (counted_take i changes) at_x) at)

pub counted_past : (amounts : List ℤ) (changes : List (Option ℤ)) (i : ℕ) → length amounts ≤ i
    → changed amounts (deltas (take (i + 1) changes)) ≡ changed amounts (deltas (take i changes))
counted_past amounts changes i past = rw (add-one, counted_take (suc i) changes, counted_take i changes) (changed_past amounts (deltas changes) i past)

-- one more list of changes
pub all_changed_push : (amounts : List ℤ) (before : List (List ℤ)) (changes : List ℤ) → all_changed amounts (before ++ changes ∷ []) ≡ changed (all_changed amounts before) changes
all_changed_push amounts [] changes = refl
all_changed_push amounts (first ∷ before) changes = all_changed_push (changed amounts first) before changes

-- a reservation of another row changes nothing
pub changes_other : (name : RowName) (r : Reservation) → same_row name r.row ≡ false → changes_at name r ≡ []
changes_other name r other = rw other refl

-- one more item, replaced or kept
replaced_push : {A : Type 0} (news : List (Option A)) (new : Option A) (xs : List A) (x : A) → length news ≡ length xs
    → replaced (news ++ new ∷ []) (xs ++ x ∷ []) ≡ replaced news xs ++ unwrap_or new x ∷ []
replaced_push [] new [] x long = refl
replaced_push [] new (y ∷ ys) x long = absurd (omega arith)
replaced_push (n ∷ news) new [] x long = absurd (omega arith)
replaced_push (n ∷ news) new (y ∷ ys) x long = ap (λ zs. unwrap_or n y ∷ zs) (replaced_push news new ys x (omega arith))

-- new items turn the first items of one list into those of another
pub record Turns {A : Type 0} (news : List (Option A)) (before after : List A) (i : ℕ) : Type 0 where
  pub long : length news ≡ i
  pub turned : replaced news (take i before) ≡ take i after

pub turns_more : {A : Type 0} (news : List (Option A)) (before after : List A) (i j : ℕ) (new : Option A) (x y : A) → i < length before → i < length after → j ≡ i + 1
    → x ≡ get_or before i x → y ≡ get_or after i y → unwrap_or new x ≡ y → Turns news before after i → Turns (news ++ new ∷ []) before after j
turns_more news before after i j new x y in_before in_after next at_x at_y is so_far = record {
  long = omega (arith, length_push news new, so_far.long);
  turned =
      let old = take_more before i x in_before ∙ ap (λ z. take i before ++ z ∷ []) (sym at_x) in
      let made = take_more after i y in_after ∙ ap (λ z. take i after ++ z ∷ []) (sym at_y) in
      let even : length news ≡ length (take i before) = so_far.long ∙ sym (length-take-le i before (omega arith)) in
      rw (next, old, made)
      (replaced_push news new (take i before) x even ∙ subst₂ (λ zs z. replaced news (take i before) ++ unwrap_or new x ∷ [] ≡ zs ++ z ∷ []) so_far.turned is refl);
}

pub turns_all : {A : Type 0} (news : List (Option A)) (before after : List A) (i : ℕ) → i ≡ min (length before) (length after) → Turns news before after i
    → length before ≡ length after → replaced news before ≡ after
turns_all news before after i end so_far even =
    subst₂ (λ xs ys. replaced news xs ≡ ys) (take_all i before (omega arith)) (take_all i after (omega arith)) so_far.turned

-- replacing items twice by the same ones equals replacing them once
pub replaced_twice : {A : Type 0} (news : List (Option A)) (xs : List A) → replaced news (replaced news xs) ≡ replaced news xs
replaced_twice [] xs = refl
replaced_twice (new ∷ news) [] = refl
replaced_twice (None ∷ news) (x ∷ xs) = ap (λ zs. x ∷ zs) (replaced_twice news xs)
replaced_twice (Some y ∷ news) (x ∷ xs) = ap (λ zs. y ∷ zs) (replaced_twice news xs)
