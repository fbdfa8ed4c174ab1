-- The parts of a `flat_map`, such as a branch's rows; an edit in one part is an edit in the whole.
use Rattle.std.proofs.Common.{◌≡◌, ℕ, ◌+◌, ◌-◌, ◌<◌, ◌≤◌, List, [], ◌∷◌, ◌++◌, flat_map, length, get_or, take, drop, refl, sym, ap, ap₂, ◌∙◌, arith, append_assoc, append-nil, length-append, take-append-drop, take-add, take_at, drop_at, drop-drop, drop-set-lt, length-take-le, add_assoc, add-one, subst, get_or-take, get_or-set_same, length-take, length-set, set, suc, remove, All}
use Rattle.std.proofs.lemmas.List.{take_more, take_more_set, take-append-le, take-take, take-set, drop-append-le, drop_all, set_at}
use Rattle.std.proofs.lemmas.List.Edits.{get_or-remove_below}
use Rattle.std.proofs.lemmas.List.Elements.{All-append, All-drop, All-push, All-same, All-take}
use Rattle.std.proofs.lemmas.List.Concat.{flat_map-append, get_or-flat_map}
use Rattle.sqlite_value.specs.Order.{Row}
use Rattle.escrow_memory.specs.declared.child.Child.{Child}
use Rattle.escrow_memory.specs.Rows.{spliced}

module _ {X : Type 0} {A : Type 0} (f : X → List A) where
  -- the parts of a list before a place and from it on, joined
  pub flat_map_parts : (i : ℕ) (xs : List X) → flat_map f (take i xs) ++ flat_map f (drop i xs) ≡ flat_map f xs
  flat_map_parts i xs = sym (flat_map-append f (take i xs) (drop i xs)) ∙ ap (flat_map f) (take-append-drop i xs)

  -- the sum of their lengths
  pub length-flat_map_parts : (i : ℕ) (xs : List X) → length (flat_map f (take i xs)) + length (flat_map f (drop i xs)) ≡ length (flat_map f xs)
  length-flat_map_parts i xs = sym (length-append (flat_map f (take i xs)) (flat_map f (drop i xs))) ∙ ap length (flat_map_parts i xs)

  -- one more element at the front
  pub flat_map-take_more : (xs : List X) (i : ℕ) (d : X) → i < length xs → flat_map f (take (i + 1) xs) ≡ flat_map f (take i xs) ++ f (get_or xs i d)
  flat_map-take_more xs i d h =
      ap (flat_map f) (take_more xs i d h) ∙ flat_map-append f (take i xs) (get_or xs i d ∷ []) ∙ ap (λ l. flat_map f (take i xs) ++ l) (append-nil (f (get_or xs i d)))

  -- the part before a place, the element at it, and the part after it
  pub flat_map_around : (xs : List X) (i : ℕ) (d : X) → i < length xs → flat_map f xs ≡ flat_map f (take i xs) ++ f (get_or xs i d) ++ flat_map f (drop (i + 1) xs)
  flat_map_around xs i d h = sym (flat_map_parts (i + 1) xs) ∙ ap (λ l. l ++ flat_map f (drop (i + 1) xs)) (flat_map-take_more xs i d h)

  -- the front and the next element are no longer than the whole
  pub front_fits : (xs : List X) (i : ℕ) (d : X) → i < length xs → length (flat_map f (take i xs)) + length (f (get_or xs i d)) ≤ length (flat_map f xs)
  front_fits xs i d h =
      let whole = simp length-append at (ap length (flat_map_around xs i d h)) in omega arith

  -- an item of one element's part comes after the parts of the earlier elements
  pub flat_map-at : (xs : List X) (i j : ℕ) (x : X) (d : A) → i < length xs → x ≡ get_or xs i x → j < length (f x) → get_or (flat_map f xs) (length (flat_map f (take i xs)) + j) d ≡ get_or (f x) j d
  flat_map-at xs i j x d h read within =
      let within' : j < length (f (get_or xs i x)) = rw (← read) within in
      rw (← read) at (get_or-flat_map f xs i j x d h within')

  -- the last item of the whole is the last item of the last element's part
  pub flat_map-last : (xs : List X) (x : X) (d : A) → 0 < length xs → x ≡ get_or xs (length xs - 1) x → 0 < length (f x) → get_or (flat_map f xs) (length (flat_map f xs) - 1) d ≡ get_or (f x) (length (f x) - 1) d
  flat_map-last xs x d some read h =
      let last = length xs - 1 in
      let within : last < length xs = omega arith in
      let around = rw (← read) at (flat_map_around xs last x within) in
      let ends = ap (flat_map f) (drop_all (last + 1) xs (omega arith)) in
      let sizes = simp (ends, length-append) at (ap length around) in
      let place : length (flat_map f xs) - 1 ≡ length (flat_map f (take last xs)) + (length (f x) - 1) = omega arith in
      rw place (flat_map-at xs last (length (f x) - 1) x d within read (omega arith))

-- if the whole has an item, there is an element
pub flat_map_some : {X A : Type 0} (f : X → List A) (xs : List X) → 0 < length (flat_map f xs) → 0 < length xs
flat_map_some f [] h = h
flat_map_some f (x ∷ xs) h = omega arith

-- a child has as many entries as it says, and at least one
abbrev pub IsCounted : {N : Type 0} → (N → List Row) → Child N → Type 0
IsCounted rows child = (child.len ≡ length (rows child.node.value)) × (0 < child.len)

-- the beginning of a list, if it is longer than the front
take_past : {A : Type 0} (front back : List A) (n : ℕ) → take (length front + n) (front ++ back) ≡ front ++ take n back
take_past front back n = take-add (length front) n (front ++ back) ∙ ap₂ ◌++◌ (take_at front back (length front) refl) (ap (take n) (drop_at front back (length front) refl))

-- what remains after the front is dropped
drop_past : {A : Type 0} (front back : List A) (n : ℕ) → drop (length front + n) (front ++ back) ≡ drop n back
drop_past front back n = sym (drop-drop n (length front) (front ++ back)) ∙ ap (drop n) (drop_at front back (length front) refl)

-- an edit inside the middle of three lists
pub spliced_inside : (front middle back new : List Row) (at cut : ℕ) → at + cut ≤ length middle → spliced (length front + at) cut new (front ++ middle ++ back) ≡ front ++ spliced at cut new middle ++ back
spliced_inside front middle back new at cut h =
    let before : at ≤ length middle = omega arith in
    rw (append_assoc front middle back, take_past front (middle ++ back) at, add_assoc (length front) at cut, drop_past front (middle ++ back) (at + cut), take-append-le at middle back before, drop-append-le (at + cut) middle back h)
    (simp append_assoc)

module _ {X : Type 0} (f : X → List Row) where
  -- an edit of one element's part, whose second half follows it, is an edit of the whole
  pub flat_map-spliced : (xs : List X) (i : ℕ) (x old : X) (next new : List Row) (at cut : ℕ) → i < length xs → old ≡ get_or xs i old → at + cut ≤ length (f old) → f x ++ next ≡ spliced at cut new (f old) → flat_map f (take (i + 1) (set xs i x)) ++ next ++ flat_map f (drop (i + 1) (set xs i x)) ≡ spliced (length (flat_map f (take i xs)) + at) cut new (flat_map f xs)
  flat_map-spliced xs i x old next new at cut h read within edit =
      let front = ap (flat_map f) (take_more_set xs i x h) ∙ flat_map-append f (take i xs) (x ∷ []) ∙ ap (λ l. flat_map f (take i xs) ++ l) (append-nil (f x)) in
      let around = rw (← read) at (flat_map_around f xs i old h) in
      rw (front, drop-set-lt (i + 1) xs i x (omega arith), around, spliced_inside (flat_map f (take i xs)) (f old) (flat_map f (drop (i + 1) xs)) new at cut within, ← edit)
      (simp append_assoc)

  -- removing an element with an empty part
  pub flat_map-removed : (xs : List X) (i : ℕ) (x : X) → i < length xs → get_or xs i x ≡ x → f x ≡ [] → flat_map f (remove xs i) ≡ flat_map f xs
  flat_map-removed xs i x h read none =
      rw (flat_map-append f (take i xs) (drop (suc i) xs), flat_map_around f xs i x h, read, none, append-nil (flat_map f (take i xs)), add-one) refl

  -- one element replaces two and has the parts of both
  pub flat_map-joined : (xs : List X) (i : ℕ) (x old next : X) → i + 1 < length xs → old ≡ get_or (remove xs (i + 1)) i old → next ≡ get_or xs (i + 1) next → f x ≡ f old ++ f next → flat_map f (set (remove xs (i + 1)) i x) ≡ flat_map f xs
  flat_map-joined xs i x old next h read read_next both =
      let first : i < length xs = omega arith in
      let here = read ∙ get_or-remove_below xs (i + 1) old i (omega arith) h in
      let rest = drop (suc (i + 1)) xs in
      let front = rw (← here) at (take_more xs i old first) in
      let moved : set (remove xs (i + 1)) i x ≡ take i xs ++ x ∷ rest = rw (front, append_assoc (take i xs) (old ∷ []) rest) (set_at (take i xs) old rest x i (length-take-le i xs (omega arith))) in
      let around = rw (← read_next) at (flat_map_around f xs (i + 1) next h) in
      let before = rw (← here) at (flat_map-take_more f xs i old first) in
      rw (moved, flat_map-append f (take i xs) (x ∷ rest), both, around, before, add-one (i + 1)) (simp append_assoc)

-- what holds of all elements holds of one that was read
pub All-read : {X : Type 0} (P : X → Type 0) (xs : List X) (i : ℕ) (x : X) → All P xs → i < length xs → x ≡ get_or xs i x → P x
All-read P xs i x all h read = subst P (sym read) (all i x h)

-- a list in which the element at a place was edited, and elements were inserted after it
module _ {X : Type 0} (xs ys : List X) (i : ℕ) (x : X) (h : i < length xs) (front : take (i + 1) ys ≡ take (i + 1) (set xs i x)) where
  -- the place is in the list
  pub edited_within : i < length ys
  edited_within = let sizes = simp (length-take, length-set) at (ap length front) in omega arith

  -- the edited element is at the place
  pub edited_at : (d : X) → get_or ys i d ≡ x
  edited_at d = sym (get_or-take (i + 1) ys i d (omega arith)) ∙ ap (λ l. get_or l i d) front ∙ get_or-take (i + 1) (set xs i x) i d (omega arith) ∙ get_or-set_same xs i x d h

  module _ (P : X → Type 0) (all : All P xs) (back : All P (drop (i + 1) (set xs i x)) → All P (drop (i + 1) ys)) where
    -- what holds of all old elements and of the inserted ones holds of all elements after the place
    behind_edited : All P (drop (i + 1) ys)
    behind_edited = back (All-same P _ _ (drop-set-lt (i + 1) xs i x (omega arith)) (All-drop P (i + 1) xs all))

    -- it holds of all if it holds of the edited element
    pub All-edited : P x → All P ys
    All-edited here =
        let before : All P (take (i + 1) ys) = All-same P _ _ (front ∙ take_more_set xs i x h) (All-push P (take i xs) x (All-take P i xs all) here) in
        All-same P _ _ (sym (take-append-drop (i + 1) ys)) (All-append P _ _ before behind_edited)

    -- it holds of all other elements
    pub All-edited_removed : All P (remove ys i)
    All-edited_removed =
        let kept : take i ys ≡ take i xs = sym (take-take i (i + 1) ys (omega arith)) ∙ ap (take i) front ∙ take-take i (i + 1) (set xs i x) (omega arith) ∙ take-set xs i x in
        All-append P _ _ (All-same P _ _ kept (All-take P i xs all)) (rw add-one at behind_edited)
