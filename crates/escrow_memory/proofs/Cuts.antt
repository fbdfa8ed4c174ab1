-- The number of rows that pass a test, if those that pass come first. That number is the place where they end.
use Rattle.std.proofs.Common.{◌≡◌, ℕ, zero, suc, ◌+◌, ◌-◌, ◌<◌, ◌≤◌, min, Bool, true, false, IsTrue, List, [], ◌∷◌, ◌++◌, length, get_or, take, drop, count_by, cond, inl, inr, refl, sym, ap, subst, ◌∙◌, arith, length-append}
use Rattle.std.specs.Borrow.{Bor}
use Rattle.std.specs.List.{AllByRecursion}
use Rattle.std.specs.Prelude.{Option, Some, None, IfSome}
use Rattle.std.proofs.Math.Seq.{take-append_seam, take-length}
use Rattle.std.proofs.lemmas.Bool.{cases_Bool, both_ways}
use Rattle.std.proofs.lemmas.List.{take-append-drop, take_more, append-nil}
use Rattle.std.proofs.lemmas.List.Concat.{flat_map-append, get_or-flat_map}
use Rattle.std.proofs.lemmas.List.Folds.{length-flat_map-take}
use Rattle.std.proofs.lemmas.List.Sums.{sum_by-cons, sum_by-append, count_by-le-length, count_by_more_yes, count_by_more_no}
use Rattle.sqlite_value.specs.Order.{Row}
use Rattle.sqlite_record.specs.Record.{decode}
use Rattle.sqlite_trees.specs.Tree.{IsAscending}
use Rattle.sqlite_trees.specs.Probe.{IsPlaceOf}
use Rattle.escrow_memory.specs.Rows.{IsCut}
use Rattle.escrow_memory.specs.declared.child.Child.{Child}
use Rattle.escrow_memory.specs.Children.{children_rows, AreCounted}

module _ (test : Row → Bool) where
  -- the count of a row and of the rows after it
  count-cons : (row : Row) (rows : List Row) → count_by test (row ∷ rows) ≡ cond (test row) 1 0 + count_by test rows
  count-cons row rows = sum_by-cons (λ x. cond (test x) 1 0) row rows

  -- if a row fails, all later rows fail
  none_behind : (row : Row) (rows : List Row) → AllByRecursion (λ later. IsTrue (test later) → IsTrue (test row)) rows → test row ≡ false → count_by test rows ≡ 0
  none_behind row [] cut fails = refl
  none_behind row (later ∷ rows) cut fails =
      let fails_too = elim (cases_Bool (test later)) as (λ _. test later ≡ false) [ inl passes ↦ absurd (both_ways _ fails (cut.0 passes)) | inr fails ↦ fails ] in
      rw (count-cons later rows, fails_too) (omega (arith, none_behind row rows cut.1 fails))

  -- among the first k rows, the smaller of k and the count of all rows pass
  pub count-take : (k : ℕ) (rows : List Row) → IsCut test rows → count_by test (take k rows) ≡ min k (count_by test rows)
  count-take zero rows cut = omega arith
  count-take (suc k) [] cut = omega arith
  count-take (suc k) (row ∷ rows) cut = elim (cases_Bool (test row)) [
    | inl passes ↦ rw (count-cons row (take k rows), count-cons row rows, passes) (omega (arith, count-take k rows cut.1))
    | inr fails ↦ rw (count-cons row (take k rows), count-cons row rows, fails) (omega (arith, count-take k rows cut.1, none_behind row rows cut.0 fails))
  ]

  -- a row that passes is before the place
  pub passes_before : (rows : List Row) (k : ℕ) → IsCut test rows → k < length rows → test (get_or rows k []) ≡ true → k < count_by test rows
  passes_before rows k cut within passes = omega (arith, count_by_more_yes test rows k [] within passes, count-take k rows cut, count-take (k + 1) rows cut)

  -- a row that fails is at the place or after it
  pub fails_behind : (rows : List Row) (k : ℕ) → IsCut test rows → k < length rows → test (get_or rows k []) ≡ false → count_by test rows ≤ k
  fails_behind rows k cut within fails = omega (arith, count_by_more_no test rows k [] within fails, count-take k rows cut, count-take (k + 1) rows cut)

  -- a place past the last row is not before the place either
  pub fails_past : (rows : List Row) (k : ℕ) → length rows ≤ k → count_by test rows ≤ k
  fails_past rows k past = omega (arith, count_by-le-length test rows)

  -- the count is the place up to which the rows pass
  pub place_of_count : (rows : List Row) → IsCut test rows → IsPlaceOf test rows (count_by test rows)
  place_of_count rows cut = record {
    within = count_by-le-length test rows;
    before = λ k below. elim (cases_Bool (test (get_or rows k []))) [
      | inl passes ↦ passes
      | inr fails ↦ absurd (let over : count_by test rows ≤ k = fails_behind rows k cut (omega (arith, count_by-le-length test rows)) fails in omega arith)
    ];
    after = λ k behind within. elim (cases_Bool (test (get_or rows k []))) [
      | inl passes ↦ absurd (let under : k < count_by test rows = passes_before rows k cut within passes in omega arith)
      | inr fails ↦ fails
    ];
  }

  -- if exactly `at` rows pass, `at` is the place
  pub place_at : (rows : List Row) (at : ℕ) → IsCut test rows → count_by test rows ≤ at → at ≤ count_by test rows → IsPlaceOf test rows at
  place_at rows at cut most least = let same : count_by test rows ≡ at = omega arith in subst (IsPlaceOf test rows) same (place_of_count rows cut)

module _ {A : Type 0} (P : A → Type 0) where
  -- what holds of all items holds of those at the back
  all_back : (xs ys : List A) → AllByRecursion P (xs ++ ys) → AllByRecursion P ys
  all_back [] ys h = h
  all_back (x ∷ xs) ys h = all_back xs ys h.1

  -- and of those at the front
  all_front : (xs ys : List A) → AllByRecursion P (xs ++ ys) → AllByRecursion P xs
  all_front [] ys h = tt
  all_front (x ∷ xs) ys h = (h.0, all_front xs ys h.1)

module _ {A : Type 0} (R : A → A → Type 0) where
  -- the front of an ascending list is ascending
  pub ascending_front : (xs ys : List A) → IsAscending R (xs ++ ys) → IsAscending R xs
  ascending_front [] ys up = tt
  ascending_front (x ∷ xs) ys up = (all_front (R x) xs ys up.0, ascending_front xs ys up.1)

  -- so is its back
  pub ascending_back : (xs ys : List A) → IsAscending R (xs ++ ys) → IsAscending R ys
  ascending_back [] ys up = up
  ascending_back (x ∷ xs) ys up = ascending_back xs ys up.1

module _ {N : Type 0} (rows : N → List Row) (children : List (Child N)) where
  -- the rows of the first children, followed by those of the others, are all rows
  pub front_and_back : (k : ℕ) → children_rows rows (take k children) ++ children_rows rows (drop k children) ≡ children_rows rows children
  front_and_back k = sym (flat_map-append _ (take k children) (drop k children)) ∙ ap (children_rows rows) (take-append-drop k children)

  module _ (k : ℕ) (child : Child N) (within : k < length children) (is : child ≡ get_or children k child) where
    -- the rows of the next child follow those of the first children
    front_more : children_rows rows (take (k + 1) children) ≡ children_rows rows (take k children) ++ rows child.node.value
    front_more = rw (take_more children k child within, ← is, flat_map-append (λ child. rows child.node.value) (take k children)) (ap (λ l. children_rows rows (take k children) ++ l) (append-nil (rows child.node.value)))

    -- the number of rows including that child
    up_to_end : length (children_rows rows (take (k + 1) children)) ≡ length (children_rows rows (take k children)) + length (rows child.node.value)
    up_to_end = rw front_more (length-append (children_rows rows (take k children)) (rows child.node.value))

    module _ (at : ℕ) where
      -- the place in the branch of a place in a child
      abbrev in_branch : ℕ
      in_branch = length (children_rows rows (take k children)) + at

      -- a row of the child is one of the branch
      row_within : at < length (rows child.node.value) → in_branch < length (children_rows rows children)
      row_within inside = omega (arith, inside, rw (← is) at (length-flat_map-take (λ child. rows child.node.value) children k child within))

      -- it comes after the rows of the earlier children
      row_there : at < length (rows child.node.value) → get_or (children_rows rows children) in_branch [] ≡ get_or (rows child.node.value) at []
      row_there inside = rw (← is) at (get_or-flat_map (λ child. rows child.node.value) children k at child [] within (rw (← is) inside))

      -- an entry at a place in a child is at the matching place in the branch
      pub entry_there : (found : Option (Bor (List ℕ))) → IfSome found (λ entry. (at < length (rows child.node.value)) × (decode entry.now ≡ get_or (rows child.node.value) at []))
          → IfSome found (λ entry. (in_branch < length (children_rows rows children)) × (decode entry.now ≡ get_or (children_rows rows children) in_branch []))
      entry_there None here = tt
      entry_there (Some entry) (inside, reads) = (row_within inside, reads ∙ sym (row_there inside))

      -- if the last child has no entry at a place, the branch has none there
      pub none_there : (k + 1 < length children → in_branch < length (children_rows rows (take (k + 1) children))) → length (rows child.node.value) ≤ at → length (children_rows rows children) ≤ in_branch
      none_there before_end none =
          let last : k + 1 ≡ length children = grind (arith, up_to_end) in
          omega (arith, rw (last, take-length children) at up_to_end)

module _ {N : Type 0} (test : Row → Bool) (rows : N → List Row) (children : List (Child N)) (cut : IsCut test (children_rows rows children)) where
  -- of the rows of the first children, as many pass as of all rows, unless there are fewer
  count-front : (k : ℕ) → count_by test (children_rows rows (take k children)) ≡ min (length (children_rows rows (take k children))) (count_by test (children_rows rows children))
  count-front k =
      let seam = take-append_seam (children_rows rows (take k children)) (children_rows rows (drop k children)) in
      let front = rw (front_and_back rows children k) at seam in
      ap (count_by test) (sym front) ∙ count-take test _ _ cut

  module _ (k : ℕ) (child : Child N) (within : k < length children) (is : child ≡ get_or children k child) where
    -- the passing rows of a child come first too
    pub cut_of_child : IsCut test (rows child.node.value)
    cut_of_child =
        let parts = rw (← front_and_back rows children (k + 1)) at cut in
        let front = ascending_front _ _ (children_rows rows (drop (k + 1) children)) parts in
        ascending_back _ (children_rows rows (take k children)) _ (rw (front_more rows children k child within is) at front)

    -- if the place is within a child, all rows of earlier children pass, and none of later children does
    pub count_in_child : length (children_rows rows (take k children)) ≤ count_by test (children_rows rows children) → count_by test (children_rows rows children) ≤ length (children_rows rows (take (k + 1) children)) → length (children_rows rows (take k children)) + count_by test (rows child.node.value) ≡ count_by test (children_rows rows children)
    count_in_child low high =
        let both = ap (count_by test) (front_more rows children k child within is) ∙ sum_by-append _ (children_rows rows (take k children)) (rows child.node.value) in
        omega (arith, both, count-front k, count-front (k + 1))

    module _ (counted : AreCounted rows children) where
      -- a child has a row
      not_empty : 0 < length (rows child.node.value)
      not_empty = omega (arith, rw (← is) at (counted k child within))

      -- the place in the branch of a child's last row
      last_place : ℕ
      last_place = length (children_rows rows (take k children)) + (length (rows child.node.value) - 1)

      -- that row is within the child
      last_inside : length (rows child.node.value) - 1 < length (rows child.node.value)
      last_inside = omega (arith, not_empty)

      -- it is one of the branch's rows
      last_within : last_place < length (children_rows rows children)
      unfolding last_place
      last_within = row_within rows children k child within is _ last_inside

      -- the branch has that row there
      last_row : get_or (children_rows rows children) last_place [] ≡ get_or (rows child.node.value) (length (rows child.node.value) - 1) []
      unfolding last_place
      last_row = row_there rows children k child within is _ last_inside

      -- the rows up to the end of the child end with that row
      behind_last : length (children_rows rows (take (k + 1) children)) ≡ last_place + 1
      unfolding last_place
      behind_last = omega (arith, not_empty, up_to_end rows children k child within is)

      -- if a child's last row passes, the place is after the child
      pub child_passes : test (get_or (rows child.node.value) (length (rows child.node.value) - 1) []) ≡ true → length (children_rows rows (take (k + 1) children)) ≤ count_by test (children_rows rows children)
      child_passes passes = omega (arith, behind_last, passes_before test (children_rows rows children) last_place cut last_within (rw last_row passes))

      -- if it fails, the place is before the child's end
      pub child_fails : test (get_or (rows child.node.value) (length (rows child.node.value) - 1) []) ≡ false → count_by test (children_rows rows children) < length (children_rows rows (take (k + 1) children))
      child_fails fails = omega (arith, behind_last, fails_behind test (children_rows rows children) last_place cut last_within (rw last_row fails))
