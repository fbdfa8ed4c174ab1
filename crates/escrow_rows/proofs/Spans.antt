-- A span of columns: the cells in it, and the amounts.
use Rattle.std.proofs.Common.{◌≡◌, ◌≢◌, ◌<◌, ◌≤◌, ◌+◌, ◌-◌, max, ℕ, ℤ, zero, suc, pos, Bool, true, false, ◌&&◌, cond, List, [], ◌∷◌, ◌++◌, append-nil, length, filter, get_or, take, drop, refl, sym, ap, ◌∙◌, inl, inr, arith}
use Rattle.std.proofs.Math.Nat.{add-sub_cancel_left, eq-or-lt_of_le}
use Rattle.std.proofs.Math.ListN.{drop_of_length-le}
use Rattle.std.proofs.Math.Seq.{take-nil}
use Rattle.std.proofs.lemmas.Bool.{cases_Bool}
use Rattle.std.proofs.lemmas.List.{drop-append-le, drop-drop, length-drop, length-take, take-append-drop, take_all, take_more}
use Rattle.std.proofs.lemmas.List.Elements.{filter-append}
use Rattle.sqlite_value.specs.declared.value.Value.TheVariants as sql
use Rattle.sqlite_value.specs.Order.{Row as SqlRow, column}
use Rattle.escrow_num.specs.declared.value.Value.{Value}
use Rattle.escrow_schema.specs.declared.column.Column.{Column}
use Rattle.escrow_schema.specs.Column.{reservables}
use Rattle.escrow_schema.specs.Fit.{amounts_of, number_in}
use Rattle.escrow_cells.specs.Span.{is_from, is_within}
use Rattle.escrow_cells.proofs.Spans.{before_first, behind_last, from_first, up_to_last}
use Rattle.escrow_rows.specs.Image.{stored}
use Rattle.escrow_rows.specs.Placed.{placed, placed_in}
use Rattle.escrow_rows.proofs.PlacedCells.{length-placed}

-- ---- the cells

-- SQLite's test of whether a cell is in a span
abbrev pub in_span : ℕ → ℕ → SqlRow → Bool
in_span start many cell = is_within (pos (start + 1)) (pos (start + many)) (column cell 0)

and_false : (b : Bool) → (b && false) ≡ false
and_false true = refl
and_false false = refl

module _ (start many : ℕ) where
  -- no cell after the span is in it
  none_behind : (place : ℕ) (vs : List Value) → start + many < place → filter (in_span start many) (placed place vs) ≡ []
  none_behind place [] h = refl
  none_behind place (v ∷ vs) h = rw (behind_last place (start + many) h, and_false (is_from (pos (start + 1)) (sql.Int (pos place)))) (none_behind (place + 1) vs (omega arith))

  -- among the cells from one in the span on, those in it come first
  first_in : (left place : ℕ) (vs : List Value) → start < place → place + left ≡ start + many + 1 → filter (in_span start many) (placed place vs) ≡ placed place (take left vs)
  first_in zero place vs h all = none_behind place vs (omega arith)
  first_in (suc left) place [] h all = refl
  first_in (suc left) place (v ∷ vs) h all =
      rw (from_first (start + 1) place (omega arith), up_to_last place (start + many) (omega arith))
      (ap (λ (cells : List SqlRow). (sql.Int (pos place) ∷ stored v ∷ []) ∷ cells) (first_in left (place + 1) vs (omega arith) (omega arith)))

  -- the cells before it are skipped
  passed : (left place : ℕ) (vs : List Value) → place + left ≡ start + 1 → filter (in_span start many) (placed place vs) ≡ placed (start + 1) (take many (drop left vs))
  passed zero place vs all = first_in many place vs (omega arith) (omega arith) ∙ ap (λ (n : ℕ). placed n (take many vs)) (omega arith)
  passed (suc left) place [] all = ap (placed (start + 1)) (sym (take-nil many))
  passed (suc left) place (v ∷ vs) all = rw (before_first place (start + 1) (omega arith)) (passed left (place + 1) vs (omega arith))

  -- the cells of values that are in the span
  pub span_placed : (values : List Value) → filter (in_span start many) (placed 1 values) ≡ placed_in start many values
  span_placed values = passed start 1 values (omega arith)

  pub length-placed_in : (values : List Value) → start + many ≤ length values → length (placed_in start many values) ≡ many
  length-placed_in values within =
      let spanned = take many (drop start values) in
      omega (arith, length-placed (start + 1) spanned, length-take many (drop start values), length-drop start values)

-- ---- the amounts

none_reservable : (columns : List Column) (values : List Value) → reservables columns ≡ [] → amounts_of columns values ≡ []
none_reservable [] values none = refl
none_reservable (column ∷ columns) [] none = refl
none_reservable (column ∷ columns) (v ∷ values) none = elim (cases_Bool column.reservable) [
  | inl t ↦ absurd (let e = rw t at none in cc)
  | inr f ↦ rw f (none_reservable columns values (rw f at none))
]

amounts_behind : (start : ℕ) (columns : List Column) (values : List Value) → length values ≡ length columns → reservables (take start columns) ≡ [] → amounts_of (drop start columns) (drop start values) ≡ amounts_of columns values
amounts_behind zero columns values long none = refl
amounts_behind (suc start) [] [] long none = refl
amounts_behind (suc start) [] (v ∷ values) long none = absurd (omega arith)
amounts_behind (suc start) (column ∷ columns) [] long none = absurd (omega arith)
amounts_behind (suc start) (column ∷ columns) (v ∷ values) long none = elim (cases_Bool column.reservable) [
  | inl t ↦ absurd (let e = rw t at none in cc)
  | inr f ↦ rw f (amounts_behind start columns values (omega arith) (rw f at none))
]

amounts_first : (many : ℕ) (columns : List Column) (values : List Value) → reservables (drop many columns) ≡ [] → amounts_of (take many columns) (take many values) ≡ amounts_of columns values
amounts_first zero columns values none = sym (none_reservable columns values none)
amounts_first (suc many) [] values none = refl
amounts_first (suc many) (column ∷ columns) [] none = refl
amounts_first (suc many) (column ∷ columns) (v ∷ values) none =
    let more = amounts_first many columns values none in
    elim column.reservable as (λ b. cond b (number_in v ∷ amounts_of (take many columns) (take many values)) (amounts_of (take many columns) (take many values)) ≡ cond b (number_in v ∷ amounts_of columns values) (amounts_of columns values))
    [ true ↦ ap (λ (rest : List ℤ). number_in v ∷ rest) more | false ↦ more ]

module _ (columns shown : List Column) (start many : ℕ) (same : shown ≡ columns) (before : reservables (take start shown) ≡ []) (behind : reservables (drop (start + many) shown) ≡ []) where
  none_before : reservables (take start columns) ≡ []
  none_before = ap (λ (cs : List Column). reservables (take start cs)) (sym same) ∙ before

  none_left : reservables (drop many (drop start columns)) ≡ []
  none_left = ap reservables (drop-drop many start columns) ∙ ap (λ (cs : List Column). reservables (drop (start + many) cs)) (sym same) ∙ behind

  -- the columns of the span, as they are shown
  spanned : take (start + many - start) (drop start shown) ≡ take many (drop start columns)
  spanned = ap (λ (cs : List Column). take (start + many - start) (drop start cs)) same ∙ ap (λ (n : ℕ). take n (drop start columns)) (add-sub_cancel_left start many)

  -- a span that contains all RESERVABLE columns has all amounts
  pub amounts_in_span : (values : List Value) → length values ≡ length columns → amounts_of (take (start + many - start) (drop start shown)) (take many (drop start values)) ≡ amounts_of columns values
  amounts_in_span values long =
      ap (λ (cs : List Column). amounts_of cs (take many (drop start values))) spanned ∙ amounts_first many (drop start columns) (drop start values) none_left ∙ amounts_behind start columns values long none_before

  pub reservables_in_span : reservables (take (start + many - start) (drop start shown)) ≡ reservables columns
  reservables_in_span =
      let is_reservable : Column → Bool = λ c. c.reservable in
      let inside = take many (drop start columns) in
      let from_start : reservables columns ≡ reservables (drop start columns) = ap reservables (sym (take-append-drop start columns)) ∙ filter-append is_reservable (take start columns) (drop start columns) ∙ ap (λ (front : List Column). front ++ reservables (drop start columns)) none_before in
      let to_end : reservables (drop start columns) ≡ reservables inside = ap reservables (sym (take-append-drop many (drop start columns))) ∙ filter-append is_reservable inside (drop many (drop start columns)) ∙ ap (λ (rest : List Column). reservables inside ++ rest) none_left ∙ append-nil (reservables inside) in
      ap reservables spanned ∙ sym (from_start ∙ to_end)

-- ---- which columns

-- the RESERVABLE ones of the first i columns are in a span; an empty span begins at the first column
pub record Spans (columns : List Column) (i start many : ℕ) : Type 0 where
  pub within : start + many ≤ i
  pub inside : i ≤ length columns
  pub first : many ≡ 0 → start ≡ 0
  pub before : reservables (take start columns) ≡ []
  pub behind : reservables (drop (start + many) (take i columns)) ≡ []

module _ (columns : List Column) (i start many : ℕ) (so_far : Spans columns i start many) where
  module _ (within : i < length columns) where
    -- a column that is not RESERVABLE is skipped
    pub spans_passed : (column : Column) → column ≡ get_or columns i column → column.reservable ≡ false → Spans columns (i + 1) start many
    spans_passed column here plain =
        let front = take i columns in
        let long : length front ≡ i = length-take i columns ∙ omega (arith, within) in
        let more : take (i + 1) columns ≡ front ++ column ∷ [] = take_more columns i column within ∙ ap (λ (c : Column). front ++ c ∷ []) (sym here) in
        let rest : drop (start + many) (take (i + 1) columns) ≡ drop (start + many) front ++ column ∷ [] =
        ap (drop (start + many)) more ∙ drop-append-le (start + many) front (column ∷ []) (omega (arith, long, so_far.within)) in
        record {
          within = omega (arith, so_far.within);
          inside = omega (arith, within);
          first = so_far.first;
          before = so_far.before;
          behind = ap reservables rest ∙ filter-append (λ (c : Column). c.reservable) (drop (start + many) front) (column ∷ []) ∙ rw (so_far.behind, plain) refl;
        }

    -- the span extends to a RESERVABLE column
    pub spans_reached : (from so_many : ℕ) → (many ≡ 0 → from ≡ i) → (many ≢ 0 → from ≡ start) → from + so_many ≡ i + 1 → Spans columns (i + 1) from so_many
    spans_reached from so_many none some last =
        let least : 0 ≤ many = omega arith in
        let begun = elim (eq-or-lt_of_le least) as (λ _. (from ≤ i) × (reservables (take from columns) ≡ [])) [
          | inl e ↦
              let from_all : start + many ≡ 0 = omega (arith, e, so_far.first (sym e)) in
              let whole : drop (start + many) (take i columns) ≡ take i columns = ap (λ (n : ℕ). drop n (take i columns)) from_all in
              (omega (arith, none (sym e)), ap (λ (n : ℕ). reservables (take n columns)) (none (sym e)) ∙ ap reservables (sym whole) ∙ so_far.behind)
          | inr l ↦
              let same = some (λ e. omega (arith, l, e)) in
              (omega (arith, same, so_far.within), ap (λ (n : ℕ). reservables (take n columns)) same ∙ so_far.before)
        ] in
        record {
          within = omega (arith, last);
          inside = omega (arith, within);
          first = λ e. absurd (omega (arith, begun.0, last, e));
          before = begun.1;
          behind = ap reservables (drop_of_length-le (take (i + 1) columns) (omega (arith, last, length-take (i + 1) columns)));
        }

  -- at the end, the span contains all RESERVABLE columns; if there are none, it is the first column
  pub spans_all : length columns ≤ i → 0 < length columns → (reservables (drop (start + max many 1) columns) ≡ []) × (start + max many 1 ≤ length columns)
  spans_all past some =
      let least : 0 ≤ many = omega arith in
      let none : reservables (drop (start + many) columns) ≡ [] = ap (λ (cs : List Column). reservables (drop (start + many) cs)) (sym (take_all i columns past)) ∙ so_far.behind in
      elim (eq-or-lt_of_le least) [
        | inl e ↦
            let from_all : start + many ≡ 0 = omega (arith, e, so_far.first (sym e)) in
            let first_alone : start + max many 1 ≡ 1 = omega (arith, e, from_all) in
            let none_at_all : reservables columns ≡ [] = ap (λ (n : ℕ). reservables (drop n columns)) (sym from_all) ∙ none in
            (ap (λ (n : ℕ). reservables (drop n columns)) first_alone ∙ none_later columns none_at_all, omega (arith, first_alone, some))
        | inr l ↦
            let same : start + max many 1 ≡ start + many = omega (arith, l) in
            (ap (λ (n : ℕ). reservables (drop n columns)) same ∙ none, omega (arith, same, so_far.within, so_far.inside))
      ]
    where
      none_later : (columns : List Column) → reservables columns ≡ [] → reservables (drop 1 columns) ≡ []
      none_later [] none = refl
      none_later (first ∷ columns) none = elim (cases_Bool first.reservable) [ inl t ↦ absurd (let e = rw t at none in cc) | inr f ↦ rw f at none ]
