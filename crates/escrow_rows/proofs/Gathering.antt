-- Rows that are made of cells, one after another.
use Rattle.std.proofs.Common.{◌≡◌, ◌≢◌, ℕ, ◌+◌, ◌<◌, ◌≤◌, List, [], ◌∷◌, ◌++◌, flat_map, length, length-append, append_assoc, append-nil, refl, sym, ap, ap₂, ◌∙◌, subst, arith}
use Rattle.std.specs.List.{AllByRecursion}
use Rattle.std.proofs.lemmas.List.{flat_map_more, length-map, nil_from_length}
use Rattle.sqlite_value.specs.Order.{Row as SqlRow}
use Rattle.sqlite_trees.proofs.ListLemmas.{all-append, all_weaker}
use Rattle.escrow_num.specs.declared.value.Value.{Value}
use Rattle.escrow_rows.specs.declared.keyed_row.KeyedRow.{KeyedRow}
use Rattle.escrow_rows.specs.Gathered.{BeginNoRows, Extends, IsGathered, cell_at}
use Rattle.escrow_rows.specs.Image.{stored, CanBeHeld}
use Rattle.escrow_rows.specs.Placed.{keyed, placed}
use Rattle.escrow_rows.specs.Reading.{HaveValues, IsWhole, TakesAll, row_cells}
use Rattle.escrow_rows.proofs.KeyedCells.{keyed-push}
use Rattle.escrow_rows.proofs.PlacedCells.{length-placed, stored_same}

-- what holds of all items holds of the later ones
pub all_behind : {A : Type 0} (P : A → Type 0) (xs ys : List A) → AllByRecursion P (xs ++ ys) → AllByRecursion P ys
all_behind P [] ys h = h
all_behind P (x ∷ xs) ys h = all_behind P xs ys h.1

joined : {A : Type 0} (x y : A) (xs ys : List A) → x ≡ y → xs ≡ ys → x ∷ xs ≡ y ∷ ys
joined x y xs ys first others = cc

row_is : (row other : KeyedRow) → row.key ≡ other.key → row.values ≡ other.values → row ≡ other
row_is row other key values = ap₂ (λ (k : Value) (vs : List Value). let made : KeyedRow = record { key = k; values = vs } in made) key values

length-keyed : (key : Value) (place : ℕ) (vs : List Value) → length (keyed key place vs) ≡ length vs
length-keyed key place vs = length-map (placed place vs) (λ cell. stored key ∷ cell) ∙ length-placed place vs

pub have_values : (many : ℕ) (rows : List KeyedRow) → AllByRecursion (IsWhole many) rows → HaveValues many rows
have_values many rows whole = all_weaker (IsWhole many) (λ row. length row.values ≡ many) (λ row is. is.many_are) rows whole

-- ---- values and rows determined by their cells

-- if the cells of values begin with those of other values, the values begin with these
record IsSplit (key other : Value) (place : ℕ) (values first : List Value) (behind rest : List SqlRow) : Type 0 where
  more : List Value
  values_are : values ≡ first ++ more
  key_is : first ≢ [] → key ≡ other
  rest_is : keyed key (place + length first) more ++ behind ≡ rest

placed_at : (key : Value) (m n : ℕ) (values : List Value) (behind rest : List SqlRow) → m ≡ n → keyed key n values ++ behind ≡ rest → keyed key m values ++ behind ≡ rest
placed_at key m n values behind rest same is = ap (λ (place : ℕ). keyed key place values ++ behind) same ∙ is

split : (key other : Value) (place : ℕ) (values first : List Value) (behind rest : List SqlRow) → length first ≤ length values → keyed key place values ++ behind ≡ keyed other place first ++ rest
    → IsSplit key other place values first behind rest
split key other place values [] behind rest long e = record {
  more = values;
  values_are = refl;
  key_is = λ some. absurd (some refl);
  rest_is = placed_at key (place + 0) place values behind rest (omega arith) e;
}
split key other place [] (w ∷ ws) behind rest long e = absurd (omega (arith, long))
split key other place (v ∷ vs) (w ∷ ws) behind rest long e =
    let keys : stored key ≡ stored other = cc in
    let values : stored v ≡ stored w = cc in
    let later : keyed key (place + 1) vs ++ behind ≡ keyed other (place + 1) ws ++ rest = cc in
    let found = split key other (place + 1) vs ws behind rest (omega (arith, long)) later in
    record {
      more = found.more;
      values_are = joined v w vs (ws ++ found.more) (stored_same v w values) found.values_are;
      key_is = λ some. stored_same key other keys;
      rest_is = placed_at key (place + length (w ∷ ws)) (place + 1 + length ws) found.more behind rest (omega arith) found.rest_is;
    }

module _ (start : ℕ) where
  -- if the cells of rows begin with those of a row of the same length, the rows begin with this row
  row_first : (many : ℕ) (rows : List KeyedRow) (one : KeyedRow) (rest : List SqlRow) → 0 < many → length one.values ≡ many → HaveValues many rows → flat_map (row_cells start) rows ≡ row_cells start one ++ rest
      → (others : List KeyedRow) × (rows ≡ one ∷ others) × (flat_map (row_cells start) others ≡ rest)
  row_first many [] one rest some all have e =
      let none : 0 ≡ length (row_cells start one ++ rest) = ap length e in
      absurd (omega (arith, all, length-append (row_cells start one) rest, length-keyed one.key (start + 1) one.values))
  row_first many (row ∷ rows) one rest some all have e =
      let found = split row.key one.key (start + 1) row.values one.values (flat_map (row_cells start) rows) rest (omega (arith, have.0)) e in
      let long : length row.values ≡ length (one.values ++ found.more) = ap length found.values_are in
      let none : found.more ≡ [] = nil_from_length found.more (omega (arith, have.0, length-append one.values found.more)) in
      let values : row.values ≡ one.values = found.values_are ∙ ap (λ (vs : List Value). one.values ++ vs) none ∙ append-nil one.values in
      let key : row.key ≡ one.key = found.key_is (λ (e : one.values ≡ []). let short = ap length e in omega arith) in (
        rows,
        joined row one rows rows (row_is row one key values) refl,
        ap (λ (vs : List Value). keyed row.key (start + 1 + length one.values) vs ++ flat_map (row_cells start) rows) (sym none) ∙ found.rest_is,
      )

  -- fewer cells than one row has belong to no rows
  none_of : (many : ℕ) (rows : List KeyedRow) (cells : List SqlRow) → HaveValues many rows → length cells < many → flat_map (row_cells start) rows ≡ cells → rows ≡ []
  none_of many [] cells have short e = refl
  none_of many (row ∷ rows) cells have short e =
      let whole : length (row_cells start row ++ flat_map (row_cells start) rows) ≡ length cells = ap length e in
      absurd (omega (arith, have.0, short, whole, length-append (row_cells start row) (flat_map (row_cells start) rows), length-keyed row.key (start + 1) row.values))

  -- if rows begin with the cells of an incomplete row and one more cell, that cell is the row's next one
  next_of : (many : ℕ) (last : KeyedRow) (later : List KeyedRow) (rest : List SqlRow) (cell : SqlRow) → length last.values < many → AllByRecursion (IsWhole many) later
      → flat_map (row_cells start) later ≡ row_cells start last ++ cell ∷ rest → (new : KeyedRow) × Extends start last cell new
  next_of many last [] rest cell short whole e =
      let none : 0 ≡ length (row_cells start last ++ cell ∷ rest) = ap length e in
      absurd (omega (arith, length-append (row_cells start last) (cell ∷ rest)))
  next_of many last (row ∷ later) rest cell short whole e =
      let found = split row.key last.key (start + 1) row.values last.values (flat_map (row_cells start) later) (cell ∷ rest) (omega (arith, whole.0.many_are)) e in
      next found.more found.values_are found.key_is found.rest_is
    where
      next : (more : List Value) → row.values ≡ last.values ++ more → (last.values ≢ [] → row.key ≡ last.key) → keyed row.key (start + 1 + length last.values) more ++ flat_map (row_cells start) later ≡ cell ∷ rest
          → (new : KeyedRow) × Extends start last cell new
      next [] is key cells = let long = ap length is in absurd (omega (arith, whole.0.many_are, length-append last.values []))
      next (v ∷ vs) is key cells =
          let here : cell ≡ cell_at row.key (start + 1 + length last.values) (stored v) = cc in
          let new : KeyedRow = record { key = row.key; values = last.values ++ v ∷ [] } in (
            new,
            record {
              key_held = λ _. whole.0.key_held;
              key_is = key;
              value = v;
              value_held = (all_behind CanBeHeld last.values (v ∷ vs) (subst (AllByRecursion CanBeHeld) is whole.0.held)).0;
              values_are = refl;
              cell_is = here ∙ ap (λ n. cell_at row.key n (stored v)) (omega arith);
            },
          )

  -- the cells of a row with one more value
  extended : (old new : KeyedRow) (cell : SqlRow) → Extends start old cell new → row_cells start new ≡ row_cells start old ++ cell ∷ []
  extended old new cell more =
      let here : cell ≡ cell_at new.key (start + 1 + length old.values) (stored more.value) = more.cell_is ∙ ap (λ n. cell_at new.key n (stored more.value)) (omega arith) in
      ap (keyed new.key (start + 1)) more.values_are ∙ keyed-push new.key (start + 1) old.values more.value ∙ ap₂ (λ (cs : List SqlRow) (c : SqlRow). cs ++ c ∷ []) (same_key old.values more.key_is) (sym here)
    where
      same_key : (values : List Value) → (values ≢ [] → new.key ≡ old.key) → keyed new.key (start + 1) values ≡ keyed old.key (start + 1) values
      same_key [] same = refl
      same_key (v ∷ values) same = ap (λ (k : Value). keyed k (start + 1) (v ∷ values)) (same (λ e. cc))

  -- ---- a reader of rows that each have a given number of values

  module _ {T : Type 0} (HasTaken : T → T → List KeyedRow → Type 0) (many : ℕ) (first old : T) (last : KeyedRow) (cells : List SqlRow) (so_far : IsGathered HasTaken start many first old last cells) where
    some : 0 < many
    some = omega (arith, so_far.short)

    -- one more cell is the row's next one
    module _ (cell : SqlRow) (new : KeyedRow) (more : Extends start last cell new) where
      held_more : AllByRecursion CanBeHeld new.values
      held_more = subst (AllByRecursion CanBeHeld) (sym more.values_are) (all-append CanBeHeld last.values (more.value ∷ []) so_far.held (more.value_held, tt))

      cells_more : cells ++ cell ∷ [] ≡ flat_map (row_cells start) so_far.done ++ row_cells start new
      cells_more =
          ap (λ (cs : List SqlRow). cs ++ cell ∷ []) so_far.cells_are ∙ append_assoc (flat_map (row_cells start) so_far.done) (row_cells start last) (cell ∷ [])
          ∙ ap (λ (cs : List SqlRow). flat_map (row_cells start) so_far.done ++ cs) (sym (extended last new cell more))

      only_more : (rows : List KeyedRow) (rest : List SqlRow) → HaveValues many rows → flat_map (row_cells start) rows ≡ (cells ++ cell ∷ []) ++ rest
          → (later : List KeyedRow) × (rows ≡ so_far.done ++ later) × (flat_map (row_cells start) later ≡ row_cells start new ++ rest)
      only_more rows rest have e =
          let found = so_far.only rows (cell ∷ rest) have (e ∙ append_assoc cells (cell ∷ []) rest) in
          (found.0, found.1, found.2 ∙ sym (append_assoc (row_cells start last) (cell ∷ []) rest) ∙ ap (λ (cs : List SqlRow). cs ++ rest) (sym (extended last new cell more)))

      -- the row still lacks some values
      pub cell_more : length new.values ≢ many → IsGathered HasTaken start many first old new (cells ++ cell ∷ [])
      cell_more lacks = record {
        done = so_far.done;
        whole = so_far.whole;
        taken = so_far.taken;
        short = let one_more = ap length more.values_are in omega (arith, length-append last.values (more.value ∷ []), so_far.short);
        key_held = more.key_held so_far.key_held;
        held = held_more;
        cells_are = cells_more;
        only = only_more;
      }

      -- or the row is complete, and the taker takes it
      pub row_more : (now : T) (given none begun : KeyedRow) → length new.values ≡ many → given ≡ new → none ≡ begun → begun.values ≡ [] → CanBeHeld begun.key
          → ((begun : T) (rows : List KeyedRow) → HasTaken begun old rows → HasTaken begun now (rows ++ given ∷ [])) → IsGathered HasTaken start many first now none (cells ++ cell ∷ [])
      row_more now given none begun all same as_begun empty key_held takes =
          let is : none.values ≡ [] = ap (λ (r : KeyedRow). r.values) as_begun ∙ empty in
          let done = so_far.done ++ new ∷ [] in
          let no_cells : row_cells start none ≡ [] = ap (keyed none.key (start + 1)) is in
          record {
            done = done;
            whole = all-append (IsWhole many) so_far.done (new ∷ []) so_far.whole (record { many_are = all; key_held = more.key_held so_far.key_held; held = held_more }, tt);
            taken = λ begun before has. subst (HasTaken begun now) (append_assoc before so_far.done (given ∷ []) ∙ ap (λ (r : KeyedRow). before ++ (so_far.done ++ r ∷ [])) same) (takes begun (before ++ so_far.done) (so_far.taken begun before has));
            short = let no_values = ap length is in omega (arith, some);
            key_held = subst (λ (r : KeyedRow). CanBeHeld r.key) (sym as_begun) key_held;
            held = subst (AllByRecursion CanBeHeld) (sym is) tt;
            cells_are = cells_more ∙ flat_map_more (row_cells start) [] so_far.done new ∙ sym (append-nil (flat_map (row_cells start) done)) ∙ ap (λ (cs : List SqlRow). flat_map (row_cells start) done ++ cs) (sym no_cells);
            only = λ rows rest have e.
                let found = only_more rows rest have e in
                let behind = all_behind (λ (row : KeyedRow). length row.values ≡ many) so_far.done found.0 (subst (HaveValues many) found.1 have) in
                let others = row_first many found.0 new rest some all behind found.2 in
                (others.0, found.1 ∙ ap (λ (rs : List KeyedRow). so_far.done ++ rs) others.1 ∙ sym (append_assoc so_far.done (new ∷ []) others.0), others.2 ∙ ap (λ (cs : List SqlRow). cs ++ rest) (sym no_cells));
          }

    -- no rows begin with any other cell
    pub no_rows : (cell : SqlRow) → ((new : KeyedRow) → Extends start last cell new → ⊥) → BeginNoRows start many (cells ++ cell ∷ [])
    no_rows cell other = λ rows rest whole e.
        let found = so_far.only rows (cell ∷ rest) (have_values many rows whole) (e ∙ append_assoc cells (cell ∷ []) rest) in
        let next = next_of many last found.0 rest cell so_far.short (all_behind (IsWhole many) so_far.done found.0 (subst (AllByRecursion (IsWhole many)) found.1 whole)) found.2 in
        other next.0 next.1

    -- if the taker has enough, it has taken all of any rows whose cells begin with these
    pub takes_all : ((begun : T) (rows more : List KeyedRow) → HasTaken begun old rows → HasTaken begun old (rows ++ more)) → TakesAll HasTaken start many first cells old
    takes_all done rows rest have is begun before has =
        let found = so_far.only rows rest have is in
        subst (HasTaken begun old) (append_assoc before so_far.done found.0 ∙ ap (λ (rs : List KeyedRow). before ++ rs) (sym found.1)) (done begun (before ++ so_far.done) found.0 (so_far.taken begun before has))

    -- the cells belong to no other rows; if the last row lacks some values, they belong to no rows at all
    pub all_made : (rows : List KeyedRow) → HaveValues many rows → cells ≡ flat_map (row_cells start) rows → (rows ≡ so_far.done) × (last.values ≡ [])
    all_made rows have is =
        let found = so_far.only rows [] have (sym is ∙ sym (append-nil cells)) in
        let behind = all_behind (λ (row : KeyedRow). length row.values ≡ many) so_far.done found.0 (subst (HaveValues many) found.1 have) in
        let own : flat_map (row_cells start) found.0 ≡ row_cells start last = found.2 ∙ append-nil (row_cells start last) in
        let long = length-keyed last.key (start + 1) last.values in
        let none = none_of many found.0 (row_cells start last) behind (omega (arith, so_far.short)) own in
        let no_cells : 0 ≡ length (row_cells start last) = ap length (sym (ap (flat_map (row_cells start)) none) ∙ own) in
        (found.1 ∙ ap (λ (rs : List KeyedRow). so_far.done ++ rs) none ∙ append-nil so_far.done, nil_from_length last.values (omega (arith, long)))
