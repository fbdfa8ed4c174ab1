-- The amounts of rows after reservations are applied to them.
use Rattle.std.specs.Prelude.{◌≡◌, ◌≤◌, ℕ, zero, suc, ℤ, ◌+ℤ◌, pos, Bool, true, false, cond, Option, Some, None, IsSome, IsSomeAnd, IsTrue, unwrap_or, List, [], ◌∷◌, length, map, slice_index_or}
use Rattle.std.specs.Ordering.{is_lt}
use Rattle.std.proofs.Common.{inl, inr, refl, sym, ap, ap₂, subst, ◌∙◌, arith}
use Rattle.std.proofs.lemmas.Bool.{false_from_ne_true}
use Rattle.std.proofs.lemmas.Int.{ints}
use Rattle.std.proofs.lemmas.List.{length-map}
use Rattle.escrow_num.specs.declared.reservation.Reservation.{Reservation}
use Rattle.escrow_num.specs.declared.row.Row.{Row}
use Rattle.escrow_num.specs.declared.value.RowName.{RowName}
use Rattle.escrow_num.specs.Ascending.{IsAscending}
use Rattle.escrow_num.specs.Order.{same_row, row_cmp}
use Rattle.escrow_num.specs.Reservation.{deltas}
use Rattle.escrow_num.proofs.Ascending.{ascending_map}
use Rattle.escrow_num.proofs.Items.{Has, all_has, find_has}
use Rattle.escrow_num.proofs.Orders.{by_row, row_total, before_itself, row_same}
use Rattle.escrow_checks.specs.Form.{changed, all_changed}
use Rattle.escrow_checks.proofs.FormLemmas.{length-all_changed}
use Rattle.escrow_schema.specs.declared.table.TableDef.{TableDef}
use Rattle.escrow_schema.specs.Catalog.{table_named}
use Rattle.escrow_schema.specs.Column.{reservables}
use Rattle.escrow_schema.specs.Fit.{IsRowOf}
use Rattle.escrow_schema.specs.Rows.{row_named, row_before, changes_to, row_after, applied, HasTable}
use Rattle.escrow_machine.specs.State.{State}
use Rattle.escrow_machine.specs.Valid.{IsValid, IsReservationIn, HasRow}
use Rattle.escrow_machine.proofs.Applying.{applied_none, changes_own}
use Rattle.escrow_machine.proofs.Changes.{changed_nil}
use Rattle.escrow_accounts.specs.Book.{Move, put, committed, amount_at, change_at, total, worth, balance}

-- AMOUNTS

no_change : (a : ℤ) → a ≡ a +ℤ pos 0
no_change a = omega (arith, ints)

-- an amount after changes, if there are no more of these than columns
at_changed : (amounts changes : List ℤ) (column : ℕ) → length changes ≤ length amounts
    → slice_index_or (changed amounts changes) column (pos 0) ≡ slice_index_or amounts column (pos 0) +ℤ slice_index_or changes column (pos 0)
at_changed [] [] column few = refl
at_changed [] (c ∷ changes) column few = absurd (omega arith)
at_changed (a ∷ rest) [] column few = no_change (slice_index_or (a ∷ rest) column (pos 0))
at_changed (a ∷ rest) (c ∷ changes) zero few = refl
at_changed (a ∷ rest) (c ∷ changes) (suc column) few = at_changed rest changes column (omega arith)

-- ONE RESERVATION

-- a reservation's row is among the rows, and has a column for each change
pub record Takes (rows : List Row) (r : Reservation) : Type 0 where
  pub row : Row
  pub has : Has rows row
  pub same : same_row row.name r.row ≡ true
  pub few : length r.changes ≤ length row.amounts

-- it changes no other row
others_stay : (rows : List Row) (r : Reservation) → ((row : Row) → Has rows row → same_row row.name r.row ≡ false) → applied rows (r ∷ []) ≡ rows
others_stay [] r others = refl
others_stay (row ∷ rows) r others =
    let none : changes_to row r ≡ [] = rw (others row (inl refl)) refl in
    let amounts : changed row.amounts (changes_to row r) ≡ row.amounts = ap (changed row.amounts) none ∙ changed_nil row.amounts in
    ap₂ (λ (zs : List ℤ) (rest : List Row). (record row { amounts = zs }) ∷ rest) amounts (others_stay rows r (λ x h. others x (inr h)))

-- rows in order have different names
other_name : (a b : Row) (r : Reservation) → IsTrue (row_before a b) → same_row a.name r.row ≡ true → same_row b.name r.row ≡ false
other_name a b r before same = false_from_ne_true (same_row b.name r.row) (λ also.
    let names : a.name ≡ b.name = row_same a.name r.row same ∙ sym (row_same b.name r.row also) in
    let at : row_before a a ≡ row_before a b = ap (λ (n : RowName). is_lt (row_cmp a.name n)) names in
    let itself : row_before a a ≡ false = before_itself by_row row_total a in
    absurd (cc))

other_name_behind : (a b : Row) (r : Reservation) → IsTrue (row_before a b) → same_row b.name r.row ≡ true → same_row a.name r.row ≡ false
other_name_behind a b r before same = false_from_ne_true (same_row a.name r.row) (λ also.
    let other : same_row b.name r.row ≡ false = other_name a b r before also in absurd (cc))

first_changed : (b : Bool) (x y z t u : ℤ) → z ≡ x +ℤ y → u ≡ t → cond b z (pos 0) +ℤ u ≡ (cond b x (pos 0) +ℤ t) +ℤ cond b y (pos 0)
first_changed true x y z t u e same = omega (arith, ints)
first_changed false x y z t u e same = omega (arith, ints)

later_changed : (a t u w : ℤ) → u ≡ t +ℤ w → a +ℤ u ≡ (a +ℤ t) +ℤ w
later_changed a t u w e = omega (arith, ints)

-- the row that a reservation changes
own_amount : (column : ℕ) (row : Row) (r : Reservation) → same_row row.name r.row ≡ true → length r.changes ≤ length row.amounts
    → amount_at column (row_after (r ∷ []) row) ≡ amount_at column row +ℤ change_at column r
own_amount column row r same few =
    let own : changes_to row r ≡ deltas r.changes = changes_own row.name r same in
    let within : length (deltas r.changes) ≤ length row.amounts = omega (arith, length-map r.changes (λ (c : Option ℤ). unwrap_or c (pos 0))) in
    ap (λ (zs : List ℤ). slice_index_or (changed row.amounts zs) column (pos 0)) own ∙ at_changed row.amounts (deltas r.changes) column within

first_applied : (chosen : RowName → Bool) (column : ℕ) (r : Reservation) (row : Row) (rows : List Row) → IsAscending row_before (row ∷ rows) → (takes : Takes (row ∷ rows) r)
    → (Takes rows r → total chosen column (applied rows (r ∷ [])) ≡ total chosen column rows +ℤ worth chosen column (committed r)) → Has (row ∷ rows) takes.row
    → total chosen column (applied (row ∷ rows) (r ∷ [])) ≡ total chosen column (row ∷ rows) +ℤ worth chosen column (committed r)
first_applied chosen column r row rows order takes later (inl is) =
    let same : same_row row.name r.row ≡ true = subst (λ (x : Row). same_row x.name r.row ≡ true) (sym is) takes.same in
    let few : length r.changes ≤ length row.amounts = subst (λ (x : Row). length r.changes ≤ length x.amounts) (sym is) takes.few in
    let rest : applied rows (r ∷ []) ≡ rows =
    others_stay rows r (λ x h. other_name row x r (all_has (λ (y : Row). IsTrue (row_before row y)) rows order.0 x h) same) in
    first_changed (chosen row.name) (amount_at column row) (change_at column r) (amount_at column (row_after (r ∷ []) row))
    (total chosen column rows) (total chosen column (applied rows (r ∷ []))) (own_amount column row r same few) (ap (total chosen column) rest)
    ∙ ap (λ (n : RowName). total chosen column (row ∷ rows) +ℤ cond (chosen n) (change_at column r) (pos 0)) (row_same row.name r.row same)
first_applied chosen column r row rows order takes later (inr h) =
    let before : IsTrue (row_before row takes.row) = all_has (λ (y : Row). IsTrue (row_before row y)) rows order.0 takes.row h in
    let other : same_row row.name r.row ≡ false = other_name_behind row takes.row r before takes.same in
    let none : changes_to row r ≡ [] = rw other refl in
    let amounts : changed row.amounts (changes_to row r) ≡ row.amounts = ap (changed row.amounts) none ∙ changed_nil row.amounts in
    let rest : total chosen column (applied rows (r ∷ [])) ≡ total chosen column rows +ℤ worth chosen column (committed r) =
    later (record { row = takes.row; has = h; same = takes.same; few = takes.few }) in
    ap (λ (zs : List ℤ). worth chosen column (put (record row { amounts = zs })) +ℤ total chosen column (applied rows (r ∷ []))) amounts
    ∙ later_changed (worth chosen column (put row)) (total chosen column rows) (total chosen column (applied rows (r ∷ []))) (worth chosen column (committed r)) rest

one_applied : (chosen : RowName → Bool) (column : ℕ) (r : Reservation) (rows : List Row) → IsAscending row_before rows → Takes rows r
    → total chosen column (applied rows (r ∷ [])) ≡ total chosen column rows +ℤ worth chosen column (committed r)
one_applied chosen column r [] order takes = absurd takes.has
one_applied chosen column r (row ∷ rows) order takes =
    first_applied chosen column r row rows order takes (λ t. one_applied chosen column r rows order.1 t) takes.has

-- SEVERAL RESERVATIONS

first_then : (rows : List Row) (r : Reservation) (rs : List Reservation) → applied rows (r ∷ rs) ≡ applied (applied rows (r ∷ [])) rs
first_then [] r rs = refl
first_then (row ∷ rows) r rs = ap (λ (rest : List Row). row_after (r ∷ rs) row ∷ rest) (first_then rows r rs)

has_mapped : {A B : Type 0} (f : A → B) (xs : List A) (x : A) → Has xs x → Has (map f xs) (f x)
has_mapped f [] x h = absurd h
has_mapped f (y ∷ ys) x (inl e) = inl (ap f e)
has_mapped f (y ∷ ys) x (inr h) = inr (has_mapped f ys x h)

takes_after : (rows : List Row) (q r : Reservation) → Takes rows r → Takes (applied rows (q ∷ [])) r
takes_after rows q r takes =
    let row : Row = takes.row in
    let same : length (all_changed row.amounts (map (changes_to row) (q ∷ []))) ≡ length row.amounts =
    length-all_changed row.amounts (map (changes_to row) (q ∷ [])) in
    let few : length r.changes ≤ length row.amounts = takes.few in
    record {
      row = row_after (q ∷ []) row;
      has = has_mapped (row_after (q ∷ [])) rows row takes.has;
      same = takes.same;
      few = subst (λ (n : ℕ). length r.changes ≤ n) (sym same) few;
    }

then_more : (a b c w v : ℤ) → a ≡ b +ℤ v → b ≡ c +ℤ w → a ≡ c +ℤ (w +ℤ v)
then_more a b c w v first second = omega (arith, ints)

pub all_applied : (chosen : RowName → Bool) (column : ℕ) (rs : List Reservation) (rows : List Row) → IsAscending row_before rows
    → ((r : Reservation) → Has rs r → Takes rows r)
    → total chosen column (applied rows rs) ≡ total chosen column rows +ℤ balance chosen column (map committed rs)
all_applied chosen column [] rows order takes = ap (total chosen column) (applied_none rows) ∙ no_change (total chosen column rows)
all_applied chosen column (r ∷ rs) rows order takes =
    let once : List Row = applied rows (r ∷ []) in
    ap (total chosen column) (first_then rows r rs)
    ∙ then_more (total chosen column (applied once rs)) (total chosen column once) (total chosen column rows)
    (worth chosen column (committed r)) (balance chosen column (map committed rs))
    (all_applied chosen column rs once (ascending_map row_before (row_after (r ∷ [])) (λ _ _. refl) rows order) (λ q h. takes_after rows r q (takes q (inr h))))
    (one_applied chosen column r rows order (takes r (inl refl)))

-- IN A VALID STATE

-- a row and a reservation of one table have as many amounts and changes
same_columns : (o : Option TableDef) (row : Row) (r : Reservation) → IsSomeAnd o (λ table. IsRowOf table row)
    → IsSomeAnd o (λ table. length r.changes ≡ length (reservables table.columns)) → length r.changes ≤ length row.amounts
same_columns None row r is_row changes = absurd is_row
same_columns (Some table) row r is_row changes =
    let amounts : length row.amounts ≡ length (reservables table.columns) = is_row.amounts in
    omega arith

found_takes : (s : State) → IsValid s → (r : Reservation) → Has s.reservations r → (o : Option Row) → row_named s.rows r.row ≡ o → IsSome o → Takes s.rows r
found_takes s valid r h None named is = absurd (cc)
found_takes s valid r h (Some row) named is =
    let found : Has s.rows row × (same_row row.name r.row ≡ true) = find_has (λ (x : Row). same_row x.name r.row) s.rows row named in
    let names : row.name ≡ r.row = row_same row.name r.row found.1 in
    let of_table = all_has (HasTable s.catalog) s.rows valid.safe_rows.tables row found.0 in
    let known = all_has (IsReservationIn s.catalog s.next_id) s.reservations valid.orderly.reservations_in r h in
    record {
      row = row;
      has = found.0;
      same = found.1;
      few = same_columns (table_named s.catalog row.name.table) row r of_table
          (subst (λ (n : RowName). IsSomeAnd (table_named s.catalog n.table) (λ table. length r.changes ≡ length (reservables table.columns))) (sym names) known.changes);
    }

-- each open reservation has its row
pub open_takes : (s : State) → IsValid s → (r : Reservation) → Has s.reservations r → Takes s.rows r
open_takes s valid r h = found_takes s valid r h (row_named s.rows r.row) refl (all_has (HasRow s.rows) s.reservations valid.safe_rows.reserved_rows r h)
