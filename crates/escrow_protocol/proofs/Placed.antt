-- Rows that clients insert and delete, and reservations whose rows exist.
use Rattle.std.specs.Prelude.{◌≡◌, ℕ, ℤ, Bool, true, false, cond, not, Option, Some, None, option_map, IsSome, List, [], ◌∷◌, ◌++◌, length, map, bytes_eq}
use Rattle.std.specs.List.{AllByRecursion}
use Rattle.std.specs.Ordering.{is_lt}
use Rattle.std.proofs.Common.{inl, inr, refl, sym, ap, subst, ◌∙◌}
use Rattle.std.proofs.lemmas.Bool.{cond_both, false_from_ne_true}
use Rattle.escrow_num.specs.declared.reservation.Reservation.{Reservation}
use Rattle.escrow_num.specs.declared.row.Row.{Row}
use Rattle.escrow_num.specs.declared.value.RowName.{RowName}
use Rattle.escrow_num.specs.Order.{row_cmp, same_row}
use Rattle.escrow_num.proofs.Items.{Has}
use Rattle.escrow_num.proofs.Orders.{row_same}
use Rattle.escrow_schema.specs.Rows.{row_named, rows_of, changes_to, row_after, applied, with_row, without_row}
use Rattle.escrow_machine.specs.Valid.{HasRow}
use Rattle.escrow_machine.proofs.Applying.{applied_none}
use Rattle.escrow_machine.proofs.Changes.{all_changed_none}
use Rattle.escrow_machine.proofs.Kept.{find_filter}
use Rattle.escrow_machine.proofs.Lengths.{length-filter_map}
use Rattle.escrow_protocol.specs.Protocol.{Change, reserved, done, all_done}
use Rattle.escrow_protocol.proofs.Applied.{applied_append, named_after, other_row}

-- CHANGES IN ORDER

pub all_done_append : (rows : List Row) (first more : List Change) → all_done rows (first ++ more) ≡ all_done (all_done rows first) more
all_done_append rows [] more = refl
all_done_append rows (change ∷ first) more = all_done_append (done change rows) first more

pub all_done_reserved : (rows : List Row) (notes : List Reservation) → all_done rows (map reserved notes) ≡ applied rows notes
all_done_reserved rows [] = sym (applied_none rows)
all_done_reserved rows (r ∷ notes) = all_done_reserved (applied rows (r ∷ [])) notes ∙ sym (applied_append rows (r ∷ []) notes)

-- ROWS THAT ARE FOUND

some_back : (f : Row → Row) (o : Option Row) → IsSome (option_map f o) → IsSome o
some_back f None h = h
some_back f (Some row) h = h

some_image : (f : Row → Row) (o : Option Row) → IsSome o → IsSome (option_map f o)
some_image f None h = h
some_image f (Some row) h = h

none_image : (f : Row → Row) (o : Option Row) → option_map f o ≡ None → o ≡ None
none_image f None e = refl
none_image f (Some row) e = absurd (cc)

pub has_row_after : (rows : List Row) (chosen : List Reservation) (r : Reservation) → HasRow rows r → HasRow (applied rows chosen) r
has_row_after rows chosen r h = subst (λ (o : Option Row). IsSome o) (sym (named_after rows chosen r.row)) (some_image (row_after chosen) (row_named rows r.row) h)

pub has_row_before : (rows : List Row) (chosen : List Reservation) (r : Reservation) → HasRow (applied rows chosen) r → HasRow rows r
has_row_before rows chosen r h = some_back (row_after chosen) (row_named rows r.row) (subst (λ (o : Option Row). IsSome o) (named_after rows chosen r.row) h)

pub none_after : (rows : List Row) (chosen : List Reservation) (key : RowName) → row_named rows key ≡ None → row_named (applied rows chosen) key ≡ None
none_after rows chosen key e = named_after rows chosen key ∙ ap (option_map (row_after chosen)) e

pub none_before : (rows : List Row) (chosen : List Reservation) (key : RowName) → row_named (applied rows chosen) key ≡ None → row_named rows key ≡ None
none_before rows chosen key e = none_image (row_after chosen) (row_named rows key) (sym (named_after rows chosen key) ∙ e)

pub length-rows_of : (rows : List Row) (chosen : List Reservation) (table : List ℕ) → length (rows_of (applied rows chosen) table) ≡ length (rows_of rows table)
length-rows_of rows chosen table = length-filter_map (λ (row : Row). bytes_eq row.name.table table) (row_after chosen) (λ _. refl) rows

-- a reservation whose row exists is not of a new row
pub not_of_new : (rows : List Row) (row : Row) (r : Reservation) → row_named rows row.name ≡ None → HasRow rows r → same_row row.name r.row ≡ false
not_of_new rows row r new stands =
    false_from_ne_true (same_row row.name r.row) (λ t.
    let none : row_named rows r.row ≡ None = subst (λ (n : RowName). row_named rows n ≡ None) (row_same row.name r.row t) new in
    let nothing : IsSome {T = Row} None = subst (λ (o : Option Row). IsSome o) none stands in
    absurd (cc))

-- INSERT

-- the row in front of another, or behind it
put_mapped : (f : Row → Row) (b : Bool) (row x : Row) (rest put : List Row) → f row ≡ row → map f put ≡ with_row row (map f rest)
    → map f (cond b (row ∷ x ∷ rest) (x ∷ put)) ≡ cond b (row ∷ f x ∷ map f rest) (f x ∷ with_row row (map f rest))
put_mapped f true row x rest put same later = ap (λ (y : Row). y ∷ f x ∷ map f rest) same
put_mapped f false row x rest put same later = ap (λ (ys : List Row). f x ∷ ys) later

pub applied_insert : (row : Row) (rows : List Row) (chosen : List Reservation) → ((r : Reservation) → Has chosen r → same_row row.name r.row ≡ false)
    → applied (with_row row rows) chosen ≡ with_row row (applied rows chosen)
applied_insert row rows chosen others = go rows
  where
    same : row_after chosen row ≡ row
    same = ap (λ (amounts : List ℤ). record row { amounts = amounts }) (all_changed_none (changes_to row) row.amounts chosen (λ r h. other_row row r (others r h)))

    go : (xs : List Row) → applied (with_row row xs) chosen ≡ with_row row (applied xs chosen)
    go [] = ap (λ (x : Row). x ∷ []) same
    go (x ∷ rest) = put_mapped (row_after chosen) (is_lt (row_cmp row.name x.name)) row x rest (with_row row rest) same (go rest)

pub has_inserted : (row : Row) (rows : List Row) → Has (with_row row rows) row
has_inserted row [] = inl refl
has_inserted row (x ∷ rest) =
    cond_both (is_lt (row_cmp row.name x.name)) (row ∷ x ∷ rest) (x ∷ with_row row rest) (λ ys. Has ys row) (λ _. inl refl) (λ _. inr (has_inserted row rest))

pub all_inserted : (P : Row → Type 0) (row : Row) (rows : List Row) → P row → AllByRecursion P rows → AllByRecursion P (with_row row rows)
all_inserted P row [] here all = (here, tt)
all_inserted P row (x ∷ rest) here all =
    cond_both (is_lt (row_cmp row.name x.name)) (row ∷ x ∷ rest) (x ∷ with_row row rest) (AllByRecursion P) (λ _. (here, all)) (λ _. (all.0, all_inserted P row rest here all.1))

some_either : (b : Bool) (x : Row) (o : Option Row) → IsSome o → IsSome (cond b (Some x) o)
some_either true x o h = refl
some_either false x o h = h

some_more : (b : Bool) (x : Row) (o more : Option Row) → (IsSome o → IsSome more) → IsSome (cond b (Some x) o) → IsSome (cond b (Some x) more)
some_more true x o more f h = refl
some_more false x o more f h = f h

pub found_inserted : (row : Row) (rows : List Row) (r : Reservation) → HasRow rows r → HasRow (with_row row rows) r
found_inserted row [] r h = some_either (same_row row.name r.row) row None h
found_inserted row (x ∷ rest) r h =
    cond_both (is_lt (row_cmp row.name x.name)) (row ∷ x ∷ rest) (x ∷ with_row row rest) (λ ys. HasRow ys r)
    (λ _. some_either (same_row row.name r.row) row (row_named (x ∷ rest) r.row) h)
    (λ _. some_more (same_row x.name r.row) x (row_named rest r.row) (row_named (with_row row rest) r.row) (found_inserted row rest r) h)

-- DELETE

left_mapped : (f : Row → Row) (b : Bool) (x : Row) (left more : List Row) → map f left ≡ more → map f (cond b (x ∷ left) left) ≡ cond b (f x ∷ more) more
left_mapped f true x left more same = ap (λ (ys : List Row). f x ∷ ys) same
left_mapped f false x left more same = same

pub applied_delete : (key : RowName) (rows : List Row) (chosen : List Reservation) → applied (without_row key rows) chosen ≡ without_row key (applied rows chosen)
applied_delete key [] chosen = refl
applied_delete key (x ∷ rest) chosen =
    left_mapped (row_after chosen) (not (same_row x.name key)) x (without_row key rest) (without_row key (applied rest chosen)) (applied_delete key rest chosen)

pub found_deleted : (key : RowName) (rows : List Row) (r : Reservation) → same_row r.row key ≡ false → HasRow rows r → HasRow (without_row key rows) r
found_deleted key rows r differs h =
    subst (λ (o : Option Row). IsSome o) (sym (find_filter (λ (x : Row). same_row x.name r.row) (λ (x : Row). not (same_row x.name key)) rows
    (λ x same. ap not (ap (λ (n : RowName). same_row n key) (row_same x.name r.row same) ∙ differs)))) h
