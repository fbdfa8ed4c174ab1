-- Reservations applied to rows: in parts, and of one row.
use Rattle.std.specs.Prelude.{◌≡◌, ℤ, Bool, true, false, cond, ◌||◌, ◌&&◌, Option, Some, None, option_map, List, [], ◌∷◌, ◌++◌, map, filter}
use Rattle.std.specs.List.{AllByRecursion}
use Rattle.std.proofs.Common.{refl, sym, ap, ap₂, subst, ◌∙◌}
use Rattle.std.proofs.lemmas.Bool.{false_from_ne_true}
use Rattle.escrow_num.specs.declared.reservation.Reservation.{Reservation}
use Rattle.escrow_num.specs.declared.row.Row.{Row}
use Rattle.escrow_num.specs.declared.value.RowName.{RowName}
use Rattle.escrow_num.specs.Order.{same_row}
use Rattle.escrow_num.proofs.Items.{Has, has_filter, find_has}
use Rattle.escrow_num.proofs.Orders.{row_same, same_row_itself}
use Rattle.escrow_checks.specs.Form.{changed, all_changed}
use Rattle.escrow_schema.specs.declared.table.TableDef.{TableDef}
use Rattle.escrow_schema.specs.Rows.{row_named, changes_to, row_after, applied, MeetsChecks}
use Rattle.escrow_machine.proofs.Changes.{all_changed_later, all_changed_none, changed_nil}
use Rattle.escrow_machine.proofs.Lengths.{find_map}

-- reservations that are applied in two lists
changes_append : {A : Type 0} (f : A → List ℤ) (amounts : List ℤ) (xs ys : List A)
    → all_changed amounts (map f (xs ++ ys)) ≡ all_changed (all_changed amounts (map f xs)) (map f ys)
changes_append f amounts [] ys = refl
changes_append f amounts (x ∷ xs) ys = changes_append f (changed amounts (f x)) xs ys

pub applied_append : (rows : List Row) (xs ys : List Reservation) → applied rows (xs ++ ys) ≡ applied (applied rows xs) ys
applied_append [] xs ys = refl
applied_append (row ∷ rows) xs ys =
    ap₂ (λ (amounts : List ℤ) (rest : List Row). (record row { amounts = amounts }) ∷ rest)
    (changes_append (changes_to row) row.amounts xs ys) (applied_append rows xs ys)

-- the changes of the items that pass one of two tests, in two parts, are those of the items that pass either
parts_kept : {A : Type 0} (f : A → List ℤ) (x : A) (a b c : Bool) (first second whole : List A) → c ≡ (a || b) → (a && b) ≡ false
    → ((amounts : List ℤ) → all_changed (all_changed amounts (map f first)) (map f second) ≡ all_changed amounts (map f whole))
    → (amounts : List ℤ) → all_changed (all_changed amounts (map f (cond a (x ∷ first) first))) (map f (cond b (x ∷ second) second)) ≡ all_changed amounts (map f (cond c (x ∷ whole) whole))
parts_kept f x true true c first second whole either apart rest amounts = absurd (cc)
parts_kept f x true false c first second whole either apart rest amounts = rw either (rest (changed amounts (f x)))
parts_kept f x false true c first second whole either apart rest amounts =
    rw either (ap (λ (zs : List ℤ). all_changed zs (map f second)) (sym (all_changed_later amounts (f x) (map f first))) ∙ rest (changed amounts (f x)))
parts_kept f x false false c first second whole either apart rest amounts = rw either (rest amounts)

changes_parts : {A : Type 0} (f : A → List ℤ) (a b c : A → Bool) → ((x : A) → c x ≡ (a x || b x)) → ((x : A) → (a x && b x) ≡ false)
    → (xs : List A) (amounts : List ℤ) → all_changed (all_changed amounts (map f (filter a xs))) (map f (filter b xs)) ≡ all_changed amounts (map f (filter c xs))
changes_parts f a b c either apart [] amounts = refl
changes_parts f a b c either apart (x ∷ xs) amounts =
    parts_kept f x (a x) (b x) (c x) (filter a xs) (filter b xs) (filter c xs) (either x) (apart x) (changes_parts f a b c either apart xs) amounts

-- reservations that are applied in two parts
pub applied_parts : (a b c : Reservation → Bool) → ((r : Reservation) → c r ≡ (a r || b r)) → ((r : Reservation) → (a r && b r) ≡ false)
    → (reservations : List Reservation) (rows : List Row) → applied (applied rows (filter a reservations)) (filter b reservations) ≡ applied rows (filter c reservations)
applied_parts a b c either apart reservations [] = refl
applied_parts a b c either apart reservations (row ∷ rows) =
    ap₂ (λ (amounts : List ℤ) (rest : List Row). (record row { amounts = amounts }) ∷ rest)
    (changes_parts (changes_to row) a b c either apart reservations row.amounts) (applied_parts a b c either apart reservations rows)

-- A FOLD OF A KEY

-- the reservations of other rows change nothing
none_kept : {A : Type 0} (f : A → List ℤ) (x : A) (b : Bool) (kept whole : List A) → (b ≡ false → f x ≡ [])
    → ((amounts : List ℤ) → all_changed amounts (map f kept) ≡ all_changed amounts (map f whole))
    → (amounts : List ℤ) → all_changed amounts (map f (cond b (x ∷ kept) kept)) ≡ all_changed amounts (map f (x ∷ whole))
none_kept f x true kept whole none rest amounts = rest (changed amounts (f x))
none_kept f x false kept whole none rest amounts =
    rest amounts ∙ sym (ap (λ (zs : List ℤ). all_changed zs (map f whole)) (ap (changed amounts) (none refl) ∙ changed_nil amounts))

changes_kept : {A : Type 0} (f : A → List ℤ) (p : A → Bool) → ((x : A) → p x ≡ false → f x ≡ []) → (xs : List A) (amounts : List ℤ)
    → all_changed amounts (map f (filter p xs)) ≡ all_changed amounts (map f xs)
changes_kept f p none [] amounts = refl
changes_kept f p none (x ∷ xs) amounts = none_kept f x (p x) (filter p xs) xs (none x) (changes_kept f p none xs) amounts

-- the reservations of a key are all that the row of that key has, and they change no other row
pub other_row : (row : Row) (r : Reservation) → same_row row.name r.row ≡ false → changes_to row r ≡ []
other_row row r differs = rw differs refl

pub own_row_folded : (row : Row) (key : RowName) (journal : List Reservation) → same_row key row.name ≡ true
    → row_after (filter (λ (r : Reservation). same_row key r.row) journal) row ≡ row_after journal row
own_row_folded row key journal same =
    let names : key ≡ row.name = row_same key row.name same in
    ap (λ (amounts : List ℤ). record row { amounts = amounts })
    (changes_kept (changes_to row) (λ (r : Reservation). same_row key r.row)
    (λ r e. other_row row r (subst (λ (n : RowName). same_row n r.row ≡ false) names e)) journal row.amounts)

pub other_row_folded : (row : Row) (key : RowName) (journal : List Reservation) → same_row key row.name ≡ false
    → row_after (filter (λ (r : Reservation). same_row key r.row) journal) row ≡ row
other_row_folded row key journal differs =
    ap (λ (amounts : List ℤ). record row { amounts = amounts })
    (all_changed_none (changes_to row) row.amounts (filter (λ (r : Reservation). same_row key r.row) journal)
    (λ r h. other_row row r (false_from_ne_true (same_row row.name r.row) (λ same.
    let of_key : key ≡ r.row = row_same key r.row (has_filter (λ (x : Reservation). same_row key x.row) journal r h).1 in
    let names : row.name ≡ r.row = row_same row.name r.row same in
    let both : same_row key row.name ≡ true = subst (λ (n : RowName). same_row key n ≡ true) (of_key ∙ sym names) (same_row_itself key) in
    absurd (cc)))))

-- after a fold of a key each row meets its checks, if it did before it and with the whole journal
pub folded_meet : (catalog : List TableDef) (key : RowName) (journal : List Reservation) (rows : List Row)
    → AllByRecursion (MeetsChecks catalog) rows → AllByRecursion (MeetsChecks catalog) (applied rows journal)
    → AllByRecursion (MeetsChecks catalog) (applied rows (filter (λ (r : Reservation). same_row key r.row) journal))
folded_meet catalog key journal [] before whole = tt
folded_meet catalog key journal (row ∷ rows) before whole =
    let first : (b : Bool) → same_row key row.name ≡ b → MeetsChecks catalog (row_after (filter (λ (r : Reservation). same_row key r.row) journal) row) =
    elim [
      | true ↦ λ e. subst (MeetsChecks catalog) (sym (own_row_folded row key journal e)) whole.0
      | false ↦ λ e. subst (MeetsChecks catalog) (sym (other_row_folded row key journal e)) before.0
    ] in
    (first (same_row key row.name) refl, folded_meet catalog key journal rows before.1 whole.1)

-- A LOAD OF A KEY

-- the row of a key after reservations are applied
pub named_after : (rows : List Row) (chosen : List Reservation) (key : RowName) → row_named (applied rows chosen) key ≡ option_map (row_after chosen) (row_named rows key)
named_after rows chosen key = find_map (λ (x : Row). same_row x.name key) (row_after chosen) (λ _. refl) rows

-- what two functions make of a row that is found, if they agree on rows of the key
alike_found : (f g : Row → Row) (rows : List Row) (key : RowName) → ((row : Row) → row.name ≡ key → f row ≡ g row)
    → option_map f (row_named rows key) ≡ option_map g (row_named rows key)
alike_found f g rows key same = found (row_named rows key) refl
  where
    found : (o : Option Row) → row_named rows key ≡ o → option_map f o ≡ option_map g o
    found None is = refl
    found (Some row) is = ap (λ (x : Row). Some x) (same row (row_same row.name key (find_has (λ (x : Row). same_row x.name key) rows row is).1))

same_option : (o : Option Row) → option_map (λ (row : Row). row) o ≡ o
same_option None = refl
same_option (Some row) = refl

-- the row of a key after a fold of it is that after the whole journal
pub folded_row : (rows : List Row) (key : RowName) (journal : List Reservation)
    → row_named (applied rows (filter (λ (r : Reservation). same_row key r.row) journal)) key ≡ row_named (applied rows journal) key
folded_row rows key journal =
    let part : List Reservation = filter (λ (r : Reservation). same_row key r.row) journal in
    named_after rows part key
    ∙ alike_found (row_after part) (row_after journal) rows key (λ row e. own_row_folded row key journal (subst (λ (n : RowName). same_row key n ≡ true) (sym e) (same_row_itself key)))
    ∙ sym (named_after rows journal key)

-- reservations of other rows leave it
pub row_untouched : (rows : List Row) (key : RowName) (chosen : List Reservation) → ((r : Reservation) → Has chosen r → same_row key r.row ≡ false)
    → row_named (applied rows chosen) key ≡ row_named rows key
row_untouched rows key chosen others =
    named_after rows chosen key
    ∙ alike_found (row_after chosen) (λ row. row) rows key (λ row e. ap (λ (amounts : List ℤ). record row { amounts = amounts })
    (all_changed_none (changes_to row) row.amounts chosen (λ r h. other_row row r (subst (λ (n : RowName). same_row n r.row ≡ false) (sym e) (others r h)))))
    ∙ same_option (row_named rows key)
