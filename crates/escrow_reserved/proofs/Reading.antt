-- What is kept of rows that were read.
use Rattle.std.specs.Prelude.{◌≡◌, ◌⊎◌, ◌<◌, ◌≤◌, ◌+◌, ℕ, ℤ, Bool, true, false, if◌then◌else◌, is_some, option_map, Option, Some, None, IfSome, IfNone, List, [], ◌∷◌, bytes_eq, filter, length, not, position, take, slice_get}
use Rattle.std.proofs.Common.{zero, suc, cond, get_or, inl, inr, refl, sym, ap, subst, arith, ◌∙◌}
use Rattle.std.proofs.lemmas.Bool.{cases_Bool, cond-false, false_from_ne_true, false≢true, not-false, not-true}
use Rattle.std.specs.Map.{keys_of, lookup}
use Rattle.std.proofs.lemmas.Map.Entries.{lookup_from_place}
use Rattle.indexmap.specs.IndexMap.{IndexMap, IsUnchanged, IsUnique, Updates, UpdatesBy, with_value_at}
use Rattle.indexmap.proofs.CallerLemmas.{updates-with_value_at}
use Rattle.escrow_num.specs.declared.reservation.Reservation.{Reservation}
use Rattle.escrow_num.specs.declared.value.RowName.{RowName}
use Rattle.escrow_num.specs.Equal.{same_row_equiv}
use Rattle.escrow_num.specs.Order.{same_row}
use Rattle.escrow_num.proofs.Orders.{row_same, same_row_itself}
use Rattle.escrow_bounds.proofs.Ending.{after_last, after_one, other_stays}
use Rattle.escrow_bounds.proofs.Standing.{named_there}
use Rattle.escrow_num.specs.declared.row.Row.{Row}
use Rattle.escrow_schema.specs.declared.table.TableDef.{TableDef}
use Rattle.escrow_reserved.proofs.Places.{some_same}
use Rattle.escrow_reserved.specs.Placed.{amounts_named}
use Rattle.escrow_reserved.specs.Read.{AreKnown, AreRead, IsKeptAt, IsKnown, IsLeft, IsRead, ReadRows, committed_by, committed_to, read_at, row_read, row_with}

-- WHAT GOES

gone_or_left : (old new : ReadRows) (name : RowName) (b : Bool) → read_at new name ≡ cond b None (read_at old name) → IsLeft old new name
gone_or_left old new name true is = inl is
gone_or_left old new name false is = inr is

-- what remains of what remained before
pub left_then : (old mid new : ReadRows) (name : RowName) → IsLeft old mid name → IsLeft mid new name → IsLeft old new name
left_then old mid new name first (inl gone) = inl gone
left_then old mid new name (inl gone) (inr same) = inl (same ∙ gone)
left_then old mid new name (inr first) (inr same) = inr (same ∙ first)

module _ {S : Type 0} (old new : IndexMap RowName (List ℤ) S) where
  pub taken_out : (test : RowName → Bool) → UpdatesBy same_row test old new None → (name : RowName) → IsLeft old.entries new.entries name
  taken_out test updates name = gone_or_left old.entries new.entries name (test name) (updates.0 name)

  pub evicted : (gone : Option (RowName × List ℤ)) → IfSome gone (λ p. Updates same_row old new p.0 None) → IfNone gone (IsUnchanged old new) → (name : RowName) → IsLeft old.entries new.entries name
  evicted None updates same name = inr (ap (λ (rows : ReadRows). read_at rows name) same)
  evicted (Some p) updates same name = taken_out (same_row p.0) updates name

  -- a row is added to those that remained
  pub put_in : (first : ReadRows) (row : RowName) (amounts : List ℤ) → ((name : RowName) → IsLeft first old.entries name) → Updates same_row old new row (Some amounts)
      → (name : RowName) → IsLeft first new.entries name ⊎ ((same_row row name ≡ true) × (read_at new.entries name ≡ Some amounts))
  put_in first row amounts left updates name = at (same_row row name) refl (updates.0 name)
    where
      at : (b : Bool) → same_row row name ≡ b → read_at new.entries name ≡ cond b (Some amounts) (read_at old.entries name)
          → IsLeft first new.entries name ⊎ ((same_row row name ≡ true) × (read_at new.entries name ≡ Some amounts))
      at true same is = inr (same, is)
      at false other is = inl (left_then first old.entries new.entries name (left name) (inr is))

-- WHERE A ROW STANDS

abbrev first : RowName × List ℤ → RowName
first p = p.0

-- the place that is found is the row's
pub found_at : (rows : ReadRows) (name : RowName) (found : Option ℕ) → found ≡ position (same_row name) (keys_of rows) → IfSome found (λ place. IsKeptAt rows name place)
found_at rows name None is = tt
found_at rows name (Some i) is = named_there rows name i (sym is)

-- the row at a place has the name
pub named_at : (rows : ReadRows) (name key : RowName) (amounts : List ℤ) (place : ℕ) → IsKeptAt rows name place → slice_get rows place ≡ Some (key, amounts) → key ≡ name
named_at rows name key amounts place at entry = some_same (sym (ap (option_map first) entry) ∙ at)

-- the amounts of this row change, and no others do
module _ {S : Type 0} (rows : IndexMap RowName (List ℤ) S) (place : ℕ) (key : RowName) (was amounts : List ℤ) (unique : IsUnique same_row rows) (entry : slice_get rows.entries place ≡ Some (key, was)) where
  changes : Updates same_row rows (with_value_at rows place amounts) key (Some amounts)
  changes = updates-with_value_at rows place amounts same_row_equiv unique key was entry

  pub before_at : read_at rows.entries key ≡ Some was
  before_at = lookup_from_place same_row_equiv rows.entries place key was unique entry

  pub changed_at : read_at (with_value_at rows place amounts).entries key ≡ Some amounts
  changed_at = changes.1

  pub others_at : (other : RowName) → same_row key other ≡ false → read_at (with_value_at rows place amounts).entries other ≡ read_at rows.entries other
  others_at = changes.2

-- THE ROWS OF A TABLE GO

-- a lookup finds nothing among rows that were left out
looked_none : (test : RowName → Bool) (keep : RowName × List ℤ → Bool) (rows : ReadRows) → ((p : RowName × List ℤ) → keep p ≡ true → test p.0 ≡ false) → lookup test (filter keep rows) ≡ None
looked_none test keep [] out = refl
looked_none test keep (p ∷ rows) out = at (keep p) (out p) (looked_none test keep rows out)
  where
    at : (b : Bool) → (b ≡ true → test p.0 ≡ false) → lookup test (filter keep rows) ≡ None → lookup test (cond b (p ∷ filter keep rows) (filter keep rows)) ≡ None
    at true fails rest = cond-false (test p.0) (Some p.1) (lookup test (filter keep rows)) (fails refl) ∙ rest
    at false fails rest = rest

-- a row that passes the test is found as before if all rows left out fail it
looked_same : (test : RowName → Bool) (keep : RowName × List ℤ → Bool) (rows : ReadRows) → ((p : RowName × List ℤ) → keep p ≡ false → test p.0 ≡ false) → lookup test (filter keep rows) ≡ lookup test rows
looked_same test keep [] kept = refl
looked_same test keep (p ∷ rows) kept = at (keep p) (kept p) (looked_same test keep rows kept)
  where
    at : (b : Bool) → (b ≡ false → test p.0 ≡ false) → lookup test (filter keep rows) ≡ lookup test rows
        → lookup test (cond b (p ∷ filter keep rows) (filter keep rows)) ≡ cond (test p.0) (Some p.1) (lookup test rows)
    at true fails rest = ap (λ (o : Option (List ℤ)). cond (test p.0) (Some p.1) o) rest
    at false fails rest = rest ∙ sym (cond-false (test p.0) (Some p.1) (lookup test rows) (fails refl))

-- a row is of another table
abbrev pub of_others : List ℕ → RowName × List ℤ → Bool
of_others table p = not (bytes_eq p.0.table table)

-- rows of different tables are different
apart_by_table : (table : List ℕ) (name other : RowName) → ¬ (bytes_eq other.table table ≡ bytes_eq name.table table) → same_row name other ≡ false
apart_by_table table name other differ = false_from_ne_true (same_row name other) (λ same. absurd (differ (sym (ap (λ (n : RowName). bytes_eq n.table table) (row_same name other same)))))

-- if the rows of a table are left out, they are gone, and no others are
pub table_gone : (table : List ℕ) (old new : ReadRows) → new ≡ filter (of_others table) old → (name : RowName) → bytes_eq name.table table ≡ true → read_at new name ≡ None
table_gone table old new is name mine =
    ap (λ (rows : ReadRows). read_at rows name) is
    ∙ looked_none (same_row name) (of_others table) old (λ p kept. apart_by_table table name p.0 (λ e. absurd (false≢true (sym (not-true (bytes_eq p.0.table table) kept) ∙ e ∙ mine))))

pub others_stay : (table : List ℕ) (old new : ReadRows) → new ≡ filter (of_others table) old → (name : RowName) → bytes_eq name.table table ≡ false → read_at new name ≡ read_at old name
others_stay table old new is name other =
    ap (λ (rows : ReadRows). read_at rows name) is
    ∙ looked_same (same_row name) (of_others table) old (λ p out. apart_by_table table name p.0 (λ e. absurd (false≢true (sym other ∙ sym e ∙ not-false (bytes_eq p.0.table table) out))))

-- if the rows that pass a test are gone, the others are unchanged
pub kept_without : (old new : ReadRows) (gone : RowName → Bool) → ((name : RowName) → gone name ≡ true → read_at new name ≡ None) → ((name : RowName) → gone name ≡ false → read_at new name ≡ read_at old name)
    → (name : RowName) → (read_at new name ≡ None) ⊎ ((read_at new name ≡ read_at old name) × (gone name ≡ false))
kept_without old new gone none same name = elim (cases_Bool (gone name)) [
  | inl is ↦ inl (none name is)
  | inr isnt ↦ inr (same name isnt, isnt)
]

pub left_without : (old new : ReadRows) (gone : RowName → Bool) → ((name : RowName) → gone name ≡ true → read_at new name ≡ None) → ((name : RowName) → gone name ≡ false → read_at new name ≡ read_at old name)
    → (name : RowName) → IsLeft old new name
left_without old new gone none same name = elim (kept_without old new gone none same name) [
  | inl is ↦ inl is
  | inr is ↦ inr is.0
]

-- a row that is forgotten is so by each name that is the same
pub gone_too : (new : ReadRows) (name : RowName) → read_at new name ≡ None → (other : RowName) → same_row name other ≡ true → read_at new other ≡ None
gone_too new name gone other same = subst (λ (n : RowName). read_at new n ≡ None) (row_same name other same) gone

-- HOW MANY

none_past : (rows : ReadRows) (i : ℕ) → i < length rows → ¬ (None ≡ slice_get rows i)
none_past [] i within = λ is. absurd (omega (arith, within))
none_past (p ∷ rows) zero within = λ is. absurd (cc)
none_past (p ∷ rows) (suc i) within = none_past rows i (omega (arith, within))

-- if one of the rows was removed, there is room
pub fewer : (rows : ReadRows) (i new limit : ℕ) (gone : Option (RowName × List ℤ)) → i < length rows → gone ≡ slice_get rows i → new + (if is_some gone then 1 else 0) ≡ length rows
    → length rows ≤ limit → new < limit
fewer rows i new limit None within is count few = absurd (none_past rows i within is)
fewer rows i new limit (Some p) within is count few = omega (arith, count, few)

-- and one more fits
pub one_more : (old : Option (List ℤ)) (mid new limit : ℕ) → mid < limit → new ≡ mid + (if is_some old then 0 else 1) → new ≤ limit
one_more None mid new limit room count = omega (arith, room, count)
one_more (Some amounts) mid new limit room count = omega (arith, room, count)

-- WHAT IS COMMITTED

apart_too : (a b : RowName) → same_row a b ≡ false → same_row b a ≡ false
apart_too a b apart = elim (cases_Bool (same_row b a)) [
  | inl same ↦ absurd (false≢true (sym apart ∙ subst (λ (x : RowName). same_row a x ≡ true) (sym (row_same b a same)) (same_row_itself a)))
  | inr other ↦ other
]

unmoved : (name : RowName) (r : Reservation) → same_row name r.row ≡ false → (o : Option (List ℤ)) → o ≡ option_map (committed_to name (r ∷ [])) o
unmoved name r apart None = refl
unmoved name r apart (Some amounts) = ap Some (other_stays name amounts r (sym apart))

-- one reservation: of its row and of the others
pub one_committed : (old new : ReadRows) (r : Reservation) → read_at new r.row ≡ option_map (committed_to r.row (r ∷ [])) (read_at old r.row)
    → ((other : RowName) → same_row r.row other ≡ false → read_at new other ≡ read_at old other)
    → (name : RowName) → read_at new name ≡ option_map (committed_to name (r ∷ [])) (read_at old name)
one_committed old new r own others name = elim (cases_Bool (same_row name r.row)) [
  | inl same ↦ subst (λ (n : RowName). read_at new n ≡ option_map (committed_to n (r ∷ [])) (read_at old n)) (sym (row_same name r.row same)) own
  | inr apart ↦ others name (apart_too name r.row apart) ∙ unmoved name r apart (read_at old name)
]

-- none, one more, and all
pub none_committed : (name : RowName) (o : Option (List ℤ)) → o ≡ option_map (committed_to name []) o
none_committed name None = refl
none_committed name (Some amounts) = refl

pub next_committed : (name : RowName) (reservations : List Reservation) (i : ℕ) (r : Reservation) (o : Option (List ℤ)) → i < length reservations → r ≡ get_or reservations i r
    → option_map (committed_to name (r ∷ [])) (option_map (committed_to name (take i reservations)) o) ≡ option_map (committed_to name (take (i + 1) reservations)) o
next_committed name reservations i r None within is = refl
next_committed name reservations i r (Some amounts) within is = ap Some (after_one name amounts reservations i r within is)

pub all_committed : (name : RowName) (reservations : List Reservation) (i : ℕ) (o : Option (List ℤ)) → length reservations ≤ i
    → option_map (committed_to name (take i reservations)) o ≡ option_map (committed_to name reservations) o
all_committed name reservations i None past = refl
all_committed name reservations i (Some amounts) past = ap Some (after_last name amounts reservations i past)

-- ONE ROW

-- the kept amounts of a row, with what is committed, are those of the committed row
pub row_committed : (name : RowName) (reservations : List Reservation) (o : Option (List ℤ))
    → option_map (row_with name) (option_map (committed_to name reservations) o) ≡ option_map (committed_by reservations) (option_map (row_with name) o)
row_committed name reservations None = refl
row_committed name reservations (Some amounts) = refl

-- what is known of the remaining rows stays known
pub known_left : (catalog : List TableDef) (old new : ReadRows) (name : RowName) → IsKnown catalog (row_read old name) → IsLeft old new name → IsKnown catalog (row_read new name)
known_left catalog old new name known (inl gone) = subst (λ (o : Option (List ℤ)). IsKnown catalog (option_map (row_with name) o)) (sym gone) tt
known_left catalog old new name known (inr same) = subst (λ (o : Option (List ℤ)). IsKnown catalog (option_map (row_with name) o)) (sym same) known

pub read_left : (rows : List Row) (old new : ReadRows) (name : RowName) → IsRead rows (row_read old name) → IsLeft old new name → IsRead rows (row_read new name)
read_left rows old new name read (inl gone) = subst (λ (o : Option (List ℤ)). IsRead rows (option_map (row_with name) o)) (sym gone) tt
read_left rows old new name read (inr same) = subst (λ (o : Option (List ℤ)). IsRead rows (option_map (row_with name) o)) (sym same) read

-- the same with one more row, which was just read
module _ (old new : ReadRows) (row : RowName) (amounts : List ℤ)
    (only : (name : RowName) → IsLeft old new name ⊎ ((same_row row name ≡ true) × (read_at new name ≡ Some amounts))) where
  pub known_more : (catalog : List TableDef) → AreKnown catalog old → IsKnown catalog (Some (row_with row amounts)) → AreKnown catalog new
  known_more catalog known one name = elim (only name) [
    | inl left ↦ known_left catalog old new name (known name) left
    | inr put ↦ subst (λ (o : Option (List ℤ)). IsKnown catalog (option_map (row_with name) o)) (sym put.1)
        (subst (λ (n : RowName). IsKnown catalog (Some (row_with n amounts))) (row_same row name put.0) one)
  ]

  pub read_more : (rows : List Row) → AreRead rows old → IsRead rows (Some (row_with row amounts)) → AreRead rows new
  read_more rows read one name = elim (only name) [
    | inl left ↦ read_left rows old new name (read name) left
    | inr put ↦ subst (λ (o : Option (List ℤ)). IsRead rows (option_map (row_with name) o)) (sym put.1)
        (subst (λ (n : RowName). IsRead rows (Some (row_with n amounts))) (row_same row name put.0) one)
  ]

-- what is kept of a row
pub known_kept : (catalog : List TableDef) (kept : ReadRows) (name : RowName) (amounts : List ℤ) → AreKnown catalog kept → read_at kept name ≡ Some amounts → IsKnown catalog (Some (row_with name amounts))
known_kept catalog kept name amounts known is = subst (λ (o : Option (List ℤ)). IsKnown catalog (option_map (row_with name) o)) is (known name)

pub read_kept : (rows : List Row) (kept : ReadRows) (name : RowName) (amounts : List ℤ) → AreRead rows kept → read_at kept name ≡ Some amounts → amounts_named rows name ≡ Some amounts
read_kept rows kept name amounts read is = subst (λ (o : Option (List ℤ)). IsRead rows (option_map (row_with name) o)) is (read name)
