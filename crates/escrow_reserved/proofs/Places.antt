-- The places of reserved rows, as the state of a database changes.
use Rattle.std.specs.Prelude.{◌≡◌, ◌==◌, ◌+ℤ◌, ◌||◌, ℕ, ℤ, neg_ℤ, int_le, Bool, true, false, Option, Some, None, is_some, option_map, Result, Ok, Err, OnErr, IsSome, IsSomeAnd, List, [], ◌∷◌, ◌++◌, length, map, bytes_eq}
use Rattle.std.specs.List.{AllByRecursion, list_any}
use Rattle.std.proofs.Common.{inl, inr, refl, sym, ap, ap₂, subst, ◌∙◌, cond, append-nil, append_assoc}
use Rattle.std.proofs.lemmas.Bool.{and_from, cases_Bool, cond-false, cond-true, or_cases, or_left, or_right}
use Rattle.std.proofs.lemmas.List.{map_push}
use Rattle.std.proofs.lemmas.List.Folds.{list_any-append}
use Rattle.escrow_num.specs.Amount.{IsAmount, is_amount}
use Rattle.escrow_num.specs.declared.amount.TheConstants.Amount.{MAX}
use Rattle.escrow_num.specs.declared.reservation.Reservation.{Reservation}
use Rattle.escrow_num.specs.declared.row.Row.{Row}
use Rattle.escrow_num.specs.declared.session.End.{End}
use Rattle.escrow_num.specs.declared.session.End.TheVariants as end
use Rattle.escrow_num.specs.declared.value.RowName.{RowName}
use Rattle.escrow_num.specs.Order.{same_row}
use Rattle.escrow_num.specs.Reservation.{deltas, changes_at}
use Rattle.escrow_num.proofs.Items.{Has, all_has, find_has}
use Rattle.escrow_num.proofs.Orders.{name_same, row_same, same_name, same_row_itself}
use Rattle.escrow_checks.specs.declared.check.Check.{Check}
use Rattle.escrow_checks.specs.Form.{changed, all_changed}
use Rattle.escrow_checks.specs.Grant.{Meets}
use Rattle.escrow_checks.proofs.FormLemmas.{length-all_changed}
use Rattle.escrow_schema.specs.declared.table.TableDef.{TableDef}
use Rattle.escrow_schema.specs.Altered.{with_altered}
use Rattle.escrow_schema.specs.Catalog.{table_named}
use Rattle.escrow_schema.specs.Column.{reservables}
use Rattle.escrow_schema.specs.Fit.{IsRowOf}
use Rattle.escrow_schema.proofs.LawLemmas.{checks_keep_amounts}
use Rattle.escrow_schema.proofs.RangeLemmas.{int_le_from}
use Rattle.escrow_bounds.specs.Altered.{Goes, TableGoes}
use Rattle.escrow_bounds.specs.Counts.{IsNew, TakesIn}
use Rattle.escrow_bounds.specs.Ended.{AreEnded, HasEnded}
use Rattle.escrow_bounds.specs.Held.{of_row}
use Rattle.escrow_bounds.specs.Place.{Place, checks_of}
use Rattle.escrow_bounds.specs.Moved.{all_moved, amounts_after_all}
use Rattle.escrow_bounds.specs.Bounds.{Bounds, place_at, Becomes, OthersStay}
use Rattle.escrow_journal.specs.Open.{Open, open_after_grant}
use Rattle.escrow_journal.specs.Reservations.{own}
use Rattle.escrow_bounds.proofs.LawLemmas.{other_way}
use Rattle.escrow_bounds.proofs.Moving.{length-all_moved}
use Rattle.escrow_schema.specs.Rows.{row_named, row_after, changes_to, applied, HasTable}
use Rattle.escrow_machine.specs.State.{State, is_reserved}
use Rattle.escrow_machine.specs.Valid.{IsValid}
use Rattle.escrow_machine.proofs.Changes.{changed_nil, all_changed_push, all_changed_later}
use Rattle.escrow_machine.proofs.Choices.{IsChoice, choice_none, choice_filter}
use Rattle.escrow_machine.proofs.Lengths.{find_map}
use Rattle.escrow_machine.proofs.Safe.{safe_row, some_at, some_from, some_weaker}
use Rattle.escrow_machine.proofs.Shapes.{is_table_found}
use Rattle.escrow_machine.proofs.ValidAlter.{altered_named, in_place, name_found}
use Rattle.escrow_reserved.specs.Placed.{amounts_named, AreOfTables, HaveAmounts, IsOfTable}
use Rattle.escrow_machine.proofs.Refusals.{none_there}
use Rattle.escrow_reserved.specs.Reserved.{ArePlaced, Releases}
use Rattle.escrow_reserved.proofs.Standing.{standing}

-- what holds for a row and for every other row holds for all rows
each_row : (P : RowName → Type 0) (row : RowName) → P row → ((other : RowName) → same_row row other ≡ false → P other) → (other : RowName) → P other
each_row P row here others other = elim (cases_Bool (same_row row other)) [ inl same ↦ subst P (row_same row other same) here | inr differs ↦ others other differs ]

-- the places are the same for each row
pub same_tables : (catalog : List TableDef) (old new : Bounds) → ((row : RowName) → place_at new row ≡ place_at old row) → AreOfTables catalog old → AreOfTables catalog new
same_tables catalog old new same of_tables = λ row place at. of_tables row place (sym (same row) ∙ at)

pub same_amounts : (rows : List Row) (old new : Bounds) → ((row : RowName) → place_at new row ≡ place_at old row) → HaveAmounts rows old → HaveAmounts rows new
same_amounts rows old new same have = λ row place at. have row place (sym (same row) ∙ at)

pub same_placed : (reservations : List Reservation) (old new : Bounds) → ((row : RowName) → place_at new row ≡ place_at old row) → ArePlaced reservations old → ArePlaced reservations new
same_placed reservations old new same placed = λ row. ap (λ (p : Option Place). is_some p) (same row) ∙ placed row

-- RESERVED ROWS AND PLACES

-- a row with a place is reserved
pub placed_reserved : (reservations : List Reservation) (places : Bounds) (row : RowName) (place : Place) → ArePlaced reservations places → place_at places row ≡ Some place
    → list_any (λ r. same_row r.row row) reservations ≡ true
placed_reserved reservations places row place placed at = sym (placed row) ∙ ap (λ (p : Option Place). is_some p) at

-- a reserved row has a place
pub reserved_placed : (reservations : List Reservation) (places : Bounds) (row : RowName) → ArePlaced reservations places
    → list_any (λ r. same_row r.row row) reservations ≡ true → IsSome (place_at places row)
reserved_placed reservations places row placed is = placed row ∙ is

-- the values of equal options are equal
pub some_same : {A : Type 0} {x y : A} → Some x ≡ Some y → x ≡ y
some_same is = cc

-- the value of an option
pub from_some : {A C : Type 0} (o : Option A) → IsSome o → ((x : A) → o ≡ Some x → C) → C
from_some None is then = absurd (cc)
from_some (Some x) is then = then x refl

-- if an item passes a test, an item passes each weaker test
pub any_weaker : {A : Type 0} (p q : A → Bool) (xs : List A) → ((x : A) → p x ≡ true → q x ≡ true) → list_any p xs ≡ true → list_any q xs ≡ true
any_weaker p q [] weaker any = any
any_weaker p q (x ∷ xs) weaker any =
    elim (or_cases (p x) (list_any p xs) any) [ inl here ↦ or_left (q x) (list_any q xs) (weaker x here) | inr later ↦ or_right (q x) (list_any q xs) (any_weaker p q xs weaker later) ]

-- a row that is not reserved has no place
pub none_placed : (reservations : List Reservation) (places : Bounds) (row : RowName) → ArePlaced reservations places
    → list_any (λ r. same_row r.row row) reservations ≡ false → place_at places row ≡ None
none_placed reservations places row placed free = none_there (place_at places row) (placed row ∙ free)

-- a fact holds in particular if there is an error
pub on_err : {A E : Type 0} (P : Type 0) (result : Result A E) → P → OnErr result P
on_err P (Ok x) holds = tt
on_err P (Err e) holds = holds

-- the first place is found for its row, and other rows keep their places
pub put_at : (row : RowName) (place : Place) (places : Bounds) → place_at ((row, place) ∷ places) row ≡ Some place
put_at row place places = cond-true (same_row row row) (Some place) (place_at places row) (same_row_itself row)

pub put_others : (row : RowName) (place : Place) (places : Bounds) → OthersStay row places ((row, place) ∷ places)
put_others row place places = λ other differs. cond-false (same_row other row) (Some place) (place_at places other) (other_way row other differs)

-- if a place was made for an unreserved row and released, each row has the same place as before
pub refused_same : (reservations : List Reservation) (row : RowName) (old mid new : Bounds) → list_any (λ r. same_row r.row row) reservations ≡ false → place_at old row ≡ None
    → OthersStay row old mid → Releases reservations row mid new → OthersStay row mid new → (other : RowName) → place_at new other ≡ place_at old other
refused_same reservations row old mid new free none made releases gone =
    each_row (λ (other : RowName). place_at new other ≡ place_at old other) row (releases.free free ∙ sym none) (λ other differs. gone other differs ∙ made other differs)

-- A STATE WITH PLACES: tables and amounts of reserved rows stay

-- the value of an option that has one
pub some_of : {A C : Type 0} (P : A → Type 0) (o : Option A) → IsSomeAnd o P → ((x : A) → o ≡ Some x → P x → C) → C
some_of P None h then = absurd h
some_of P (Some x) h then = then x refl h

pub tables_stay : (old new : State) (places : Bounds) → ArePlaced old.reservations places
    → ((row : RowName) (table : TableDef) → is_reserved old row ≡ true → table_named old.catalog row.table ≡ Some table → table_named new.catalog row.table ≡ Some table)
    → AreOfTables old.catalog places → AreOfTables new.catalog places
tables_stay old new places placed stay of_tables = λ row place at.
    some_of (λ (table : TableDef). IsOfTable table place) (table_named old.catalog row.table) (of_tables row place at) (λ table named is.
    subst (λ (o : Option TableDef). IsSomeAnd o (λ t. IsOfTable t place)) (sym (stay row table (placed_reserved old.reservations places row place placed at) named)) is)

pub amounts_stay : (old new : State) (places : Bounds) → ArePlaced old.reservations places
    → ((row : RowName) (amounts : List ℤ) → is_reserved old row ≡ true → amounts_named old.rows row ≡ Some amounts → amounts_named new.rows row ≡ Some amounts)
    → HaveAmounts old.rows places → HaveAmounts new.rows places
amounts_stay old new places placed stay have = λ row place at.
    stay row place.amounts (placed_reserved old.reservations places row place placed at) (have row place at)

-- ENDS

-- without a COMMIT the amounts stay
rollbacks_stay : (amounts : List ℤ) (ended : List (List ℤ)) → amounts_after_all end.Rollback amounts ended ≡ amounts
rollbacks_stay amounts [] = refl
rollbacks_stay amounts (changes ∷ ended) = rollbacks_stay amounts ended

-- the number of amounts stays
pub length-after_all : (e : End) (amounts : List ℤ) (ended : List (List ℤ)) → length (amounts_after_all e amounts ended) ≡ length amounts
length-after_all e amounts [] = refl
length-after_all end.Commit amounts (changes ∷ ended) = length-after_all end.Commit (all_moved amounts changes) ended ∙ length-all_moved amounts changes
length-after_all end.Rollback amounts (changes ∷ ended) = length-after_all end.Rollback amounts ended

-- the remaining places are of their tables
pub ended_tables : (e : End) (ended : List Reservation) (catalog : List TableDef) (old new : Bounds) → AreEnded e ended old new → AreOfTables catalog old → AreOfTables catalog new
ended_tables e ended catalog old new are of_tables = λ row place at.
    let was = are row place at in
    let before = was.0 in
    let has : HasEnded e (of_row row ended) before place = was.2 in
    some_of (λ (table : TableDef). IsOfTable table before) (table_named catalog row.table) (of_tables row before was.1) (λ table named is.
    subst (λ (o : Option TableDef). IsSomeAnd o (λ t. IsOfTable t place)) (sym named) (record {
      checks = has.checks ∙ is.checks;
      amounts = ap length has.amounts ∙ length-after_all e before.amounts (of_row row ended) ∙ is.amounts;
    }))

-- they have the amounts of their rows, since a ROLLBACK leaves these
pub rollbacks_amounts : (ended : List Reservation) (rows : List Row) (old new : Bounds) → AreEnded end.Rollback ended old new → HaveAmounts rows old → HaveAmounts rows new
rollbacks_amounts ended rows old new are have = λ row place at.
    let was = are row place at in
    let before = was.0 in
    let has : HasEnded end.Rollback (of_row row ended) before place = was.2 in
    have row before was.1 ∙ ap Some (sym (has.amounts ∙ rollbacks_stay before.amounts (of_row row ended)))

-- COMMIT: adding changes one after another is applying them to the rows

amount_test : (z : ℤ) → IsAmount z → is_amount z ≡ true
amount_test z is = and_from (int_le (neg_ℤ MAX) z) (int_le z MAX) (int_le_from (neg_ℤ MAX) z is.0) (int_le_from z MAX is.1)

moved_is : (amounts changes : List ℤ) → AllByRecursion IsAmount (changed amounts changes) → all_moved amounts changes ≡ changed amounts changes
moved_is [] changes are = refl
moved_is (a ∷ rest) [] are = refl
moved_is (a ∷ rest) (c ∷ changes) are =
    ap₂ (λ (z : ℤ) (zs : List ℤ). z ∷ zs) (cond-true (is_amount (a +ℤ c)) (a +ℤ c) a (amount_test (a +ℤ c) are.0)) (moved_is rest changes are.1)

module _ (row : RowName) (amounts : List ℤ) where
  -- the amounts after the changes of some reservations to the row
  abbrev with_changes : List Reservation → List ℤ
  with_changes chosen = all_changed amounts (map (changes_at row) chosen)

  -- one more reservation
  one_more : (done : List Reservation) (r : Reservation) → with_changes (done ++ r ∷ []) ≡ changed (with_changes done) (changes_at row r)
  one_more done r =
      ap (all_changed amounts) (map_push (changes_at row) done r)
      ∙ all_changed_push amounts (changes_at row r) (map (changes_at row) done)
      ∙ all_changed_later amounts (changes_at row r) (map (changes_at row) done)

  next_ended : (is_own : Bool) (now next : List ℤ) (own_changes : List ℤ) (rest : List (List ℤ)) → next ≡ changed now (cond is_own own_changes [])
      → AllByRecursion IsAmount next → amounts_after_all end.Commit now (cond is_own (own_changes ∷ rest) rest) ≡ amounts_after_all end.Commit next rest
  next_ended true now next own_changes rest is are =
      ap (λ (zs : List ℤ). amounts_after_all end.Commit zs rest) (moved_is now own_changes (subst (AllByRecursion IsAmount) is are) ∙ sym is)
  next_ended false now next own_changes rest is are = ap (λ (zs : List ℤ). amounts_after_all end.Commit zs rest) (sym (is ∙ changed_nil now))

  commits_add : (rest done : List Reservation) → ((front back : List Reservation) → front ++ back ≡ done ++ rest → AllByRecursion IsAmount (with_changes front))
      → amounts_after_all end.Commit (with_changes done) (of_row row rest) ≡ with_changes (done ++ rest)
  commits_add [] done fronts = ap with_changes (sym (append-nil done))
  commits_add (r ∷ rest) done fronts =
      let joined : (done ++ r ∷ []) ++ rest ≡ done ++ r ∷ rest = append_assoc done (r ∷ []) rest in
      next_ended (same_row row r.row) (with_changes done) (with_changes (done ++ r ∷ [])) (deltas r.changes) (of_row row rest) (one_more done r) (fronts (done ++ r ∷ []) rest joined)
      ∙ commits_add rest (done ++ r ∷ []) (λ front back is. fronts front back (is ∙ joined))
      ∙ ap with_changes joined

-- a prefix of a list is a choice of it
front_choice : {A : Type 0} (front back : List A) → IsChoice (front ++ back) front
front_choice [] back = choice_none back
front_choice (x ∷ front) back = inr (front, front_choice front back, refl)

-- the amounts of an existing row are in range, whichever of the open reservations are applied
choice_amounts : (s : State) → IsValid s → (row : Row) → Has s.rows row → (chosen : List Reservation) → IsChoice s.reservations chosen
    → AllByRecursion IsAmount (all_changed row.amounts (map (changes_to row) chosen))
choice_amounts s valid row has chosen choice =
    some_of (λ (table : TableDef). IsRowOf table row) (table_named s.catalog row.name.table) (all_has (HasTable s.catalog) s.rows valid.safe_rows.tables row has) (λ table named is_row.
    let met = some_at (λ (t : TableDef). AllByRecursion (λ check. Meets check (row_after chosen row).amounts) t.checks) (table_named s.catalog row.name.table) table named (safe_row s valid chosen choice row has) in
    checks_keep_amounts table (row_after chosen row).amounts (is_table_found s valid.orderly row.name.table table named)
    (length-all_changed row.amounts (map (changes_to row) chosen) ∙ is_row.amounts) met)

-- a session's COMMIT changes the amounts of a row as it changes those of its place
pub committed_amounts : (s : State) (session : ℕ) (name : RowName) (amounts : List ℤ) → IsValid s → amounts_named s.rows name ≡ Some amounts
    → amounts_named (applied s.rows (own session s.reservations)) name ≡ Some (amounts_after_all end.Commit amounts (of_row name (own session s.reservations)))
committed_amounts s session name amounts valid is =
    let mine = own session s.reservations in
    let stands = standing s.rows name amounts is in
    let row = stands.row in
    let has = (find_has (λ (r : Row). same_row r.name name) s.rows row stands.found).0 in
    let found : row_named (applied s.rows mine) name ≡ Some (row_after mine row) =
    find_map (λ (r : Row). same_row r.name name) (row_after mine) (λ _. refl) s.rows ∙ ap (option_map (row_after mine)) stands.found in
    let fronts : (front back : List Reservation) → front ++ back ≡ mine → AllByRecursion IsAmount (all_changed row.amounts (map (changes_to row) front)) = λ front back joined.
    choice_amounts s valid row has front
    (choice_filter (λ (r : Reservation). r.session == session) s.reservations front (subst (λ (rs : List Reservation). IsChoice rs front) joined (front_choice front back))) in
    let added : amounts_after_all end.Commit row.amounts (of_row row.name mine) ≡ all_changed row.amounts (map (changes_to row) mine) = commits_add row.name row.amounts mine [] fronts in
    ap (option_map (λ (r : Row). r.amounts)) found ∙ ap Some (sym added)
    ∙ ap₂ (λ (n : RowName) (zs : List ℤ). Some (amounts_after_all end.Commit zs (of_row n mine))) stands.named stands.has

pub commits_amounts : (s : State) (session : ℕ) (old new : Bounds) → IsValid s → AreEnded end.Commit (own session s.reservations) old new → HaveAmounts s.rows old
    → HaveAmounts (applied s.rows (own session s.reservations)) new
commits_amounts s session old new valid are have = λ row place at.
    let was = are row place at in
    let before = was.0 in
    let has : HasEnded end.Commit (of_row row (own session s.reservations)) before place = was.2 in
    committed_amounts s session row before.amounts valid (have row before was.1) ∙ ap Some (sym has.amounts)

-- A GRANT

-- a new place has the checks of its table
pub made_tables : (catalog : List TableDef) (row : RowName) (table : TableDef) (amounts : List ℤ) (place : Place) (old new : Bounds) → table_named catalog row.table ≡ Some table
    → length amounts ≡ length (reservables table.columns) → place_at new row ≡ Some place → IsNew amounts table.checks place → OthersStay row old new
    → AreOfTables catalog old → AreOfTables catalog new
made_tables catalog row table amounts place old new named many at new_place others of_tables =
    each_row (λ (other : RowName). (kept : Place) → place_at new other ≡ Some kept → IsSomeAnd (table_named catalog other.table) (λ t. IsOfTable t kept)) row
    (λ kept found.
    let same : place ≡ kept = some_same (sym at ∙ found) in
    subst (λ (k : Place). IsSomeAnd (table_named catalog row.table) (λ t. IsOfTable t k)) same
    (some_from (λ (t : TableDef). IsOfTable t place) (table_named catalog row.table) table named
    (record { checks = new_place.checks_are; amounts = ap length new_place.amounts_are ∙ many })))
    (λ other differs kept found. of_tables other kept (sym (others other differs) ∙ found))

-- it has the amounts of its row
pub made_amounts : (rows : List Row) (row : RowName) (amounts : List ℤ) (checks : List Check) (place : Place) (old new : Bounds) → amounts_named rows row ≡ Some amounts
    → place_at new row ≡ Some place → IsNew amounts checks place → OthersStay row old new → HaveAmounts rows old → HaveAmounts rows new
made_amounts rows row amounts checks place old new has at new_place others have =
    each_row (λ (other : RowName). (kept : Place) → place_at new other ≡ Some kept → amounts_named rows other ≡ Some kept.amounts) row
    (λ kept found. has ∙ ap Some (sym new_place.amounts_are ∙ ap (λ (k : Place). k.amounts) (some_same (sym at ∙ found))))
    (λ other differs kept found. have other kept (sym (others other differs) ∙ found))

-- a place that counts one more reservation keeps both
pub taken_tables : (catalog : List TableDef) (row : RowName) (changes : List ℤ) (old new : Bounds) → IsSome (place_at old row) → Becomes (TakesIn changes) (place_at old row) (place_at new row)
    → OthersStay row old new → AreOfTables catalog old → AreOfTables catalog new
taken_tables catalog row changes old new there becomes others of_tables =
    each_row (λ (other : RowName). (kept : Place) → place_at new other ≡ Some kept → IsSomeAnd (table_named catalog other.table) (λ t. IsOfTable t kept)) row
    (λ kept found.
    from_some (place_at old row) there (λ before was.
    let after = becomes before was in
    let same : after.0 ≡ kept = some_same (sym after.1 ∙ found) in
    subst (λ (k : Place). IsSomeAnd (table_named catalog row.table) (λ t. IsOfTable t k)) same
    (some_weaker (λ (t : TableDef). IsOfTable t before) (λ (t : TableDef). IsOfTable t after.0) (table_named catalog row.table)
    (λ t is. record { checks = after.2.checks ∙ is.checks; amounts = ap length after.2.amounts ∙ is.amounts }) (of_tables row before was))))
    (λ other differs kept found. of_tables other kept (sym (others other differs) ∙ found))

pub taken_amounts : (rows : List Row) (row : RowName) (changes : List ℤ) (old new : Bounds) → IsSome (place_at old row) → Becomes (TakesIn changes) (place_at old row) (place_at new row)
    → OthersStay row old new → HaveAmounts rows old → HaveAmounts rows new
taken_amounts rows row changes old new there becomes others have =
    each_row (λ (other : RowName). (kept : Place) → place_at new other ≡ Some kept → amounts_named rows other ≡ Some kept.amounts) row
    (λ kept found.
    from_some (place_at old row) there (λ before was.
    let after = becomes before was in
    have row before was ∙ ap Some (sym after.2.amounts ∙ ap (λ (k : Place). k.amounts) (some_same (sym after.1 ∙ found)))))
    (λ other differs kept found. have other kept (sym (others other differs) ∙ found))

passed_one : (a b : Bool) → b ≡ true → (a || (b || false)) ≡ true
passed_one true b is = refl
passed_one false b is = is_true b is
  where
    is_true : (c : Bool) → c ≡ true → (c || false) ≡ true
    is_true true e = refl
    is_true false e = absurd (cc)

failed_one : (a b : Bool) → b ≡ false → (a || (b || false)) ≡ a
failed_one true b is = refl
failed_one false true is = absurd (cc)
failed_one false false is = refl

-- it is still there
pub becomes_some : (before after : Option Place) (changes : List ℤ) → IsSome before → Becomes (TakesIn changes) before after → IsSome after
becomes_some before after changes there becomes = from_some before there (λ kept was. ap (λ (p : Option Place). is_some p) (becomes kept was).1)

-- its row is reserved
pub granted_placed : (session : ℕ) (row : RowName) (changes : List (Option ℤ)) (o : Open) (old new : Bounds)
    → ((other : RowName) → same_row row other ≡ false → is_some (place_at old other) ≡ list_any (λ r. same_row r.row other) o.reservations)
    → IsSome (place_at new row) → OthersStay row old new → ArePlaced (open_after_grant session row changes o).reservations new
granted_placed session row changes o old new before there others =
    let r : Reservation = record { id = o.next_id; session = session; row = row; changes = changes } in
    each_row (λ (other : RowName). is_some (place_at new other) ≡ list_any (λ x. same_row x.row other) (o.reservations ++ r ∷ [])) row
    (there ∙ sym (list_any-append (λ (x : Reservation). same_row x.row row) o.reservations (r ∷ []) ∙ passed_one (list_any (λ x. same_row x.row row) o.reservations) (same_row row row) (same_row_itself row)))
    (λ other differs.
    ap (λ (p : Option Place). is_some p) (others other differs) ∙ before other differs
    ∙ sym (list_any-append (λ (x : Reservation). same_row x.row other) o.reservations (r ∷ []) ∙ failed_one (list_any (λ x. same_row x.row other) o.reservations) (same_row row other) differs))

-- ALTER TABLE: the places of a table come from the old ones

goes_some : (Step : Place → Place → Type 0) (before after : Option Place) → Goes Step before after → is_some after ≡ is_some before
goes_some Step None after none = ap (λ (p : Option Place). is_some p) none
goes_some Step (Some old) after goes = ap (λ (p : Option Place). is_some p) goes.1

goes_of : {C : Type 0} (Step : Place → Place → Type 0) (before after : Option Place) (place : Place) → Goes Step before after → after ≡ Some place
    → ((old : Place) → before ≡ Some old → Step old place → C) → C
goes_of Step None after place none at then = absurd (cc)
goes_of Step (Some old) after place goes at then = then old refl (subst (Step old) (some_same (sym goes.1 ∙ at)) goes.2)

-- the altered table is found under its name, and each other table as before
altered_here : (catalog : List TableDef) (was made : TableDef) (name : List ℕ) → table_named catalog name ≡ Some was → bytes_eq was.name made.name ≡ true
    → table_named (with_altered made catalog) name ≡ Some made
altered_here catalog was made name named same =
    altered_named made catalog name ∙ ap (option_map (in_place made)) named ∙ ap (λ (t : TableDef). Some t) (cond-true (bytes_eq was.name made.name) made was same)

other_stays : (made : TableDef) (name : List ℕ) (o : Option TableDef) → bytes_eq name made.name ≡ false → ((t : TableDef) → o ≡ Some t → t.name ≡ name) → option_map (in_place made) o ≡ o
other_stays made name None differs called = refl
other_stays made name (Some t) differs called =
    ap (λ (x : TableDef). Some x) (cond-false (bytes_eq t.name made.name) made t (ap (λ (n : List ℕ). bytes_eq n made.name) (called t refl) ∙ differs))

altered_other : (catalog : List TableDef) (made : TableDef) (name : List ℕ) → bytes_eq name made.name ≡ false → table_named (with_altered made catalog) name ≡ table_named catalog name
altered_other catalog made name differs =
    altered_named made catalog name ∙ other_stays made name (table_named catalog name) differs (λ t named. name_found catalog name t named)

module _ (table : List ℕ) (Step : RowName → Place → Place → Type 0) (old new : Bounds) (goes : TableGoes table Step old new) where
  -- the same rows have places
  pub gone_placed : (reservations : List Reservation) → ArePlaced reservations old → ArePlaced reservations new
  gone_placed reservations placed = λ row.
      elim (cases_Bool (bytes_eq row.table table)) [
        | inl here ↦ goes_some (Step row) (place_at old row) (place_at new row) (goes.own row here) ∙ placed row
        | inr differs ↦ ap (λ (p : Option Place). is_some p) (goes.others row differs) ∙ placed row
      ]

  -- a place comes of one of the table, or is one of another
  came_of : {C : Type 0} (row : RowName) (place : Place) → place_at new row ≡ Some place
      → (bytes_eq row.table table ≡ true → (before : Place) → place_at old row ≡ Some before → Step row before place → C)
      → (bytes_eq row.table table ≡ false → place_at old row ≡ Some place → C) → C
  came_of row place at own other =
      elim (cases_Bool (bytes_eq row.table table)) [
        | inl here ↦ goes_of (Step row) (place_at old row) (place_at new row) place (goes.own row here) at (own here)
        | inr differs ↦ other differs (sym (goes.others row differs) ∙ at)
      ]

  module _ (same : (row : RowName) (before after : Place) → Step row before after → after.amounts ≡ before.amounts) where
    -- they have their rows' amounts
    pub gone_amounts : (rows : List Row) → HaveAmounts rows old → HaveAmounts rows new
    gone_amounts rows have = λ row place at.
        came_of row place at (λ _ before was step. have row before was ∙ ap Some (sym (same row before place step))) (λ _ was. have row place was)

    -- the rows belong to their tables, one of which is altered
    pub gone_tables : (catalog : List TableDef) (was made : TableDef) → table_named catalog table ≡ Some was → made ≡ record was { checks = made.checks }
        → ((row : RowName) (before after : Place) → Step row before after → checks_of before.checks ≡ was.checks → checks_of after.checks ≡ made.checks)
        → AreOfTables catalog old → AreOfTables (with_altered made catalog) new
    gone_tables catalog was made named alike checks of_tables = λ row place at.
        let called : made.name ≡ was.name = ap (λ (t : TableDef). t.name) alike in
        let of_name : was.name ≡ table = name_found catalog table was named in
        let itself : bytes_eq was.name made.name ≡ true = subst (λ (n : List ℕ). bytes_eq was.name n ≡ true) (sym called) (same_name was.name) in
        let columns : length (reservables was.columns) ≡ length (reservables made.columns) = ap (λ (t : TableDef). length (reservables t.columns)) (sym alike) in
        came_of row place at
        (λ here before was_at step.
        let named_row : table_named catalog row.table ≡ Some was = ap (table_named catalog) (name_same row.table table here) ∙ named in
        let of : IsOfTable was before = some_at (λ (t : TableDef). IsOfTable t before) (table_named catalog row.table) was named_row (of_tables row before was_at) in
        some_from (λ (t : TableDef). IsOfTable t place) (table_named (with_altered made catalog) row.table) made (altered_here catalog was made row.table named_row itself)
        (record { checks = checks row before place step of.checks; amounts = ap length (same row before place step) ∙ of.amounts ∙ columns }))
        (λ differs was_at.
        let other : bytes_eq row.table made.name ≡ false = subst (λ (n : List ℕ). bytes_eq row.table n ≡ false) (sym (called ∙ of_name)) differs in
        subst (λ (o : Option TableDef). IsSomeAnd o (λ t. IsOfTable t place)) (sym (altered_other catalog made row.table other)) (of_tables row place was_at))
