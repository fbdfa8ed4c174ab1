-- A reservation: a choice of the open ones with the new one is an old choice, with or without the new one at its end.
use Rattle.std.specs.Prelude.{◌≡◌, ◌<◌, ◌≤◌, ℕ, ℤ, ◌+◌, ◌==◌, Bool, true, false, List, [], ◌∷◌, ◌++◌, Option, Some, None, length, map, filter, IsTrue, IsSome}
use Rattle.std.specs.List.{AllByRecursion}
use Rattle.std.proofs.Common.{inl, inr, sym, ap, ◌∙◌, subst, refl, arith, length-append}
use Rattle.std.proofs.lemmas.Bool.{cond_both, cond-true, cond-false, lt-ltb, eqb-true, cases_Bool}
use Rattle.std.proofs.lemmas.List.{map_push}
use Rattle.std.proofs.lemmas.List.Elements.{filter-append}
use Rattle.escrow_num.specs.declared.row.Row.{Row}
use Rattle.escrow_num.specs.declared.reservation.Reservation.{Reservation}
use Rattle.escrow_num.specs.declared.reservation.Savepoint.{Savepoint}
use Rattle.escrow_num.specs.declared.value.RowName.{RowName}
use Rattle.escrow_num.specs.Order.{same_row}
use Rattle.escrow_num.specs.Reservation.{deltas}
use Rattle.escrow_num.specs.Session.{IsSession}
use Rattle.escrow_checks.specs.Form.{changed, all_changed}
use Rattle.escrow_checks.specs.Grant.{Meets, broken}
use Rattle.escrow_checks.specs.declared.spread.TheConstants.Spread.{MAX_OPEN}
use Rattle.escrow_schema.specs.declared.table.TableDef.{TableDef}
use Rattle.escrow_schema.specs.Catalog.{table_named}
use Rattle.escrow_schema.specs.Column.{reservables}
use Rattle.escrow_num.specs.declared.reservation.TheConstants.Reservation.{MAX_ID}
use Rattle.escrow_journal.specs.declared.journal.TheConstants.Journal.{MAX_RESERVATIONS}
use Rattle.escrow_journal.specs.Reservations.{own, reservation_before}
use Rattle.escrow_machine.specs.State.{State, on_row}
use Rattle.escrow_schema.specs.Rows.{row_named, changes_to, row_after, applied, MeetsChecks}
use Rattle.escrow_machine.specs.Valid.{IsValid, IsOrderly, IsReservationIn, IsSavepointIn, HasRow}
use Rattle.escrow_num.proofs.Items.{Has, all_has, has_all, has_push, find_has}
use Rattle.escrow_machine.proofs.Choices.{IsChoice, all_choices, choices_all, choice_push, choice_map}
use Rattle.escrow_machine.proofs.Changes.{changed_nil, all_changed_push}
use Rattle.escrow_machine.proofs.Granted.{granted_meets}
use Rattle.escrow_num.proofs.Ascending.{ascending_push}
use Rattle.escrow_num.proofs.Orders.{row_same}
use Rattle.escrow_machine.proofs.Safe.{some_from, safe_row, safe_rows, row_unique}

-- a row's amounts after a choice of reservations
abbrev amounts_after : Row → List Reservation → List ℤ
amounts_after row chosen = all_changed row.amounts (map (changes_to row) chosen)

-- one more reservation at the end adds its changes
amounts_push : (row : Row) (front : List Reservation) (r : Reservation)
    → amounts_after row (front ++ r ∷ []) ≡ all_changed (changed row.amounts (changes_to row r)) (map (changes_to row) front)
amounts_push row front r =
    ap (all_changed row.amounts) (map_push (changes_to row) front r) ∙ all_changed_push row.amounts (changes_to row r) (map (changes_to row) front)

-- the changes to another row are none
amounts_other : (row : Row) (front : List Reservation) (r : Reservation) → same_row row.name r.row ≡ false
    → amounts_after row front ≡ amounts_after row (front ++ r ∷ [])
amounts_other row front r other =
    let none : changes_to row r ≡ [] = cond-false (same_row row.name r.row) (deltas r.changes) [] other in
    sym (amounts_push row front r ∙ ap (λ zs. all_changed zs (map (changes_to row) front)) (ap (changed row.amounts) none ∙ changed_nil row.amounts))

-- the changes to its own row are added
amounts_own : (row : Row) (front : List Reservation) (r : Reservation) → same_row row.name r.row ≡ true
    → all_changed (changed row.amounts (deltas r.changes)) (map (changes_to row) front) ≡ amounts_after row (front ++ r ∷ [])
amounts_own row front r same =
    let own : changes_to row r ≡ deltas r.changes = cond-true (same_row row.name r.row) (deltas r.changes) [] same in
    sym (amounts_push row front r ∙ ap (λ zs. all_changed (changed row.amounts zs) (map (changes_to row) front)) own)

-- the reservation's row meets its checks after the reservation and any choice of the others
meets_own : (s : State) (table : TableDef) (row : Row) (r : Reservation)
    → table_named s.catalog r.row.table ≡ Some table → same_row row.name r.row ≡ true
    → broken table.checks row.amounts (deltas r.changes) (map (changes_to row) s.reservations) ≡ None
    → (front : List Reservation) → IsChoice s.reservations front → MeetsChecks s.catalog (row_after (front ++ r ∷ []) row)
meets_own s table row r named same safe front choice =
    let of_table : table_named s.catalog row.name.table ≡ Some table = ap (λ (n : RowName). table_named s.catalog n.table) (row_same row.name r.row same) ∙ named in
    let met = granted_meets table.checks row.amounts (deltas r.changes) (map (changes_to row) s.reservations) (map (changes_to row) front) safe
    (choice_map (changes_to row) s.reservations front choice) in
    some_from (λ (t : TableDef). AllByRecursion (λ check. Meets check (amounts_after row (front ++ r ∷ []))) t.checks) (table_named s.catalog row.name.table) table of_table
    (subst (λ zs. AllByRecursion (λ check. Meets check zs) table.checks) (amounts_own row front r same) met)

-- each row meets its checks then
meets_push : (s : State) (table : TableDef) (row : Row) (r : Reservation) → IsValid s
    → table_named s.catalog r.row.table ≡ Some table → row_named s.rows r.row ≡ Some row
    → broken table.checks row.amounts (deltas r.changes) (map (changes_to row) s.reservations) ≡ None
    → (front : List Reservation) → IsChoice s.reservations front → (other : Row) → Has s.rows other → MeetsChecks s.catalog (row_after (front ++ r ∷ []) other)
meets_push s table row r valid named found safe front choice other h =
    let of_row = find_has (λ (x : Row). same_row x.name r.row) s.rows row found in
    elim (cases_Bool (same_row other.name r.row)) [
      | inl same ↦ subst (λ x. MeetsChecks s.catalog (row_after (front ++ r ∷ []) x)) (row_unique s.rows r.row row other valid.safe_rows.row_order found h same)
          (meets_own s table row r named of_row.1 safe front choice)
      | inr differs ↦ subst (λ zs. MeetsChecks s.catalog (record other { amounts = zs })) (amounts_other other front r differs)
          (safe_row s valid front choice other h)
    ]

-- at most as many pass a test as before, or one more where there is room
few_more : (p : Reservation → Bool) (most : ℕ) (reservations : List Reservation) (r : Reservation) → length (filter p reservations) ≤ most
    → (p r ≡ true → length (filter p reservations) < most) → length (filter p (reservations ++ r ∷ [])) ≤ most
few_more p most reservations r few room =
    let parts : length (filter p (reservations ++ r ∷ [])) ≡ length (filter p reservations) + length (filter p (r ∷ [])) =
    ap length (filter-append p reservations (r ∷ [])) ∙ length-append (filter p reservations) (filter p (r ∷ [])) in
    cond_both (p r) (r ∷ []) [] (λ zs. length (filter p (reservations ++ r ∷ [])) ≡ length (filter p reservations) + length zs → length (filter p (reservations ++ r ∷ [])) ≤ most)
    (λ t e. let here = room t in omega arith)
    (λ f e. omega arith) parts

-- a session has at most as many reservations as the limit, with the new one
few_own : (reservations : List Reservation) (r : Reservation) (session : ℕ) → length (own session reservations) ≤ MAX_RESERVATIONS → length (own r.session reservations) < MAX_RESERVATIONS
    → length (own session (reservations ++ r ∷ [])) ≤ MAX_RESERVATIONS
few_own reservations r session few room =
    few_more (λ x. x.session == session) MAX_RESERVATIONS reservations r few
    (λ t. subst (λ k. length (own k reservations) < MAX_RESERVATIONS) (eqb-true r.session session t) room)

-- so has a row
few_of_row : (reservations : List Reservation) (r : Reservation) (name : RowName) → length (on_row name reservations) ≤ MAX_OPEN → length (on_row r.row reservations) < MAX_OPEN
    → length (on_row name (reservations ++ r ∷ [])) ≤ MAX_OPEN
few_of_row reservations r name few room =
    few_more (λ x. same_row name x.row) MAX_OPEN reservations r few
    (λ t. subst (λ (n : RowName). length (on_row n reservations) < MAX_OPEN) (sym (row_same name r.row t)) room)

-- a reservation with the next id is the last in order, and takes that id
pub granted_orderly : (s : State) (table : TableDef) (r : Reservation) → IsOrderly s.catalog s.reservations s.savepoints s.next_id → table_named s.catalog r.row.table ≡ Some table
    → IsSession r.session → r.id ≡ s.next_id → s.next_id ≤ MAX_ID
    → length r.changes ≡ length (reservables table.columns) → length (own r.session s.reservations) < MAX_RESERVATIONS → length (on_row r.row s.reservations) < MAX_OPEN
    → IsOrderly s.catalog (s.reservations ++ r ∷ []) s.savepoints (s.next_id + 1)
granted_orderly s table r orderly named of_session next more_ids long room row_room =
    let old : (x : Reservation) → Has s.reservations x → IsReservationIn s.catalog s.next_id x =
    all_has (IsReservationIn s.catalog s.next_id) s.reservations orderly.reservations_in in
    let first : 1 ≤ s.next_id = orderly.first_id in
    let is_in : IsReservationIn s.catalog (s.next_id + 1) r = record {
      session = of_session;
      first = omega arith;
      below = omega arith;
      changes = some_from (λ (t : TableDef). length r.changes ≡ length (reservables t.columns)) (table_named s.catalog r.row.table) table named long;
    } in
    let still_in : (x : Reservation) → Has s.reservations x → IsReservationIn s.catalog (s.next_id + 1) x = λ x h.
    let was = old x h in
    let below : x.id < s.next_id = was.below in
    record { session = was.session; first = was.first; below = omega arith; changes = was.changes } in
    let each_in : (x : Reservation) → Has (s.reservations ++ r ∷ []) x → IsReservationIn s.catalog (s.next_id + 1) x = λ x h.
    elim (has_push s.reservations r x h) [ inl k ↦ still_in x k | inr e ↦ subst (IsReservationIn s.catalog (s.next_id + 1)) e is_in ] in
    let in_order : (x : Reservation) → Has s.reservations x → IsTrue (reservation_before x r) = λ x h.
    let below : x.id < s.next_id = (old x h).below in
    lt-ltb x.id r.id (omega arith) in
    let savepoint_in : (p : Savepoint) → Has s.savepoints p → IsSavepointIn (s.next_id + 1) p = λ p h.
    let was = all_has (IsSavepointIn s.next_id) s.savepoints orderly.savepoints_in p h in
    let within : p.id ≤ s.next_id = was.within in
    record { session = was.session; first = was.first; within = omega arith } in
    record {
      tables = orderly.tables;
      reservations_in = has_all (IsReservationIn s.catalog (s.next_id + 1)) (s.reservations ++ r ∷ []) each_in;
      reservation_order = ascending_push reservation_before s.reservations r orderly.reservation_order in_order;
      few_reservations = λ session. few_own s.reservations r session (orderly.few_reservations session) room;
      few_on_rows = λ name. few_of_row s.reservations r name (orderly.few_on_rows name) row_room;
      savepoints_in = has_all (IsSavepointIn (s.next_id + 1)) s.savepoints savepoint_in;
      savepoint_order = orderly.savepoint_order;
      few_savepoints = orderly.few_savepoints;
      first_id = omega arith;
      last_id = omega arith;
    }

-- the state with one more reservation, which takes the next id
abbrev with_reservation : State → Reservation → State
with_reservation s r = record s { reservations = s.reservations ++ r ∷ []; next_id = s.next_id + 1 }

-- a granted reservation keeps a valid state valid
pub update_valid : (s : State) (table : TableDef) (row : Row) (r : Reservation) → IsValid s
    → table_named s.catalog r.row.table ≡ Some table → row_named s.rows r.row ≡ Some row
    → IsSession r.session → r.id ≡ s.next_id → s.next_id ≤ MAX_ID
    → length r.changes ≡ length (reservables table.columns) → length (own r.session s.reservations) < MAX_RESERVATIONS → length (on_row r.row s.reservations) < MAX_OPEN
    → broken table.checks row.amounts (deltas r.changes) (map (changes_to row) s.reservations) ≡ None
    → IsValid (with_reservation s r)
update_valid s table row r valid named found of_session next more_ids long room row_room safe =
    let Safe : List Reservation → Type 0 = λ c. AllByRecursion (MeetsChecks s.catalog) (applied s.rows c) in
    let stands : HasRow s.rows r = subst (λ (o : Option Row). IsSome o) (sym found) refl in
    let each_stands : (x : Reservation) → Has (s.reservations ++ r ∷ []) x → HasRow s.rows x = λ x h.
    elim (has_push s.reservations r x h) [
      | inl k ↦ all_has (HasRow s.rows) s.reservations valid.safe_rows.reserved_rows x k
      | inr e ↦ subst (HasRow s.rows) e stands
    ] in
    let safe_push : (chosen : List Reservation) → IsChoice (s.reservations ++ r ∷ []) chosen → Safe chosen = λ chosen h.
    elim (choice_push s.reservations r chosen h) [
      | inl k ↦ all_choices Safe s.reservations valid.safe_rows.safe chosen k
      | inr k ↦ subst Safe k.2
          (safe_rows s.catalog s.rows (k.0 ++ r ∷ []) (meets_push s table row r valid named found safe k.0 k.1))
    ] in
    record {
      orderly = granted_orderly s table r valid.orderly named of_session next more_ids long room row_room;
      safe_rows = record {
        tables = valid.safe_rows.tables;
        row_order = valid.safe_rows.row_order;
        few_rows = valid.safe_rows.few_rows;
        reserved_rows = has_all (HasRow s.rows) (s.reservations ++ r ∷ []) each_stands;
        safe = choices_all Safe (s.reservations ++ r ∷ []) safe_push;
      };
    }
