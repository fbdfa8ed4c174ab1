-- COMMIT, ROLLBACK and ROLLBACK TO: a session's reservations and a choice of the others are a choice of the open ones;
-- a choice of what stays open is a choice of what was open.
use Rattle.std.specs.Prelude.{◌≡◌, ℕ, Bool, ◌==◌, not, List, ◌≤◌, length, map, filter, bytes_eq, Option, Some, None, option_map, unwrap_or, IsSome}
use Rattle.std.specs.List.{AllByRecursion}
use Rattle.std.proofs.Common.{le_trans, sym, ◌∙◌, subst, refl}
use Rattle.escrow_num.specs.declared.reservation.Savepoint.{Savepoint}
use Rattle.escrow_num.specs.declared.reservation.Reservation.{Reservation}
use Rattle.escrow_num.specs.declared.row.Row.{Row}
use Rattle.escrow_num.specs.Order.{same_row}
use Rattle.escrow_schema.specs.declared.table.TableDef.{TableDef}
use Rattle.escrow_schema.specs.Catalog.{table_named}
use Rattle.escrow_schema.specs.Fit.{IsRowOf}
use Rattle.escrow_checks.proofs.FormLemmas.{length-all_changed}
use Rattle.escrow_schema.specs.declared.table.TheConstants.TableDef.{MAX_ROWS}
use Rattle.escrow_num.specs.Ascending.{IsAscending}
use Rattle.escrow_journal.specs.declared.journal.TheConstants.Journal.{MAX_SAVEPOINTS}
use Rattle.escrow_journal.specs.Open as journal
use Rattle.escrow_journal.specs.Reservations.{own, others, own_savepoints, other_savepoints, reservation_before, savepoint_before}
use Rattle.escrow_journal.specs.Savepoints.{savepoint_of, through, is_after}
use Rattle.escrow_machine.specs.State.{State, open_in, with_open}
use Rattle.escrow_schema.specs.Rows.{row_named, changes_to, row_after, applied, HasTable, MeetsChecks, row_before}
use Rattle.escrow_machine.specs.Transition.{after_commit, after_rollback, after_rollback_to}
use Rattle.escrow_machine.specs.Valid.{IsValid, IsOrderly, AreSafeRows, IsReservationIn, IsSavepointIn, HasRow}
use Rattle.escrow_num.proofs.Items.{Has, all_has, has_all, has_filter, has_map, all_filter}
use Rattle.escrow_machine.proofs.Choices.{IsChoice, all_choices, choices_all, choice_filter}
use Rattle.escrow_schema.proofs.Listed.{all_map}
use Rattle.escrow_machine.proofs.Changes.{IsMerged, merge_choice}
use Rattle.escrow_num.proofs.Ascending.{ascending_filter, ascending_map}
use Rattle.escrow_machine.proofs.Lengths.{length-filter_filter, length-filter_map, find_map}
use Rattle.escrow_machine.proofs.Savepoints.{has_through, through_ascending, length-filter_through}
use Rattle.escrow_machine.proofs.Safe.{some_weaker, some_image, safe_row, safe_rows}

-- the order of the state stays if only the reservations that pass a test are kept, and savepoints stay in order
kept_orderly : (catalog : List TableDef) (reservations : List Reservation) (savepoints left : List Savepoint) (next_id : ℕ) (keep : Reservation → Bool)
    → IsOrderly catalog reservations savepoints next_id
    → AllByRecursion (IsSavepointIn next_id) left → IsAscending savepoint_before left → ((session : ℕ) → length (own_savepoints session left) ≤ MAX_SAVEPOINTS)
    → IsOrderly catalog (filter keep reservations) left next_id
kept_orderly catalog reservations savepoints left next_id keep orderly left_in order few = record {
  tables = orderly.tables;
  reservations_in = all_filter (IsReservationIn catalog next_id) keep reservations orderly.reservations_in;
  reservation_order = ascending_filter reservation_before keep reservations orderly.reservation_order;
  few_reservations = λ k. le_trans (length-filter_filter (λ r. r.session == k) keep reservations) (orderly.few_reservations k);
  few_on_rows = λ name. le_trans (length-filter_filter (λ (r : Reservation). same_row name r.row) keep reservations) (orderly.few_on_rows name);
  savepoints_in = left_in;
  savepoint_order = order;
  few_savepoints = few;
  first_id = orderly.first_id;
  last_id = orderly.last_id;
}

-- the order of the state stays after ROLLBACK and after COMMIT
pub rollback_orderly : (s : State) (session : ℕ) → IsOrderly s.catalog s.reservations s.savepoints s.next_id
    → IsOrderly s.catalog (others session s.reservations) (other_savepoints session s.savepoints) s.next_id
rollback_orderly s session orderly =
    let other : Savepoint → Bool = λ p. not (p.session == session) in
    kept_orderly s.catalog s.reservations s.savepoints (other_savepoints session s.savepoints) s.next_id (λ r. not (r.session == session)) orderly
    (all_filter (IsSavepointIn s.next_id) other s.savepoints orderly.savepoints_in)
    (ascending_filter savepoint_before other s.savepoints orderly.savepoint_order)
    (λ k. le_trans (length-filter_filter (λ p. p.session == k) other s.savepoints) (orderly.few_savepoints k))

pub commit_orderly : (s : State) (session : ℕ) → IsOrderly s.catalog s.reservations s.savepoints s.next_id
    → let after = after_commit s session in IsOrderly after.catalog after.reservations after.savepoints after.next_id
commit_orderly = rollback_orderly

-- the rows stay safe whichever reservations are dropped
fewer_safe : (s : State) (keep : Reservation → Bool) → IsValid s → AreSafeRows s.catalog s.rows (filter keep s.reservations)
fewer_safe s keep valid =
    let Safe : List Reservation → Type 0 = λ c. AllByRecursion (MeetsChecks s.catalog) (applied s.rows c) in
    record {
      tables = valid.safe_rows.tables;
      row_order = valid.safe_rows.row_order;
      few_rows = valid.safe_rows.few_rows;
      reserved_rows = all_filter (HasRow s.rows) keep s.reservations valid.safe_rows.reserved_rows;
      safe = choices_all Safe (filter keep s.reservations) (λ c h. all_choices Safe s.reservations valid.safe_rows.safe c (choice_filter keep s.reservations c h));
    }

-- ROLLBACK keeps a valid state valid
pub rollback_valid : (s : State) (session : ℕ) → IsValid s → IsValid (after_rollback s session)
rollback_valid s session valid = record {
  orderly = rollback_orderly s session valid.orderly;
  safe_rows = fewer_safe s (λ r. not (r.session == session)) valid;
}

-- the state after a return to a savepoint
abbrev pub returned_to : State → Savepoint → State
returned_to s p = with_open s (journal.returned_to (open_in s) p)

-- a return to a savepoint keeps the order of the state
returned_orderly : (s : State) (p : Savepoint) → IsOrderly s.catalog s.reservations s.savepoints s.next_id
    → let after = returned_to s p in IsOrderly after.catalog after.reservations after.savepoints after.next_id
returned_orderly s p orderly =
    let In : Savepoint → Type 0 = IsSavepointIn s.next_id in
    let left : List Savepoint = through p.session p.name s.savepoints in
    kept_orderly s.catalog s.reservations s.savepoints left s.next_id (λ r. not (is_after p r)) orderly
    (has_all In left (λ q h. all_has In s.savepoints orderly.savepoints_in q (has_through p.session p.name s.savepoints q h)))
    (through_ascending savepoint_before p.session p.name s.savepoints orderly.savepoint_order)
    (λ k. le_trans (length-filter_through (λ (q : Savepoint). q.session == k) p.session p.name s.savepoints) (orderly.few_savepoints k))

returned_valid : (s : State) (p : Savepoint) → IsValid s → IsValid (returned_to s p)
returned_valid s p valid = record {
  orderly = returned_orderly s p valid.orderly;
  safe_rows = fewer_safe s (λ r. not (is_after p r)) valid;
}

-- what holds for a state, and after a return to any savepoint, holds after a ROLLBACK TO
returned_has : (P : State → Type 0) (s : State) (o : Option Savepoint) → P s → ((p : Savepoint) → P (returned_to s p)) → P (with_open s (unwrap_or (option_map (journal.returned_to (open_in s)) o) (open_in s)))
returned_has P s None same returned = same
returned_has P s (Some p) same returned = returned p

pub back_has : (P : State → Type 0) (s : State) (session : ℕ) (name : List ℕ) → P s → ((p : Savepoint) → P (returned_to s p)) → P (after_rollback_to s session name)
back_has P s session name same returned = returned_has P s (savepoint_of session name s.savepoints) same returned

pub back_orderly : (s : State) (session : ℕ) (name : List ℕ) → IsOrderly s.catalog s.reservations s.savepoints s.next_id
    → let after = after_rollback_to s session name in IsOrderly after.catalog after.reservations after.savepoints after.next_id
back_orderly s session name orderly =
    back_has (λ (t : State). IsOrderly t.catalog t.reservations t.savepoints t.next_id) s session name orderly (λ p. returned_orderly s p orderly)

pub back_valid : (s : State) (session : ℕ) (name : List ℕ) → IsValid s → IsValid (after_rollback_to s session name)
back_valid s session name valid = back_has IsValid s session name valid (λ p. returned_valid s p valid)

-- a row with changes added still has the shape of its table
still_row_of : (table : TableDef) (row : Row) (chosen : List Reservation) → IsRowOf table row → IsRowOf table (row_after chosen row)
still_row_of table row chosen is_row = record {
  table_name = is_row.table_name;
  key = is_row.key;
  plain = is_row.plain;
  amounts = length-all_changed row.amounts (map (changes_to row) chosen) ∙ is_row.amounts;
}

still_has_table : (catalog : List TableDef) (row : Row) (chosen : List Reservation) → HasTable catalog row → HasTable catalog (row_after chosen row)
still_has_table catalog row chosen h =
    some_weaker (λ t. IsRowOf t row) (λ t. IsRowOf t (row_after chosen row)) (table_named catalog row.name.table) (λ t. still_row_of t row chosen) h

-- a reservation's row is still there
still_stands : (rows : List Row) (chosen : List Reservation) (r : Reservation) → HasRow rows r → HasRow (applied rows chosen) r
still_stands rows chosen r h =
    let same_found : row_named (applied rows chosen) r.row ≡ option_map (row_after chosen) (row_named rows r.row) =
    find_map (λ (x : Row). same_row x.name r.row) (row_after chosen) (λ _. refl) rows in
    subst (λ (o : Option Row). IsSome o) (sym same_found) (some_image (row_after chosen) (row_named rows r.row) h)

-- a committed row meets its checks after each choice of the other sessions' reservations
meets_committed : (s : State) (session : ℕ) → IsValid s → (chosen : List Reservation) → IsChoice (others session s.reservations) chosen
    → (row : Row) → Has s.rows row → MeetsChecks s.catalog (row_after chosen (row_after (own session s.reservations) row))
meets_committed s session valid chosen choice row h =
    let merged : IsMerged (changes_to row) (own session s.reservations) chosen s.reservations =
    merge_choice (changes_to row) (λ r. r.session == session) s.reservations chosen choice in
    subst (λ zs. MeetsChecks s.catalog (record row { amounts = zs })) (sym (merged.2 row.amounts))
    (safe_row s valid merged.0 merged.1 row h)

-- COMMIT keeps a valid state valid
pub commit_valid : (s : State) (session : ℕ) → IsValid s → IsValid (after_commit s session)
commit_valid s session valid =
    let other : Reservation → Bool = λ r. not (r.session == session) in
    let mine : List Reservation = own session s.reservations in
    let rows : List Row = applied s.rows mine in
    let Safe : List Reservation → Type 0 = λ c. AllByRecursion (MeetsChecks s.catalog) (applied rows c) in
    let met : (c : List Reservation) → IsChoice (others session s.reservations) c → (row : Row) → Has rows row → MeetsChecks s.catalog (row_after c row) =
    λ c choice row h.
    let from = has_map (row_after mine) s.rows row h in
    subst (λ x. MeetsChecks s.catalog (row_after c x)) from.2 (meets_committed s session valid c choice from.0 from.1) in
    record {
      orderly = commit_orderly s session valid.orderly;
      safe_rows = record {
        tables = all_map (HasTable s.catalog) (row_after mine) s.rows
            (has_all (λ r. HasTable s.catalog (row_after mine r)) s.rows
            (λ r h. still_has_table s.catalog r mine (all_has (HasTable s.catalog) s.rows valid.safe_rows.tables r h)));
        row_order = ascending_map row_before (row_after mine) (λ _ _. refl) s.rows valid.safe_rows.row_order;
        few_rows = λ table. subst (λ n. n ≤ MAX_ROWS) (sym (length-filter_map (λ r. bytes_eq r.name.table table) (row_after mine) (λ _. refl) s.rows)) (valid.safe_rows.few_rows table);
        reserved_rows = has_all (HasRow rows) (others session s.reservations) (λ r h.
            still_stands s.rows mine r (all_has (HasRow s.rows) s.reservations valid.safe_rows.reserved_rows r (has_filter other s.reservations r h).0));
        safe = choices_all Safe (others session s.reservations) (λ c h. safe_rows s.catalog rows c (met c h));
      };
    }
