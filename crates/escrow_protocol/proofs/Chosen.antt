-- The rows of a valid state of the machine after a choice of its open reservations.
use Rattle.std.specs.Prelude.{◌≤◌, Bool, List, map, filter, bytes_eq}
use Rattle.std.specs.List.{AllByRecursion}
use Rattle.std.proofs.Common.{refl, sym, subst, ◌∙◌}
use Rattle.escrow_num.specs.declared.reservation.Reservation.{Reservation}
use Rattle.escrow_num.specs.declared.row.Row.{Row}
use Rattle.escrow_num.proofs.Ascending.{ascending_map}
use Rattle.escrow_num.proofs.Items.{all_has, has_all}
use Rattle.escrow_checks.proofs.FormLemmas.{length-all_changed}
use Rattle.escrow_schema.specs.declared.table.TableDef.{TableDef}
use Rattle.escrow_schema.specs.declared.table.TheConstants.TableDef.{MAX_ROWS}
use Rattle.escrow_schema.specs.Catalog.{table_named}
use Rattle.escrow_schema.specs.Fit.{IsRowOf}
use Rattle.escrow_schema.specs.Rows.{changes_to, row_after, row_before, applied, AreRowsOf, HasTable, MeetsChecks}
use Rattle.escrow_schema.proofs.Listed.{all_map}
use Rattle.escrow_machine.specs.State.{State, opened}
use Rattle.escrow_machine.specs.Valid.{IsValid}
use Rattle.escrow_machine.proofs.Choices.{all_choices, choice_filter}
use Rattle.escrow_machine.proofs.Lengths.{length-filter_map}
use Rattle.escrow_machine.proofs.Safe.{some_weaker}
use Rattle.escrow_machine.proofs.ValidEmpty.{opened_orderly, opened_safe}
use Rattle.escrow_protocol.proofs.Filtered.{choice_whole}

-- they meet their checks: this is what the machine promises of its grants
pub chosen_meet : (s : State) → IsValid s → (keep : Reservation → Bool) → AllByRecursion (MeetsChecks s.catalog) (applied s.rows (filter keep s.reservations))
chosen_meet s valid keep =
    all_choices (λ (c : List Reservation). AllByRecursion (MeetsChecks s.catalog) (applied s.rows c)) s.reservations valid.safe_rows.safe (filter keep s.reservations)
    (choice_filter keep s.reservations (filter keep s.reservations) (choice_whole (filter keep s.reservations)))

-- a row with changes added still has the shape of its table
still_row_of : (table : TableDef) (row : Row) (chosen : List Reservation) → IsRowOf table row → IsRowOf table (row_after chosen row)
still_row_of table row chosen is_row = record {
  table_name = is_row.table_name;
  key = is_row.key;
  plain = is_row.plain;
  amounts = length-all_changed row.amounts (map (changes_to row) chosen) ∙ is_row.amounts;
}

still_has_table : (catalog : List TableDef) (row : Row) (chosen : List Reservation) → HasTable catalog row → HasTable catalog (row_after chosen row)
still_has_table catalog row chosen h =
    some_weaker (λ t. IsRowOf t row) (λ t. IsRowOf t (row_after chosen row)) (table_named catalog row.name.table) (λ t. still_row_of t row chosen) h

-- a database may consist of them
pub chosen_valid : (s : State) → IsValid s → (keep : Reservation → Bool) → IsValid (opened s.catalog (applied s.rows (filter keep s.reservations)))
chosen_valid s valid keep =
    let chosen : List Reservation = filter keep s.reservations in
    let are : AreRowsOf s.catalog (applied s.rows chosen) = record {
      tables = all_map (HasTable s.catalog) (row_after chosen) s.rows
          (has_all (λ r. HasTable s.catalog (row_after chosen r)) s.rows
          (λ r h. still_has_table s.catalog r chosen (all_has (HasTable s.catalog) s.rows valid.safe_rows.tables r h)));
      row_order = ascending_map row_before (row_after chosen) (λ _ _. refl) s.rows valid.safe_rows.row_order;
      few_rows = λ table. subst (λ n. n ≤ MAX_ROWS) (sym (length-filter_map (λ r. bytes_eq r.name.table table) (row_after chosen) (λ _. refl) s.rows)) (valid.safe_rows.few_rows table);
    } in
    record {
      orderly = opened_orderly s.catalog valid.orderly.tables;
      safe_rows = opened_safe s.catalog (applied s.rows chosen) are (chosen_meet s valid keep);
    }
