-- INSERT: no open reservation is of the new row.
use Rattle.std.specs.Prelude.{◌≡◌, ◌<◌, ◌≤◌, ℕ, ◌+◌, Bool, true, false, cond, List, [], Option, Some, None, length, map, filter, bytes_eq, IsSome}
use Rattle.std.specs.List.{AllByRecursion}
use Rattle.std.specs.declared.cmp.Ordering.TheVariants.{Equal}
use Rattle.std.proofs.Common.{inl, inr, sym, ap, ◌∙◌, subst, refl, arith}
use Rattle.std.proofs.lemmas.Bool.{cond_both, cond-false, false_from_ne_true}
use Rattle.escrow_num.specs.declared.row.Row.{Row}
use Rattle.escrow_num.specs.declared.value.RowName.{RowName}
use Rattle.escrow_statement.specs.declared.statement.InsertText.{InsertText}
use Rattle.escrow_num.specs.declared.reservation.Reservation.{Reservation}
use Rattle.escrow_num.specs.Order.{same_row}
use Rattle.escrow_num.specs.Reservation.{deltas}
use Rattle.escrow_checks.specs.Form.{changed, all_changed}
use Rattle.escrow_checks.specs.Grant.{Meets, broken}
use Rattle.escrow_schema.specs.declared.table.TableDef.{TableDef}
use Rattle.escrow_schema.specs.Catalog.{table_named}
use Rattle.escrow_schema.specs.Fit.{IsRowOf, inserted_row}
use Rattle.escrow_schema.specs.declared.table.TheConstants.TableDef.{MAX_ROWS}
use Rattle.escrow_machine.specs.State.{State}
use Rattle.escrow_schema.specs.Rows.{row_named, rows_of, changes_to, row_after, applied, with_row, HasTable, MeetsChecks, row_before}
use Rattle.escrow_machine.specs.Valid.{IsValid, HasRow}
use Rattle.escrow_num.proofs.Items.{Has, all_has, has_all, find_none}
use Rattle.escrow_machine.proofs.Choices.{IsChoice, choices_all, choice_has}
use Rattle.escrow_machine.proofs.Changes.{changed_nil, all_changed_none}
use Rattle.escrow_machine.proofs.Granted.{granted_meets}
use Rattle.escrow_num.proofs.Orders.{by_row, row_total, row_tied, before_trans, not_before, row_same, same_row_itself, name_same}
use Rattle.escrow_num.specs.Ascending.{IsAscending}
use Rattle.escrow_num.proofs.Put.{has_put, length-filter_put, find_put, put_ascending}
use Rattle.escrow_machine.proofs.Put.{with_row_put}
use Rattle.escrow_machine.proofs.Safe.{some_from, safe_row, safe_rows}
use Rattle.escrow_schema.proofs.LawLemmas.{rows_of_table}

-- the rows with the new one are in order
in_order : (rows : List Row) (row : Row) → row_named rows row.name ≡ None → IsAscending row_before rows
    → IsAscending row_before (with_row row rows)
in_order rows row new ascending =
    let differs : (y : Row) → Has rows y → ¬ (by_row row y ≡ Equal) = λ y h e.
    let other : same_row y.name row.name ≡ false = find_none (λ r. same_row r.name row.name) rows new y h in
    let same : same_row y.name row.name ≡ true = subst (λ (n : RowName). same_row y.name n ≡ true) (sym (row_tied row y e)) (same_row_itself y.name) in
    absurd (cc) in
    subst (IsAscending row_before) (sym (with_row_put row rows))
    (put_ascending row_before (before_trans by_row row_total) row rows
    (λ y h f. not_before by_row row_total row y f (differs y h)) ascending)

-- no open reservation is of a new row
not_of_new : (rows : List Row) (row : Row) (r : Reservation) → row_named rows row.name ≡ None → HasRow rows r → same_row row.name r.row ≡ false
not_of_new rows row r new stands =
    false_from_ne_true (same_row row.name r.row) (λ t.
    let none : row_named rows r.row ≡ None = subst (λ (n : RowName). row_named rows n ≡ None) (row_same row.name r.row t) new in
    let nothing : IsSome {T = Row} None = subst (λ (o : Option Row). IsSome o) none stands in
    absurd (cc))

-- a reservation's row is also found after the insertion
still_found : (rows : List Row) (row : Row) (r : Reservation) → row_named rows row.name ≡ None → HasRow rows r → HasRow (with_row row rows) r
still_found rows row r new stands =
    subst (λ rs. IsSome (row_named rs r.row)) (sym (with_row_put row rows))
    (subst (λ (o : Option Row). IsSome o) (sym (find_put row_before (λ (x : Row). same_row x.name r.row) row rows (not_of_new rows row r new stands))) stands)

-- a new row meets its checks after each choice of the open reservations, since none is of it
meets_new : (s : State) (table : TableDef) (row : Row) → IsValid s → table_named s.catalog row.name.table ≡ Some table
    → row_named s.rows row.name ≡ None → broken table.checks row.amounts [] [] ≡ None
    → (chosen : List Reservation) → IsChoice s.reservations chosen → MeetsChecks s.catalog (row_after chosen row)
meets_new s table row valid named new granted chosen choice =
    let none : (r : Reservation) → Has chosen r → changes_to row r ≡ [] = λ r h.
    let stands = all_has (HasRow s.rows) s.reservations valid.safe_rows.reserved_rows r (choice_has s.reservations chosen choice r h) in
    cond-false (same_row row.name r.row) (deltas r.changes) [] (not_of_new s.rows row r new stands) in
    let same : changed row.amounts [] ≡ all_changed row.amounts (map (changes_to row) chosen) =
    changed_nil row.amounts ∙ sym (all_changed_none (changes_to row) row.amounts chosen none) in
    some_from (λ (t : TableDef). AllByRecursion (λ check. Meets check (row_after chosen row).amounts) t.checks) (table_named s.catalog row.name.table) table named
    (subst (λ zs. AllByRecursion (λ check. Meets check zs) table.checks) same (granted_meets table.checks row.amounts [] [] [] granted refl))

-- the table has at most as many rows as the limit, with the new one
few_with : (rows : List Row) (row : Row) (table : List ℕ) → length (rows_of rows table) ≤ MAX_ROWS → length (rows_of rows row.name.table) < MAX_ROWS
    → length (rows_of (with_row row rows) table) ≤ MAX_ROWS
few_with rows row table few room =
    let p : Row → Bool = λ r. bytes_eq r.name.table table in
    let parts : length (rows_of (with_row row rows) table) ≡ length (filter p rows) + cond (p row) 1 0 =
    ap (λ rs. length (filter p rs)) (with_row_put row rows) ∙ length-filter_put row_before p row rows in
    cond_both (p row) 1 0 (λ n. length (rows_of (with_row row rows) table) ≡ length (filter p rows) + n → length (rows_of (with_row row rows) table) ≤ MAX_ROWS)
    (λ t e. let here : length (filter p rows) < MAX_ROWS = subst (λ n. length (rows_of rows n) < MAX_ROWS) (name_same row.name.table table t) room in omega arith)
    (λ f e. omega arith) parts

-- INSERT keeps a valid state valid
pub insert_valid : (s : State) (table : TableDef) (text : InsertText) (row : Row) → IsValid s
    → table_named s.catalog table.name ≡ Some table → inserted_row table text ≡ Some row
    → row_named s.rows row.name ≡ None → length (rows_of s.rows table.name) < MAX_ROWS
    → broken table.checks row.amounts [] [] ≡ None
    → IsValid (record s { rows = with_row row s.rows })
insert_valid s table text row valid named made new room granted =
    let itself : IsRowOf table row = rows_of_table table text row made in
    let name : table.name ≡ row.name.table = sym itself.table_name in
    let of_table : table_named s.catalog row.name.table ≡ Some table = subst (λ n. table_named s.catalog n ≡ Some table) name named in
    let rows : List Row = with_row row s.rows in
    let is_row : HasTable s.catalog row = some_from (λ t. IsRowOf t row) (table_named s.catalog row.name.table) table of_table itself in
    let cases : (P : Row → Type 0) → P row → ((r : Row) → Has s.rows r → P r) → (r : Row) → Has rows r → P r = λ P first others r h.
    elim (has_put row_before row s.rows r (subst (λ rs. Has rs r) (with_row_put row s.rows) h)) [ inl e ↦ subst P e first | inr k ↦ others r k ] in
    let Safe : List Reservation → Type 0 = λ c. AllByRecursion (MeetsChecks s.catalog) (applied rows c) in
    record {
      orderly = valid.orderly;
      safe_rows = record {
        tables = has_all (HasTable s.catalog) rows (cases (HasTable s.catalog) is_row (all_has (HasTable s.catalog) s.rows valid.safe_rows.tables));
        row_order = in_order s.rows row new valid.safe_rows.row_order;
        few_rows = λ t. few_with s.rows row t (valid.safe_rows.few_rows t) (subst (λ n. length (rows_of s.rows n) < MAX_ROWS) name room);
        reserved_rows = has_all (HasRow rows) s.reservations (λ r h.
            still_found s.rows row r new (all_has (HasRow s.rows) s.reservations valid.safe_rows.reserved_rows r h));
        safe = choices_all Safe s.reservations (λ c h. safe_rows s.catalog rows c
            (cases (λ r. MeetsChecks s.catalog (row_after c r)) (meets_new s table row valid of_table new granted c h) (safe_row s valid c h)));
      };
    }
