-- UPDATE of plain values: names and amounts stay, so each row is as safe as before.
use Rattle.std.specs.Prelude.{◌≡◌, ◌≤◌, true, Option, Some, None, option_map, List, [], ◌∷◌, bytes_eq, IfSome, IsSome, IsTrue}
use Rattle.std.specs.List.{AllByRecursion, AllZip}
use Rattle.std.specs.Ordering.{is_lt}
use Rattle.std.proofs.Common.{sym, subst, refl, ap, ◌∙◌}
use Rattle.std.proofs.lemmas.Bool.{cond_both}
use Rattle.escrow_num.specs.declared.row.Row.{Row}
use Rattle.escrow_num.specs.declared.reservation.Reservation.{Reservation}
use Rattle.escrow_num.specs.declared.value.RowName.{RowName}
use Rattle.escrow_num.specs.declared.value.Value.{Value}
use Rattle.escrow_num.specs.Order.{same_row, row_cmp}
use Rattle.escrow_num.proofs.Ascending.{ascending_map}
use Rattle.escrow_num.proofs.Items.{Has, all_has, has_all, has_map}
use Rattle.escrow_num.proofs.Orders.{row_same}
use Rattle.escrow_schema.specs.declared.column.Column.{Column}
use Rattle.escrow_schema.specs.declared.table.TableDef.{TableDef}
use Rattle.escrow_schema.specs.Catalog.{table_named}
use Rattle.escrow_schema.specs.Column.{fits}
use Rattle.escrow_schema.specs.Fit.{IsRowOf, plains}
use Rattle.escrow_schema.specs.declared.table.TheConstants.TableDef.{MAX_ROWS}
use Rattle.escrow_machine.specs.State.{State}
use Rattle.escrow_schema.specs.Rows.{row_named, row_after, applied, replaced, with_values, with_plain, HasTable, MeetsChecks, row_before}
use Rattle.escrow_machine.specs.Valid.{IsValid, HasRow}
use Rattle.escrow_machine.proofs.Choices.{IsChoice, choices_all}
use Rattle.escrow_schema.proofs.Listed.{all_map}
use Rattle.escrow_machine.proofs.Lengths.{length-filter_map, find_map}
use Rattle.escrow_machine.proofs.Safe.{some_at, some_image, some_from, safe_row, safe_rows}

-- the new values fit the columns that are neither RESERVABLE nor the key
abbrev pub FitPlain : TableDef → List (Option Value) → Type 0
FitPlain table values = AllZip (λ column o. IfSome o (λ v. IsTrue (fits column.kind v))) (plains table.columns 0 table.key) values

-- what holds for a row as it is, and with its values replaced, holds after `with_values`
pub values_both : (P : Row → Type 0) (name : RowName) (values : List (Option Value)) (row : Row)
    → (same_row row.name name ≡ true → P (record row { plain = replaced values row.plain })) → P row → P (with_values name values row)
values_both P name values row new old = cond_both (same_row row.name name) (record row { plain = replaced values row.plain }) row P new (λ _. old)

-- a row's name and its amounts stay
pub name_stays : (name : RowName) (values : List (Option Value)) (row : Row) → (with_values name values row).name ≡ row.name
name_stays name values row = values_both (λ r. r.name ≡ row.name) name values row (λ _. refl) refl

-- fitting values, some of them replaced by fitting ones, still fit
replaced_fit : (columns : List Column) (values : List (Option Value)) (plain : List Value)
    → AllZip (λ column o. IfSome o (λ v. IsTrue (fits column.kind v))) columns values
    → AllZip (λ column v. IsTrue (fits column.kind v)) columns plain
    → AllZip (λ column v. IsTrue (fits column.kind v)) columns (replaced values plain)
replaced_fit [] [] [] new old = tt
replaced_fit [] [] (v ∷ plain) new old = absurd old
replaced_fit [] (o ∷ values) plain new old = absurd new
replaced_fit (column ∷ columns) [] plain new old = absurd new
replaced_fit (column ∷ columns) (o ∷ values) [] new old = absurd old
replaced_fit (column ∷ columns) (None ∷ values) (v ∷ plain) new old = (old.0, replaced_fit columns values plain new.1 old.1)
replaced_fit (column ∷ columns) (Some w ∷ values) (v ∷ plain) new old = (new.0, replaced_fit columns values plain new.1 old.1)

-- a row still has the shape of its table
still_row_of : (table : TableDef) (row : Row) (values : List (Option Value)) → FitPlain table values → IsRowOf table row
    → IsRowOf table (record row { plain = replaced values row.plain })
still_row_of table row values fit is_row = record {
  table_name = is_row.table_name;
  key = is_row.key;
  plain = replaced_fit (plains table.columns 0 table.key) values row.plain fit is_row.plain;
  amounts = is_row.amounts;
}

-- the named row still has its table
still_has_table : (catalog : List TableDef) (table : TableDef) (name : RowName) (values : List (Option Value)) (row : Row)
    → table_named catalog name.table ≡ Some table → FitPlain table values → HasTable catalog row → HasTable catalog (with_values name values row)
still_has_table catalog table name values row named fit h =
    values_both (HasTable catalog) name values row
    (λ same.
    let of_table : table_named catalog row.name.table ≡ Some table = ap (λ (n : RowName). table_named catalog n.table) (row_same row.name name same) ∙ named in
    some_from (λ t. IsRowOf t (record row { plain = replaced values row.plain })) (table_named catalog row.name.table) table of_table
    (still_row_of table row values fit (some_at (λ t. IsRowOf t row) (table_named catalog row.name.table) table of_table h)))
    h

-- a test of names gives the same result
pub same_test : (name other : RowName) (values : List (Option Value)) (row : Row)
    → same_row (with_values name values row).name other ≡ same_row row.name other
same_test name other values row = ap (λ (n : RowName). same_row n other) (name_stays name values row)

-- an UPDATE of plain values keeps a valid state valid
pub plain_valid : (s : State) (table : TableDef) (name : RowName) (values : List (Option Value)) → IsValid s
    → table_named s.catalog name.table ≡ Some table → FitPlain table values
    → IsValid (record s { rows = with_plain name values s.rows })
plain_valid s table name values valid named fit =
    let rows : List Row = with_plain name values s.rows in
    let Safe : List Reservation → Type 0 = λ c. AllByRecursion (MeetsChecks s.catalog) (applied rows c) in
    let met : (c : List Reservation) → IsChoice s.reservations c → (row : Row) → Has rows row → MeetsChecks s.catalog (row_after c row) = λ c choice row h.
    let from = has_map (with_values name values) s.rows row h in
    let safe = safe_row s valid c choice from.0 from.1 in
    subst (λ x. MeetsChecks s.catalog (row_after c x)) from.2
    (values_both (λ x. MeetsChecks s.catalog (row_after c x)) name values from.0 (λ _. safe) safe) in
    record {
      orderly = valid.orderly;
      safe_rows = record {
        tables = all_map (HasTable s.catalog) (with_values name values) s.rows
            (has_all (λ r. HasTable s.catalog (with_values name values r)) s.rows
            (λ r h. still_has_table s.catalog table name values r named fit (all_has (HasTable s.catalog) s.rows valid.safe_rows.tables r h)));
        row_order = ascending_map row_before (with_values name values) (same_order name values) s.rows valid.safe_rows.row_order;
        few_rows = λ t. subst (λ n. n ≤ MAX_ROWS) (sym (length-filter_map (λ r. bytes_eq r.name.table t) (with_values name values)
            (λ r. ap (λ (n : RowName). bytes_eq n.table t) (name_stays name values r)) s.rows)) (valid.safe_rows.few_rows t);
        reserved_rows = has_all (HasRow rows) s.reservations (λ r h.
            let stands = all_has (HasRow s.rows) s.reservations valid.safe_rows.reserved_rows r h in
            let found : row_named rows r.row ≡ option_map (with_values name values) (row_named s.rows r.row) =
            find_map (λ (x : Row). same_row x.name r.row) (with_values name values) (same_test name r.row values) s.rows in
            subst (λ (o : Option Row). IsSome o) (sym found) (some_image (with_values name values) (row_named s.rows r.row) stands));
        safe = choices_all Safe s.reservations (λ c h. safe_rows s.catalog rows c (met c h));
      };
    }
  where
    same_order : (n : RowName) (vs : List (Option Value)) (x y : Row) → row_before (with_values n vs x) (with_values n vs y) ≡ row_before x y
    same_order n vs x y =
        ap (λ (a : RowName). is_lt (row_cmp a (with_values n vs y).name)) (name_stays n vs x)
        ∙ ap (λ (b : RowName). is_lt (row_cmp x.name b)) (name_stays n vs y)
