-- CREATE TABLE: existing tables are found as before.
use Rattle.std.specs.Prelude.{◌≡◌, ◌<◌, ℕ, List, Some, None, length, bytes_eq, IsSomeAnd}
use Rattle.std.specs.List.{AllByRecursion}
use Rattle.std.proofs.Common.{inl, inr, sym, ap, ◌∙◌, subst}
use Rattle.std.proofs.lemmas.Bool.{cases_Bool}
use Rattle.escrow_num.specs.declared.row.Row.{Row}
use Rattle.escrow_num.specs.declared.reservation.Reservation.{Reservation}
use Rattle.escrow_num.proofs.Items.{Has, all_has, has_all}
use Rattle.escrow_num.proofs.Orders.{name_same}
use Rattle.escrow_num.proofs.Put.{find_put}
use Rattle.escrow_statement.specs.declared.statement.CreateText.{CreateText}
use Rattle.escrow_checks.specs.Grant.{Meets}
use Rattle.escrow_schema.specs.declared.catalog.TheConstants.Catalog.{MAX_TABLES}
use Rattle.escrow_schema.specs.declared.table.TableDef.{TableDef}
use Rattle.escrow_schema.specs.Catalog.{table_before, table_named, with_table}
use Rattle.escrow_schema.specs.Column.{reservables}
use Rattle.escrow_schema.specs.Definition.{definition_of}
use Rattle.escrow_schema.specs.Fit.{IsRowOf}
use Rattle.escrow_machine.specs.State.{State}
use Rattle.escrow_schema.specs.Rows.{row_after, applied, HasTable, MeetsChecks}
use Rattle.escrow_machine.specs.Valid.{IsValid, IsOrderly}
use Rattle.escrow_machine.proofs.Choices.{IsChoice, choices_all}
use Rattle.escrow_machine.proofs.Kept.{over_catalog}
use Rattle.escrow_machine.proofs.Safe.{safe_row, safe_rows}
use Rattle.escrow_schema.proofs.CatalogLemmas.{with_new, with_table_put}
use Rattle.escrow_schema.proofs.LawLemmas.{name_of_table}

-- a table that is found is also found after a new one is added
still_named : (catalog : List TableDef) (table : TableDef) (name : List ℕ) (P : TableDef → Type 0) → table_named catalog table.name ≡ None
    → IsSomeAnd (table_named catalog name) P → IsSomeAnd (table_named (with_table table catalog) name) P
still_named catalog table name P new h =
    elim (cases_Bool (bytes_eq table.name name)) [
      | inl t ↦ absurd (subst (λ o. IsSomeAnd o P) (ap (table_named catalog) (sym (name_same table.name name t)) ∙ new) h)
      | inr f ↦ subst (λ c. IsSomeAnd (table_named c name) P) (sym (with_table_put table catalog))
          (subst (λ o. IsSomeAnd o P) (sym (find_put table_before (λ t. bytes_eq t.name name) table catalog f)) h)
    ]

-- a table's name is free if the name in its text is
free_name : (catalog : List TableDef) (text : CreateText) (table : TableDef) → definition_of text ≡ Some table → table_named catalog text.table ≡ None → table_named catalog table.name ≡ None
free_name catalog text table made new = subst (λ n. table_named catalog n ≡ None) (sym (name_of_table text table made)) new

-- CREATE TABLE keeps the order of the state
pub create_orderly : (s : State) (text : CreateText) (table : TableDef) → IsOrderly s.catalog s.reservations s.savepoints s.next_id
    → definition_of text ≡ Some table → table_named s.catalog text.table ≡ None → length s.catalog < MAX_TABLES
    → IsOrderly (with_table table s.catalog) s.reservations s.savepoints s.next_id
create_orderly s text table orderly made new room =
    let free = free_name s.catalog text table made new in
    over_catalog s (with_table table s.catalog) orderly (with_new s.catalog table orderly.tables (text, made) free room)
    (λ r _. still_named s.catalog table r.row.table (λ t. length r.changes ≡ length (reservables t.columns)) free)

-- CREATE TABLE keeps a valid state valid
pub create_valid : (s : State) (text : CreateText) (table : TableDef) → IsValid s → definition_of text ≡ Some table
    → table_named s.catalog text.table ≡ None → length s.catalog < MAX_TABLES
    → IsValid (record s { catalog = with_table table s.catalog })
create_valid s text table valid made new room =
    let free = free_name s.catalog text table made new in
    let catalog : List TableDef = with_table table s.catalog in
    let Safe : List Reservation → Type 0 = λ c. AllByRecursion (MeetsChecks catalog) (applied s.rows c) in
    let meets : (c : List Reservation) → IsChoice s.reservations c → (row : Row) → Has s.rows row → MeetsChecks catalog (row_after c row) = λ c choice row h.
    still_named s.catalog table row.name.table (λ t. AllByRecursion (λ check. Meets check (row_after c row).amounts) t.checks) free (safe_row s valid c choice row h) in
    record {
      orderly = create_orderly s text table valid.orderly made new room;
      safe_rows = record {
        tables = has_all (HasTable catalog) s.rows (λ row h.
            still_named s.catalog table row.name.table (λ t. IsRowOf t row) free (all_has (HasTable s.catalog) s.rows valid.safe_rows.tables row h));
        row_order = valid.safe_rows.row_order;
        few_rows = valid.safe_rows.few_rows;
        reserved_rows = valid.safe_rows.reserved_rows;
        safe = choices_all Safe s.reservations (λ c h. safe_rows catalog s.rows c (meets c h));
      };
    }
