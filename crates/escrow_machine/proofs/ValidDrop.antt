-- DROP TABLE: no open reservation is of a row of the dropped table.
use Rattle.std.specs.Prelude.{◌≡◌, ℕ, false, not, Option, List, bytes_eq, length, IsSomeAnd}
use Rattle.std.proofs.Common.{sym, ap, ◌∙◌, subst}
use Rattle.std.proofs.lemmas.Bool.{not-true}
use Rattle.escrow_num.specs.declared.reservation.Reservation.{Reservation}
use Rattle.escrow_num.specs.declared.value.RowName.{RowName}
use Rattle.escrow_num.proofs.Items.{Has}
use Rattle.escrow_num.proofs.Orders.{row_same, name_same}
use Rattle.escrow_schema.specs.declared.table.TableDef.{TableDef}
use Rattle.escrow_schema.specs.Catalog.{table_named, without_table}
use Rattle.escrow_schema.specs.Column.{reservables}
use Rattle.escrow_machine.specs.State.{State, is_table_reserved}
use Rattle.escrow_machine.specs.Transition.{after_drop}
use Rattle.escrow_machine.specs.Valid.{IsValid, IsOrderly}
use Rattle.escrow_machine.proofs.Kept.{any_none, find_filter, kept_safe, over_catalog}
use Rattle.escrow_schema.proofs.CatalogLemmas.{without_one}

-- a table of another name is found as before
pub other_table : (catalog : List TableDef) (name other : List ℕ) → bytes_eq other name ≡ false → table_named (without_table name catalog) other ≡ table_named catalog other
other_table catalog name other differs =
    find_filter (λ (t : TableDef). bytes_eq t.name other) (λ (t : TableDef). not (bytes_eq t.name name)) catalog
    (λ t same. ap not (ap (λ (n : List ℕ). bytes_eq n name) (name_same t.name other same) ∙ differs))

-- if a table is not reserved, no reservation is of one of its rows
other_tables : (s : State) (name : List ℕ) → is_table_reserved s name ≡ false → (r : Reservation) → Has s.reservations r → bytes_eq r.row.table name ≡ false
other_tables s name free = any_none (λ (r : Reservation). bytes_eq r.row.table name) s.reservations free

-- DROP TABLE keeps the order of the state
pub drop_orderly : (s : State) (name : List ℕ) → IsOrderly s.catalog s.reservations s.savepoints s.next_id → is_table_reserved s name ≡ false
    → IsOrderly (without_table name s.catalog) s.reservations s.savepoints s.next_id
drop_orderly s name orderly free =
    over_catalog s (without_table name s.catalog) orderly (without_one s.catalog name orderly.tables)
    (λ r h. subst (λ (o : Option TableDef). IsSomeAnd o (λ t. length r.changes ≡ length (reservables t.columns))) (sym (other_table s.catalog name r.row.table (other_tables s name free r h))))

-- DROP TABLE keeps a valid state valid
pub drop_valid : (s : State) (name : List ℕ) → IsValid s → is_table_reserved s name ≡ false → IsValid (after_drop s name)
drop_valid s name valid free = record {
  orderly = drop_orderly s name valid.orderly free;
  safe_rows = kept_safe s (λ row. not (bytes_eq row.name.table name)) (without_table name s.catalog) valid
      (λ row kept. other_table s.catalog name row.name.table (not-true (bytes_eq row.name.table name) kept))
      (λ r h row same. ap not (ap (λ (n : RowName). bytes_eq n.table name) (row_same row.name r.row same) ∙ other_tables s name free r h));
}
