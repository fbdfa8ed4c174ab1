-- What is read from the table at a place.
use Rattle.std.proofs.Common.{◌≡◌, ℕ, List, Option, Some, None, Result, get_or, subst}
use Rattle.std.specs.Prelude.{IfOk, IfSome, IsSomeAnd, IsTrue}
use Rattle.std.proofs.lemmas.Result.{IfOk-weaker}
use Rattle.sqlite.specs.State.{State, HasCleanDisk}
use Rattle.escrow_num.specs.declared.row.Row.{Row}
use Rattle.escrow_num.specs.declared.value.RowName.{RowName}
use Rattle.escrow_num.specs.declared.value.Value.{Value}
use Rattle.escrow_schema.specs.declared.table.TableDef.{TableDef}
use Rattle.escrow_schema.specs.Catalog.{IsCatalog, place_named, table_named}
use Rattle.escrow_schema.specs.Definition.{IsTable}
use Rattle.escrow_rows.specs.Answers.{IsUsable, Tells}
use Rattle.escrow_rows.specs.Changes.{name_in}
use Rattle.escrow_rows.specs.View.{rows_in}
use Rattle.escrow_schema.specs.declared.counted_table.CountedTable.{CountedTable}
use Rattle.escrow_schema.specs.Rows.{row_named, rows_of}
use Rattle.escrow_tables.specs.Inside.{Keeps, stored_of, catalog_of}
use Rattle.escrow_tables.proofs.Named.{IsNamed, named_is_table}
use Rattle.escrow_tables.proofs.Placed.{is_placed}
use Rattle.escrow_tables.proofs.Reading.{name_of, told_of}

-- the table at the place of a name has this name
pub named_at : (tables : List CountedTable) (name : List ℕ) (place : ℕ) (c : CountedTable) → place_named (catalog_of tables) name ≡ Some place → c ≡ get_or tables place c → IsNamed tables name c
named_at tables name place c at item = (is_placed tables name place c at item).named

-- some text defines this table
pub is_table_at : (tables : List CountedTable) (name : List ℕ) (place : ℕ) (c : CountedTable) → IsCatalog (catalog_of tables) → place_named (catalog_of tables) name ≡ Some place → c ≡ get_or tables place c → IsTable c.stored.table
is_table_at tables name place c catalog at item = named_is_table tables name c catalog (named_at tables name place c at item)

module _ (tables : List CountedTable) (name : List ℕ) (c : CountedTable) (named : IsNamed tables name c) where
  -- what holds of this table holds of the one that the catalog finds by name
  pub in_catalog : (P : TableDef → Type 0) → P c.stored.table → IsSomeAnd (table_named (catalog_of tables) name) P
  in_catalog P h = rw named.in_catalog h

  -- an answer about the row of a key is an answer about the row of its name
  pub row_told : {A E : Type 0} (of : Option Row → A) (key : Value) (old new last : State) (r : Result A E) → Keeps old last tables → (IsUsable new → IsUsable old) → HasCleanDisk new
      → IfOk r (λ found. IsTrue new.is_open × Tells c.stored (λ rows. of (row_named rows (name_in c.stored key))) old.now found)
      → IfOk r (λ found. found ≡ of (row_named (rows_in (stored_of tables) last.now) (record { table = name; key = key })))
  row_told of key old new last r keeps before clean told =
      subst (λ (n : RowName). IfOk r (λ found. found ≡ of (row_named (rows_in (stored_of tables) last.now) n))) (name_of tables name c named key)
      (told_of tables name c named old new last r (λ found. found) (λ rows. of (row_named rows (name_in c.stored key))) keeps before clean told)

  -- an answer about the rows of a table is an answer about the rows of its name
  pub rows_told : {A E : Type 0} (of : List Row → A) (old new last : State) (r : Result A E) → Keeps old last tables → (IsUsable new → IsUsable old) → HasCleanDisk new
      → IfOk r (λ found. IsTrue new.is_open × Tells c.stored (λ rows. of (rows_of rows c.stored.table.name)) old.now found)
      → IfOk r (λ found. found ≡ of (rows_of (rows_in (stored_of tables) last.now) name))
  rows_told of old new last r keeps before clean told =
      subst (λ (n : List ℕ). IfOk r (λ found. found ≡ of (rows_of (rows_in (stored_of tables) last.now) n))) named.name_is
      (told_of tables name c named old new last r (λ found. found) (λ rows. of (rows_of rows c.stored.table.name)) keeps before clean told)

  -- an answer about the table's definition is an answer about the definition in the catalog
  pub by_table : {A E : Type 0} (P : TableDef → A → Type 0) (r : Result A E) → IfOk r (P c.stored.table) → IfOk r (λ found. IsSomeAnd (table_named (catalog_of tables) name) (λ table. P table found))
  by_table P r = IfOk-weaker r (P c.stored.table) (λ found. IsSomeAnd (table_named (catalog_of tables) name) (λ table. P table found)) (λ found told. in_catalog (λ table. P table found) told)

  pub some_by_table : {A E : Type 0} (P : TableDef → A → Type 0) (r : Result (Option A) E) → IfOk r (λ found. IfSome found (P c.stored.table))
      → IfOk r (λ found. IfSome found (λ x. IsSomeAnd (table_named (catalog_of tables) name) (λ table. P table x)))
  some_by_table {A} P r = IfOk-weaker r (λ found. IfSome found (P c.stored.table)) (λ found. IfSome found (λ x. IsSomeAnd (table_named (catalog_of tables) name) (λ table. P table x))) at
    where
      at : (found : Option A) → IfSome found (P c.stored.table) → IfSome found (λ x. IsSomeAnd (table_named (catalog_of tables) name) (λ table. P table x))
      at None h = tt
      at (Some x) h = in_catalog (λ table. P table x) h
