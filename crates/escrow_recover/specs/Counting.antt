-- Helps: what private contracts say of the rows of a table that are counted. No contract of a public call uses it.
use Rattle.std.specs.Prelude.{◌≡◌, ◌≤◌, List, length, false, IsTrue}
use Rattle.std.specs.List.{AllByRecursion}
use Rattle.escrow_num.specs.declared.row.Row.{Row}
use Rattle.escrow_checks.specs.Grant.{Meets}
use Rattle.escrow_schema.specs.declared.table.TableDef.{TableDef}
use Rattle.escrow_schema.specs.Fit.{IsRowOf, values_of}
use Rattle.escrow_schema.specs.declared.table.TheConstants.TableDef.{MAX_ROWS}
use Rattle.escrow_rows.specs.declared.keyed_row.KeyedRow.{KeyedRow}
use Rattle.escrow_recover.specs.declared.rows.counter.RowCounter.{RowCounter}

-- a row of a table has this key and these values, and meets the table's checks
pub record IsRowWith (table : TableDef) (read : KeyedRow) (row : Row) : Type 0 where
  pub is_row : IsRowOf table row
  pub meets : AllByRecursion (λ check. Meets check row.amounts) table.checks
  pub key_is : row.name.key ≡ read.key
  pub values_are : values_of table row ≡ read.values

-- the rows that are read are such rows of a table, and no more than it may have
pub record MayHave (table : TableDef) (read : List KeyedRow) : Type 0 where
  pub each : AllByRecursion (λ one. (row : Row) × IsRowWith table one row) read
  pub few : length read ≤ MAX_ROWS

-- a counter of a table has taken rows: if the table may have them, they are counted, else the counter says that it may
-- not
pub record HasTaken (first now : RowCounter) (read : List KeyedRow) : Type 0 where
  pub same_table : now.table ≡ first.table
  pub counted : IsTrue now.sound → MayHave first.table read × (now.rows ≡ length read)
  pub other : now.sound ≡ false → MayHave first.table read → ⊥
