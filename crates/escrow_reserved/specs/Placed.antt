-- Helps: how places match tables and rows.
use Rattle.std.specs.Prelude.{◌≡◌, ℤ, Option, Some, option_map, IsSomeAnd, List, length}
use Rattle.escrow_num.specs.declared.row.Row.{Row}
use Rattle.escrow_num.specs.declared.value.RowName.{RowName}
use Rattle.escrow_bounds.specs.Place.{Place, checks_of}
use Rattle.escrow_bounds.specs.Bounds.{Bounds, place_at}
use Rattle.escrow_schema.specs.declared.table.TableDef.{TableDef}
use Rattle.escrow_schema.specs.Catalog.{table_named}
use Rattle.escrow_schema.specs.Column.{reservables}
use Rattle.escrow_schema.specs.Rows.{row_named}

-- the amounts of the row of a name, if there is one
abbrev pub amounts_named : List Row → RowName → Option (List ℤ)
amounts_named rows name = option_map (λ row. row.amounts) (row_named rows name)

-- a place has the checks of a table, and an amount for each of the table's RESERVABLE columns
pub record IsOfTable (table : TableDef) (place : Place) : Type 0 where
  pub checks : checks_of place.checks ≡ table.checks
  pub amounts : length place.amounts ≡ length (reservables table.columns)

-- each place has the checks of the table of its row
abbrev pub AreOfTables : List TableDef → Bounds → Type 0
AreOfTables catalog places =
    (row : RowName) (place : Place) → place_at places row ≡ Some place
    → IsSomeAnd (table_named catalog row.table) (λ table. IsOfTable table place)

-- each place has the committed amounts of its row
abbrev pub HaveAmounts : List Row → Bounds → Type 0
HaveAmounts rows places =
    (row : RowName) (place : Place) → place_at places row ≡ Some place → amounts_named rows row ≡ Some place.amounts
