-- Believed: the statements of the laws in src/laws.rt.
use Rattle.std.specs.Prelude.{◌≡◌, List, IsPermutation}
use Rattle.std.specs.List.{flat_map}
use Rattle.sqlite.specs.Effect.{Database}
use Rattle.escrow_num.specs.declared.row.Row.{Row}
use Rattle.escrow_cells.specs.Store.{cells}
use Rattle.escrow_schema.specs.declared.stored.StoredTable.{StoredTable}
use Rattle.escrow_rows.specs.Image.{AreTables, AreRows, cells_of}
use Rattle.escrow_rows.specs.View.{rows_in}

-- the rows that a database holds are those whose cells it has, in any order
abbrev pub TheRowsOfAnImage : Type 0
TheRowsOfAnImage =
    (tables : List StoredTable) (rows : List Row) (db : Database) → AreTables tables → AreRows tables rows
    → IsPermutation (flat_map (cells_of tables) rows) (cells db) → rows_in tables db ≡ rows
