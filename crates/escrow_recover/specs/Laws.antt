-- Believed: the statements of the laws in src/laws.rt.
use Rattle.std.specs.Prelude.{◌≡◌, List}
use Rattle.std.specs.List.{AllByRecursion}
use Rattle.sqlite.specs.Effect.{Database}
use Rattle.sqlite_trees.specs.Tree.{Trees}
use Rattle.escrow_num.specs.declared.row.Row.{Row}
use Rattle.escrow_schema.specs.declared.table.TableDef.{TableDef}
use Rattle.escrow_schema.specs.Catalog.{IsCatalog}
use Rattle.escrow_schema.specs.Rows.{MeetsChecks}
use Rattle.escrow_recover.specs.Stored.{HasHeldValues, HasOtherFormat, IsNoStore}
use Rattle.escrow_recover.specs.Holds.{AreHeld, Holds}

-- the contents of a disk hold one catalog, and one list of rows
abbrev pub OneIsHeld : Type 0
OneIsHeld =
    (catalog others : List TableDef) (rows more : List Row) (trees : Trees) → IsCatalog catalog → IsCatalog others
    → AreHeld catalog rows trees → AreHeld others more trees → (catalog ≡ others) × (rows ≡ more)

-- a database that holds rows which meet their checks, and whose values can be held, is a store, and not one of another
-- format
abbrev pub HeldIsAStore : Type 0
HeldIsAStore =
    (catalog : List TableDef) (rows : List Row) (db : Database) → Holds catalog rows db
    → AllByRecursion (MeetsChecks catalog) rows → AllByRecursion (HasHeldValues catalog) rows
    → ¬ (IsNoStore db) × ¬ (HasOtherFormat db)
