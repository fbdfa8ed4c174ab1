-- Believed: what a disk has after opening made a store.
use Rattle.std.specs.Prelude.{◌≡◌, []}
use Rattle.sqlite_trees.specs.Tree.{Trees}
use Rattle.sqlite.specs.Effect.{Database}
use Rattle.escrow_cells.specs.Tables.{no_schema}
use Rattle.escrow_rows.specs.Image.{IsImage}

-- there was no object, and the disk now has the image of no tables and no rows
abbrev pub IsFounded : Database → Trees → Type 0
IsFounded old trees = (old.schema ≡ no_schema) × (db : Database) × IsImage [] [] db × (trees ≡ db.trees)
