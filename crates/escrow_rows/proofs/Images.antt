-- What steps do to an image.
use Rattle.std.proofs.Common.{Bool, true, List, map, fold, flat_map, sym, ◌∙◌, subst, IsPermutation}
use Rattle.std.proofs.lemmas.List.Sorted.{IsPermutation-trans}
use Rattle.sqlite.specs.Effect.{Database}
use Rattle.escrow_num.specs.declared.row.Row.{Row}
use Rattle.escrow_cells.specs.declared.step.Step.{Step}
use Rattle.escrow_cells.specs.Step.{Contents, contents, done, Does}
use Rattle.escrow_cells.specs.Store.{Migrates as MigratesStore}
use Rattle.escrow_schema.specs.declared.stored.StoredTable.{StoredTable}
use Rattle.escrow_rows.specs.Image.{IsImage, AreTables, AreRows, tab_row, cells_of}
use Rattle.escrow_rows.specs.Answers.{Tells}
use Rattle.escrow_rows.specs.Changes.{Stands, TurnsRows, Migrates}

-- the rows of CELL and TAB are those of these tables and rows, in any order
pub record Encodes (tables : List StoredTable) (rows : List Row) (c : Contents) : Type 0 where
  pub tabs_are : IsPermutation (map tab_row tables) c.tabs
  pub cells_are : IsPermutation (flat_map (cells_of tables) rows) c.cells

-- if steps turn the contents of one image into those of another, they turn the first image into the second
pub image_after : (steps : List Step) (tables after : List StoredTable) (rows turned : List Row) (old new : Database) → Does steps old new
    → (Encodes tables rows (contents old) → Encodes after turned (fold done (contents old) steps)) → IsImage tables rows old → IsImage after turned new
image_after steps tables after rows turned old new does turns image =
    let holds = does image.store in
    let is = turns (record { tabs_are = image.tabs_are; cells_are = image.cells_are }) in
    record {
      store = holds.store;
      format_is = holds.metas_are ∙ image.format_is;
      tabs_are = IsPermutation-trans _ _ _ is.tabs_are holds.tabs_are;
      cells_are = IsPermutation-trans _ _ _ is.cells_are holds.cells_are;
    }

-- a migration to the known format leaves the store the image of the same tables and rows
pub image_migrated : (old new : Database) → MigratesStore old new → Migrates old new
image_migrated old new migrates number tables rows image =
    let has = migrates number image.store image.format_is in
    record {
      store = has.store;
      format_is = has.metas_are;
      tabs_are = subst (IsPermutation (map tab_row tables)) (sym has.tabs_are) image.tabs_are;
      cells_are = subst (IsPermutation (flat_map (cells_of tables) rows)) (sym has.cells_are) image.cells_are;
    }

-- the same for a call that names one table, changes no table, and reports a test of its rows
pub rows_after : (steps : List Step) (s : StoredTable) (held : List Row → Bool) (after : List Row → List Row) (old new : Database) → Does steps old new → Tells s held old true
    → ((tables : List StoredTable) (rows : List Row) → AreTables tables → AreRows tables rows → Stands tables s
    → (c : Contents) → Encodes tables rows c → Encodes tables (after rows) (fold done c steps))
    → TurnsRows s held after old new
rows_after steps s held after old new does told turns tables rows are of stands image = (
  sym (told tables rows are of stands image),
  image_after steps tables tables rows (after rows) old new does (turns tables rows are of stands (contents old)) image,
)
