-- A disk holds one catalog and one list of rows; it is then a store.
use Rattle.std.proofs.Common.{◌≡◌, List, [], ◌∷◌, map, sym, ap, ap₂, ◌∙◌, subst, IsPermutation}
use Rattle.std.specs.List.{flat_map}
use Rattle.std.specs.List.{AllByRecursion}
use Rattle.sqlite_value.specs.Order.{Row as SqlRow, column}
use Rattle.sqlite.specs.Effect.{Database}
use Rattle.escrow_num.specs.declared.row.Row.{Row}
use Rattle.escrow_schema.specs.declared.table.TableDef.{TableDef}
use Rattle.sqlite_trees.specs.Tree.{Trees, rowid}
use Rattle.escrow_schema.specs.Catalog.{IsCatalog}
use Rattle.escrow_cells.specs.declared.formats.TheConstants.{FORMAT}
use Rattle.escrow_cells.specs.Store.{cells, tabs}
use Rattle.escrow_cells.specs.Tables.{cell_tree, tab_tree}
use Rattle.escrow_rows.specs.Image.{tab_row}
use Rattle.escrow_rows.specs.View.{sorted_rows, row_at}
use Rattle.escrow_schema.specs.declared.stored.StoredTable.{StoredTable}
use Rattle.escrow_rows.proofs.ViewLemmas.{rows_are}
use Rattle.escrow_schema.specs.Rows.{MeetsChecks}
use Rattle.escrow_recover.specs.Stored.{HasHeldValues, HasOtherFormat, IsStoreOf}
use Rattle.escrow_recover.proofs.Metas.{not_other}
use Rattle.escrow_recover.specs.Holds.{Holds}
use Rattle.escrow_recover.specs.Laws.{OneIsHeld, HeldIsAStore}
use Rattle.escrow_recover.proofs.StoredOnce.{stored_once}

pub one_is_held : OneIsHeld
one_is_held catalog others rows more trees is_catalog are_catalog one other =
    let held = one.1 in
    let again = other.1 in
    let same : one.0.trees ≡ other.0.trees = sym one.2 ∙ other.2 in
    let tabs_same : tabs one.0 ≡ tabs other.0 = ap (λ (t : Trees). map (λ (r : SqlRow). rowid r ∷ column r 2 ∷ column r 3 ∷ []) (t tab_tree)) same in
    let cells_same : cells one.0 ≡ cells other.0 = ap (λ (t : Trees). map (λ (r : SqlRow). column r 1 ∷ column r 2 ∷ column r 3 ∷ column r 4 ∷ []) (t cell_tree)) same in
    let tables : held.tables ≡ again.tables = stored_once held.tables again.tables (tabs other.0)
    held.are_tables (subst IsCatalog (sym held.catalog_is) is_catalog) (subst (IsPermutation (map tab_row held.tables)) tabs_same held.image.tabs_are)
    again.are_tables (subst IsCatalog (sym again.catalog_is) are_catalog) again.image.tabs_are in (
      sym held.catalog_is ∙ ap (map (λ (s : StoredTable). s.table)) tables ∙ again.catalog_is,
      sym (rows_are held.tables rows one.0 held.are_tables held.are_rows held.image.cells_are)
          ∙ ap₂ (λ (ts : List StoredTable) (cs : List SqlRow). sorted_rows (flat_map (row_at ts cs) cs)) tables cells_same
          ∙ rows_are again.tables more other.0 again.are_tables again.are_rows again.image.cells_are,
    )

stored : (catalog : List TableDef) (rows : List Row) (db : Database) (held : Holds catalog rows db) → AllByRecursion (MeetsChecks catalog) rows → AllByRecursion (HasHeldValues catalog) rows
    → IsStoreOf held.tables rows db
stored catalog rows db held meet values = record {
  are_tables = held.are_tables;
  are_rows = held.are_rows;
  meet = subst (λ (c : List TableDef). AllByRecursion (MeetsChecks c) rows) (sym held.catalog_is) meet;
  held = subst (λ (c : List TableDef). AllByRecursion (HasHeldValues c) rows) (sym held.catalog_is) values;
  image = held.image;
}

-- a store has the known format
one_format : (catalog : List TableDef) (rows : List Row) (db : Database) → Holds catalog rows db → ¬ (HasOtherFormat db)
one_format catalog rows db held other = not_other db FORMAT held.image.format_is other

pub held_is_a_store : HeldIsAStore
held_is_a_store catalog rows db held meet values = (λ none. none held.tables rows (stored catalog rows db held meet values), one_format catalog rows db held)
