-- A store that is verified again: its tables are those of which it is the image, and its rows meet their checks.
use Rattle.std.proofs.Common.{◌≡◌, List, map, sym, ap, ◌∙◌, subst, subst₂}
use Rattle.std.specs.List.{AllByRecursion}
use Rattle.sqlite.specs.Effect.{Database}
use Rattle.sqlite.specs.State.{HasCleanDisk, State}
use Rattle.escrow_num.specs.declared.row.Row.{Row}
use Rattle.escrow_schema.specs.declared.counted_table.CountedTable.{CountedTable}
use Rattle.escrow_schema.specs.declared.stored.StoredTable.{StoredTable}
use Rattle.escrow_schema.specs.declared.table.TableDef.{TableDef}
use Rattle.escrow_schema.specs.Catalog.{IsCatalog}
use Rattle.escrow_schema.specs.Rows.{MeetsChecks}
use Rattle.escrow_schema.specs.Stored.{IsListed}
use Rattle.escrow_rows.specs.Answers.{OnlyReads}
use Rattle.escrow_rows.specs.View.{rows_in}
use Rattle.escrow_rows.proofs.ListedTables.{listed_are}
use Rattle.escrow_recover.specs.Opened.{IsOpened}
use Rattle.escrow_recover.specs.Stored.{IsStoreOf}
use Rattle.escrow_recover.proofs.OpenedLemmas.{definitions, stores_rows}
use Rattle.escrow_recover.proofs.StoredOnce.{stored_once}
use Rattle.escrow_tables.specs.Inside.{Keeps, catalog_of, stored_of}

-- verification finds the kept tables again, and their rows meet their checks
pub meet_again : (old new last : State) (tables found : List CountedTable) → Keeps old last tables → OnlyReads old new → IsListed found → (HasCleanDisk new → IsOpened new found) → HasCleanDisk new
    → AllByRecursion (MeetsChecks (catalog_of tables)) (rows_in (stored_of tables) last.now)
meet_again old new last tables found keeps only_reads listed opened clean =
    let found_rows = (opened clean).0 in
    let is = (opened clean).1 in
    let before = only_reads.usable (clean, is.is_open) in
    let now : new.now ≡ last.now = only_reads.same (clean, is.is_open) ∙ keeps.same before in
    let read : rows_in (stored_of found) last.now ≡ found_rows = ap (λ (db : Database). rows_in (stored_of found) db) (sym now) ∙ stores_rows new found found_rows is in
    let store = subst (λ (db : Database). IsStoreOf (stored_of found) found_rows db) now is.store in
    let held = keeps.held before.0 in
    let defs : (ts : List CountedTable) → IsListed ts → IsCatalog (map (λ (s : StoredTable). s.table) (stored_of ts)) = λ ts is_listed. subst IsCatalog (sym (definitions ts)) is_listed.is_catalog in
    let same = stored_once (stored_of tables) (stored_of found) _ (listed_are tables keeps.listed) (defs tables keeps.listed) held.image.tabs_are
    (listed_are found listed) (defs found listed) store.image.tabs_are in
    let catalog : catalog_of tables ≡ map (λ (s : StoredTable). s.table) (stored_of found) = sym (definitions tables) ∙ ap (map (λ (s : StoredTable). s.table)) same in
    subst₂ (λ (cs : List TableDef) (ts : List StoredTable). AllByRecursion (MeetsChecks cs) (rows_in ts last.now)) (sym catalog) (sym same)
    (subst (λ (rows : List Row). AllByRecursion (MeetsChecks (map (λ (s : StoredTable). s.table) (stored_of found))) rows) (sym read) store.meet)
