-- Tables in which no column has a scale.
use Rattle.std.proofs.Common.{List, map, sym, subst}
use Rattle.std.specs.List.{AllByRecursion}
use Rattle.sqlite_trees.proofs.ListLemmas.{all-map, all-permutation, all_from_map, map-map}
use Rattle.sqlite.specs.Effect.{Database}
use Rattle.escrow_num.specs.declared.row.Row.{Row}
use Rattle.escrow_cells.specs.declared.formats.TheConstants.{FORMAT_1}
use Rattle.escrow_schema.specs.declared.stored.StoredTable.{StoredTable}
use Rattle.escrow_schema.specs.declared.counted_table.CountedTable.{CountedTable}
use Rattle.escrow_recover.specs.Stored.{AreWhole, IsNoFormat1Store, IsStoreIn, IsWhole, stored_of}
use Rattle.escrow_recover.proofs.Back.{store_tables}
use Rattle.escrow_recover.proofs.Only.{only_tables}

abbrev pub AreEachWhole : List CountedTable → Type 0
AreEachWhole = AllByRecursion (λ (c : CountedTable). IsWhole c.stored.table)

-- if each table is whole, the catalog is whole
pub whole_catalog : (found : List CountedTable) → AreEachWhole found → AreWhole (map (λ (s : StoredTable). s.table) (stored_of found))
whole_catalog found each =
    subst AreWhole (sym (map-map (λ (s : StoredTable). s.table) (λ (c : CountedTable). c.stored) found)) (all-map IsWhole (λ (c : CountedTable). c.stored.table) found each)

-- a store has one list of tables: if these are not whole, it is no store of whole tables
pub none_whole : (found : List CountedTable) (rows : List Row) (db : Database) → IsStoreIn FORMAT_1 (stored_of found) rows db → (AreEachWhole found → ⊥) → IsNoFormat1Store db
none_whole found rows db store scaled others more is =
    let one = only_tables others (stored_of found) db (store_tables others more db is.store) (store_tables (stored_of found) rows db store) in
    let each = all-permutation (λ (s : StoredTable). IsWhole s.table) others (stored_of found) one (all_from_map IsWhole (λ (s : StoredTable). s.table) others is.whole) in
    scaled (all_from_map (λ (s : StoredTable). IsWhole s.table) (λ (c : CountedTable). c.stored) found each)
