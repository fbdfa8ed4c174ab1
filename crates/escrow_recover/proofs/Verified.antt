-- What the parts of a verification say together.
use Rattle.std.proofs.Common.{◌≡◌, ℤ, List, map, sym, ap, ◌∙◌, subst, arith, IsTrue, Result, Ok, Err}
use Rattle.std.specs.List.{AllByRecursion}
use Rattle.std.specs.Result.{IsErrAnd}
use Rattle.sqlite_trees.proofs.ListLemmas.{map-map}
use Rattle.sqlite.specs.Effect.{Database}
use Rattle.sqlite.specs.State.{State, HasCleanDisk}
use Rattle.escrow_num.specs.declared.row.Row.{Row}
use Rattle.escrow_num.proofs.Items.{has_all}
use Rattle.escrow_schema.specs.Catalog.{IsCatalog}
use Rattle.escrow_cells.specs.Store.{HasTables, IsStore}
use Rattle.escrow_schema.specs.declared.stored.StoredTable.{StoredTable}
use Rattle.escrow_rows.specs.Answers.{IsUsable, OnlyReads}
use Rattle.escrow_rows.specs.Image.{AreTables}
use Rattle.escrow_schema.specs.Rows.{rows_of}
use Rattle.escrow_rows.proofs.ImageTables.{has_permutation}
use Rattle.escrow_schema.specs.declared.counted_table.CountedTable.{CountedTable}
use Rattle.escrow_recover.specs.declared.unverified.PartFault.{PartFault}
use Rattle.escrow_recover.specs.declared.unverified.PartFault.TheVariants.{Failed, Foreign}
use Rattle.escrow_recover.specs.declared.unverified.Unverified.{Unverified}
use Rattle.escrow_recover.specs.declared.unverified.Unverified.TheVariants.{ForeignStore}
use Rattle.escrow_recover.specs.Inside.{AreOfTables, AreRowsIn, AreTablesIn, HasRows, HaveRows, IsKnown, unverified_by}
use Rattle.escrow_schema.specs.Stored.{IsListed, stored_of}
use Rattle.escrow_rows.proofs.ListedTables.{are_listed}
use Rattle.escrow_recover.specs.Stored.{HasCount, HasFormatBut, IsNoStoreIn, IsStoreIn}
use Rattle.escrow_recover.proofs.Metas.{not_other}
use Rattle.escrow_recover.proofs.Back.{store_cells, store_rows, store_tables}
use Rattle.escrow_recover.proofs.Only.{only_tables}
use Rattle.escrow_recover.proofs.Parts.{counted_store}

-- if verification fails because of one part, that part refused the store
pub by_part : {X Y : Type 0} (r : Result X Unverified) (call : Result Y PartFault) (why : PartFault) → IsErrAnd r (λ e. e ≡ unverified_by why) → call ≡ Err why → r ≡ Err ForeignStore → call ≡ Err Foreign
by_part (Ok x) call why is was refused = absurd is
by_part (Err e) call (Failed failure) is was refused = absurd (cc)
by_part (Err e) call Foreign is was refused = was

-- if the disk is clean after reading, it was clean before
was_clean : (a b : State) → OnlyReads a b → HasCleanDisk b → HasCleanDisk a
was_clean a b only_reads clean = let more = only_reads.survives.clean in omega arith

-- if the format of a database was tested, the database has no other format
pub not_another : (number : ℤ) (first format last : State) → (HasCleanDisk format → IsTrue format.is_open × IsKnown number first.now) → OnlyReads format last → IsUsable last → HasFormatBut number first.now → ⊥
not_another number first format last known only_reads usable = not_other first.now number (known (only_reads.usable usable).0).1.format_is

-- the tables of a store are found: its format is tested, then TAB is read
pub record Finds (number : ℤ) (first format tab : State) (tables : List StoredTable) : Type 0 where
  pub to_format : OnlyReads first format
  pub to_tab : OnlyReads format tab
  pub known : HasCleanDisk format → IsTrue format.is_open × IsKnown number first.now
  pub found : HasCleanDisk tab → IsTrue tab.is_open × (IsStore format.now → AreTablesIn tables format.now)

module _ (number : ℤ) (first format tab : State) (tables : List StoredTable) (finds : Finds number first format tab tables) where
  tab_same : IsUsable tab → tab.now ≡ first.now
  tab_same usable = finds.to_tab.same usable ∙ finds.to_format.same (finds.to_tab.usable usable)

  found_in : IsUsable tab → IsStore first.now → AreTablesIn tables first.now
  found_in usable store =
      let same = finds.to_format.same (finds.to_tab.usable usable) in
      subst (AreTablesIn tables) same ((finds.found usable.0).1 (subst IsStore (sym same) store))

  -- no store has cells of an unknown table
  pub strange_cells : (cells : State) → OnlyReads tab cells → IsUsable cells → (HasTables tab.now.schema → AreOfTables tables tab.now → ⊥) → IsNoStoreIn number first.now
  strange_cells cells to_cells usable strange others rows is =
      let before = to_cells.usable usable in
      let same = tab_same before in
      strange (subst (λ (db : Database). HasTables db.schema) (sym same) is.image.store.tables)
      (subst (AreOfTables tables) (sym same) (store_cells tables others rows first.now (found_in before is.image.store) is))

  module _ (cells : State) (to_cells : OnlyReads tab cells) where
    cells_same : IsUsable cells → cells.now ≡ first.now
    cells_same usable = to_cells.same usable ∙ tab_same (to_cells.usable usable)

    -- no store has rows that no table may have
    pub strange_rows : (last : State) → OnlyReads cells last → IsUsable last → (IsStore cells.now → HaveRows cells.now tables → ⊥) → IsNoStoreIn number first.now
    strange_rows last to_last usable strange others rows is =
        let before = to_last.usable usable in
        let same = cells_same before in
        let found = found_in (to_cells.usable before) is.image.store in
        let one = only_tables tables others first.now found (store_tables others rows first.now is) in
        strange (subst IsStore (sym same) is.image.store)
        (subst (λ (db : Database). HaveRows db tables) (sym same)
        (has_all (λ (s : StoredTable). (mine : List Row) × AreRowsIn s mine first.now) tables (λ s has. (rows_of rows s.table.name, store_rows others rows first.now s (has_permutation tables others one s has) is))))

    -- counted tables are those of a store
    pub verified : (counted : List CountedTable) (last : State) → OnlyReads cells last → IsCatalog (map (λ s. s.table) tables)
        → (HasCleanDisk cells → IsTrue cells.is_open × (HasTables tab.now.schema → AreOfTables tables tab.now))
        → stored_of counted ≡ tables
        → (HasCleanDisk last → IsTrue cells.is_open → IsTrue last.is_open × (IsStore cells.now → AllByRecursion (HasRows cells.now) counted))
        → HasCleanDisk last → IsTrue last.is_open × (rows : List Row) × IsStoreIn number (stored_of counted) rows first.now × AllByRecursion (HasCount rows) counted
    verified counted last to_last catalog owned are counts clean =
        let clean_cells = was_clean cells last to_last clean in
        let of = owned clean_cells in
        let found = counts clean of.0 in
        let usable : IsUsable cells = (clean_cells, of.0) in
        let at_tab = to_cells.usable usable in
        let same = cells_same usable in
        let known = (finds.known (finds.to_tab.usable at_tab).0).1 in
        let of_tables = subst (AreOfTables tables) (tab_same at_tab) (of.1 (subst (λ (db : Database). HasTables db.schema) (sym (tab_same at_tab)) known.store.tables)) in
        let whole = counted_store first.now counted known
        (subst (λ (ts : List StoredTable). AreTablesIn ts first.now) (sym are) (found_in at_tab known.store))
        (subst (λ (ts : List StoredTable). IsCatalog (map (λ s. s.table) ts)) (sym are) catalog).order
        (subst (λ (ts : List StoredTable). AreOfTables ts first.now) (sym are) of_tables)
        (subst (λ (db : Database). AllByRecursion (HasRows db) counted) same (found.1 (subst IsStore (sym same) known.store))) in
        (found.0, whole.0, whole.1, whole.2)

-- the counted tables are those of a catalog
pub verified_tables : (counted : List CountedTable) (tables : List StoredTable) → AreTables tables × IsCatalog (map (λ s. s.table) tables)
    → stored_of counted ≡ tables → IsListed counted
verified_tables counted tables are is =
    are_listed counted (subst AreTables (sym is) are.0)
    (subst IsCatalog (ap (map (λ (s : StoredTable). s.table)) (sym is) ∙ map-map (λ (s : StoredTable). s.table) (λ (c : CountedTable). c.stored) counted) are.1)
