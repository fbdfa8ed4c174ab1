-- A store in the previous format that is verified, then migrated to the known format.
use Rattle.std.proofs.Common.{◌≡◌, Bool, true, List, arith, inl, inr, sym, subst}
use Rattle.std.specs.Prelude.{IsTrue}
use Rattle.std.specs.List.{AllByRecursion}
use Rattle.sqlite.specs.Effect.{Database}
use Rattle.sqlite.specs.State.{HasCleanDisk, State, Survives}
use Rattle.sqlite.proofs.StateLemmas.{survives_then, survives_weaker}
use Rattle.escrow_num.specs.declared.row.Row.{Row}
use Rattle.escrow_schema.specs.declared.counted_table.CountedTable.{CountedTable}
use Rattle.escrow_schema.specs.Stored.{catalog_of, stored_of}
use Rattle.escrow_cells.specs.Calls.{Transacts}
use Rattle.escrow_cells.specs.declared.formats.TheConstants.{FORMAT_1}
use Rattle.escrow_rows.specs.Answers.{IsUsable, OnlyReads}
use Rattle.escrow_rows.specs.Changes.{Migrates}
use Rattle.escrow_rows.specs.Image.{IsImageIn}
use Rattle.escrow_recover.specs.Found.{IsFounded}
use Rattle.escrow_recover.specs.Holds.{Holds}
use Rattle.escrow_recover.specs.Inside.{WasMigrated}
use Rattle.escrow_recover.specs.Migrated.{HoldsInFormat1, IsMade, IsMigrated, IsMigratedFrom}
use Rattle.escrow_recover.specs.Opened.{IsOpened, Stores}
use Rattle.escrow_recover.specs.Stored.{HasCount, IsFormat1Store, IsStoreOf}
use Rattle.escrow_recover.proofs.OpenedLemmas.{definitions}

-- what verification found in a database: the tables of a store in the previous format
abbrev pub Told : Database → State → List CountedTable → Type 0
Told db mid found = HasCleanDisk mid → IsTrue mid.is_open × (rows : List Row) × IsFormat1Store (stored_of found) rows db × AllByRecursion (HasCount rows) found

-- a store was verified, then migrated to the known format
module _ (old mid last : State) (found : List CountedTable) (told : Told old.now mid found) (only_reads : OnlyReads old mid)
    (is_done : Bool) (it : Transacts mid last is_done Migrates) where
  was_clean : HasCleanDisk last → HasCleanDisk mid
  was_clean clean = omega (arith, it.survives.clean, clean)

  -- the tables and rows that it held in the previous format
  was_held : (clean : HasCleanDisk mid) → HoldsInFormat1 (catalog_of found) (told clean).1 old.now
  was_held clean = record { tables = stored_of found; catalog_is = definitions found; store = (told clean).2 }

  -- a database that the migration makes is a store of these tables and rows
  made_by : (clean : HasCleanDisk mid) (db : Database) → Migrates mid.now db → IsStoreOf (stored_of found) (told clean).1 db
  made_by clean db migrates =
      let was = told clean in
      let store = was.2.store in
      let image = subst (IsImageIn FORMAT_1 (stored_of found) was.1) (sym (only_reads.same (clean, was.0))) store.image in
      record { are_tables = store.are_tables; are_rows = store.are_rows; meet = store.meet; held = store.held; image = migrates FORMAT_1 (stored_of found) was.1 image }

  -- so is what a crash leaves, if it leaves anything new
  pub crash : Survives old last (WasMigrated old)
  crash = survives_then old mid last _ _ _ (λ _ db none. absurd none)
      (λ clean trees made.
      let at = was_clean clean in
      let usable : IsUsable mid = (at, (told at).0) in
      let store = made_by at made.1 made.2 in
      let held : Holds (catalog_of found) (told at).1 made.1 =
      record { tables = stored_of found; are_tables = store.are_tables; catalog_is = definitions found; are_rows = store.are_rows; image = store.image } in
      record {
        is_open = (only_reads.usable usable).1;
        is_migrated = (catalog_of found, (told at).1, was_held at, (made.1, held, made.3));
      }) only_reads.survives it.survives

  made_now : (done : is_done ≡ true) (clean : HasCleanDisk last) → IsStoreOf (stored_of found) (told (was_clean clean)).1 last.now
  made_now done clean = made_by (was_clean clean) last.now (it.done done clean).1

  -- the store is opened, with the tables and rows that it held in the previous format
  stores_now : (done : is_done ≡ true) (clean : HasCleanDisk last) → Stores last found (told (was_clean clean)).1
  stores_now done clean = record { is_open = (it.done done clean).0; store = made_now done clean; counts = (told (was_clean clean)).3 }

  pub opened_migrated : is_done ≡ true → HasCleanDisk last → IsOpened last found
  opened_migrated done clean = ((told (was_clean clean)).1, stores_now done clean)

  pub migrated_from : is_done ≡ true → HasCleanDisk last → IsMigratedFrom old.now last found
  migrated_from done clean = ((told (was_clean clean)).1, stores_now done clean, was_held (was_clean clean))

-- what opening a verified store made, if it made anything
pub made_then : (old mid last : State) → OnlyReads old mid → Survives mid last (WasMigrated mid) → Survives old last (IsMade old.now)
made_then old mid last only_reads it = survives_then old mid last _ _ _ (λ _ db none. absurd none)
    (λ clean trees made.
    let usable : IsUsable mid = (omega (arith, it.clean, clean), made.is_open) in
    inr (subst (λ (was : Database). IsMigrated was trees) (only_reads.same usable) made.is_migrated)) only_reads.survives it

-- founding makes an empty store
pub founding_makes : (was : Database) (old new : State) → Survives old new (IsFounded was) → Survives old new (IsMade was)
founding_makes was old new it = survives_weaker old new _ _ (λ _ _ made. inl made) it
