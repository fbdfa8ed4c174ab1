-- What holds of an opened store.
use Rattle.std.proofs.Common.{◌≡◌, ◌∙◌, List, [], ◌∷◌, map, Result, Err, refl, sym, ap, subst, arith}
use Rattle.std.specs.Prelude.{IsTrue}
use Rattle.std.specs.List.{AllByRecursion}
use Rattle.sqlite.specs.Effect.{Database}
use Rattle.sqlite.specs.State.{State, HasCleanDisk}
use Rattle.escrow_num.specs.declared.refusal.Refusal.{Refusal}
use Rattle.escrow_num.specs.declared.refusal.Refusal.TheVariants as refusal
use Rattle.escrow_num.specs.declared.failure.Failure.{Failure}
use Rattle.escrow_num.specs.declared.failure.Failure.TheVariants as failure
use Rattle.escrow_num.specs.Refusal.{refusal_for}
use Rattle.escrow_num.specs.declared.row.Row.{Row}
use Rattle.escrow_schema.specs.declared.counted_table.CountedTable.{CountedTable}
use Rattle.escrow_schema.specs.declared.stored.StoredTable.{StoredTable}
use Rattle.escrow_schema.specs.declared.table.TableDef.{TableDef}
use Rattle.escrow_schema.specs.Stored.{catalog_of, stored_of}
use Rattle.escrow_rows.specs.Answers.{OnlyReads}
use Rattle.escrow_rows.specs.Image.{AreRows, AreTables, IsImage}
use Rattle.escrow_rows.specs.View.{rows_in}
use Rattle.escrow_rows.proofs.ViewLemmas.{rows_are}
use Rattle.escrow_recover.specs.Holds.{Holds}
use Rattle.escrow_recover.specs.Inside.{refused_as}
use Rattle.escrow_recover.specs.Opened.{IsOpened, IsOpening, Stores}
use Rattle.escrow_recover.specs.Stored.{HasCount, IsStoreOf}
use Rattle.escrow_recover.specs.declared.unverified.Unverified.{Unverified}
use Rattle.escrow_recover.specs.declared.unverified.Unverified.TheVariants as unverified

-- the definitions of tables, obtained in two steps
pub definitions : (tables : List CountedTable) → map (λ (s : StoredTable). s.table) (stored_of tables) ≡ catalog_of tables
definitions [] = refl
definitions (c ∷ tables) = ap (λ (ts : List TableDef). c.stored.table ∷ ts) (definitions tables)

-- a verified store is open, and stays so after a call that only reads
pub opened_by : (old new : State) (tables : List CountedTable) → OnlyReads old new
    → (HasCleanDisk new → IsTrue new.is_open × (rows : List Row) × IsStoreOf (stored_of tables) rows old.now × AllByRecursion (HasCount rows) tables)
    → HasCleanDisk new → IsOpened new tables
opened_by old new tables only_reads told clean =
    let found = told clean in
    let store = subst (λ (db : Database). IsStoreOf (stored_of tables) found.1 db) (sym (only_reads.same (clean, found.0))) found.2 in
    (found.1, record { is_open = found.0; store = store; counts = found.3 })

module _ (s : State) (tables : List CountedTable) (rows : List Row) (is : Stores s tables rows) where
  -- an opened store holds its tables and rows
  pub stores_holds : Holds (catalog_of tables) rows s.now
  stores_holds = record {
    tables = stored_of tables;
    are_tables = is.store.are_tables;
    catalog_is = definitions tables;
    are_rows = is.store.are_rows;
    image = is.store.image;
  }

  -- its rows are those read from its cells
  pub stores_rows : rows_in (stored_of tables) s.now ≡ rows
  stores_rows = rows_are (stored_of tables) rows s.now is.store.are_tables is.store.are_rows is.store.image.cells_are

-- ---- an empty store

no_tables : AreTables []
no_tables = record { defined = tt; from_one = tt; ids_apart = tt; names_apart = tt; few = omega arith }

no_rows : AreRows [] []
no_rows = record { of_tables = tt; row_order = tt; few_rows = λ table. omega arith }

pub empty_stores : (s : State) → IsTrue s.is_open × IsImage [] [] s.now → Stores s [] []
empty_stores s is = record {
  is_open = is.0;
  store = record { are_tables = no_tables; are_rows = no_rows; meet = tt; held = tt; image = is.1 };
  counts = tt;
}

-- ---- why a store is not opened

pub opening_failed : (why : Failure) → IsOpening (refusal_for why)
opening_failed failure.Memory = tt
opening_failed failure.Store = tt

-- a failure is not a finding about the store
pub not_foreign : (why : Failure) → refusal_for why ≡ refusal.ForeignStore → ⊥
not_foreign failure.Memory e = absurd (cc)
not_foreign failure.Store e = absurd (cc)

pub not_other_format : (why : Failure) → refusal_for why ≡ refusal.UnknownVersion → ⊥
not_other_format failure.Memory e = absurd (cc)
not_other_format failure.Store e = absurd (cc)

pub opening : (why : Unverified) → IsOpening (refused_as why)
opening (unverified.Failed failure.Memory) = tt
opening (unverified.Failed failure.Store) = tt
opening unverified.ForeignStore = tt
opening unverified.OtherFormat = tt

-- if the refusal says that this is no store, or one of another format, verification found that
pub is_foreign : (why : Unverified) → refused_as why ≡ refusal.ForeignStore → why ≡ unverified.ForeignStore
is_foreign (unverified.Failed failure.Memory) e = absurd (cc)
is_foreign (unverified.Failed failure.Store) e = absurd (cc)
is_foreign unverified.ForeignStore e = refl
is_foreign unverified.OtherFormat e = absurd (cc)

pub is_other_format : (why : Unverified) → refused_as why ≡ refusal.UnknownVersion → why ≡ unverified.OtherFormat
is_other_format (unverified.Failed failure.Memory) e = absurd (cc)
is_other_format (unverified.Failed failure.Store) e = absurd (cc)
is_other_format unverified.ForeignStore e = absurd (cc)
is_other_format unverified.OtherFormat e = refl

-- the same holds for the results that carry them
pub was_foreign : {X Y : Type 0} (why : Unverified) (given : Refusal) (r : Result X Refusal) (found : Result Y Unverified) → r ≡ Err refusal.ForeignStore → found ≡ Err why → given ≡ refused_as why
    → r ≡ Err given → found ≡ Err unverified.ForeignStore
was_foreign why given r found same is from answer =
    let e : given ≡ refusal.ForeignStore = cc in is ∙ ap Err (is_foreign why (sym from ∙ e))

pub was_other_format : {X Y : Type 0} (why : Unverified) (given : Refusal) (r : Result X Refusal) (found : Result Y Unverified) → r ≡ Err refusal.UnknownVersion → found ≡ Err why → given ≡ refused_as why
    → r ≡ Err given → found ≡ Err unverified.OtherFormat
was_other_format why given r found same is from answer =
    let e : given ≡ refusal.UnknownVersion = cc in is ∙ ap Err (is_other_format why (sym from ∙ e))
