-- INSERT, DELETE and UPDATE of plain columns: a change of the rows of one table.
use Rattle.std.proofs.Common.{◌+◌, ◌-◌, ◌<◌, ◌≤◌, ◌≡◌, ℕ, ◌∙◌, Bool, true, false, List, None, Option, ap, arith, length, min, subst, sym}
use Rattle.std.specs.Prelude.{IsSome, IsTrue}
use Rattle.std.specs.List.{AllByRecursion}
use Rattle.sqlite_trees.proofs.ListLemmas.{all_weaker}
use Rattle.sqlite_trees.specs.declared.store.Store.{Ghosts}
use Rattle.sqlite.specs.Effect.{Database}
use Rattle.sqlite.specs.Held.{Held, state}
use Rattle.sqlite.specs.State.{State, HasCleanDisk}
use Rattle.sqlite_trees.specs.View.{doubt}
use Rattle.escrow_num.proofs.Items.{all_has}
use Rattle.escrow_num.specs.declared.row.Row.{Row}
use Rattle.escrow_num.specs.declared.value.RowName.{RowName}
use Rattle.escrow_num.specs.declared.value.Value.{Value}
use Rattle.escrow_schema.specs.Stored.{IsListed, recounted}
use Rattle.escrow_schema.proofs.Listed.{catalog_recounted, listed_recounted}
use Rattle.escrow_schema.specs.declared.table.TableDef.{TableDef}
use Rattle.escrow_cells.specs.Calls.{Transacts}
use Rattle.escrow_rows.specs.Answers.{IsUsable, Tells}
use Rattle.escrow_schema.specs.Rows.{row_named, with_plain, with_row, without_row, rows_of, HasTable}
use Rattle.escrow_rows.specs.Changes.{TurnsRows}
use Rattle.escrow_rows.specs.Image.{AreRows, AreTables, IsOfTables, IsImage}
use Rattle.escrow_rows.specs.View.{rows_in}
use Rattle.escrow_rows.proofs.ListedTables.{listed_are}
use Rattle.escrow_schema.specs.declared.stored.StoredTable.{StoredTable}
use Rattle.escrow_schema.specs.declared.table.TheConstants.TableDef.{MAX_ROWS}
use Rattle.escrow_tables.specs.Calls.{Writes, with_new}
use Rattle.escrow_tables.specs.Inside.{HasCount, IsHeld, Keeps, catalog_of, stored_of}
use Rattle.escrow_schema.specs.declared.counted_table.CountedTable.{CountedTable}
use Rattle.escrow_tables.proofs.Named.{IsNamed, stored_has}
use Rattle.escrow_tables.proofs.NewRows.{are_rows_kept, are_rows_plain, are_rows_with, count_plain, one_less, one_more, others_with, others_without, put_as_new}
use Rattle.escrow_tables.proofs.Placed.{IsPlaced, counts_after, counts_same, recounted_itself, stored_recounted}
use Rattle.escrow_tables.proofs.Writing.{keeps_on, seen, writes}

-- what is held of the rows after a change of one table's rows
pub record Turned (tables : List CountedTable) (place n : ℕ) (rows : List Row) : Type 0 where
  pub are_rows : AreRows (stored_of tables) rows
  pub counts : AllByRecursion (HasCount rows) (recounted tables place n)

-- The rows of the table at a place change; it then has n rows.
module _ {S : Type 0} (g : Ghosts S) (old new was later : Held S) (tables fields : List CountedTable) (name : List ℕ) (place : ℕ) (c : CountedTable) (named : IsNamed tables name c)
    (held : List Row → Bool) (after : List Row → List Row) (n : ℕ) (keeps : Keeps (state g old) (state g was) tables)
    (turned : HasCleanDisk (state g old) → held (rows_in (stored_of tables) (state g was).now) ≡ true → Turned tables place n (after (rows_in (stored_of tables) (state g was).now)))
    (is_done : Bool) (it : Transacts (state g old) (state g new) is_done (TurnsRows c.stored held after))
    (if_done : is_done ≡ true → (fields ≡ recounted tables place n) × (later ≡ new)) (if_not : is_done ≡ false → (fields ≡ tables) × (later ≡ was)) where
  listed_after : IsListed (recounted tables place n)
  listed_after = listed_recounted tables place n keeps.listed

  -- the call turns what was held into what is held afterwards
  turns : IsUsable (state g old) → (db : Database) → TurnsRows c.stored held after (state g was).now db
      → IsHeld (recounted tables place n) (after (rows_in (stored_of tables) (state g was).now)) db
  turns usable db change =
      let rows = rows_in (stored_of tables) (state g was).now in
      let stays = sym (stored_recounted tables place n) in
      let kept = keeps.held usable.0 in
      let now = change (stored_of tables) rows (listed_are tables keeps.listed) kept.are_rows named.stands kept.image in
      let made = turned usable.0 now.0 in
      record {
        are_rows = subst (λ (ts : List StoredTable). AreRows ts (after rows)) stays made.are_rows;
        image = subst (λ (ts : List StoredTable). IsImage ts (after rows) db) stays now.1;
        counts = made.counts;
      }

  row_writes : Writes g (seen g old was tables) (seen g new later (fields)) is_done (catalog_of tables) (after (rows_in (stored_of tables) (state g was).now))
  row_writes =
      let rows = after (rows_in (stored_of tables) (state g was).now) in
      subst (λ (catalog : List TableDef). Writes g (seen g old was tables) (seen g new later fields) is_done catalog rows) (catalog_recounted tables place n)
      (writes g old new (TurnsRows c.stored held after) is_done it was later tables (recounted tables place n) fields rows keeps listed_after turns if_done if_not)

  row_keeps : Keeps (state g new) (state g later) (fields)
  row_keeps =
      keeps_on g old new (TurnsRows c.stored held after) is_done it was later tables (recounted tables place n) (fields) (after (rows_in (stored_of tables) (state g was).now)) keeps
      listed_after turns if_done if_not

  -- if the call succeeds, the test held of the rows
  pub row_held : is_done ≡ true → HasCleanDisk (state g new) → held (rows_in (stored_of tables) (state g was).now) ≡ true
  row_held e clean =
      let made = it.done e clean in
      let usable = it.usable (clean, made.0) in
      let kept = keeps.held usable.0 in
      (subst (λ (first : Database). TurnsRows c.stored held after first (state g new).now) (keeps.same usable) made.1
      (stored_of tables) (rows_in (stored_of tables) (state g was).now) (listed_are tables keeps.listed) kept.are_rows named.stands kept.image).0

  -- the call writes, and the fields keep their contents
  pub row_written : Writes g (seen g old was tables) (seen g new later (fields)) is_done (catalog_of tables) (after (rows_in (stored_of tables) (state g was).now))
      × Keeps (state g new) (state g later) (fields)
  row_written = (row_writes, row_keeps)

-- what is known after a call that found no row
pub none_held : (old new was : State) (tables : List CountedTable) (name : List ℕ) (c : CountedTable) (named : IsNamed tables name c) (held : List Row → Bool) (keeps : Keeps old was tables)
    → doubt old.is_clean ≤ doubt new.is_clean → HasCleanDisk new → IsTrue old.is_open × Tells c.stored held old.now false → false ≡ held (rows_in (stored_of tables) was.now)
none_held old new was tables name c named held keeps before clean none =
    let usable : IsUsable old = (omega (arith, before, clean), none.0) in
    let kept = keeps.held usable.0 in
    subst (λ (db : Database). Tells c.stored held db false) (keeps.same usable) none.1
    (stored_of tables) (rows_in (stored_of tables) was.now) (listed_are tables keeps.listed) kept.are_rows named.stands kept.image

module _ (tables : List CountedTable) (name : List ℕ) (place : ℕ) (c : CountedTable) (placed : IsPlaced tables name place c) (are : AreTables (stored_of tables))
    (rows : List Row) (are_rows : AreRows (stored_of tables) rows) (counts : AllByRecursion (HasCount rows) tables) where
  -- a table has as many rows as its count says
  has_count : c.rows ≡ length (rows_of rows name)
  has_count = all_has (HasCount rows) tables counts c placed.named.has ∙ ap (λ (n : List ℕ). length (rows_of rows n)) placed.named.name_is

  -- the counts after its number of rows changes
  new_counts : (new : List Row) (n : ℕ) → ((other : List ℕ) → ¬ (other ≡ name) → length (rows_of new other) ≡ length (rows_of rows other)) → n ≡ length (rows_of new name)
      → AllByRecursion (HasCount new) (recounted tables place n)
  new_counts new n others own =
      counts_after rows new c n (λ other differ. others other (λ e. differ (e ∙ sym placed.named.name_is))) (own ∙ ap (λ (n : List ℕ). length (rows_of new n)) (sym placed.named.name_is))
      tables name place placed are counts

pub insert_turns : (tables : List CountedTable) (place : ℕ) (c : CountedTable) (row : Row) (n limit : ℕ) → IsPlaced tables row.name.table place c → AreTables (stored_of tables)
    → (rows : List Row) → AreRows (stored_of tables) rows → AllByRecursion (HasCount rows) tables → HasTable (catalog_of tables) row → row_named rows row.name ≡ None
    → length (rows_of rows row.name.table) < MAX_ROWS → MAX_ROWS < limit → n ≡ min (c.rows + 1) limit → Turned tables place n (with_new row rows)
insert_turns tables place c row n limit placed are rows are_rows counts fits new room large more =
    let had = has_count tables row.name.table place c placed are rows are_rows counts in
    let one = one_more row rows in
    rw (put_as_new row rows new) (record {
      are_rows = are_rows_with (stored_of tables) row rows are_rows (stored_has tables row fits) new room;
      counts = new_counts tables row.name.table place c placed are rows are_rows counts (with_row row rows) n (others_with row rows) (omega arith);
    })

pub delete_turns : (tables : List CountedTable) (place : ℕ) (c : CountedTable) (name : RowName) (n : ℕ) → IsPlaced tables name.table place c → AreTables (stored_of tables)
    → (rows : List Row) → AreRows (stored_of tables) rows → AllByRecursion (HasCount rows) tables → IsSome (row_named rows name) → n ≡ c.rows - 1
    → Turned tables place n (without_row name rows)
delete_turns tables place c name n placed are rows are_rows counts has less =
    let had = has_count tables name.table place c placed are rows are_rows counts in
    let one = one_less rows name are_rows.row_order has in
    record {
      are_rows = are_rows_kept (stored_of tables) _ rows are_rows;
      counts = new_counts tables name.table place c placed are rows are_rows counts (without_row name rows) n
          (λ other differ. others_without rows name other are_rows.row_order has differ) (omega arith);
    }

pub plain_turns : (tables : List CountedTable) (place : ℕ) (c : CountedTable) (name : RowName) (values : List (Option Value)) → IsPlaced tables name.table place c
    → (rows : List Row) → AreRows (stored_of tables) rows → AllByRecursion (HasCount rows) tables → AllByRecursion (HasTable (catalog_of tables)) (with_plain name values rows)
    → Turned tables place c.rows (with_plain name values rows)
plain_turns tables place c name values placed rows are_rows counts fit = record {
  are_rows = are_rows_plain (stored_of tables) name values rows are_rows (all_weaker (HasTable (catalog_of tables)) (IsOfTables (stored_of tables)) (stored_has tables) (with_plain name values rows) fit);
  counts = subst (AllByRecursion (HasCount (with_plain name values rows))) (sym (recounted_itself tables place c placed.item))
      (counts_same rows (with_plain name values rows) (count_plain name values rows) tables counts);
}
