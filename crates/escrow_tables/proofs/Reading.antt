-- What the store answers about its image, in terms of the rows that are read.
use Rattle.std.proofs.Common.{◌≡◌, ℕ, List, Result, ap, arith, subst, ◌∙◌}
use Rattle.std.specs.Prelude.{IfOk, IsTrue}
use Rattle.std.proofs.lemmas.Result.{IfOk-weaker}
use Rattle.sqlite.specs.Effect.{Database}
use Rattle.sqlite.specs.State.{State, HasCleanDisk}
use Rattle.escrow_num.specs.declared.row.Row.{Row}
use Rattle.escrow_num.specs.declared.value.Value.{Value}
use Rattle.escrow_rows.specs.Answers.{IsUsable, OnlyReads, Tells}
use Rattle.escrow_rows.specs.Changes.{name_in}
use Rattle.escrow_rows.specs.View.{rows_in}
use Rattle.escrow_rows.proofs.ListedTables.{listed_are}
use Rattle.escrow_schema.specs.declared.counted_table.CountedTable.{CountedTable}
use Rattle.escrow_tables.specs.Inside.{Keeps, stored_of}
use Rattle.escrow_tables.proofs.Named.{IsNamed}

-- the fields keep their contents over a call that reads
pub keeps_reading : (old new last : State) (tables : List CountedTable) → Keeps old last tables → OnlyReads old new → Keeps new last tables
keeps_reading old new last tables keeps only_reads = record {
  listed = keeps.listed;
  held = λ clean. keeps.held (omega (arith, only_reads.survives.clean, clean));
  same = λ usable. only_reads.same usable ∙ keeps.same (only_reads.usable usable);
}

module _ (tables : List CountedTable) (name : List ℕ) (c : CountedTable) (named : IsNamed tables name c) where
  -- an answer about the image is one about the rows: the store was open, so it held what was last written
  pub told_of : {X E A : Type 0} (old new last : State) (r : Result X E) (items : X → A) (of : List Row → A) → Keeps old last tables → (IsUsable new → IsUsable old) → HasCleanDisk new
      → IfOk r (λ found. IsTrue new.is_open × Tells c.stored of old.now (items found)) → IfOk r (λ found. items found ≡ of (rows_in (stored_of tables) last.now))
  told_of old new last r items of keeps before clean =
      IfOk-weaker r (λ found. IsTrue new.is_open × Tells c.stored of old.now (items found)) (λ found. items found ≡ of (rows_in (stored_of tables) last.now))
      (λ found told.
      let usable = before (clean, told.0) in
      let held = keeps.held usable.0 in
      subst (λ (db : Database). Tells c.stored of db (items found)) (keeps.same usable) told.1
      (stored_of tables) (rows_in (stored_of tables) last.now) (listed_are tables keeps.listed) held.are_rows named.stands held.image)

  -- the name of a row of the table
  pub name_of : (key : Value) → name_in c.stored key ≡ record { table = name; key = key }
  name_of key = ap (λ (table : List ℕ). record { table = table; key = key }) named.name_is
