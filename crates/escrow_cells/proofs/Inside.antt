-- What a statement does inside a transaction.
use Rattle.std.proofs.Common.{◌≡◌, ℕ, Bool, List, [], ◌∷◌, ◌⊎◌, true, false, IsTrue, cond, drop, length, map, Option, ℤ, slice_get, Some, None, Ok, Err, Result, IfOk, refl, sym, ap, ◌∙◌, subst, subst₂, inl, inr}
use Rattle.std.specs.Prelude.{unwrap_or}
use Rattle.std.proofs.lemmas.List.{length-map}
use Rattle.std.specs.List.{AllByRecursion, flat_map, filter_map}
use Rattle.sqlite_value.specs.Order.{Row}
use Rattle.sqlite_trees.specs.Tree.{Trees, rowid}
use Rattle.sqlite_schema.specs.declared.schema.Keys.{Keys}
use Rattle.sqlite_schema.specs.declared.schema.Keys.TheVariants.{Enforced}
use Rattle.sqlite_schema.specs.declared.schema.Table.{Table}
use Rattle.sqlite_schema.specs.declared.schema.Index.{Index}
use Rattle.sqlite_schema.specs.declared.schema.View.{View}
use Rattle.sqlite_schema.specs.declared.schema.Schema.{Schema}
use Rattle.sqlite_schema.specs.declared.program.Program.{Program}
use Rattle.sqlite_schema.specs.declared.command.Source.{Source}
use Rattle.sqlite_schema.specs.declared.command.Command.{Command}
use Rattle.sqlite_schema.specs.declared.command.Command.TheVariants.{Insert, Update, Delete}
use Rattle.sqlite_rules.specs.declared.error.Rowids.TheVariants.{Chosen, Above, Given}
use Rattle.sqlite_rules.specs.Calls.{ids_of}
use Rattle.sqlite_rules.specs.Cast.{cast_row}
use Rattle.sqlite_rules.specs.Edit.{Edit, edit_of, id_in, row_at, taken_by, without_all, Applies}
use Rattle.sqlite_rules.proofs.PlaceLemmas.{given}
use Rattle.sqlite_rules.specs.Action.{works, work_for}
use Rattle.sqlite.specs.Effect.{Database, IsDatabase, Answers, IsSource}
use Rattle.sqlite.specs.Does.{Tally, OnRows, WritesRows}
use Rattle.sqlite.specs.Listing.{understood}
use Rattle.sqlite.specs.Rows.{Task, Counts, Inserts, Sourced, Written, Edited, rowids_for, count_of, stamped}
use Rattle.sqlite.specs.State.{State, HasCleanDisk, Executes, Writes as HasWritten, Runs, mode_of}
use Rattle.sqlite.specs.Values.{bound_value}
use Rattle.sqlite.proofs.Callers.{IsPlain, command_of, one_step, runs_as, statement_of}
use Rattle.escrow_cells.specs.declared.datum.Datum.{Datum}
use Rattle.escrow_cells.specs.declared.datum.Datum.TheVariants as datum
use Rattle.escrow_cells.specs.Step.{kept}
use Rattle.escrow_cells.specs.Store.{HasTables}
use Rattle.escrow_cells.specs.Tables.{beside}
use Rattle.escrow_cells.specs.Inside.{Acts, Wrote}

-- a parameter is bound as it is stored
pub bound_kept : (d : Datum) → bound_value (kept d) ≡ kept d
bound_kept (datum.Number n) = refl
bound_kept (datum.Text t) = refl

-- what a statement does inside a transaction, if its parameters are equal to those it speaks of
pub acts : {sql : List ℕ} {params given : Row} {old new : State} {is_done : Bool} {steps : ℕ} {Makes : Database → Database → Type 0} → ((n : ℕ) → Executes sql params old new (Ok n) → Makes old.now new.now)
    → Wrote sql given old new is_done → given ≡ params → Acts old new is_done steps Makes
acts {sql = sql} {old = old} {new = new} makes it same = record {
  done = λ ok clean inside. let ran = it.done ok clean inside in (ran.0, makes ran.1 (subst (λ (ps : Row). Executes sql ps old new (Ok ran.1)) same ran.2));
  was_open = λ ok clean inside _. it.was_open ok clean inside;
  pending = it.pending;
}

-- what the number of changed rows says about a statement inside a transaction, if its parameters are equal to those it
-- speaks of
pub tells : (sql : List ℕ) (params given : Row) (old new : State) {E : Type 0} (Told : ℕ → Type 0) → ((n : ℕ) → Executes sql params old new (Ok n) → Told n) → (r : Result ℕ E)
    → IfOk r (λ n. Executes sql given old new (Ok n)) → given ≡ params → IfOk r Told
tells sql params given old new Told told (Ok n) ran same = told n (subst (λ (ps : Row). Executes sql ps old new (Ok n)) same ran)
tells sql params given old new Told told (Err e) ran same = tt

-- the same, if what it did depends on how many rows it changed
pub acts_counted : {sql : List ℕ} {params given : Row} {old new : State} {steps : ℕ} {Makes : Database → Database → Type 0} (n : ℕ) → (Executes sql params old new (Ok n) → Makes old.now new.now)
    → Wrote sql given old new true → (HasCleanDisk new → IsTrue old.in_transaction → Executes sql given old new (Ok n)) → given ≡ params → Acts old new true steps Makes
acts_counted {sql = sql} {old = old} {new = new} n makes it ran same = record {
  done = λ ok clean inside. ((it.done ok clean inside).0, makes (subst (λ (ps : Row). Executes sql ps old new (Ok n)) same (ran clean inside)));
  was_open = λ ok clean inside _. it.was_open ok clean inside;
  pending = it.pending;
}

-- a text is that of a statement for a command, whatever objects the schema lists after the three tables
pub record IsStatement (text : List ℕ) (command : Command) : Type 0 where
  pub is : (more : List Table) (indexes : List Index) (views : List View) → command_of (understood (beside more indexes views) text) ≡ command
  pub plain : (more : List Table) (indexes : List Index) (views : List View) → IsPlain (understood (beside more indexes views) text)

-- what it writes
pub wrote_by : {sql : List ℕ} {command : Command} → IsStatement sql command → (params : Row) (old new : State) (has : HasTables old.now.schema) (n : ℕ) → Executes sql params old new (Ok n)
    → Runs old new None command (statement_of sql (understood (beside has.more has.indexes has.views) sql)) params n
wrote_by it params old new has n ran = runs_as _ params old new (beside has.more has.indexes has.views) has.is _ (it.is _ _ _) (it.plain _ _ _) n ran

-- ---- one edit

-- One edit changed the database, and no foreign key acted.
pub record Edits (old new : Database) (edit : Edit) : Type 0 where
  pub schema : new.schema ≡ old.schema
  pub sound : IsDatabase new
  pub applies : Applies old.schema Enforced old.trees edit new.trees

no_work : (schema : Schema) (keys : Keys) (depth tree : ℕ) (olds news : List Row) (tables : List Table) → AllByRecursion (λ (t : Table). t.references ≡ []) tables
    → flat_map (λ (child : Table). filter_map (work_for schema keys depth tree olds news child) child.references) tables ≡ []
no_work schema keys depth tree olds news [] none = refl
no_work schema keys depth tree olds news (t ∷ tables) none = rw (none.0, no_work schema keys depth tree olds news tables none.1) refl

-- if no table has a foreign key, a write is just its one edit
pub no_works : (schema : Schema) (keys : Keys) (depth tree : ℕ) (olds news : List Row) → AllByRecursion (λ (t : Table). t.references ≡ []) schema.tables → works schema keys depth tree olds news ≡ []
no_works schema keys depth tree olds news none = no_work schema keys depth tree olds news schema.tables none

pub applied : (schema : Schema) (keys : Keys) (db next : Trees) (edit : Edit) → AllByRecursion (λ (t : Table). t.references ≡ []) schema.tables → Edited schema keys db edit (Ok next) → Applies schema keys db edit next
applied schema keys db next edit none h = one_step schema keys db next edit (no_works schema keys 0 edit.table.tree (taken_by db edit) edit.news none) h

-- a part that returned a value did not stop early
pub went : {B E R : Type 0} {b : B} {Stops : E → Type 0} → ((stop : E) × Stops stop × (Ok b ≡ Err stop)) ⊎ R → R
went (inl stopped) = absurd (let e = stopped.2 in cc)
went (inr on) = on

pub same_value : {B E : Type 0} {a b : B} → ◌≡◌ {A = Result B E} (Ok a) (Ok b) → a ≡ b
same_value e = cc

-- the result of a statement on a table's rows is what it wrote, under the same schema
pub concluded : (task : Task) (command : Command) (s : State) (db : Trees) (tally : Tally) (after : Database) → OnRows task (mode_of s) None command db (Ok (tally, after))
    → (w : Written) × WritesRows task db command (Ok w) × (after ≡ record { schema = task.schema; trees = w.trees })
concluded task command s db tally after h =
    let all = went h in
    (all.0, all.1, ap (λ (p : Tally × Database). p.1) (same_value (went (went all.2).2).2))

-- the statement counts the rows that it wrote
counted : (task : Task) (command : Command) (s : State) (db : Trees) (tally : Tally) (after : Database) (h : OnRows task (mode_of s) None command db (Ok (tally, after)))
    → tally.rows ≡ Some (length (went h).0.rows)
counted task command s db tally after h = ap (λ (p : Tally × Database). p.0.rows) (same_value (went (went (went h).2).2).2)

module _ (task : Task) (plain : task.table.is_counted ≡ false) where
  -- a table without AUTOINCREMENT has no count
  uncounted : (db next : Trees) (counter : Option Row) (top : ℤ) → Counts task db counter top (Ok next) → next ≡ db
  uncounted db next counter top h = same_value (rw plain at h)

  chosen : (last : ℤ) → rowids_for task.table last ≡ Chosen
  chosen last = ap (λ b. cond b (Above last) Chosen) plain

  -- the rows are inserted, and nothing else is written
  inserted : (from : Source) (db : Trees) (w : Written) → Inserts task from db (Ok w)
      → (rows : List Row) × Sourced task.limit (record { schema = task.schema; trees = db }) (stamped task.table task.params) from (Ok rows) × Edited task.schema task.keys db (edit_of db task.table [] Chosen 0 rows) (Ok w.trees)
  inserted from db w h =
      let given = went h in
      let counter = went given.2 in
      let written = went counter.2 in
      let counted = went written.2 in
      let same : w.trees ≡ written.0 = ap (λ (it : Written). it.trees) (same_value counted.2) ∙ uncounted _ counted.0 counter.0 _ counted.1 in
      (given.0, given.1, subst₂ (λ r next. Edited task.schema task.keys db (edit_of db task.table [] r 0 given.0) (Ok next)) (chosen (count_of counter.0)) (sym same) written.1)

module _ (old new : State) (table : Table) (at : ℕ) (got : slice_get old.now.schema.tables at ≡ Some table) (none : AllByRecursion (λ (t : Table). t.references ≡ []) old.now.schema.tables)
    (text : List ℕ) (params : Row) (count : ℕ) where
  abbrev task : Task
  task = record { limit = old.step_limit; keys = Enforced; schema = old.now.schema; table = table; params = params }

  edits : (edit : Edit) (w : Written) (next : Trees) → IsDatabase new.now → Edited old.now.schema Enforced old.now.trees edit (Ok next) → w.trees ≡ next → new.now ≡ record { schema = old.now.schema; trees = w.trees }
      → Edits old.now new.now edit
  edits edit w next sound made same is =
      let db : new.now ≡ record { schema = old.now.schema; trees = next } = is ∙ ap (λ t. record { schema = old.now.schema; trees = t }) same in
      record {
        schema = ap (λ (d : Database). d.schema) db;
        sound = sound;
        applies = rw db (applied old.now.schema Enforced old.now.trees next edit none made);
      }

  pub updates : (q : Program) → HasWritten old new None (Update at q) text params count
      → (rows : List Row) × Answers old.now q params rows × Edits old.now new.now (edit_of old.now.trees table (ids_of rows) Given 1 rows)
  updates q w =
      let all = concluded task (Update at q) old old.now.trees w.tally new.now (rw got at w.changed) in
      let queried = went all.1 in
      let written = went queried.2 in
      (queried.0, queried.1, edits _ all.0 written.0 w.sound written.1 (ap (λ (it : Written). it.trees) (same_value written.2)) all.2)

  -- the statement counts as many rows as its query found
  pub updates_counted : (q : Program) (w : HasWritten old new None (Update at q) text params count) → count ≡ length (updates q w).0
  unfolding went updates concluded
  updates_counted q w =
      let on = rw got at w.changed in
      let all = concluded task (Update at q) old old.now.trees w.tally new.now on in
      let written = went (went all.1).2 in
      let rows = (updates q w).0 in
      w.counted ∙ ap (λ (o : Option ℕ). unwrap_or o 0) (counted task (Update at q) old old.now.trees w.tally new.now on) ∙ ap (λ (it : Written). length it.rows) (same_value written.2)
      ∙ ap length (given (without_all (old.now.trees table.tree) (ids_of rows)) (map (λ s. cast_row table (drop 1 s)) rows)) ∙ length-map rows (λ s. cast_row table (drop 1 s))

  pub deletes : (q : Program) → HasWritten old new None (Delete at q) text params count
      → (rows : List Row) × Answers old.now q params rows × Edits old.now new.now (edit_of old.now.trees table (ids_of rows) Given 0 [])
  deletes q w =
      let all = concluded task (Delete at q) old old.now.trees w.tally new.now (rw got at w.changed) in
      let queried = went all.1 in
      let written = went queried.2 in
      (queried.0, queried.1, edits _ all.0 written.0 w.sound written.1 (ap (λ (it : Written). it.trees) (same_value written.2)) all.2)

  pub deletes_counted : (q : Program) (w : HasWritten old new None (Delete at q) text params count) → count ≡ length (deletes q w).0
  unfolding went deletes concluded
  deletes_counted q w =
      let on = rw got at w.changed in
      let all = concluded task (Delete at q) old old.now.trees w.tally new.now on in
      let written = went (went all.1).2 in
      let rows = (deletes q w).0 in
      w.counted ∙ ap (λ (o : Option ℕ). unwrap_or o 0) (counted task (Delete at q) old old.now.trees w.tally new.now on) ∙ ap (λ (it : Written). length it.rows) (same_value written.2)
      ∙ length-map (ids_of rows) (row_at (old.now.trees table.tree)) ∙ length-map rows (λ r. id_in (rowid r))

  pub inserts : (from : Source) → table.is_counted ≡ false → HasWritten old new None (Insert at from) text params count
      → (rows : List Row) × IsSource old.now (stamped table params) from rows × Edits old.now new.now (edit_of old.now.trees table [] Chosen 0 rows)
  inserts from plain w =
      let all = concluded task (Insert at from) old old.now.trees w.tally new.now (rw got at w.changed) in
      let put = inserted task plain from old.now.trees all.0 all.1 in
      (put.0, put.1, edits _ all.0 all.0.trees w.sound put.2 refl all.2)
