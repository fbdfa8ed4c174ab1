-- Believed: the statements of the laws in src/laws.rt.
use Rattle.std.specs.Prelude.{◌≡◌, ◌≤◌, ℕ, ◌+ℤ◌, Bool, Some, List, [], ◌∷◌, length, slice_get, slice_set, codes}
use Rattle.std.specs.List.{AllByRecursion}
use Rattle.sqlite.specs.Effect.{Database as Sql}
use Rattle.sqlite.specs.Held.{state}
use Rattle.sqlite_trees.specs.declared.store.Store.{Ghosts}
use Rattle.sqlite_trees.specs.Tree.{Trees}
use Rattle.escrow_num.specs.declared.refusal.Refusal.TheVariants as refusal
use Rattle.escrow_num.specs.declared.row.Row.{Row}
use Rattle.escrow_num.specs.declared.value.RowName.{RowName}
use Rattle.escrow_schema.specs.declared.table.TableDef.{TableDef}
use Rattle.escrow_schema.specs.Catalog.{IsCatalog}
use Rattle.escrow_machine.specs.declared.event.Event.{Event}
use Rattle.escrow_machine.specs.declared.reply.Reply.{Reply}
use Rattle.escrow_machine.specs.declared.reply.Reply.TheVariants as reply
use Rattle.escrow_machine.specs.State.{State, opened}
use Rattle.escrow_machine.specs.Step.{IsRun}
use Rattle.escrow_machine.specs.Valid.{IsValid}
use Rattle.escrow_accounts.specs.Book.{book, total, balance}
use Rattle.escrow_rows.specs.Answers.{IsUsable}
use Rattle.escrow_recover.specs.Holds.{AreHeld, Holds}
use Rattle.escrow_recover.specs.Stored.{HasHeldValues, HasOtherFormat, IsNoStore}
use Rattle.escrow_core.specs.Database.{Database}
use Rattle.escrow_reply.specs.Text.{rendered_whole}
use Rattle.escrow_script.specs.declared.limits.TheConstants.{MAX_DATABASES}
use Rattle.escrow_serve.specs.Left.{LeavesItsRows}
use Rattle.escrow_serve.specs.Output.{WritesLines}
use Rattle.escrow_outcomes.specs.Apart.{Served, bytes_of, output_of, ServesEach, lines_at}
use Rattle.escrow_serve.specs.Asked.{Given, GivesLines, events_at, answers_at}
use Rattle.escrow_outcomes.specs.Failed.{ShowsFailure}
use Rattle.escrow_outcomes.specs.Texts.{HasReadableTexts, IsReadableEvent}

-- THE OUTPUT. Two outputs of the same lines from the same states are equal, and so are the states, if neither shows
-- that anything failed for memory or by the store
abbrev pub OutputIsAFunction : Type 0
OutputIsAFunction =
    (sessions : ℕ) (lines : List (List ℕ)) (states : List State) (out other : List ℕ) (new another : List State)
    → length states ≤ MAX_DATABASES → WritesLines sessions states lines out new
    → WritesLines sessions states lines other another
    → ¬ (ShowsFailure out) → ¬ (ShowsFailure other) → (out ≡ other) × (new ≡ another)

-- a restart that is done shows no failure, and one that fails does. Both may be written
pub record FailuresShow (s : State) : Type 0 where
  pub served : WritesLines 1 (s ∷ []) (codes "@restart bank" ∷ []) (rendered_whole (codes "bank") reply.Restarted)
      (opened s.catalog s.rows ∷ [])
  pub shows_none : ¬ (ShowsFailure (rendered_whole (codes "bank") reply.Restarted))
  pub failed : WritesLines 1 (s ∷ []) (codes "@restart bank" ∷ [])
      (rendered_whole (codes "bank") (reply.Refused refusal.Memory)) (s ∷ [])
  pub shows : ShowsFailure (rendered_whole (codes "bank") (reply.Refused refusal.Memory))

abbrev pub RestartsShow : Type 0
RestartsShow = (s : State) → FailuresShow s

-- EACH DATABASE BY ITSELF. What lines write is what each of them writes, in their order
pub record AreCut (sessions : ℕ) (lines : List (List ℕ)) (states : List State) (out : List ℕ)
    (new : List State) : Type 0 where
  pub served : List Served
  pub are_lines : bytes_of served ≡ lines
  pub are_output : output_of served ≡ out
  pub serves : ServesEach sessions states served new

-- so it is, and nothing else is meant by a script line by line
pub record CutsAreOutputs : Type 0 where
  pub cut : (sessions : ℕ) (lines : List (List ℕ)) (states : List State) (out : List ℕ) (new : List State)
      → WritesLines sessions states lines out new → AreCut sessions lines states out new
  pub whole : (sessions : ℕ) (states : List State) (served : List Served) (new : List State)
      → ServesEach sessions states served new → WritesLines sessions states (bytes_of served) (output_of served) new

-- the lines of one database write the same, and leave it the same state, in a script that has none but these, whatever
-- the other databases are. Those stay as they are
abbrev pub DatabasesStandAlone : Type 0
DatabasesStandAlone =
    (sessions place : ℕ) (states others : List State) (served : List Served) (new : List State) (before after : State)
    → ServesEach sessions states served new → slice_get states place ≡ Some before → slice_get new place ≡ Some after
    → slice_get others place ≡ Some before
    → ServesEach sessions others (lines_at place served) (slice_set others place after)

-- the lines of one database in two scripts are equal, and it begins in the same state. Then each of them writes the
-- same, and its end is the same state, unless one of them shows that it failed for memory or by the store. What lines
-- the other databases have, in which states they are, what fails there, and how many they are, makes no difference
abbrev pub OthersMakeNoDifference : Type 0
OthersMakeNoDifference =
    (sessions place : ℕ) (states others : List State) (served more : List Served) (new another : List State)
    (before : State)
    → length states ≤ MAX_DATABASES → ServesEach sessions states served new → ServesEach sessions others more another
    → slice_get states place ≡ Some before → slice_get others place ≡ Some before
    → bytes_of (lines_at place served) ≡ bytes_of (lines_at place more)
    → AllByRecursion (λ l. ¬ (ShowsFailure l.wrote)) (lines_at place served)
    → AllByRecursion (λ l. ¬ (ShowsFailure l.wrote)) (lines_at place more)
    → (lines_at place served ≡ lines_at place more) × (slice_get new place ≡ slice_get another place)

-- THE DATABASES. What lines give to the databases: at each place a run of the machine, which is accounted for
pub record ArePlayed (sessions : ℕ) (lines : List (List ℕ)) (states : List State) (out : List ℕ)
    (new : List State) : Type 0 where
  pub given : List Given
  pub gives : GivesLines (length states) sessions lines given out
  pub runs : (place : ℕ) (before after : State) → slice_get states place ≡ Some before
      → slice_get new place ≡ Some after
      → IsRun before (events_at place given) (answers_at place given) after
  pub units : (place : ℕ) (before after : State) → slice_get states place ≡ Some before
      → slice_get new place ≡ Some after → IsValid before
      → (chosen : RowName → Bool) (column : ℕ)
      → total chosen column after.rows
      ≡ total chosen column before.rows +ℤ balance chosen column
      (book before (events_at place given) (answers_at place given))

abbrev pub ScriptsAreAccountedFor : Type 0
ScriptsAreAccountedFor = (sessions : ℕ) (lines : List (List ℕ)) (states : List State) (out : List ℕ) (new : List State)
    → WritesLines sessions states lines out new → ArePlayed sessions lines states out new

-- TEXTS. If the texts of rows are in UTF-8, they are after events whose texts are
abbrev pub TextsStayReadable : Type 0
TextsStayReadable =
    (s : State) (events : List Event) (answers : List Reply) (new : State) → AllByRecursion HasReadableTexts s.rows
    → AllByRecursion IsReadableEvent events → IsRun s events answers new → AllByRecursion HasReadableTexts new.rows

-- in a valid state each value can then be held by a column of a store
abbrev pub ReadableCanBeHeld : Type 0
ReadableCanBeHeld =
    (s : State) → IsValid s → AllByRecursion HasReadableTexts s.rows → AllByRecursion (HasHeldValues s.catalog) s.rows

-- AFTER A CRASH. A disk has a store in the known format, of just these tables and rows
pub record IsOpenedAs (catalog : List TableDef) (rows : List Row) (trees : Trees) : Type 0 where
  pub db : Sql
  pub disk : trees ≡ db.trees
  pub holds : Holds catalog rows db
  pub is_store : ¬ (IsNoStore db)
  pub known : ¬ (HasOtherFormat db)
  pub no_other : (others : List TableDef) (more : List Row) → IsCatalog others → AreHeld others more trees
      → (others ≡ catalog) × (more ≡ rows)

-- so is whatever a crash leaves of a database whose store can be used, if its state is valid and its texts are in UTF-8
abbrev pub WhatIsLeftIsOpened : {S : Type 0} → Ghosts S → Type 0
WhatIsLeftIsOpened {S} g = (database : Database S) → LeavesItsRows g database → IsUsable (state g database.store)
    → IsValid database.state → AllByRecursion HasReadableTexts database.state.rows
    → (trees : Trees) → (state g database.store).may_leave trees
    → IsOpenedAs database.state.catalog database.state.rows trees
