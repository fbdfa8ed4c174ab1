-- Believed: what each database of a script did and leaves, by itself.
use Rattle.std.specs.Prelude.{◌≡◌, ℕ, ◌++◌, IsTrue, Some, Option, Result, Ok, Err, List, [], length, slice_get}
use Rattle.std.specs.Io.KnownBytes.{Appends}
use Rattle.sqlite.specs.Held.{state}
use Rattle.sqlite.specs.State.{HasCleanDisk, Survives}
use Rattle.sqlite_trees.specs.declared.store.Store.{Ghosts}
use Rattle.escrow_rows.specs.Answers.{IsUsable}
use Rattle.escrow_machine.specs.declared.event.Event.{Event}
use Rattle.escrow_machine.specs.declared.reply.Reply.{Reply}
use Rattle.escrow_machine.specs.Step.{IsRun}
use Rattle.escrow_core.specs.Database.{Database}
use Rattle.escrow_core.specs.Left.{AreAfterAnswered, AreAfterSome, Lasts, TellNoWrite}
use Rattle.escrow_script.specs.Line.{Reading, Reads, lines_of}
use Rattle.escrow_script.specs.Written.{Leaves}
use Rattle.escrow_script.specs.declared.fault.ServeFault.{ServeFault}
use Rattle.escrow_serve.specs.Asked.{Given, GivesLine, GivesLines, events_at, answers_at}

-- A DATABASE BY ITSELF: it served events, and these are the replies, one to each. If its own disk has returned what was
-- written, events and replies are a run of the machine. And a crash leaves the tables and rows after some first of the
-- events: up to the last one that was answered as written with the replies that were given, and behind it what failed
-- may count as served. Or, if none was answered as written, it leaves what it might have left before. That holds also
-- if a fault has shut the store. Only a fault shuts it, a store that is shut is not written, and the limit of its steps
-- stays
pub record Ran {S : Type 0} (g : Ghosts S) (old : Database S) (events : List Event) (answers : List Reply)
    (new : Database S) : Type 0 where
  pub as_many : length answers ≡ length events
  pub run : HasCleanDisk (state g new.store) → IsRun old.state events answers new.state
  pub lasts : Lasts (state g old.store) (state g new.store) (TellNoWrite answers)
      (AreAfterAnswered old.state events answers)
  pub usable : IsUsable (state g new.store) → IsUsable (state g old.store)
  pub survives : Survives (state g old.store) (state g new.store)
      (λ trees. IsTrue (state g old.store).is_open × AreAfterSome old.state events answers trees)

-- each database served what it was given
abbrev pub EachRan : {S : Type 0} → Ghosts S → List (Database S) → List Given → List (Database S) → Type 0
EachRan {S} g olds given news =
    (place : ℕ) (old new : Database S) → slice_get olds place ≡ Some old → slice_get news place ≡ Some new
    → Ran g old (events_at place given) (answers_at place given) new

-- a line gave events to databases, which served them, and this is what it writes
abbrev pub LineRan : {S : Type 0} → Ghosts S → ℕ → List (Database S) → List ℕ → List ℕ → List (Database S) → Type 0
LineRan g sessions olds bytes out news =
    (reading : Reading) × Reads (length olds) sessions bytes reading × (given : List Given)
    × GivesLine reading given out × EachRan g olds given news

-- so did lines, one after another
abbrev pub LinesRan : {S : Type 0} → Ghosts S → ℕ → List (Database S) → List (List ℕ) → List ℕ → List (Database S)
    → Type 0
LinesRan g sessions olds lines out news =
    (given : List Given) × GivesLines (length olds) sessions lines given out × EachRan g olds given news

-- what is left of lines and of their output: nothing, or what a fault leaves
abbrev pub LeftBy : Result (Unit {0}) ServeFault → List (List ℕ) → List ℕ → Type 0
LeftBy (Ok done) unserved unwritten = (unserved ≡ []) × (unwritten ≡ [])
LeftBy (Err fault) unserved unwritten = Leaves fault unwritten

-- WHAT A SCRIPT GAVE EACH DATABASE: some of its lines from its first on were served, and a prefix of their output was
-- written: all of it, unless a write failed. Without a fault all lines were served
pub record ScriptRan {S : Type 0} (g : Ghosts S) (sessions : ℕ) (script : List ℕ) (olds news : List (Database S))
    (old_bytes new_bytes : Option (List ℕ)) (Left : List (List ℕ) → List ℕ → Type 0) : Type 0 where
  pub served : List (List ℕ)
  pub unserved : List (List ℕ)
  pub written : List ℕ
  pub unwritten : List ℕ
  pub as_many : length news ≡ length olds
  pub lines : lines_of script ≡ served ++ unserved
  pub ran : LinesRan g sessions olds served (written ++ unwritten) news
  pub appends : Appends old_bytes new_bytes written
  pub left : Left unserved unwritten
