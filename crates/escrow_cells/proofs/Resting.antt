-- A query that only reads leaves the store unchanged, whether it answers or fails.
use Rattle.std.proofs.Common.{◌≡◌, ◌⊎◌, inl, inr, ℕ, false, List, [], Result, Ok, Err, refl, IsTrue, sym, subst, ◌∙◌, arith}
use Rattle.sqlite_value.specs.Order.{Row}
use Rattle.sqlite_trees.specs.declared.store.Store.{Ghosts}
use Rattle.sqlite_resolve.specs.declared.compiled.Compiled.{Compiled}
use Rattle.sqlite_resolve.specs.declared.error.CompileError.{CompileError}
use Rattle.sqlite.specs.declared.error.Error.{Error}
use Rattle.sqlite.specs.Clock.{timed}
use Rattle.sqlite.specs.Effect.{Database}
use Rattle.sqlite.specs.Given.{HasGiven, HasBegun, IsRefused, Returns}
use Rattle.sqlite.specs.Held.{Held, state}
use Rattle.sqlite.specs.Listing.{understood, reads_listing, IsSourceOf}
use Rattle.sqlite.specs.State.{State, HasCleanDisk, Survives, Fails, IsUnchanged, IsRolledBack, IsNotRun, FailsToShow, FailsToQuery, ShowsRows, Shown, CommitsShowing}
use Rattle.sqlite.proofs.StateLemmas.{survives_weaker}
use Rattle.sqlite.proofs.Callers.{unchanged_then}
use Rattle.escrow_cells.specs.Query.{IsReading}
use Rattle.escrow_cells.specs.Read.{LeavesIdle}

-- unchanged, or rolled back to the committed state
abbrev pub IsKept : State → State → Type 0
IsKept old new = IsUnchanged old new ⊎ IsRolledBack old new

-- a statement that was not run
pub not_run_kept : (sql : List ℕ) (params : Row) (old new : State) (e : Error) → IsNotRun old new sql params e → IsKept old new
unfolding IsNotRun
not_run_kept sql params old new e (inl h) = inl h.1
not_run_kept sql params old new e (inr h) = inr h.3

module _ (sql : List ℕ) (params : Row) (old new : State) (only : IsReading sql) where
  pub survives_reading : Survives old new (CommitsShowing sql params old) → Survives old new (λ _. ⊥)
  unfolding CommitsShowing
  survives_reading = survives_weaker old new _ _ (λ clean db h. let none = only _ h.0 h.1.is in let e = rw none at h.2 in absurd cc)

  pub shown_unchanged : (rows : List Row) → Shown sql params old new rows → IsUnchanged old new
  unfolding Shown
  shown_unchanged rows h =
      let it = subst (ShowsRows old new sql h.0 (timed params h.0.formats h.1.now) rows) (only _ h.0 h.1.is) h.2 in
      it.3

  pub failed_kept : (e : Error) → FailsToQuery sql params old new e → IsKept old new
  unfolding FailsToQuery
  failed_kept e (inl h) = not_run_kept sql params old new e h
  failed_kept e (inr h) =
      let it = subst (FailsToShow old new sql h.0 (timed params h.0.formats h.1.now) e) (only _ h.0 h.1.is) h.2 in
      inl it.3

-- a query that fails between two of its rows
pub moved_kept : (old new : State) (e : Error) → Fails old new ⊥ e ⊎ IsUnchanged old new → IsKept old new
moved_kept old new e (inl failed) = inr failed.3
moved_kept old new e (inr same) = inl same

-- an answer after a call that changed nothing was also the answer before it
pub shown_from : (sql : List ℕ) (params : Row) (first old new : State) (rows : List Row) → IsReading sql → IsUnchanged first old → Shown sql params old new rows → Shown sql params first new rows
unfolding Shown
shown_from sql params first old new rows only same h =
    let none = only _ h.0 h.1.is in
    let full = timed params h.0.formats h.1.now in
    let it = subst (ShowsRows old new sql h.0 full rows) none h.2 in
    let now = same.0.now_is in (
      h.0,
      record { is = subst (λ (d : Database). understood d.schema sql ≡ Ok h.0) now h.1.is; whole = h.1.whole; given = h.1.given; now = h.1.now },
      subst (ShowsRows first new sql h.0 full rows) (sym none) (it.0, subst (λ (d : Database). IsSourceOf (reads_listing d.schema sql) d it.0) now it.1, it.2, unchanged_then first old new same it.3),
    )

pub begun_reading : {S : Type 0} (g : Ghosts S) (sql : List ℕ) (params : Row) (old new : Held S) → IsReading sql → HasBegun g sql params old new
    → HasGiven g sql params new [] × IsUnchanged (state g old) (state g new)
begun_reading g sql params old new only (inl h) = h
begun_reading g sql params old new only (inr h) = absurd (never (understood old.schema sql) refl h.0)
  where
    never : (r : Result Compiled CompileError) → understood old.schema sql ≡ r → ¬ Returns r
    never (Ok c) is some = let none = only _ c is in let e = rw none at some in cc
    never (Err e) is some = some

-- a call that keeps the store, outside a transaction, leaves it unchanged
pub idle_from : {S : Type 0} (g : Ghosts S) (old new : Held S) → (IsTrue (state g old).is_open → (state g old).now ≡ (state g old).committed) → new.in_transaction ≡ false
    → Survives (state g old) (state g new) (λ _. ⊥) → (HasCleanDisk (state g new) → IsKept (state g old) (state g new)) → LeavesIdle g old new
idle_from g old new settled outside survives kept = record {
  outside = outside;
  only_reads = record {
    same = λ usable. same (kept usable.0) usable.1;
    usable = λ usable. (omega (arith, survives.clean, usable.0), was_open (kept usable.0) usable.1);
    survives = survives;
  };
}
  where
    was_open : IsKept (state g old) (state g new) → IsTrue (state g new).is_open → IsTrue (state g old).is_open
    was_open (inl h) opened = h.0.was_open
    was_open (inr h) opened = h.was_open opened

    same : IsKept (state g old) (state g new) → IsTrue (state g new).is_open → (state g new).now ≡ (state g old).now
    same (inl h) opened = h.0.now_is
    same (inr h) opened = (h.undone opened).0 ∙ sym (settled (h.was_open opened))

-- a query that does not begin
pub refused_leaves_idle : {S X : Type 0} (g : Ghosts S) (sql : List ℕ) (params : Row) (only : IsReading sql) (old new : Held S) (e : Error) → (IsTrue (state g old).is_open → (state g old).now ≡ (state g old).committed)
    → IsRefused {S = S} g {X = X} sql params old (Err e) new → old.in_transaction ≡ false → LeavesIdle g old new
refused_leaves_idle g sql params only old new e settled h outside = idle_from g old new settled (h.mode outside) (survives_reading sql params (state g old) (state g new) only h.survives)
    (λ clean. failed_kept sql params (state g old) (state g new) only e (h.err clean))
