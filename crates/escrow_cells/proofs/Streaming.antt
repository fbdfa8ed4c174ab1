-- A running query whose rows are taken one at a time.
use Rattle.std.proofs.Common.{◌≡◌, inl, inr, false, ℕ, List, [], ◌∷◌, ◌++◌, None, Some, Result, Ok, Err, OnOk, IsTrue, arith, sym, ap, subst, ◌∙◌, append_assoc, append-nil}
use Rattle.sqlite_value.specs.Order.{Row}
use Rattle.sqlite_trees.specs.declared.store.Store.{Ghosts}
use Rattle.sqlite_sql.specs.Query.{Query}
use Rattle.sqlite_schema.specs.declared.command.Command.{Command}
use Rattle.sqlite_schema.specs.declared.command.Command.TheVariants.{Select}
use Rattle.sqlite_schema.specs.declared.schema.Schema.{Schema}
use Rattle.sqlite_schema.specs.declared.schema.Table.{Table}
use Rattle.sqlite_schema.specs.declared.schema.Index.{Index}
use Rattle.sqlite_schema.specs.declared.schema.View.{View}
use Rattle.sqlite_resolve.specs.declared.compiled.Compiled.{Compiled}
use Rattle.sqlite.specs.Clock.{timed}
use Rattle.sqlite.specs.Effect.{Database}
use Rattle.sqlite.specs.Listing.{understood}
use Rattle.sqlite.specs.Given.{HasGiven, HasBegun, Advances}
use Rattle.sqlite.specs.Held.{Held, state}
use Rattle.sqlite.specs.State.{State, HasCleanDisk, Survives, IsUnchanged, IsRolledBack, Shown, CommitsShowing}
use Rattle.sqlite.proofs.StateLemmas.{survives_then, unchanged}
use Rattle.sqlite.proofs.Callers.{EndsIn, begins_shown, given_begin, unchanged_then}
use Rattle.escrow_cells.specs.Query.{IsReading}
use Rattle.escrow_cells.specs.Store.{HasTables}
use Rattle.escrow_cells.specs.Tables.{beside}
use Rattle.escrow_cells.specs.Read.{LeavesIdle, Takes}
use Rattle.escrow_cells.proofs.Resting.{IsKept, begun_reading, survives_reading, shown_from, idle_from}

rolled_back_then : (a b c : State) → IsUnchanged a b → IsRolledBack b c → IsRolledBack a c
rolled_back_then a b c same back = record {
  was_open = λ opened. same.0.was_open;
  undone = λ opened. ((back.undone opened).0 ∙ same.0.committed_is, (back.undone opened).1 ∙ same.0.committed_is);
  autocommit = back.autocommit;
  unmarked = back.unmarked;
  counts = record { changes = back.counts.changes ∙ same.1.changes; last_rowid = back.counts.last_rowid ∙ same.1.last_rowid };
}

kept_then : (a b c : State) → IsUnchanged a b → IsKept b c → IsKept a c
kept_then a b c same (inl h) = inl (unchanged_then a b c same h)
kept_then a b c same (inr h) = inr (rolled_back_then a b c same h)

module _ {S K : Type 0} (g : Ghosts S) (HasTaken : K → K → List Row → Type 0) (sql : List ℕ) (params : Row) (first : Held S) (fresh : K) where
  -- the sink has taken the rows that the query has returned so far
  pub record IsTaking (now : Held S) (sink : K) : Type 0 where
    pub survives : Survives (state g first) (state g now) (λ _. ⊥)
    pub mode : first.in_transaction ≡ false → now.in_transaction ≡ false
    pub unchanged : HasCleanDisk (state g now) → IsUnchanged (state g first) (state g now)
    pub given : HasCleanDisk (state g now) → (rows : List Row) × HasGiven g sql params now rows × ((begun : K) (before : List Row) → HasTaken begun fresh before → HasTaken begun sink (before ++ rows))

module _ {S K : Type 0} (g : Ghosts S) (HasTaken : K → K → List Row → Type 0) (sql : List ℕ) (params : Row) (only : IsReading sql) (first : Held S) (fresh : K) where
  abbrev Taking : Held S → K → Type 0
  Taking = IsTaking g HasTaken sql params first fresh

  pub begins_taking : (now : Held S) → (HasCleanDisk (state g now) → HasBegun g sql params first now) → (first.in_transaction ≡ false → now.in_transaction ≡ false)
      → Survives (state g first) (state g now) (CommitsShowing sql params (state g first)) → Taking now fresh
  begins_taking now begun mode survives = record {
    survives = survives_reading sql params (state g first) (state g now) only survives;
    mode = mode;
    unchanged = λ clean. (begun_reading g sql params first now only (begun clean)).1;
    given = λ clean. ([], (begun_reading g sql params first now only (begun clean)).0, λ begun before h. subst (HasTaken begun fresh) (sym (append-nil before)) h);
  }

  module _ (now next : Held S) (sink : K) (so_far : Taking now sink) (survives : Survives (state g now) (state g next) (λ _. ⊥)) where
    early : HasCleanDisk (state g next) → HasCleanDisk (state g now)
    early clean = omega (arith, survives.clean)

    survives_both : Survives (state g first) (state g next) (λ _. ⊥)
    survives_both = survives_then _ (state g now) _ _ _ _ (λ _ _ h. h) (λ _ _ h. h) so_far.survives survives

    pub takes_more : (row : Row) (last : K) → (now.in_transaction ≡ false → next.in_transaction ≡ false) → (HasCleanDisk (state g next) → IsUnchanged (state g now) (state g next))
        → (HasCleanDisk (state g next) → Advances g now next (Some row)) → ((begun : K) (rows : List Row) → HasTaken begun sink rows → HasTaken begun last (rows ++ row ∷ [])) → Taking next last
    takes_more row last mode same gives takes = record {
      survives = survives_both;
      mode = λ outside. mode (so_far.mode outside);
      unchanged = λ clean. unchanged_then _ (state g now) _ (so_far.unchanged (early clean)) (same clean);
      given = λ clean.
          let was = so_far.given (early clean) in
          (was.0 ++ row ∷ [], gives clean sql params was.0 was.1, λ begun before h. subst (HasTaken begun last) (append_assoc before was.0 (row ∷ [])) (takes begun _ (was.2 begun before h)));
    }

    pub ends_taking : HasCleanDisk (state g next) → Advances g now next None → Takes HasTaken (Shown sql params (state g first) (state g next)) fresh sink
    ends_taking clean gives begun before h =
        let was = so_far.given (early clean) in
        (was.0, shown_from sql params (state g first) (state g now) (state g next) was.0 only (so_far.unchanged (early clean)) (gives sql params was.0 was.1), was.2 begun before h)

    pub taking_leaves_idle : (IsTrue (state g first).is_open → (state g first).now ≡ (state g first).committed) → (now.in_transaction ≡ false → next.in_transaction ≡ false)
        → (HasCleanDisk (state g next) → IsKept (state g now) (state g next)) → first.in_transaction ≡ false → LeavesIdle g first next
    taking_leaves_idle settled mode kept outside = idle_from g first next settled (mode (so_far.mode outside)) survives_both (λ clean. kept_then _ (state g now) _ (so_far.unchanged (early clean)) (kept clean))

  -- a sink that is done has taken a whole answer, whatever further rows it has
  pub stops_taking : ((more : List Table) (indexes : List Index) (views : List View) (c : Compiled) → understood (beside more indexes views) sql ≡ Ok c
      → (body : Query) × (names : List (List ℕ)) × (c.command ≡ Select (record { lets = []; body = body }) names)) → HasTables (state g first).now.schema → (now : Held S) (sink : K) → Taking now sink
      → HasCleanDisk (state g now) → IsTrue (state g now).is_open → ((begun : K) (rows more : List Row) → HasTaken begun sink rows → HasTaken begun sink (rows ++ more))
      → Takes HasTaken (Shown sql params (state g first) (state g now)) fresh sink
  stops_taking selects has now sink so_far clean opened done begun before h =
      let was = so_far.given clean in
      let same = so_far.unchanged clean in
      let tables : (state g now).now.schema ≡ beside has.more has.indexes has.views = ap (λ (db : Database). db.schema) same.0.now_is ∙ has.is in
      let all = begins_shown sql params (state g now) (state g now) was.0 (given_begin g sql params now was.0 was.1) (unchanged (state g now) opened)
      (λ c db it source.
      let command = selects has.more has.indexes has.views c (subst (λ (s : Schema). understood s sql ≡ Ok c) tables it.is) in
      subst (λ (k : Command). EndsIn k db (timed params c.formats it.now)) (sym command.2) tt) in
      (was.0 ++ all.0, shown_from sql params (state g first) (state g now) (state g now) (was.0 ++ all.0) only same all.1, subst (HasTaken begun sink) (append_assoc before was.0 all.0) (done begun (before ++ was.0) all.0 (was.2 begun before h)))

  -- the sink fails, or the query returns rows without end
  pub stopped_leaves_idle : (now : Held S) (sink : K) → Taking now sink → (IsTrue (state g first).is_open → (state g first).now ≡ (state g first).committed) → first.in_transaction ≡ false → LeavesIdle g first now
  stopped_leaves_idle now sink so_far settled outside = idle_from g first now settled (so_far.mode outside) so_far.survives (λ clean. inl (so_far.unchanged clean))

-- What is known of each answer holds of the rows that were taken. Its parameters are equal to those it speaks of.
pub taken_answers : {X E K : Type 0} (HasTaken : K → K → List Row → Type 0) (sql : List ℕ) {ps qs : Row} (old new : State) (fresh last : K) {Premise : Type 0} {Answers : List Row → Type 0} (r : Result X E)
    → ((rows : List Row) → Shown sql qs old new rows → Premise → Answers rows) → (Premise → HasTables old.now.schema) → OnOk r (HasTables old.now.schema → Takes HasTaken (Shown sql ps old new) fresh last) → ps ≡ qs
    → OnOk r (Premise → Takes HasTaken Answers fresh last)
taken_answers HasTaken sql old new fresh last (Ok x) answers tables h e = λ given begun before taken.
    let it = h (tables given) begun before taken in
    (it.0, answers it.0 (subst (λ params. Shown sql params old new it.0) e it.1) given, it.2)
taken_answers HasTaken sql old new fresh last (Err error) answers tables h e = tt
