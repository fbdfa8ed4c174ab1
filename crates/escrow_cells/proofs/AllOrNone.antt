-- A transaction from begin to end, in terms of what the connections show.
use Rattle.std.proofs.Common.{◌≡◌, ℕ, ◌≤◌, Bool, List, [], ◌∷◌, ◌++◌, take, length, get_or, ◌<◌, ◌+◌, true, false, IsTrue, Result, Ok, Err, OnOk, IfErr, is_ok, inl, inr, refl, sym, ap, subst, ◌∙◌, arith}
use Rattle.std.proofs.lemmas.List.{length-append, take_more}
use Rattle.std.proofs.lemmas.Bool.{both_ways, cases_lt, false≢true}
use Rattle.sqlite_trees.specs.declared.store.Store.{Ghosts}
use Rattle.sqlite_trees.specs.Tree.{Trees}
use Rattle.sqlite.specs.declared.error.Error.{Error}
use Rattle.sqlite.specs.Effect.{Database}
use Rattle.sqlite.specs.Held.{Held, state}
use Rattle.sqlite.specs.State.{State, HasCleanDisk, KeepsCounts, Survives, Shows, IsRolledBack, IsUnchanged}
use Rattle.sqlite.specs.Steps.{FailsToCommit}
use Rattle.sqlite.proofs.StateLemmas.{survives_then, survives_weaker}
use Rattle.escrow_cells.specs.declared.step.Step.{Step}
use Rattle.escrow_cells.specs.Step.{Does, DoesFinding, finds}
use Rattle.escrow_cells.specs.Store.{IsStore, cells}
use Rattle.escrow_cells.specs.Calls.{OnlyReads, Transacts}
use Rattle.escrow_cells.specs.Inside.{Acts, ActsBy, IsPending, GoesOn}
use Rattle.escrow_cells.proofs.Steps.{does_more, does_none}

-- a transaction has just begun
pub begun : {S : Type 0} (g : Ghosts S) (old : Held S) (Makes : Database → Database → Type 0) → ((db : Database) → Makes db db) → GoesOn 0 Makes (state g old) (state g (record old { in_transaction = true }))
begun g old Makes none = record {
  pending = record {
    survives = record { clean = omega arith; shield = λ h. h; counts = omega arith; limit = refl; closes = λ _ h. inl h; crash = λ _ db h. inl h };
    kept = λ _. record { was_open = λ h. h; committed = λ _. refl };
  };
  inside = λ _. refl;
  was_open = λ _ some. absurd (omega (arith, some));
  made = λ _. none _;
}

pending_then : (a b c : State) → IsPending a b → IsPending b c → IsPending a c
pending_then a b c one two = record {
  survives = survives_then a b c _ _ _ (λ _ db none. none) (λ _ db none. none) one.survives two.survives;
  kept = λ clean.
      let first = one.kept (omega (arith, two.survives.clean)) in
      let last = two.kept clean in
      record { was_open = λ h. first.was_open (last.was_open h); committed = λ h. last.committed h ∙ first.committed (last.was_open h) };
}

-- the store was open before a call that came first, or that only kept the committed state
first_open : (a b : State) (m n : ℕ) → 0 < m + n → IsPending a b → (0 < m → IsTrue a.is_open) → (0 < n → IsTrue b.is_open) → HasCleanDisk b → IsTrue a.is_open
first_open a b m n some pending first second clean = elim (cases_lt 0 m) [
  | inl before ↦ first before
  | inr none ↦ (pending.kept clean).was_open (second (omega (arith, some, none)))
]

module _ (A B C : Database → Database → Type 0) (joined : (x y z : Database) → A x y → B y z → C x z) (a b c : State) (steps m n : ℕ) (few : steps ≤ m + n) where
  -- a second call after a call that succeeded
  pub acts_then : (is_done : Bool) → Acts a b true m A → Acts b c is_done n B → Acts a c is_done steps C
  acts_then is_done one two =
      let was = λ (clean : HasCleanDisk c). let h : HasCleanDisk b = omega (arith, two.pending.survives.clean) in h in
      record {
        done = λ e clean inside.
            let first = one.done refl (was clean) inside in
            let last = two.done e clean first.0 in
            (last.0, joined _ _ _ first.1 last.1);
        was_open = λ e clean inside some.
            first_open a b m n (omega (arith, some, few)) one.pending (one.was_open refl (was clean) inside) (two.was_open e clean (one.done refl (was clean) inside).0) (was clean);
        pending = pending_then a b c one.pending two.pending;
      }

  -- one more call in a transaction
  pub goes_then : GoesOn m A a b → Acts b c true n B → GoesOn steps C a c
  goes_then before one =
      let was = λ (clean : HasCleanDisk c). let h : HasCleanDisk b = omega (arith, one.pending.survives.clean) in h in
      record {
        pending = pending_then a b c before.pending one.pending;
        inside = λ clean. (one.done refl clean (before.inside (was clean))).0;
        was_open = λ clean some. first_open a b m n (omega (arith, some, few)) before.pending (before.was_open (was clean)) (one.was_open refl clean (before.inside (was clean))) (was clean);
        made = λ clean. joined _ _ _ (before.made (was clean)) (one.done refl clean (before.inside (was clean))).1;
      }

-- the first call in a transaction that has just begun
pub goes_first : {S : Type 0} (g : Ghosts S) (old start : Held S) (last : State) (steps : ℕ) (Makes : Database → Database → Type 0) → start ≡ record old { in_transaction = true } → Acts (state g start) last true steps Makes
    → GoesOn steps Makes (state g old) last
goes_first g old start last steps Makes is acts =
    goes_then ◌≡◌ Makes Makes (λ x y z same makes. subst (λ (db : Database). Makes db z) (sym same) makes) (state g old) _ last steps 0 steps (omega arith) (begun g old ◌≡◌ (λ _. refl)) (rw is at acts)

-- the result of a step that is the first in a new transaction: the store was open, and the step found a cell or none
pub found_first : {S : Type 0} (g : Ghosts S) (old start : Held S) (last : State) (first : Step) (found : Bool) → start ≡ record old { in_transaction = true } → ActsBy (state g start) last true (first ∷ [])
    → (HasCleanDisk last → IsTrue (state g start).in_transaction → IsStore (state g start).now → found ≡ finds first (cells (state g start).now)) → HasCleanDisk last
    → IsTrue (state g old).is_open × (IsStore (state g old).now → finds first (cells (state g old).now) ≡ found)
found_first g old start last first found is acts tells clean =
    let a = rw is at acts in
    let told = rw is at tells in
    (a.was_open refl clean refl (omega arith), λ store. sym (told clean refl store))

-- a transaction that has begun
pub just_begun : {S : Type 0} (g : Ghosts S) (old start : Held S) → start ≡ record old { in_transaction = true } → IsPending (state g old) (state g start)
just_begun g old start is = rw is (begun g old ◌≡◌ (λ _. refl)).pending

-- the first of the steps found a cell
pub finding : (first : Step) (rest : List Step) (old last : State) → GoesOn (length (first ∷ rest)) (Does (first ∷ rest)) old last → (HasCleanDisk last → IsStore old.now → finds first (cells old.now) ≡ true)
    → GoesOn (length (first ∷ rest)) (DoesFinding first rest) old last
finding first rest old last goes found = record {
  pending = goes.pending;
  inside = goes.inside;
  was_open = goes.was_open;
  made = λ clean. record { does = goes.made clean; found = found clean };
}

-- more steps run after the earlier ones
pub goes_on : (done more : List Step) (old mid new : State) → GoesOn (length done) (Does done) old mid → ActsBy mid new true more → GoesOn (length (done ++ more)) (Does (done ++ more)) old new
goes_on done more old mid new before one =
    goes_then (Does done) (Does more) _ (λ x y z. does_more done more x y z) old mid new _ (length done) (length more) (omega (arith, length-append done more)) before one

-- no step runs
pub acts_none : (s : State) → ActsBy s s true []
acts_none s = record {
  done = λ _ clean inside. (inside, does_none s.now);
  was_open = λ _ _ _ some. absurd (omega (arith, some));
  pending = record {
    survives = record { clean = omega arith; shield = λ h. h; counts = omega arith; limit = refl; closes = λ _ h. inl h; crash = λ _ db h. inl h };
    kept = λ _. record { was_open = λ h. h; committed = λ _. refl };
  };
}

-- the step at a place runs after the earlier ones
pub acts_on : (steps : List Step) (at : ℕ) (some : Step) (old mid new : State) → at < length steps → ActsBy old mid true (take at steps) → ActsBy mid new true (get_or steps at some ∷ [])
    → ActsBy old new true (take (at + 1) steps)
acts_on steps at some old mid new within before one =
    let first = take at steps in
    let next = get_or steps at some ∷ [] in
    subst (λ these. ActsBy old new true these) (sym (take_more steps at some within))
    (acts_then (Does first) (Does next) _ (λ x y z. does_more first next x y z) old mid new (length (first ++ next)) (length first) 1 (omega (arith, length-append first next)) true before one)

-- steps run after a call that did none
pub acts_after_none : (steps : List Step) (old mid new : State) (is_done : Bool) → ActsBy old mid true [] → ActsBy mid new is_done steps → ActsBy old new is_done steps
acts_after_none steps old mid new is_done before after = acts_then (Does []) (Does steps) _ (λ x y z. does_more [] steps x y z) old mid new (length steps) 0 (length steps) (omega arith) is_done before after

-- if a step fails, nothing is claimed about the result
pub acts_failed : (old mid new : State) (steps : ℕ) (Makes : Database → Database → Type 0) → IsPending old mid → IsPending mid new → Acts old new false steps Makes
acts_failed old mid new steps Makes before one = record { done = λ e. absurd (false≢true e); was_open = λ e. absurd (false≢true e); pending = pending_then old mid new before one }

module _ (old last new : State) (settled : IsTrue old.is_open → old.now ≡ old.committed) (Makes : Database → Database → Type 0) where
  -- an error drops the transaction, which rolls it back
  pub undone : (mid : State) → IsPending old mid → IsPending mid last → (HasCleanDisk new → IsRolledBack last new) → Survives last new (λ _. ⊥) → Transacts old new false Makes
  undone mid one two back quiet =
      let pending = pending_then old mid last one two in
      let kept = λ (clean : HasCleanDisk new). pending.kept (omega (arith, quiet.clean)) in
      let was = λ (clean : HasCleanDisk new) (h : IsTrue new.is_open). (kept clean).was_open ((back clean).was_open h) in
      record {
        done = λ e. absurd (false≢true e);
        refused = λ _ usable.
            let it = back usable.0 in
            (it.undone usable.1).0 ∙ (kept usable.0).committed (it.was_open usable.1) ∙ sym (settled (was usable.0 usable.1));
        usable = λ usable. (omega (arith, pending.survives.clean, quiet.clean, usable.0), was usable.0 usable.1);
        durable = λ e. absurd (false≢true e);
        survives = survives_then old last new _ _ _ (λ _ db none. absurd none) (λ _ db none. absurd none) pending.survives quiet;
      }

  -- COMMIT, after the last statement
  module _ (steps : ℕ) (some : 0 < steps) (held : GoesOn steps Makes old last) (quiet : Survives last new (λ db. db ≡ last.now.trees))
      (leaves : (trees : Trees) → IsTrue new.is_open → new.may_leave trees → trees ≡ new.committed.trees) where
    was_clean : HasCleanDisk new → HasCleanDisk last
    was_clean clean = omega (arith, quiet.clean)

    first_clean : HasCleanDisk new → HasCleanDisk old
    first_clean clean = omega (arith, held.pending.survives.clean, quiet.clean)

    -- if COMMIT fails, it rolls back
    fails : (e : Error) → HasCleanDisk new → FailsToCommit last new e → IsRolledBack last new
    fails e clean (inl h) = h.3
    fails e clean (inr h) = absurd (both_ways last.in_transaction h.1 (held.inside (was_clean clean)))

    -- a crash inside leaves either the earlier state or what the transaction made; in the second case, its steps found
    -- the store open
    crash : Survives old new (λ trees. IsTrue old.is_open × (db : Database) × Makes old.now db × (trees ≡ db.trees))
    crash =
        survives_then old last new _ _ _ (λ _ db none. absurd none)
        (λ clean db is. (held.was_open (was_clean clean) some, last.now, held.made (was_clean clean), is)) held.pending.survives quiet

    pub ends : (r : Result (Unit {0}) Error) → (HasCleanDisk new → OnOk r (IsTrue last.in_transaction × Shows last new last.now last.now false × KeepsCounts last new × (new.marks ≡ [])))
        → (HasCleanDisk new → IfErr r (FailsToCommit last new)) → Transacts old new (is_ok r) Makes
    ends (Ok x) commits fail = record {
      done = λ _ clean. let shows = (commits clean).1 in (shows.is_open, subst (Makes old.now) (sym shows.now_is) (held.made (was_clean clean)));
      refused = λ e. absurd (false≢true (sym e));
      usable = λ usable. (first_clean usable.0, (held.pending.kept (was_clean usable.0)).was_open (commits usable.0).1.was_open);
      durable = λ _ clean trees may. let shows = (commits clean).1 in leaves trees shows.is_open may ∙ ap (λ (db : Database). db.trees) (shows.committed_is ∙ sym shows.now_is);
      survives = crash;
    }
    ends (Err e) commits fail = record {
      done = λ no. absurd (false≢true no);
      refused = λ _ usable.
          let back = fails e usable.0 (fail usable.0) in
          let kept = held.pending.kept (was_clean usable.0) in
          let was = back.was_open usable.1 in
          (back.undone usable.1).0 ∙ kept.committed was ∙ sym (settled (kept.was_open was));
      usable = λ usable. (first_clean usable.0, (held.pending.kept (was_clean usable.0)).was_open ((fails e usable.0 (fail usable.0)).was_open usable.1));
      durable = λ no. absurd (false≢true no);
      survives = crash;
    }

-- nothing was written, because there was nothing to write
module _ (old new : State) where
  pub wrote_nothing : (IsTrue old.is_open → old.now ≡ old.committed) → ((trees : Trees) → IsTrue new.is_open → new.may_leave trees → trees ≡ new.committed.trees)
      → Survives old new (λ _. ⊥) → (HasCleanDisk new → IsUnchanged old new) → Transacts old new true (Does [])
  wrote_nothing settled leaves survives same = record {
    done = λ _ clean. let shows = (same clean).0 in (shows.is_open, subst (Does [] old.now) (sym shows.now_is) (does_none old.now));
    refused = λ e. absurd (false≢true (sym e));
    usable = λ usable. (omega (arith, survives.clean, usable.0), (same usable.0).0.was_open);
    durable = λ _ clean trees may.
        let shows = (same clean).0 in
        leaves trees shows.is_open may ∙ ap (λ (db : Database). db.trees) (shows.committed_is ∙ sym (settled shows.was_open) ∙ sym shows.now_is);
    survives = survives_weaker old new _ _ (λ _ _ none. absurd none) survives;
  }

  pub could_not_write : OnlyReads old new → Transacts old new false (Does [])
  could_not_write it = record {
    done = λ e. absurd (false≢true e);
    refused = λ _ usable. it.same usable;
    usable = it.usable;
    durable = λ e. absurd (false≢true e);
    survives = survives_weaker old new _ _ (λ _ _ none. absurd none) it.survives;
  }
