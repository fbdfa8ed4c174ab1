-- The parts of a call that serves a statement.
use Rattle.std.specs.Prelude.{◌≡◌, ◌⊎◌, ℕ, ℤ, List, length, MatchOption, Bool, true, false, Option, Some, None, IsSomeAnd, Result, Ok, Err, option_map, unwrap_or, is_none, is_some, IsTrue}
use Rattle.std.specs.Result.{IsErrAnd}
use Rattle.std.proofs.Common.{inl, inr, refl, sym, ap, ap₂, subst, le_refl, arith, ◌∙◌}
use Rattle.std.proofs.lemmas.Bool.{and_parts, false≢true}
use Rattle.sqlite.specs.Held.{Held, state}
use Rattle.sqlite.specs.State.{State as Store, HasCleanDisk, Survives}
use Rattle.sqlite.proofs.StateLemmas.{survives_then, survives_weaker}
use Rattle.sqlite_trees.specs.declared.store.Store.{Ghosts}
use Rattle.sqlite_trees.specs.Tree.{Trees}
use Rattle.escrow_num.specs.declared.refusal.Refusal.{Refusal}
use Rattle.escrow_num.specs.Refusal.{first_refusal, refusal_for}
use Rattle.escrow_statement.specs.declared.statement.Statement.{Statement}
use Rattle.escrow_statement.specs.declared.statement.Statement.TheVariants as statement
use Rattle.escrow_num.specs.declared.failure.Failure.{Failure}
use Rattle.escrow_num.specs.declared.failure.Failure.TheVariants as failure
use Rattle.escrow_bounds.specs.Bounds.{Bounds}
use Rattle.escrow_num.specs.declared.row.Row.{Row}
use Rattle.escrow_num.specs.declared.value.RowName.{RowName}
use Rattle.escrow_num.specs.Order.{same_row}
use Rattle.escrow_schema.specs.Catalog.{table_named}
use Rattle.escrow_schema.specs.Column.{reservables}
use Rattle.escrow_schema.specs.declared.table.TableDef.{TableDef}
use Rattle.escrow_rows.specs.Answers.{IsUsable}
use Rattle.escrow_tables.specs.Calls.{Reads, Writes}
use Rattle.escrow_tables.specs.Tables.{Tables, AreHeld}
use Rattle.escrow_journal.specs.Open.{Open}
use Rattle.escrow_machine.specs.declared.reply.Reply.{Reply}
use Rattle.escrow_machine.specs.declared.reply.Reply.TheVariants as reply
use Rattle.escrow_reserved.specs.Read.{IsLeft, ReadRows, read_at, row_read, row_with, IsKnown, IsRead}
use Rattle.escrow_reserved.proofs.Reading.{known_left, known_more, read_left, read_more}
use Rattle.escrow_reserved.specs.Placed.{amounts_named, AreOfTables, HaveAmounts}
use Rattle.escrow_core.specs.Inside.{database_of, Holds, Keeps}
use Rattle.escrow_machine.specs.Promised.{asks_store, reads_rows}
use Rattle.escrow_machine.specs.Reply.{failure_of, is_refused, tells_write}
use Rattle.escrow_core.specs.Database.{Database, IsKept}
use Rattle.escrow_core.specs.Serves.{AreAfter, AreHeldOf, Serves}
use Rattle.escrow_machine.specs.Accepted.{IsAccepted, IsRefusal, PassesEarly}
use Rattle.escrow_core.specs.Serving.{IsFailure, OnlyReads, answer_of}
use Rattle.escrow_machine.specs.State.{State, is_reserved}
use Rattle.escrow_machine.specs.Step.{refusals, step, fails_for, may_fail, IsStep, StepOrRefusal}
use Rattle.escrow_machine.specs.Transition.{transition_of}
use Rattle.escrow_machine.specs.Valid.{IsOrderly, AreSafeRows, IsValid}
use Rattle.escrow_machine.proofs.LawsSteps.{early_refusals_stand, refused_stays}
use Rattle.escrow_machine.proofs.Refusals.{first_behind, first_in_front}
use Rattle.escrow_machine.proofs.Shapes.{HasOrder}
use Rattle.escrow_reserved.proofs.Places.{amounts_stay, tables_stay}
use Rattle.escrow_core.proofs.Served.{refused_serves, stepped}

-- if no refusal applies, the step is the transition
pub accepted_step : (s : State) (session : ℕ) (asked : Statement) → IsAccepted s session asked
    → step s session asked ≡ ((transition_of s session asked).reply, (transition_of s session asked).next)
accepted_step s session asked accepted =
    let transition = transition_of s session asked in
    ap (λ (o : Option Refusal). unwrap_or (option_map (λ (q : Refusal). (reply.Refused q, s)) o) (transition.reply, transition.next)) accepted

-- if a refusal applies, the step is that refusal, and the state stays
pub refused_step : (s : State) (session : ℕ) (asked : Statement) (r : Refusal) → first_refusal (refusals (transition_of s session asked)) ≡ Some r → step s session asked ≡ (reply.Refused r, s)
refused_step s session asked r first =
    let transition = transition_of s session asked in
    ap (λ (o : Option Refusal). unwrap_or (option_map (λ (q : Refusal). (reply.Refused q, s)) o) (transition.reply, transition.next)) first

-- the reply if a row must exist: the refusal if it does not
abbrev pub tried : Option Row → Refusal → Reply → Reply
tried None r done = reply.Refused r
tried (Some row) r done = done

pub tried_some : (o : Option Row) (r : Refusal) (done : Reply) → true ≡ is_some o → tried o r done ≡ done
tried_some None r done stands = absurd (false≢true (sym stands))
tried_some (Some row) r done stands = refl

-- a statement without an early refusal may fail for what it needs
pub fails : (s : State) (session : ℕ) (asked : Statement) (f : Failure) → PassesEarly s session asked → fails_for s session asked f ≡ true → IsRefusal s session asked (refusal_for f)
fails s session asked f early takes = inr (f, refl, rw (early, takes) refl)

-- a reported refusal is one of the statement, or reports a failure
pub told_or_failed : (s : State) (session : ℕ) (asked : Statement) (clean : Type 0) (r expected : Refusal) → PassesEarly s session asked → ((f : Failure) → fails_for s session asked f ≡ true)
    → (IsFailure r ⊎ (clean → r ≡ expected)) → (clean → IsRefusal s session asked expected) → clean → IsRefusal s session asked r
told_or_failed s session asked clean r expected early takes (inl failed) is now = subst (IsRefusal s session asked) (sym failed.1) (fails s session asked failed.0 early (takes failed.0))
told_or_failed s session asked clean r expected early takes (inr told) is now = subst (IsRefusal s session asked) (sym (told now)) (is now)

-- if no early refusal applies, the first late one does, or none applies
pub late_first : (s : State) (session : ℕ) (asked : Statement) (r : Refusal) → PassesEarly s session asked → first_refusal (transition_of s session asked).late ≡ Some r
    → first_refusal (refusals (transition_of s session asked)) ≡ Some r
late_first s session asked r early first =
    let transition = transition_of s session asked in
    first_behind transition.early transition.late early ∙ first

pub late_applies : (s : State) (session : ℕ) (asked : Statement) (r : Refusal) → PassesEarly s session asked → first_refusal (transition_of s session asked).late ≡ Some r
    → IsRefusal s session asked r
late_applies s session asked r early first = inl (late_first s session asked r early first)

pub none_applies : (s : State) (session : ℕ) (asked : Statement) → PassesEarly s session asked → first_refusal (transition_of s session asked).late ≡ None
    → IsAccepted s session asked
none_applies s session asked early none =
    let transition = transition_of s session asked in
    first_behind transition.early transition.late early ∙ none

-- no early refusal applies in an equal state
pub still_passes : (old new : State) (session : ℕ) (asked : Statement) → new ≡ old → PassesEarly old session asked → PassesEarly new session asked
still_passes old new session asked same early = subst (λ (s : State). PassesEarly s session asked) (sym same) early

-- an early refusal is the reply
early_answered : (s : State) (session : ℕ) (asked : Statement) (r other : Refusal) → IsRefusal s session asked r → first_refusal (transition_of s session asked).early ≡ Some other → r ≡ other
early_answered s session asked r other (inl first) early =
    let transition = transition_of s session asked in
    let in_front : first_refusal (refusals transition) ≡ Some other = first_in_front transition.early transition.late other early in
    cc
early_answered s session asked r other (inr failing) early =
    let transition = transition_of s session asked in
    let may = failing.2 in
    let parts = and_parts (is_none (first_refusal transition.early)) (fails_for s session asked failing.0) may in
    let none : is_none (Some other) ≡ true = subst (λ (o : Option Refusal). is_none o ≡ true) early parts.0 in
    absurd (false≢true none)

-- a call that ends by `?` returns the refusal
pub left_by : (result : Result Reply Refusal) (r : Refusal) → IsErrAnd result (λ e. e ≡ r) → answer_of result ≡ reply.Refused r
left_by (Ok answer) r is = absurd is
left_by (Err e) r is = ap reply.Refused is

-- a reply that is no refusal is no failure
succeeds : (answer : Reply) → is_refused answer ≡ false → failure_of answer ≡ None
succeeds (reply.Refused r) accepted = absurd (cc)
succeeds _ accepted = refl

pub no_write : (r : Refusal) → ¬ (IsTrue (tells_write (reply.Refused r)))
no_write r e = false≢true e

pub survives_itself : (s : Store) (P : Trees → Type 0) → Survives s s P
survives_itself s P = record { clean = le_refl _; shield = λ h. h; counts = le_refl _; limit = refl; closes = λ _ h. inl h; crash = λ _ db h. inl h }

-- a disk that returns what was written did so before
pub still_clean : (a b : Store) (P : Trees → Type 0) → Survives a b P → HasCleanDisk b → HasCleanDisk a
still_clean a b P survives clean = omega (arith, survives.clean, clean)

-- what a database keeps after its store was read
pub read_keeps : {S : Type 0} (g : Ghosts S) (t new : Tables S) (o : Open) (places : Bounds) → Keeps g (database_of t o) places → Reads g t new → Keeps g (database_of new o) places
read_keeps g t new o places keeps reads = record {
  kept = record {
    orderly = rw reads.catalog keeps.kept.orderly;
    safe_rows = λ clean. rw (reads.catalog, reads.rows) (keeps.kept.safe_rows (still_clean _ _ _ reads.survives clean));
  };
  placed = keeps.placed;
  of_tables = rw reads.catalog keeps.of_tables;
  amounts = λ clean. rw reads.rows (keeps.amounts (still_clean _ _ _ reads.survives clean));
}

-- what it holds after one more row was read, which is kept or not
pub remembered_holds : {S : Type 0} (g : Ghosts S) (t new : Tables S) (o : Open) (places : Bounds) (old recent : ReadRows) (row : RowName) (amounts : List ℤ) → Holds g (database_of t o) places old → Reads g t new
    → ((name : RowName) → IsLeft old recent name ⊎ ((same_row row name ≡ true) × (read_at recent name ≡ Some amounts)))
    → IsKnown t.catalog (Some (row_with row amounts)) → (HasCleanDisk (state g new.store) → IsRead t.rows (Some (row_with row amounts))) → Holds g (database_of new o) places recent
remembered_holds g t new o places old recent row amounts holds reads only known read = record {
  keeps = read_keeps g t new o places holds.keeps reads;
  known = λ name. rw reads.catalog (known_more old recent row amounts only t.catalog holds.known known name);
  read = λ clean name. rw reads.rows (read_more old recent row amounts only t.rows (holds.read (still_clean _ _ _ reads.survives clean)) (read clean) name);
}

-- a failed write leaves the state unchanged
pub unwritten_same : {S : Type 0} (g : Ghosts S) (t new : Tables S) (o : Open) (catalog : List TableDef) (rows : List Row) → Writes g t new false catalog rows → (database_of new o).state ≡ (database_of t o).state
unwritten_same g t new o catalog rows writes =
    ap₂ (λ (c : List TableDef) (rs : List Row). record (database_of t o).state { catalog = c; rows = rs }) (writes.kept_catalog refl) (writes.kept_rows refl)

-- a failed write leaves what the database keeps
unwritten_keeps : {S : Type 0} (g : Ghosts S) (t new : Tables S) (o : Open) (places : Bounds) (catalog : List TableDef) (rows : List Row) → Keeps g (database_of t o) places → Writes g t new false catalog rows
    → Keeps g (database_of new o) places
unwritten_keeps g t new o places catalog rows keeps writes = record {
  kept = record {
    orderly = rw (writes.kept_catalog refl) keeps.kept.orderly;
    safe_rows = λ clean. rw (writes.kept_catalog refl, writes.kept_rows refl) (keeps.kept.safe_rows (still_clean _ _ _ writes.survives clean));
  };
  placed = keeps.placed;
  of_tables = rw (writes.kept_catalog refl) keeps.of_tables;
  amounts = λ clean. rw (writes.kept_rows refl) (keeps.amounts (still_clean _ _ _ writes.survives clean));
}

-- after a failed write, the database holds the same, though rows that were read may be forgotten
pub unwritten_holds : {S : Type 0} (g : Ghosts S) (t new : Tables S) (o : Open) (places : Bounds) (catalog : List TableDef) (rows : List Row) (old recent : ReadRows) → Holds g (database_of t o) places old
    → Writes g t new false catalog rows → ((name : RowName) → IsLeft old recent name) → Holds g (database_of new o) places recent
unwritten_holds g t new o places catalog rows old recent holds writes left = record {
  keeps = unwritten_keeps g t new o places catalog rows holds.keeps writes;
  known = λ name. rw (writes.kept_catalog refl) (known_left t.catalog old recent name (holds.known name) (left name));
  read = λ clean name. rw (writes.kept_rows refl) (read_left t.rows old recent name (holds.read (still_clean _ _ _ writes.survives clean) name) (left name));
}

-- nothing was read
pub reads_itself : {S : Type 0} (g : Ghosts S) (d : Database S) → OnlyReads g d d
reads_itself g d = record { same = refl; usable = λ usable. usable; survives = survives_itself (state g d.store) (λ _. ⊥) }

-- what a database keeps if the store is untouched
pub apart_keeps : {S : Type 0} (g : Ghosts S) (d : Database S) (next : State) → IsKept g d → IsOrderly next.catalog next.reservations next.savepoints next.next_id
    → (IsValid d.state → IsValid next) → IsKept g (record { store = d.store; state = next })
apart_keeps g d next kept orderly valid = record {
  orderly = orderly;
  safe_rows = λ u. (valid (record { orderly = kept.orderly; safe_rows = kept.safe_rows u })).safe_rows;
}

-- a statement that asks the store reads rows
asking_reads : (s : State) (session : ℕ) (asked : Statement) → asks_store s session asked ≡ true → reads_rows s session asked ≡ true
asking_reads s session (statement.Update text) asks = refl
asking_reads s session asked asks = asks

-- a statement that does not ask the store is not refused by it
not_by_store : (s : State) (session : ℕ) (asked : Statement) (answer : Reply) (new : State) → StepOrRefusal s session asked answer new → asks_store s session asked ≡ false
    → ¬ (failure_of answer ≡ Some failure.Store)
not_by_store s session asked answer new event none is =
    let failed = subst (λ (o : Option Failure). MatchOption o (IsStep s session asked answer new) (λ f. IsTrue (may_fail s session asked f) × (new ≡ s))) is event in
    absurd (false≢true (sym none ∙ (and_parts (is_none (first_refusal (transition_of s session asked).early)) (fails_for s session asked failure.Store) failed.0).1))

module _ {S : Type 0} (g : Ghosts S) (session : ℕ) (asked : Statement) where
  -- refused before the store is asked: everything stays
  pub refused : (d : Database S) (r : Refusal) → IsRefusal d.state session asked r → Serves g session asked d (reply.Refused r) d
  refused d r is = record {
    event = λ _. refused_serves d.state session asked r is;
    early = λ other first. (ap reply.Refused (early_answered d.state session asked r other is first), refl);
    apart = λ none. (refl, not_by_store d.state session asked (reply.Refused r) d.state (refused_serves d.state session asked r is) none);
    unread = λ _. refused_serves d.state session asked r is;
    refused = λ _. refl;
    usable = λ usable. usable;
    survives = survives_itself (state g d.store) _;
    durable = λ e. absurd (no_write r e);
  }

  -- refused early
  pub early_refused : (d : Database S) (r : Refusal) → first_refusal (transition_of d.state session asked).early ≡ Some r → Serves g session asked d (reply.Refused r) d
  early_refused d r first =
      let transition = transition_of d.state session asked in
      refused d r (inl (first_in_front transition.early transition.late r first))

  -- a statement that asks the store and has no early refusal, from the remaining properties
  pub served : (old new : Database S) (answer : Reply) → asks_store old.state session asked ≡ true → PassesEarly old.state session asked
      → (HasCleanDisk (state g new.store) → StepOrRefusal old.state session asked answer new.state)
      → (IsTrue (is_refused answer) → new.state ≡ old.state)
      → (IsUsable (state g new.store) → IsUsable (state g old.store))
      → Survives (state g old.store) (state g new.store) (λ trees. IsTrue (state g old.store).is_open × AreAfter old.state session asked trees)
      → (IsTrue (tells_write answer) → HasCleanDisk (state g new.store) → (trees : Trees) → (state g new.store).may_leave trees → AreHeldOf new.state trees)
      → Serves g session asked old answer new
  served old new answer asks early event refused usable survives durable = record {
    event = event;
    early = λ r first. let both : None ≡ Some r = sym early ∙ first in absurd (cc);
    apart = λ not_asked. absurd (false≢true (sym not_asked ∙ asks));
    unread = λ none. absurd (false≢true (sym none ∙ asking_reads old.state session asked asks));
    refused = refused;
    usable = usable;
    survives = survives;
    durable = durable;
  }

  -- a reply without a write, from what was read before
  pub answered : (d : Database S) (answer : Reply) → asks_store d.state session asked ≡ true → PassesEarly d.state session asked → tells_write answer ≡ false
      → (HasCleanDisk (state g d.store) → StepOrRefusal d.state session asked answer d.state) → Serves g session asked d answer d
  answered d answer asks early quiet event =
      served d d answer asks early event (λ _. refl) (λ usable. usable) (survives_itself (state g d.store) _) (λ e. absurd (false≢true (sym quiet ∙ e)))

  -- refused for what was read
  pub late_refused : (d : Database S) (r : Refusal) → asks_store d.state session asked ≡ true → PassesEarly d.state session asked
      → (HasCleanDisk (state g d.store) → IsRefusal d.state session asked r) → Serves g session asked d (reply.Refused r) d
  late_refused d r asks early is = answered d (reply.Refused r) asks early refl (λ u. refused_serves d.state session asked r (is u))

  -- a statement served after a read is served from before the read
  pub after_look : (old mid new : Database S) (answer : Reply) → OnlyReads g old mid
      → asks_store old.state session asked ≡ true → PassesEarly old.state session asked → Serves g session asked mid answer new → Serves g session asked old answer new
  after_look old mid new answer only_reads asks early serves =
      let crashes = survives_then (state g old.store) (state g mid.store) (state g new.store) (λ _. ⊥) _
      (λ trees. IsTrue (state g old.store).is_open × AreAfter old.state session asked trees)
      (λ clean trees none. absurd none)
      (λ clean trees k.
      ((only_reads.usable (still_clean _ _ _ serves.survives clean, k.0)).1, subst (λ (s : State). AreAfter s session asked trees) only_reads.same k.1))
      only_reads.survives serves.survives in
      served old new answer asks early
      (λ clean. subst (λ (s : State). StepOrRefusal s session asked answer new.state) only_reads.same (serves.event clean))
      (λ is. serves.refused is ∙ only_reads.same) (λ usable. only_reads.usable (serves.usable usable)) crashes serves.durable

  -- a statement that leaves the store untouched and reports no write
  pub served_apart : (old new : Database S) (answer : Reply) → tells_write answer ≡ false → new.store ≡ old.store → StepOrRefusal old.state session asked answer new.state
      → Serves g session asked old answer new
  served_apart old new answer quiet same event =
      let unwritten : Survives (state g old.store) (state g old.store) (λ trees. IsTrue (state g old.store).is_open × AreAfter old.state session asked trees) =
      survives_itself (state g old.store) _ in
      record {
        event = λ _. event;
        early = λ r first.
            let stands = early_refusals_stand old.state session asked answer new.state r event first in
            (stands.0, ap₂ (λ (h : Held S) (s : State). record { store = h; state = s }) same stands.1);
        apart = λ none. (same, not_by_store old.state session asked answer new.state event none);
        unread = λ _. event;
        refused = refused_stays old.state session asked answer new.state event;
        usable = subst (λ (h : Held S). IsUsable (state g h) → IsUsable (state g old.store)) (sym same) (λ usable. usable);
        survives = subst (λ (h : Held S). Survives (state g old.store) (state g h) (λ trees. IsTrue (state g old.store).is_open × AreAfter old.state session asked trees)) (sym same) unwritten;
        durable = λ e. absurd (false≢true (sym quiet ∙ e));
      }

  -- a statement that uses kept rows leaves the store untouched, and the store does not refuse it
  pub served_beside : (old new : Database S) (answer : Reply) → tells_write answer ≡ false → new.store ≡ old.store → PassesEarly old.state session asked
      → reads_rows old.state session asked ≡ true → ¬ (failure_of answer ≡ Some failure.Store)
      → (HasCleanDisk (state g old.store) → StepOrRefusal old.state session asked answer new.state) → (IsTrue (is_refused answer) → new.state ≡ old.state)
      → Serves g session asked old answer new
  served_beside old new answer quiet same early reads not_refused event refused =
      let unwritten : Survives (state g old.store) (state g old.store) (λ trees. IsTrue (state g old.store).is_open × AreAfter old.state session asked trees) =
      survives_itself (state g old.store) _ in
      record {
        event = subst (λ (h : Held S). HasCleanDisk (state g h) → StepOrRefusal old.state session asked answer new.state) (sym same) event;
        early = λ r first. let both : None ≡ Some r = sym early ∙ first in absurd (cc);
        apart = λ _. (same, not_refused);
        unread = λ none. absurd (false≢true (sym none ∙ reads));
        refused = refused;
        usable = subst (λ (h : Held S). IsUsable (state g h) → IsUsable (state g old.store)) (sym same) (λ usable. usable);
        survives = subst (λ (h : Held S). Survives (state g old.store) (state g h) (λ trees. IsTrue (state g old.store).is_open × AreAfter old.state session asked trees)) (sym same) unwritten;
        durable = λ e. absurd (false≢true (sym quiet ∙ e));
      }

  -- a reply from what was read, without a write
  pub look_answered : (old new : Database S) (answer : Reply) → OnlyReads g old new → asks_store old.state session asked ≡ true → PassesEarly old.state session asked
      → tells_write answer ≡ false → (HasCleanDisk (state g new.store) → StepOrRefusal old.state session asked answer old.state) → Serves g session asked old answer new
  look_answered old new answer only_reads asks early quiet event =
      served old new answer asks early
      (λ clean. subst (λ (s : State). StepOrRefusal old.state session asked answer s) (sym only_reads.same) (event clean))
      (λ _. only_reads.same)
      only_reads.usable
      (survives_weaker (state g old.store) (state g new.store) (λ _. ⊥) _ (λ _ trees none. absurd none) only_reads.survives)
      (λ e. absurd (false≢true (sym quiet ∙ e)))

  -- a failed read, or a refusal after it
  pub look_refused : (old new : Database S) (r : Refusal) → OnlyReads g old new → asks_store old.state session asked ≡ true → PassesEarly old.state session asked
      → (HasCleanDisk (state g new.store) → IsRefusal old.state session asked r) → Serves g session asked old (reply.Refused r) new
  look_refused old new r only_reads asks early is =
      look_answered old new (reply.Refused r) only_reads asks early refl (λ clean. refused_serves old.state session asked r (is clean))

  -- a crash leaves what the step makes, if the write leaves it
  crashed : (t new : Tables S) (o : Open) (answer : Reply) (next : State) (is_done : Bool) → Writes g t new is_done next.catalog next.rows
      → (HasCleanDisk (state g t.store) → step (database_of t o).state session asked ≡ (answer, next))
      → Survives (state g t.store) (state g new.store) (λ trees. IsTrue (state g t.store).is_open × AreAfter (database_of t o).state session asked trees)
  crashed t new o answer next is_done writes steps =
      survives_weaker (state g t.store) (state g new.store) _ _
      (λ clean trees k.
      let after = steps (still_clean _ _ _ writes.survives clean) in
      (k.0, subst (λ (p : Reply × State). AreHeldOf p.1 trees) (sym after) k.1))
      writes.survives

  -- the write succeeded, and the reply is the step's
  pub wrote : (t new : Tables S) (o after : Open) (given answer : Reply) (next : State)
      → asks_store (database_of t o).state session asked ≡ true → PassesEarly (database_of t o).state session asked → is_refused given ≡ false
      → (HasCleanDisk (state g new.store) → answer ≡ given)
      → Writes g t new true next.catalog next.rows
      → (HasCleanDisk (state g t.store) → step (database_of t o).state session asked ≡ (answer, next))
      → next ≡ record (database_of new after).state { catalog = next.catalog; rows = next.rows }
      → Serves g session asked (database_of t o) given (database_of new after)
  wrote t new o after given answer next asks early accepted told writes steps is =
      let same : HasCleanDisk (state g new.store) → (database_of new after).state ≡ next =
      λ clean. ap (λ (c : _ × _). record (database_of new after).state { catalog = c.0; rows = c.1 }) (ap₂ (λ a b. (a, b)) (writes.done_catalog refl) (writes.done_rows refl clean)) ∙ sym is in
      served (database_of t o) (database_of new after) given asks early
      (λ clean. stepped (database_of t o).state session asked given (database_of new after).state (succeeds given accepted)
      (ap₂ (λ (a : Reply) (s : State). (a, s)) (sym (told clean)) (same clean) ∙ sym (steps (still_clean _ _ _ writes.survives clean))))
      (λ is_refusal. absurd (false≢true (sym accepted ∙ is_refusal))) writes.usable (crashed t new o answer next true writes steps)
      (λ _ clean trees may.
      subst (λ c. AreHeld c new.rows trees) (sym (writes.done_catalog refl))
      (subst (λ rs. AreHeld next.catalog rs trees) (sym (writes.done_rows refl clean)) (writes.durable refl clean trees may)))

  -- the write failed, and the statement is refused for what it reported, or for what was read then
  pub write_refused : (t mid : Tables S) (o : Open) (new : Database S) (r : Refusal) (answer : Reply) (next : State)
      → asks_store (database_of t o).state session asked ≡ true → PassesEarly (database_of t o).state session asked
      → Writes g t mid false next.catalog next.rows → OnlyReads g (database_of mid o) new
      → (HasCleanDisk (state g t.store) → step (database_of t o).state session asked ≡ (answer, next))
      → (HasCleanDisk (state g new.store) → IsRefusal (database_of t o).state session asked r)
      → Serves g session asked (database_of t o) (reply.Refused r) new
  write_refused t mid o new r answer next asks early writes reads steps is =
      let s : State = (database_of t o).state in
      let same : new.state ≡ s = reads.same ∙ unwritten_same g t mid o next.catalog next.rows writes in
      served (database_of t o) new (reply.Refused r) asks early
      (λ clean. subst (λ (after : State). StepOrRefusal s session asked (reply.Refused r) after) (sym same) (refused_serves s session asked r (is clean)))
      (λ _. same) (λ usable. writes.usable (reads.usable usable))
      (survives_then (state g t.store) (state g mid.store) (state g new.store) _ (λ _. ⊥) _ (λ _ trees left. left) (λ _ trees none. absurd none) (crashed t mid o answer next false writes steps) reads.survives)
      (λ e. absurd (no_write r e))

  -- a failed write
  pub write_failed : (t new : Tables S) (o : Open) (f : Failure) (answer : Reply) (next : State)
      → asks_store (database_of t o).state session asked ≡ true → PassesEarly (database_of t o).state session asked → fails_for (database_of t o).state session asked f ≡ true
      → Writes g t new false next.catalog next.rows
      → (HasCleanDisk (state g t.store) → step (database_of t o).state session asked ≡ (answer, next))
      → Serves g session asked (database_of t o) (reply.Refused (refusal_for f)) (database_of new o)
  write_failed t new o f answer next asks early takes writes steps =
      write_refused t new o (database_of new o) (refusal_for f) answer next asks early writes (reads_itself g (database_of new o)) steps (λ _. fails (database_of t o).state session asked f early takes)

  -- what a database keeps after a successful write
  pub wrote_keeps : (t new : Tables S) (o after : Open) (next : State) → IsKept g (database_of t o)
      → Writes g t new true next.catalog next.rows
      → next ≡ record (database_of new after).state { catalog = next.catalog; rows = next.rows }
      → IsOrderly next.catalog next.reservations next.savepoints next.next_id
      → (IsValid (database_of t o).state → HasCleanDisk (state g t.store) → IsValid next) → IsKept g (database_of new after)
  wrote_keeps t new o after next kept writes is orderly valid =
      let catalog = writes.done_catalog refl in
      let parts = ap (λ (s : State). IsOrderly new.catalog s.reservations s.savepoints s.next_id) is in
      record {
        orderly = subst (λ (T : Type 0). T) parts (subst (λ c. IsOrderly c next.reservations next.savepoints next.next_id) (sym catalog) orderly);
        safe_rows = λ clean.
            let was = still_clean _ _ _ writes.survives clean in
            let safe = (valid (record { orderly = kept.orderly; safe_rows = kept.safe_rows was }) was).safe_rows in
            let rows = writes.done_rows refl clean in
            let at_new = subst (λ c. AreSafeRows c new.rows next.reservations) (sym catalog) (subst (λ rs. AreSafeRows next.catalog rs next.reservations) (sym rows) safe) in
            subst (λ (T : Type 0). T) (ap (λ (s : State). AreSafeRows new.catalog new.rows s.reservations) is) at_new;
      }

  -- `?` returned a refusal
  pub handed_on : (old new : Database S) (result : Result Reply Refusal) (r : Refusal) → IsErrAnd result (λ e. e ≡ r) → Serves g session asked old (reply.Refused r) new
      → Serves g session asked old (answer_of result) new
  handed_on old new result r is serves = subst (λ (answer : Reply). Serves g session asked old answer new) (sym (left_by result r is)) serves

  -- the statement was refused before the store was asked
  pub refusal_serves : (d : Database S) (result : Result Reply Refusal) (r : Refusal) → IsErrAnd result (λ e. e ≡ r) → IsRefusal d.state session asked r → Serves g session asked d (answer_of result) d
  refusal_serves d result r is_error is = handed_on d d result r is_error (refused d r is)

  pub early_serves : (d : Database S) (result : Result Reply Refusal) (r : Refusal) → IsErrAnd result (λ e. e ≡ r) → Some r ≡ first_refusal (transition_of d.state session asked).early
      → Serves g session asked d (answer_of result) d
  early_serves d result r is_error first = handed_on d d result r is_error (early_refused d r (sym first))

  -- a failed read
  pub look_failed : (old new : Database S) (f : Failure) → OnlyReads g old new → asks_store old.state session asked ≡ true → PassesEarly old.state session asked
      → fails_for old.state session asked f ≡ true → Serves g session asked old (reply.Refused (refusal_for f)) new
  look_failed old new f only_reads asks early takes = look_refused old new (refusal_for f) only_reads asks early (λ _. fails old.state session asked f early takes)

-- the store was read for a statement that asks it and has no early refusal
pub record HasLooked {S : Type 0} (g : Ghosts S) (session : ℕ) (asked : Statement) (old mid : Database S) : Type 0 where
  pub only_reads : OnlyReads g old mid
  pub asks : asks_store old.state session asked ≡ true
  pub early : PassesEarly old.state session asked

module _ {S : Type 0} (g : Ghosts S) (session : ℕ) (asked : Statement) (old mid : Database S) (looked : HasLooked g session asked old mid) where
  -- what is served from then on
  pub since_look : (new : Database S) (answer : Reply) → Serves g session asked mid answer new → Serves g session asked old answer new
  since_look new answer serves = after_look g session asked old mid new answer looked.only_reads looked.asks looked.early serves

  pub early_since : PassesEarly mid.state session asked
  early_since = still_passes old.state mid.state session asked looked.only_reads.same looked.early

-- any row stays
abbrev pub Any : RowName → Type 0
Any row = Unit {0}

-- a statement may write: its step has this reply and this state, with the same things open. The rows that stay,
-- the reserved ones among them, have their tables and amounts. A report of the write may refuse the statement.
pub record MayWrite {S : Type 0} (g : Ghosts S) (session : ℕ) (asked : Statement) (d : Database S) (answer : Reply) (next : State) (Stays : RowName → Type 0) : Type 0 where
  pub asks : asks_store d.state session asked ≡ true
  pub early : PassesEarly d.state session asked
  pub takes : (f : Failure) → fails_for d.state session asked f ≡ true
  pub steps : HasCleanDisk (state g d.store) → step d.state session asked ≡ (answer, next)
  pub same_open : next ≡ record d.state { catalog = next.catalog; rows = next.rows }
  pub orderly : HasOrder d.state → HasOrder next
  pub valid : HasCleanDisk (state g d.store) → IsValid d.state → IsValid next
  pub reserved_stay : (row : RowName) → is_reserved d.state row ≡ true → Stays row
  pub tables_stay : (row : RowName) (table : TableDef) → Stays row → table_named d.state.catalog row.table ≡ Some table → table_named next.catalog row.table ≡ Some table
  pub amounts_stay : HasCleanDisk (state g d.store) → (row : RowName) (amounts : List ℤ) → Stays row → amounts_named d.state.rows row ≡ Some amounts → amounts_named next.rows row ≡ Some amounts

module _ {S : Type 0} {Stays : RowName → Type 0} (g : Ghosts S) (session : ℕ) (asked : Statement) (t new : Tables S) (o : Open) (answer : Reply) (next : State)
    (may : MayWrite g session asked (database_of t o) answer next Stays) where
  -- the write succeeded, so the reply is the given one
  pub write_serves : (given : Reply) → is_refused given ≡ false → (HasCleanDisk (state g new.store) → answer ≡ given) → Writes g t new true next.catalog next.rows → Serves g session asked (database_of t o) given (database_of new o)
  write_serves given accepted told writes = wrote g session asked t new o o given answer next may.asks may.early accepted told writes may.steps may.same_open

  -- the write failed, and the statement is refused for what it reported, or for what was read then
  pub refusal_told : (after : Database S) (r : Refusal) → Writes g t new false next.catalog next.rows → OnlyReads g (database_of new o) after → (HasCleanDisk (state g after.store) → IsRefusal (database_of t o).state session asked r)
      → Serves g session asked (database_of t o) (reply.Refused r) after
  refusal_told after r writes reads is = write_refused g session asked t new o after r answer next may.asks may.early writes reads may.steps is

  write_keeps : (places : Bounds) → Keeps g (database_of t o) places → Writes g t new true next.catalog next.rows → Keeps g (database_of new o) places
  write_keeps places keeps writes =
      let s : State = (database_of t o).state in
      record {
        kept = wrote_keeps g session asked t new o o next keeps.kept writes may.same_open (may.orderly keeps.kept.orderly) (λ valid u. may.valid u valid);
        placed = keeps.placed;
        of_tables = subst (λ c. AreOfTables c places) (sym (writes.done_catalog refl))
            (tables_stay s next places keeps.placed (λ row table reserved. may.tables_stay row table (may.reserved_stay row reserved)) keeps.of_tables);
        amounts = λ clean.
            let was = still_clean _ _ _ writes.survives clean in
            subst (λ rs. HaveAmounts rs places) (sym (writes.done_rows refl clean))
            (amounts_stay s next places keeps.placed (λ row amounts reserved. may.amounts_stay was row amounts (may.reserved_stay row reserved)) (keeps.amounts was));
      }

  -- what the database holds, if the kept rows are some of those that stay
  known_stays : (recent : ReadRows) (name : RowName) → Stays name → IsKnown t.catalog (row_read recent name) → IsKnown next.catalog (row_read recent name)
  known_stays recent name stays = at (read_at recent name)
    where
      at : (o : Option (List ℤ)) → IsKnown t.catalog (option_map (row_with name) o) → IsKnown next.catalog (option_map (row_with name) o)
      at None known = tt
      at (Some amounts) known = of_table (table_named t.catalog name.table) refl known
        where
          of_table : (found : Option TableDef) → table_named t.catalog name.table ≡ found → IsSomeAnd found (λ table. length amounts ≡ length (reservables table.columns))
              → IsKnown next.catalog (Some (row_with name amounts))
          of_table None named known = absurd known
          of_table (Some table) named many = subst (λ (found : Option TableDef). IsSomeAnd found (λ table. length amounts ≡ length (reservables table.columns))) (sym (may.tables_stay name table stays named)) many

  read_stays : (recent : ReadRows) (name : RowName) → Stays name → HasCleanDisk (state g t.store) → IsRead t.rows (row_read recent name) → IsRead next.rows (row_read recent name)
  read_stays recent name stays was = at (read_at recent name)
    where
      at : (o : Option (List ℤ)) → IsRead t.rows (option_map (row_with name) o) → IsRead next.rows (option_map (row_with name) o)
      at None read = tt
      at (Some amounts) read = may.amounts_stay was name amounts stays read

  pub write_holds : (places : Bounds) (old recent : ReadRows) → Holds g (database_of t o) places old → Writes g t new true next.catalog next.rows
      → ((name : RowName) → (read_at recent name ≡ None) ⊎ ((read_at recent name ≡ read_at old name) × Stays name)) → Holds g (database_of new o) places recent
  write_holds places old recent holds writes left = record {
    keeps = write_keeps places holds.keeps writes;
    known = λ name. rw (writes.done_catalog refl) (still_known name (left name));
    read = λ clean name. rw (writes.done_rows refl clean) (still_read (still_clean _ _ _ writes.survives clean) name (left name));
  }
    where
      still_known : (name : RowName) → (read_at recent name ≡ None) ⊎ ((read_at recent name ≡ read_at old name) × Stays name) → IsKnown next.catalog (row_read recent name)
      still_known name (inl gone) = subst (λ (o : Option (List ℤ)). IsKnown next.catalog (option_map (row_with name) o)) (sym gone) tt
      still_known name (inr same) = subst (λ (o : Option (List ℤ)). IsKnown next.catalog (option_map (row_with name) o)) (sym same.0) (known_stays old name same.1 (holds.known name))

      still_read : HasCleanDisk (state g t.store) → (name : RowName) → (read_at recent name ≡ None) ⊎ ((read_at recent name ≡ read_at old name) × Stays name) → IsRead next.rows (row_read recent name)
      still_read was name (inl gone) = subst (λ (o : Option (List ℤ)). IsRead next.rows (option_map (row_with name) o)) (sym gone) tt
      still_read was name (inr same) = subst (λ (o : Option (List ℤ)). IsRead next.rows (option_map (row_with name) o)) (sym same.0) (read_stays old name same.1 was (holds.read was name))

  -- the write failed, and `?` returned the failure
  pub failure_serves : (result : Result Reply Refusal) (f : Failure) → IsErrAnd result (λ e. e ≡ refusal_for f) → Writes g t new false next.catalog next.rows
      → Serves g session asked (database_of t o) (answer_of result) (database_of new o)
  failure_serves result f is writes =
      handed_on g session asked (database_of t o) (database_of new o) result (refusal_for f) is
      (write_failed g session asked t new o f answer next may.asks may.early (may.takes f) writes may.steps)
