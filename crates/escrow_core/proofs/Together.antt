-- COMMITs of several sessions, written together.
use Rattle.std.specs.Prelude.{◌≡◌, ℕ, ◌+◌, ℤ, ◌<◌, Bool, IsTrue, IfErr, IfOk, OnErr, OnOk, Result, Ok, Err, nat_lt, not, true, false, ◌==◌, ◌||◌, Option, Some, None, option_map, List, [], ◌∷◌, ◌++◌, length, map, flat_map}
use Rattle.std.specs.List.{list_any}
use Rattle.std.proofs.Common.{refl, sym, ap, ap₂, subst, subst₂, arith, ◌∙◌}
use Rattle.std.proofs.lemmas.Bool.{eqb-true, false≢true, ltb-true}
use Rattle.std.proofs.lemmas.List.{map-append}
use Rattle.sqlite.specs.Held.{state}
use Rattle.sqlite.specs.State.{HasCleanDisk, Survives}
use Rattle.sqlite.proofs.StateLemmas.{survives_weaker}
use Rattle.sqlite_trees.specs.declared.store.Store.{Ghosts}
use Rattle.sqlite_trees.specs.Tree.{Trees}
use Rattle.escrow_num.specs.Refusal.{refusal_for}
use Rattle.escrow_num.specs.declared.failure.Failure.{Failure}
use Rattle.escrow_num.specs.declared.reservation.Reservation.{Reservation}
use Rattle.escrow_num.specs.declared.row.Row.{Row}
use Rattle.escrow_num.specs.declared.session.End.{End}
use Rattle.escrow_num.specs.declared.session.End.TheVariants as end
use Rattle.escrow_statement.specs.declared.statement.Statement.TheVariants as statement
use Rattle.escrow_checks.specs.Form.{changed, all_changed}
use Rattle.escrow_schema.specs.Rows.{applied, changes_to}
use Rattle.escrow_schema.specs.declared.table.TableDef.{TableDef}
use Rattle.escrow_bounds.specs.Held.{of_row}
use Rattle.escrow_bounds.specs.Moved.{amounts_after_all}
use Rattle.escrow_bounds.specs.Bounds.{Bounds}
use Rattle.escrow_bounds.proofs.Ending.{after_all-append}
use Rattle.escrow_bounds.proofs.LawLemmas.{of_append}
use Rattle.escrow_journal.specs.Open.{Open, open_after_end}
use Rattle.escrow_journal.specs.Reservations.{own, others}
use Rattle.escrow_machine.specs.Settle.{after_end, after_ends}
use Rattle.escrow_machine.specs.declared.reply.Reply.TheVariants as reply
use Rattle.escrow_machine.specs.State.{State, open_in, with_open}
use Rattle.escrow_machine.specs.Step.{StepOrRefusal}
use Rattle.escrow_machine.specs.Transition.{transition_of, after_commit}
use Rattle.escrow_machine.specs.Valid.{IsOrderly, IsValid}
use Rattle.escrow_machine.proofs.Applying.{applied_none}
use Rattle.escrow_machine.proofs.Filters.{filter_within}
use Rattle.escrow_machine.proofs.ValidEnds.{commit_orderly, commit_valid}
use Rattle.escrow_reserved.specs.Ends.{AreAllEnded, all_ended}
use Rattle.escrow_reserved.specs.Placed.{AreOfTables, HaveAmounts}
use Rattle.escrow_num.specs.declared.value.RowName.{RowName}
use Rattle.escrow_reserved.specs.Read.{committed_by, committed_to, IsKnown, IsRead, ReadRow, ReadRows, read_at, row_read, row_with}
use Rattle.escrow_reserved.proofs.Reading.{row_committed}
use Rattle.escrow_reserved.specs.Reserved.{ArePlaced}
use Rattle.escrow_reserved.proofs.Ends.{own_and_others}
use Rattle.escrow_reserved.proofs.Places.{commits_amounts, ended_tables}
use Rattle.escrow_rows.specs.Answers.{IsUsable}
use Rattle.escrow_tables.specs.Calls.{Writes}
use Rattle.escrow_tables.specs.Tables.{Tables, AreHeld}
use Rattle.escrow_core.specs.Ends.{AreCommits, left_after}
use Rattle.escrow_core.specs.Inside.{database_of, Holds, Keeps}
use Rattle.escrow_core.specs.Database.{Database}
use Rattle.escrow_core.specs.Serves.{AreHeldOf, Serves}
use Rattle.escrow_core.proofs.Committing.{known_after, passes, read_after}
use Rattle.escrow_core.proofs.Served.{commit_serves, refused_serves}
use Rattle.escrow_core.proofs.Serving.{fails, no_write, served, still_clean, wrote_keeps}

-- LISTS OF RESERVATIONS

-- if the disjunction of two tests fails, each of them fails
pub neither : (a b : Bool) → (a || b) ≡ false → (a ≡ false) × (b ≡ false)
neither true b is = absurd (cc)
neither false b is = (refl, is)

-- the end of one session's transaction leaves the reservations of another
own_stays : (a b : ℕ) (reservations : List Reservation) → (b == a) ≡ false → own b (others a reservations) ≡ own b reservations
own_stays a b reservations differ =
    filter_within (λ (r : Reservation). r.session == b) (λ (r : Reservation). not (r.session == a)) reservations
    (λ r t. ap not (ap (λ (n : ℕ). n == a) (eqb-true r.session b t) ∙ differ))

-- the reservations of the sessions of a plan, as they are before any transaction ends
abbrev pub all_of : List (ℕ × End) → List Reservation → List Reservation
all_of plan reservations = flat_map (λ (entry : ℕ × End). own entry.0 reservations) plan

-- they are the same after the end of another session's transaction
all_stay : (a : ℕ) (plan : List (ℕ × End)) (reservations : List Reservation) → list_any (λ (entry : ℕ × End). entry.0 == a) plan ≡ false
    → all_of plan (others a reservations) ≡ all_of plan reservations
all_stay a [] reservations none = refl
all_stay a (entry ∷ plan) reservations none =
    let both = neither (entry.0 == a) (list_any (λ (e : ℕ × End). e.0 == a) plan) none in
    ap₂ (λ (xs ys : List Reservation). xs ++ ys) (own_stays a entry.0 reservations both.0) (all_stay a plan reservations both.1)

-- changes added in two parts
all_changed_append : (amounts : List ℤ) (first second : List (List ℤ)) → all_changed amounts (first ++ second) ≡ all_changed (all_changed amounts first) second
all_changed_append amounts [] second = refl
all_changed_append amounts (changes ∷ first) second = all_changed_append (changed amounts changes) first second

applied_append : (rows : List Row) (first second : List Reservation) → applied rows (first ++ second) ≡ applied (applied rows first) second
applied_append [] first second = refl
applied_append (row ∷ rows) first second =
    ap₂ (λ (amounts : List ℤ) (rest : List Row). (record row { amounts = amounts }) ∷ rest)
    (ap (all_changed row.amounts) (map-append (changes_to row) first second) ∙ all_changed_append row.amounts (map (changes_to row) first) (map (changes_to row) second))
    (applied_append rows first second)

-- the same for a row that was read
read_append : (first second : List Reservation) (recent : Option ReadRow)
    → option_map (committed_by (first ++ second)) recent ≡ option_map (committed_by second) (option_map (committed_by first) recent)
read_append first second None = refl
read_append first second (Some r) =
    ap (λ (amounts : List ℤ). Some (row_with r.0 amounts))
    (ap (amounts_after_all end.Commit r.1) (of_append r.0 first second) ∙ after_all-append end.Commit r.1 (of_row r.0 first) (of_row r.0 second))

-- the remaining reservations
pub all_left : (plan : List (ℕ × End)) (o : Open) → (all_ended plan o).reservations ≡ left_after plan o.reservations
all_left [] o = refl
all_left (entry ∷ plan) o = all_left plan (open_after_end entry.0 o)

-- THE STATE AFTER SEVERAL COMMITS

-- all changes applied at once, and all transactions ended
abbrev pub together : List (ℕ × End) → State → State
together plan s = record (with_open s (all_ended plan (open_in s))) { rows = applied s.rows (all_of plan s.reservations) }

committed_is : (s : State) (a : ℕ) → after_end s a end.Commit ≡ after_commit s a
unfolding transition_of
committed_is s a = refl

-- the state after a plan that begins with a COMMIT is that after the rest, from the state after it
first_then : (P : State → Type 0) (s : State) (a : ℕ) (e : End) (plan : List (ℕ × End)) → e ≡ end.Commit → P (after_ends (after_commit s a) plan) → P (after_ends s ((a, e) ∷ plan))
first_then P s a e plan is holds = subst (λ (x : End). P (after_ends (after_end s a x) plan)) (sym is) (subst (λ (t : State). P (after_ends t plan)) (sym (committed_is s a)) holds)

-- first the changes of one session, then those of the others
first_applied : (a : ℕ) (plan : List (ℕ × End)) (rows : List Row) (reservations : List Reservation) → list_any (λ (entry : ℕ × End). entry.0 == a) plan ≡ false
    → applied (applied rows (own a reservations)) (all_of plan (others a reservations)) ≡ applied rows (own a reservations ++ all_of plan reservations)
first_applied a plan rows reservations none =
    ap (applied (applied rows (own a reservations))) (all_stay a plan reservations none) ∙ sym (applied_append rows (own a reservations) (all_of plan reservations))

pub together_is : (plan : List (ℕ × End)) (s : State) → AreCommits plan → after_ends s plan ≡ together plan s
together_is [] s commits = ap (λ (rows : List Row). record s { rows = rows }) (sym (applied_none s.rows))
together_is (entry ∷ plan) s commits =
    first_then (λ (t : State). t ≡ together (entry ∷ plan) s) s entry.0 entry.1 plan commits.0
    (together_is plan (after_commit s entry.0) commits.2
    ∙ ap (λ (rows : List Row). record (with_open s (all_ended plan (open_after_end entry.0 (open_in s)))) { rows = rows }) (first_applied entry.0 plan s.rows s.reservations commits.1))

-- the state is valid
pub together_valid : (plan : List (ℕ × End)) (s : State) → AreCommits plan → IsValid s → IsValid (after_ends s plan)
together_valid [] s commits valid = valid
together_valid (entry ∷ plan) s commits valid =
    first_then IsValid s entry.0 entry.1 plan commits.0 (together_valid plan (after_commit s entry.0) commits.2 (commit_valid s entry.0 valid))

abbrev HasOrder : State → Type 0
HasOrder s = IsOrderly s.catalog s.reservations s.savepoints s.next_id

together_orderly : (plan : List (ℕ × End)) (s : State) → AreCommits plan → HasOrder s → HasOrder (after_ends s plan)
together_orderly [] s commits orderly = orderly
together_orderly (entry ∷ plan) s commits orderly =
    first_then HasOrder s entry.0 entry.1 plan commits.0 (together_orderly plan (after_commit s entry.0) commits.2 (commit_orderly s entry.0 orderly))

-- the places have its amounts
together_amounts : (plan : List (ℕ × End)) (s : State) (old new : Bounds) → AreCommits plan → IsValid s → AreAllEnded plan (open_in s) old new
    → HaveAmounts s.rows old → HaveAmounts (after_ends s plan).rows new
together_amounts [] s old new commits valid same have = subst (HaveAmounts s.rows) (sym same) have
together_amounts ((a, e) ∷ plan) s old new commits valid are have =
    let mid : Bounds = are.0 in
    let one : HaveAmounts (applied s.rows (own a s.reservations)) mid = commits_amounts s a old mid valid (rw commits.0 at are.1) have in
    first_then (λ (t : State). HaveAmounts t.rows new) s a e plan commits.0
    (together_amounts plan (after_commit s a) mid new commits.2 (commit_valid s a valid) are.2 one)

together_tables : (plan : List (ℕ × End)) (o : Open) (catalog : List TableDef) (old new : Bounds) → AreAllEnded plan o old new → AreOfTables catalog old → AreOfTables catalog new
together_tables [] o catalog old new same of_tables = subst (AreOfTables catalog) (sym same) of_tables
together_tables (entry ∷ plan) o catalog old new are of_tables =
    together_tables plan (open_after_end entry.0 o) catalog are.0 new are.2 (ended_tables entry.1 (own entry.0 o.reservations) catalog old are.0 are.1 of_tables)

-- a row that was read has its amounts
together_read : (plan : List (ℕ × End)) (s : State) (recent : Option ReadRow) → AreCommits plan → IsValid s → IsRead s.rows recent
    → IsRead (after_ends s plan).rows (option_map (committed_by (all_of plan s.reservations)) recent)
together_read [] s None commits valid read = read
together_read [] s (Some r) commits valid read = read
together_read (entry ∷ plan) s recent commits valid read =
    let mine = own entry.0 s.reservations in
    let one : IsRead (applied s.rows mine) (option_map (committed_by mine) recent) = read_after s entry.0 recent valid read in
    let rest = together_read plan (after_commit s entry.0) (option_map (committed_by mine) recent) commits.2 (commit_valid s entry.0 valid) one in
    let all = all_of plan s.reservations in
    first_then (λ (t : State). IsRead t.rows (option_map (committed_by (mine ++ all)) recent)) s entry.0 entry.1 plan commits.0
    (subst (IsRead (after_ends (after_commit s entry.0) plan).rows) (sym (read_append mine all recent))
    (subst (λ (rs : List Reservation). IsRead (after_ends (after_commit s entry.0) plan).rows (option_map (committed_by rs) (option_map (committed_by mine) recent))) (all_stay entry.0 plan s.reservations commits.1) rest))

-- ONE WRITE

module _ {S : Type 0} (g : Ghosts S) (plan : List (ℕ × End)) (commits : AreCommits plan) (t new : Tables S) (o : Open) where
  abbrev s : State
  s = (database_of t o).state

  abbrev all : List Reservation
  all = all_of plan o.reservations

  -- whether it succeeds or not, a crash leaves what it could leave before, or all changes
  pub together_survives : (is_done : _) → Writes g t new is_done t.catalog (applied t.rows all)
      → Survives (state g t.store) (state g new.store) (λ trees. IsTrue (state g t.store).is_open × AreHeldOf (after_ends s plan) trees)
  together_survives is_done writes =
      survives_weaker (state g t.store) (state g new.store) _ _
      (λ clean trees k. (k.0, subst (λ (next : State). AreHeldOf next trees) (sym (together_is plan s commits)) k.1)) writes.survives

  module _ (writes : Writes g t new true t.catalog (applied t.rows all)) where
    -- the changes are written, and the transactions have ended
    pub together_done : HasCleanDisk (state g new.store) → (database_of new (all_ended plan o)).state ≡ after_ends s plan
    together_done clean =
        ap₂ (λ (catalog : List TableDef) (rows : List Row). record (with_open s (all_ended plan o)) { catalog = catalog; rows = rows }) (writes.done_catalog refl) (writes.done_rows refl clean)
        ∙ sym (together_is plan s commits)

    pub together_durable : HasCleanDisk (state g new.store) → (trees : Trees) → (state g new.store).may_leave trees → AreHeldOf (database_of new (all_ended plan o)).state trees
    together_durable clean trees may =
        subst (λ c. AreHeld c new.rows trees) (sym (writes.done_catalog refl))
        (subst (λ rs. AreHeld t.catalog rs trees) (sym (writes.done_rows refl clean)) (writes.durable refl clean trees may))

    together_keeps : (old places : Bounds) → Keeps g (database_of t o) old → AreAllEnded plan o old places → ArePlaced (all_ended plan o).reservations places → Keeps g (database_of new (all_ended plan o)) places
    together_keeps old places keeps are placed =
        let next : after_ends s plan ≡ together plan s = together_is plan s commits in
        record {
          kept =
              wrote_keeps g 0 statement.Commit t new o (all_ended plan o) (together plan s) keeps.kept writes refl
              (subst HasOrder next (together_orderly plan s commits keeps.kept.orderly))
              (λ valid _. subst IsValid next (together_valid plan s commits valid));
          placed = placed;
          of_tables = subst (λ c. AreOfTables c places) (sym (writes.done_catalog refl)) (together_tables plan o t.catalog old places are keeps.of_tables);
          amounts = λ clean.
              let was = still_clean _ _ _ writes.survives clean in
              let valid : IsValid s = record { orderly = keeps.kept.orderly; safe_rows = keeps.kept.safe_rows was } in
              subst (λ rs. HaveAmounts rs places) (ap (λ (q : State). q.rows) next ∙ sym (writes.done_rows refl clean))
              (together_amounts plan s old places commits valid are (keeps.amounts was));
        }

    -- kept rows have the committed amounts
    pub together_holds : (old places : Bounds) (recent after : ReadRows) → Holds g (database_of t o) old recent → AreAllEnded plan o old places → ArePlaced (all_ended plan o).reservations places
        → ((name : RowName) → read_at after name ≡ option_map (committed_to name all) (read_at recent name)) → Holds g (database_of new (all_ended plan o)) places after
    together_holds old places recent after holds are placed committed =
        let row_after : (name : RowName) → option_map (committed_by all) (row_read recent name) ≡ row_read after name =
        λ name. sym (ap (option_map (row_with name)) (committed name) ∙ row_committed name all (read_at recent name)) in
        record {
          keeps = together_keeps old places holds.keeps are placed;
          known = λ name.
              subst (λ c. IsKnown c (row_read after name)) (sym (writes.done_catalog refl))
              (subst (IsKnown t.catalog) (row_after name) (known_after t.catalog all (row_read recent name) (holds.known name)));
          read = λ clean name.
              let was = still_clean _ _ _ writes.survives clean in
              let valid : IsValid s = record { orderly = holds.keeps.kept.orderly; safe_rows = holds.keeps.kept.safe_rows was } in
              subst (λ rs. IsRead rs (row_read after name)) (ap (λ (q : State). q.rows) (together_is plan s commits) ∙ sym (writes.done_rows refl clean))
              (subst (IsRead (after_ends s plan).rows) (row_after name) (together_read plan s (row_read recent name) commits valid (holds.read was name)));
        }

-- ONE SESSION

module _ {S : Type 0} (g : Ghosts S) (session : ℕ) (old new : Database S) (holds : nat_lt 0 (length (own session old.state.reservations)) ≡ true) where
  abbrev alone : List (ℕ × End)
  alone = (session, end.Commit) ∷ []

  -- the number of the session's reservations
  one_count : (count : ℕ) → count + length new.state.reservations ≡ length old.state.reservations → new.state.reservations ≡ left_after alone old.state.reservations
      → count ≡ length (own session old.state.reservations)
  one_count count is left = omega (arith, is, ap length left, own_and_others session old.state.reservations)

  pub one_counted : (r : Result ℕ Failure) → IfOk r (λ count. count + length new.state.reservations ≡ length old.state.reservations)
      → OnOk r (new.state.reservations ≡ left_after alone old.state.reservations) → IfOk r (λ count. count ≡ length (own session old.state.reservations))
  one_counted (Ok count) is left = one_count count is left
  one_counted (Err f) is left = tt

  pub one_holds : (r : Result ℕ Failure) → OnErr r (0 < length (own session old.state.reservations))
  one_holds (Ok count) = tt
  one_holds (Err f) = ltb-true 0 (length (own session old.state.reservations)) holds

  module _ (survives : Survives (state g old.store) (state g new.store) (λ trees. IsTrue (state g old.store).is_open × AreHeldOf (after_ends old.state alone) trees))
      (usable : IsUsable (state g new.store) → IsUsable (state g old.store)) where
    -- its COMMIT is served
    pub one_done : (r : Result ℕ Failure) → (HasCleanDisk (state g new.store) → OnOk r (new.state ≡ after_ends old.state alone))
        → (HasCleanDisk (state g new.store) → OnOk r ((trees : Trees) → (state g new.store).may_leave trees → AreHeldOf new.state trees))
        → IfOk r (λ count. count ≡ length (own session old.state.reservations)) → IfOk r (λ count. Serves g session statement.Commit old (reply.Committed count) new)
    one_done (Err f) done durable is = tt
    one_done (Ok count) done durable is =
        served g session statement.Commit old new (reply.Committed count) holds (passes old.state session)
        (λ clean.
        subst₂ (λ (n : ℕ) (t : State). StepOrRefusal old.state session statement.Commit (reply.Committed n) t) (sym is) (sym (committed_is old.state session) ∙ sym (done clean)) (commit_serves old.state session))
        (λ e. absurd (false≢true e)) usable survives (λ _. durable)

    -- its COMMIT fails
    pub one_failed : (r : Result ℕ Failure) → OnErr r (new.state ≡ old.state) → IfErr r (λ f. Serves g session statement.Commit old (reply.Refused (refusal_for f)) new)
    one_failed (Ok count) same = tt
    one_failed (Err f) same =
        served g session statement.Commit old new (reply.Refused (refusal_for f)) holds (passes old.state session)
        (λ _.
        subst (λ (t : State). StepOrRefusal old.state session statement.Commit (reply.Refused (refusal_for f)) t) (sym same)
        (refused_serves old.state session statement.Commit (refusal_for f) (fails old.state session statement.Commit f (passes old.state session) holds)))
        (λ _. same) usable survives (λ e. absurd (no_write (refusal_for f) e))
