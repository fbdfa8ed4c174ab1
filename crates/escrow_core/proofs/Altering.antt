-- ALTER TABLE: its refusals, the checks that rows of the table could break, and the database after it.
use Rattle.std.specs.Prelude.{◌≡◌, ◌+◌, ◌≤◌, ℕ, zero, suc, ℤ, true, false, is_none, option_map, option_and_then, unwrap_or, Option, Some, None, IsSomeAnd, Result, List, [], ◌∷◌, ◌++◌, length, map, take, drop, remove, bytes_eq}
use Rattle.std.specs.List.{AllByRecursion, list_any}
use Rattle.std.specs.Result.{IsErrAnd}
use Rattle.std.proofs.Common.{inl, inr, refl, sym, ap, ap₂, subst, ◌∙◌, arith, append_assoc, length-append}
use Rattle.std.proofs.Math.Seq.{drop-append_seam, take-append_seam}
use Rattle.std.proofs.lemmas.Bool.{cases_Bool, cond_both}
use Rattle.sqlite.specs.Held.{state}
use Rattle.sqlite.specs.State.{HasCleanDisk}
use Rattle.sqlite_trees.specs.declared.store.Store.{Ghosts}
use Rattle.escrow_num.specs.declared.failure.Failure.{Failure}
use Rattle.escrow_num.specs.declared.refusal.Violation.{Violation}
use Rattle.escrow_num.specs.declared.refusal.Refusal.{Refusal}
use Rattle.escrow_num.specs.declared.refusal.Refusal.TheVariants as refusal
use Rattle.escrow_num.specs.declared.reservation.Reservation.{Reservation}
use Rattle.escrow_num.specs.declared.row.Row.{Row}
use Rattle.escrow_num.specs.declared.value.RowName.{RowName}
use Rattle.escrow_num.specs.Ascending.{IsAscending}
use Rattle.escrow_num.specs.Order.{same_row}
use Rattle.escrow_num.specs.Refusal.{refuse_if, first_refusal, refusal_for}
use Rattle.escrow_num.specs.Span.{first_of_two}
use Rattle.escrow_num.proofs.Items.{Has, all_has, has_filter}
use Rattle.escrow_num.proofs.Orders.{name_same, same_row_itself}
use Rattle.escrow_statement.specs.declared.statement.CheckText.{CheckText}
use Rattle.escrow_statement.specs.declared.statement.TableChange.{TableChange}
use Rattle.escrow_statement.specs.declared.statement.TableChange.TheVariants as change
use Rattle.escrow_statement.specs.declared.statement.Statement.{Statement}
use Rattle.escrow_statement.specs.declared.statement.Statement.TheVariants as statement
use Rattle.escrow_checks.specs.declared.check.Check.{Check}
use Rattle.escrow_checks.specs.declared.coefficients.TheConstants.Coefficients.{MAX_LEN}
use Rattle.escrow_checks.specs.Form.{IsCovered}
use Rattle.escrow_checks.specs.Grant.{broken}
use Rattle.escrow_bounds.specs.Altered.{ArePrepared, Goes, IsOver, IsWithout, TableGoes}
use Rattle.escrow_bounds.specs.Held.{of_row}
use Rattle.escrow_bounds.specs.Place.{Place, checks_of}
use Rattle.escrow_bounds.specs.Bounds.{Bounds, place_at}
use Rattle.escrow_bounds.proofs.LawLemmas.{same_grant_rule}
use Rattle.escrow_schema.specs.declared.table.TableDef.{TableDef}
use Rattle.escrow_schema.specs.Altered.{declared_place, with_check, without_check, without_check_at, with_altered}
use Rattle.escrow_schema.specs.Catalog.{place_named, table_named}
use Rattle.escrow_schema.specs.Column.{reservables}
use Rattle.escrow_schema.specs.Definition.{IsTable, range_checks}
use Rattle.escrow_schema.specs.Fit.{IsRowOf}
use Rattle.escrow_schema.specs.Print.{declared_checks}
use Rattle.escrow_schema.specs.Rows.{row_before, rows_of, changes_to, HasTable}
use Rattle.escrow_schema.proofs.LawLemmas.{few_reservable}
use Rattle.escrow_schema.proofs.PrintBack.{sound_of}
use Rattle.escrow_journal.specs.Open.{Open}
use Rattle.escrow_tables.specs.Calls.{Reads, Writes}
use Rattle.escrow_tables.specs.Tables.{Tables}
use Rattle.escrow_tables.specs.Judged.{by_amounts, first_violation}
use Rattle.escrow_machine.specs.declared.reply.Reply.{Reply}
use Rattle.escrow_machine.specs.declared.reply.Reply.TheVariants as reply
use Rattle.escrow_machine.specs.Accepted.{IsAccepted, IsRefusal, PassesEarly}
use Rattle.escrow_machine.specs.Altered.{added_violation, after_alter, drop_refusal_of, new_checks, rows_violation, table_with_check, table_without_check}
use Rattle.escrow_machine.specs.State.{State, is_open}
use Rattle.escrow_machine.specs.Promised.{asks_store}
use Rattle.escrow_machine.specs.Step.{step, fails_for}
use Rattle.escrow_machine.specs.Transition.{transition_of}
use Rattle.escrow_machine.specs.Valid.{AreSafeRows, IsOrderly, IsValid}
use Rattle.escrow_machine.proofs.Refusals.{first_behind, first_in_front}
use Rattle.escrow_machine.proofs.Safe.{row_unique, some_at, some_from}
use Rattle.escrow_machine.proofs.Shapes.{covered}
use Rattle.escrow_machine.proofs.ValidAlter.{add_check_valid, altered_named, drop_check_valid, alter_orderly, in_place, is_added, name_found}
use Rattle.escrow_core.specs.Altering.{Adds, AddedJudge, CanJudge, adds, alter_refusal, amounts_by, violation_by, drops, new_ones, table_without}
use Rattle.escrow_core.specs.declared.database.added.AddedChecks.{AddedChecks}
use Rattle.escrow_reserved.specs.Read.{IsKnown, IsRead, ReadRow, ReadRows, row_read}
use Rattle.escrow_reserved.specs.Placed.{amounts_named, AreOfTables, HaveAmounts, IsOfTable}
use Rattle.escrow_core.specs.Inside.{database_of, Holds}
use Rattle.escrow_reserved.specs.Reserved.{Reserved, ArePlaced}
use Rattle.escrow_core.specs.Database.{Database}
use Rattle.escrow_core.specs.Serves.{Serves}
use Rattle.escrow_core.specs.Serving.{OnlyReads, answer_of}
use Rattle.escrow_reserved.proofs.Places.{gone_amounts, gone_placed, gone_tables, none_placed, some_same}
use Rattle.escrow_core.proofs.Serving.{accepted_step, handed_on, late_applies, none_applies, read_keeps, still_clean, write_failed, wrote, wrote_keeps}
use Rattle.escrow_reserved.proofs.ShownBounds.{all_take, free_list}
use Rattle.escrow_reserved.proofs.Standing.{standing}

-- EARLY REFUSALS

-- refusals that do not depend on the change
pub refused_first : (s : State) (session : ℕ) (table : List ℕ) (asked : TableChange) (r : Refusal) → alter_refusal session table s ≡ Some r
    → first_refusal (transition_of s session (statement.Alter (record { table = table; change = asked }))).early ≡ Some r
unfolding transition_of
refused_first s session table asked r first =
    first_in_front (refuse_if (is_open session s) refusal.TransactionOpen ∷ refuse_if (is_none (table_named s.catalog table)) refusal.NoSuchTable ∷ []) (drop_refusal_of s table asked ∷ []) r first

-- the early refusals that remain
left_to_change : (s : State) (session : ℕ) (table : List ℕ) (asked : TableChange) → alter_refusal session table s ≡ None
    → first_refusal (transition_of s session (statement.Alter (record { table = table; change = asked }))).early ≡ first_refusal (drop_refusal_of s table asked ∷ [])
unfolding transition_of
left_to_change s session table asked none =
    first_behind (refuse_if (is_open session s) refusal.TransactionOpen ∷ refuse_if (is_none (table_named s.catalog table)) refusal.NoSuchTable ∷ []) (drop_refusal_of s table asked ∷ []) none

pub add_early : (s : State) (session : ℕ) (table : List ℕ) (text : CheckText) → alter_refusal session table s ≡ None → PassesEarly s session (adds table text)
add_early s session table text none = left_to_change s session table (change.Add text) none

-- DROP CONSTRAINT is not refused early if a declared check has the name
pub drop_early : (s : State) (session : ℕ) (table name : List ℕ) (old : TableDef) (index : ℕ) → alter_refusal session table s ≡ None → table_named s.catalog table ≡ Some old
    → declared_place old name ≡ Some index → first_refusal (transition_of s session (drops table name)).early ≡ None
drop_early s session table name old index none named at = left_to_change s session table (change.Drop name) none ∙ rw (named, at) refl

pub drop_lacks : (s : State) (session : ℕ) (table name : List ℕ) (old : TableDef) → alter_refusal session table s ≡ None → table_named s.catalog table ≡ Some old
    → declared_place old name ≡ None → first_refusal (transition_of s session (drops table name)).early ≡ Some refusal.NoSuchConstraint
drop_lacks s session table name old none named at = left_to_change s session table (change.Drop name) none ∙ rw (named, at) refl

-- ADD: LATE REFUSALS

-- a bad definition
pub add_bad : (s : State) (session : ℕ) (table : List ℕ) (text : CheckText) (old : TableDef) → PassesEarly s session (adds table text) → table_named s.catalog table ≡ Some old
    → with_check old text ≡ None → IsRefusal s session (adds table text) refusal.BadDefinition
unfolding transition_of
add_bad s session table text old early named bad = late_applies s session (adds table text) refusal.BadDefinition early (rw (named, bad) refl)

-- the late refusals that remain if the table with the new checks exists
left_to_rows : (s : State) (session : ℕ) (table : List ℕ) (text : CheckText) (made : TableDef) → table_with_check s table text ≡ Some made
    → first_refusal (transition_of s session (adds table text)).late ≡ first_refusal (option_map refusal.Check (added_violation s table text) ∷ [])
unfolding transition_of
left_to_rows s session table text made is = rw is refl

-- THE NEW CHECKS

-- a list between two others, and the two others around it
between : {X : Type 0} (front more back all : List X) (first count : ℕ) → all ≡ (front ++ more) ++ back → first ≡ length front → count ≡ length more
    → (take count (drop first all) ≡ more) × (take first all ++ drop (first + count) all ≡ front ++ back)
between {X} front more back all first count is at many =
    let joined : all ≡ front ++ (more ++ back) = is ∙ append_assoc front more back in
    let both : first + count ≡ length (front ++ more) = omega (arith, length-append front more, at, many) in
    let behind : drop first all ≡ more ++ back = ap₂ (λ (n : ℕ) (xs : List X). drop n xs) at joined ∙ drop-append_seam front (more ++ back) in
    let before : take first all ≡ front = ap₂ (λ (n : ℕ) (xs : List X). take n xs) at joined ∙ take-append_seam front (more ++ back) in
    let after : drop (first + count) all ≡ back = ap₂ (λ (n : ℕ) (xs : List X). drop n xs) both is ∙ drop-append_seam (front ++ more) back in (
      ap₂ (λ (n : ℕ) (xs : List X). take n xs) many behind ∙ take-append_seam more back,
      ap₂ (λ (xs ys : List X). xs ++ ys) before after,
    )

-- the new checks are those of the CHECK, and without them the table is the old one
pub record AreNew (old : TableDef) (text : CheckText) (added : AddedChecks) : Type 0 where
  pub checks : new_checks old text ≡ Some (new_ones added)
  pub before : table_without added ≡ old
  pub alike : added.table ≡ record old { checks = added.table.checks }
  pub within : added.first + added.count ≤ length added.table.checks

pub are_new : (old : TableDef) (text : CheckText) (added : AddedChecks) → IsTable old → Adds old text added → AreNew old text added
are_new old text added is_table adds =
    let is = is_added old text added.table adds.made in
    let declared = declared_checks old in
    let ranges = range_checks old.columns in
    let whole : old.checks ≡ declared ++ ranges = (sound_of old is_table).checks in
    let many : added.count ≡ length is.more =
    omega (arith, adds.count, ap length whole, ap length is.checks, length-append (declared ++ is.more) ranges, length-append declared is.more, length-append declared ranges) in
    let parts = between declared is.more ranges added.table.checks added.first added.count is.checks adds.first many in
    record {
      checks = is.new ∙ ap Some (sym parts.0);
      before = ap (λ (t : TableDef). record t { checks = take added.first added.table.checks ++ drop (added.first + added.count) added.table.checks }) is.alike
          ∙ ap (λ (checks : List Check). record old { checks = checks }) (parts.1 ∙ sym whole);
      alike = is.alike;
      within = omega (arith, adds.first, many, ap length is.checks, length-append (declared ++ is.more) ranges, length-append declared is.more);
    }

-- the table has at least as many checks as before
pub more_checks : (old : TableDef) (text : CheckText) (made : TableDef) → IsTable old → with_check old text ≡ Some made → length old.checks ≤ length made.checks
more_checks old text made is_table e =
    let is = is_added old text made e in
    let declared = declared_checks old in
    let ranges = range_checks old.columns in
    omega (arith, ap length (sound_of old is_table).checks, ap length is.checks, length-append (declared ++ is.more) ranges, length-append declared is.more, length-append declared ranges)

-- THE JUDGE OF ROWS

-- a judge that agrees with the machine on each row agrees on all rows
judged : (judge : AddedJudge) (checks : List Check) (reservations : List Reservation) (rows : List Row)
    → ((row : Row) → Has rows row → violation_by judge row.name row.amounts ≡ broken checks row.amounts [] (map (changes_to row) reservations))
    → first_violation (by_amounts (violation_by judge)) rows ≡ rows_violation checks reservations rows
judged judge checks reservations [] each = refl
judged judge checks reservations (row ∷ rows) each =
    ap₂ first_of_two (each row (inl refl)) (judged judge checks reservations rows (λ other has. each other (inr has)))

-- the place of a row has the amounts of the row
place_amounts : (rows : List Row) (row : Row) (amounts : List ℤ) → IsAscending row_before rows → Has rows row → amounts_named rows row.name ≡ Some amounts → amounts ≡ row.amounts
place_amounts rows row amounts order has named =
    let stands = standing rows row.name amounts named in
    sym stands.has ∙ ap (λ (r : Row). r.amounts) (row_unique rows row.name stands.row row order stands.found has (same_row_itself row.name))

amounts_are : (table : List ℕ) (checks : List Check) (reservations : List Reservation) (places addition : Bounds) (rows : List Row) (row : Row)
    → ArePrepared table checks reservations places addition → HaveAmounts rows places → IsAscending row_before rows → Has rows row → bytes_eq row.name.table table ≡ true
    → unwrap_or (option_map (λ (place : Place). place.amounts) (place_at addition row.name)) row.amounts ≡ row.amounts
amounts_are table checks reservations places addition rows row prepared have order has here =
    at (place_at places row.name) (place_at addition row.name) refl (prepared.own row.name here)
  where
    at : (before after : Option Place) → place_at places row.name ≡ before → Goes (IsOver checks (of_row row.name reservations)) before after
        → unwrap_or (option_map (λ (place : Place). place.amounts) after) row.amounts ≡ row.amounts
    at None after is none = rw none refl
    at (Some old) after is goes =
        rw goes.1 (goes.2.amounts ∙ place_amounts rows row old.amounts order has (have row.name old is))

-- what holds for each item holds for each item of a part
all_drop : {A : Type 0} (P : A → Type 0) (n : ℕ) (xs : List A) → AllByRecursion P xs → AllByRecursion P (drop n xs)
all_drop P zero xs all = all
all_drop P (suc n) [] all = tt
all_drop P (suc n) (x ∷ xs) all = all_drop P n xs all.1

-- the amounts of a row of the table cover the new checks
pub new_covered : (added : AddedChecks) (amounts : List ℤ) → IsTable added.table → length amounts ≡ length (reservables added.table.columns)
    → AllByRecursion (λ (check : Check). IsCovered check.coeffs amounts) (new_ones added)
new_covered added amounts is_table many =
    let P : Check → Type 0 = λ check. IsCovered check.coeffs amounts in
    all_take P added.count (drop added.first added.table.checks) (all_drop P added.first added.table.checks (covered added.table amounts is_table many))

-- a row without a place still has none
goes_none : (Step : Place → Place → Type 0) (before after : Option Place) → before ≡ None → Goes Step before after → after ≡ None
goes_none Step None after is none = none
goes_none Step (Some old) after is goes = absurd (cc)

-- a row without open reservations is judged by its own amounts
pub free_judged : (added : AddedChecks) (reserved : Reserved) (addition : Bounds) (name : RowName) (amounts : List ℤ) → CanJudge added reserved addition
    → list_any (λ r. same_row r.row name) reserved.txns.reservations ≡ false
    → violation_by (record { added = added; reservations = reserved.txns.reservations; addition = addition }) name amounts ≡ broken (new_ones added) amounts [] []
free_judged added reserved addition name amounts can free =
    let reservations = reserved.txns.reservations in
    let none : place_at reserved.places name ≡ None = none_placed reservations reserved.places name can.placed free in
    let unplaced : place_at addition name ≡ None =
    elim (cases_Bool (bytes_eq name.table added.table.name)) [
      | inl here ↦ goes_none (IsOver added.table.checks (of_row name reservations)) (place_at reserved.places name) (place_at addition name) none (can.prepared.own name here)
      | inr differs ↦ can.prepared.others name differs
    ] in
    rw (unplaced, free_list name reservations free) refl

-- the parts of a state that a judge uses; the places have the amounts of their rows
pub record AreJudged (s : State) (old : TableDef) (text : CheckText) (added : AddedChecks) (reserved : Reserved) (addition : Bounds) : Type 0 where
  pub named : table_named s.catalog old.name ≡ Some old
  pub is_table : IsTable old
  pub adds : Adds old text added
  pub can : CanJudge added reserved addition
  pub held : reserved.txns.reservations ≡ s.reservations
  pub safe : AreSafeRows s.catalog s.rows s.reservations
  pub amounts : HaveAmounts s.rows reserved.places

module _ (s : State) (old : TableDef) (text : CheckText) (added : AddedChecks) (reserved : Reserved) (addition : Bounds) (are : AreJudged s old text added reserved addition) where
  new : AreNew old text added
  new = are_new old text added are.is_table are.adds

  abbrev judge : AddedJudge
  judge = record { added = added; reservations = reserved.txns.reservations; addition = addition }

  -- the judge agrees with the machine on a row of the table
  judged_row : (row : Row) → Has (rows_of s.rows old.name) row → violation_by judge row.name row.amounts ≡ broken (new_ones added) row.amounts [] (map (changes_to row) s.reservations)
  judged_row row has =
      let there = has_filter (λ (r : Row). bytes_eq r.name.table old.name) s.rows row has in
      let named : table_named s.catalog row.name.table ≡ Some old = ap (table_named s.catalog) (name_same row.name.table old.name there.1) ∙ are.named in
      let is_row : IsRowOf old row = some_at (λ (t : TableDef). IsRowOf t row) (table_named s.catalog row.name.table) old named (all_has (HasTable s.catalog) s.rows are.safe.tables row there.0) in
      let called : added.table.name ≡ old.name = ap (λ (t : TableDef). t.name) new.alike in
      let here : bytes_eq row.name.table added.table.name ≡ true = subst (λ (n : List ℕ). bytes_eq row.name.table n ≡ true) (sym called) there.1 in
      let amounts : amounts_by judge row.name row.amounts ≡ row.amounts =
      amounts_are added.table.name added.table.checks reserved.txns.reservations reserved.places addition s.rows row are.can.prepared are.amounts are.safe.row_order there.0 here in
      let columns : reservables added.table.columns ≡ reservables old.columns = ap (λ (t : TableDef). reservables t.columns) new.alike in
      let covers : AllByRecursion (λ (check : Check). IsCovered check.coeffs row.amounts) (new_ones added) =
      new_covered added row.amounts are.can.table (is_row.amounts ∙ ap length (sym columns)) in
      ap₂ (λ (zs : List ℤ) (held : List Reservation). broken (new_ones added) zs [] (of_row row.name held)) amounts are.held
      ∙ sym (same_grant_rule (new_ones added) row.amounts [] row.name s.reservations covers)

  -- the judge agrees on all rows of the table
  pub judged_rows : first_violation (by_amounts (violation_by judge)) (rows_of s.rows old.name) ≡ added_violation s old.name text
  judged_rows =
      judged judge (new_ones added) s.reservations (rows_of s.rows old.name) judged_row
      ∙ sym (rw (are.named, new.checks) refl)

-- ADD: WHAT THE ROWS DECIDE

module _ (s : State) (session : ℕ) (table : List ℕ) (text : CheckText) (made : TableDef) (early : PassesEarly s session (adds table text)) (is : table_with_check s table text ≡ Some made) where
  pub add_refused : (violation : Violation) → added_violation s table text ≡ Some violation → IsRefusal s session (adds table text) (refusal.Check violation)
  add_refused violation broken = late_applies s session (adds table text) (refusal.Check violation) early (left_to_rows s session table text made is ∙ rw broken refl)

  pub add_accepted : added_violation s table text ≡ None → IsAccepted s session (adds table text)
  add_accepted none = none_applies s session (adds table text) early (left_to_rows s session table text made is ∙ rw none refl)

-- THE STEP

-- the state with an altered table
abbrev pub altered_state : State → TableDef → State
altered_state s made = record s { catalog = with_altered made s.catalog }

add_step : (s : State) (session : ℕ) (table : List ℕ) (text : CheckText) (made : TableDef) → table_with_check s table text ≡ Some made → IsAccepted s session (adds table text)
    → step s session (adds table text) ≡ (reply.Altered table, altered_state s made)
unfolding transition_of
add_step s session table text made is accepted =
    accepted_step s session (adds table text) accepted
    ∙ ap (λ (o : Option TableDef). (reply.Altered table, after_alter s o)) is

drop_step : (s : State) (session : ℕ) (table name : List ℕ) (made : TableDef) → table_without_check s table name ≡ Some made → IsAccepted s session (drops table name)
    → step s session (drops table name) ≡ (reply.Altered table, altered_state s made)
unfolding transition_of
drop_step s session table name made is accepted =
    accepted_step s session (drops table name) accepted
    ∙ ap (λ (o : Option TableDef). (reply.Altered table, after_alter s o)) is

drop_accepted : (s : State) (session : ℕ) (table name : List ℕ) → PassesEarly s session (drops table name) → IsAccepted s session (drops table name)
unfolding transition_of
drop_accepted s session table name early = none_applies s session (drops table name) early refl

-- THE WRITE

-- the step replaces the table by one with other checks
pub record MayAlter {S : Type 0} (g : Ghosts S) (session : ℕ) (asked : Statement) (d : Database S) (table : List ℕ) (old made : TableDef) : Type 0 where
  pub asks : asks_store d.state session asked ≡ true
  pub early : PassesEarly d.state session asked
  pub takes : (f : Failure) → fails_for d.state session asked f ≡ true
  pub named : table_named d.state.catalog table ≡ Some old
  pub alike : made ≡ record old { checks = made.checks }
  pub is_table : IsTable made
  pub steps : HasCleanDisk (state g d.store) → step d.state session asked ≡ (reply.Altered table, altered_state d.state made)
  pub valid : HasCleanDisk (state g d.store) → IsValid d.state → IsValid (altered_state d.state made)

-- DROP CONSTRAINT removes the check at the place of a declared one
pub may_drop_check : {S : Type 0} (g : Ghosts S) (session : ℕ) (table name : List ℕ) (d : Database S) (old made : TableDef) (index : ℕ) → PassesEarly d.state session (drops table name)
    → table_named d.state.catalog table ≡ Some old → declared_place old name ≡ Some index → made ≡ without_check_at old index → IsTable made
    → MayAlter g session (drops table name) d table old made
may_drop_check g session table name d old made index early named at is is_table =
    let s = d.state in
    let without : without_check old name ≡ Some made = ap (option_map (without_check_at old)) at ∙ ap Some (sym is) in
    let makes : table_without_check s table name ≡ Some made = ap (option_and_then (λ (t : TableDef). without_check t name)) named ∙ without in
    record {
      asks = refl;
      early = early;
      takes = λ _. refl;
      named = named;
      alike = is ∙ ap (λ (t : TableDef). record old { checks = t.checks }) (sym is);
      is_table = is_table;
      steps = λ _. drop_step s session table name made makes (drop_accepted s session table name early);
      valid = λ _ valid. drop_check_valid s table name old made valid named without;
    }

-- ADD adds the new checks if no row breaks one
pub may_add_check : {S : Type 0} (g : Ghosts S) (session : ℕ) (table : List ℕ) (text : CheckText) (d : Database S) (old : TableDef) (added : AddedChecks)
    → PassesEarly d.state session (adds table text) → table_named d.state.catalog table ≡ Some old → IsTable old → Adds old text added
    → (HasCleanDisk (state g d.store) → added_violation d.state table text ≡ None) → MayAlter g session (adds table text) d table old added.table
may_add_check g session table text d old added early named is_table are unbroken =
    let s = d.state in
    let is : table_with_check s table text ≡ Some added.table = ap (option_and_then (λ (t : TableDef). with_check t text)) named ∙ are.made in
    record {
      asks = refl;
      early = early;
      takes = λ _. refl;
      named = named;
      alike = (are_new old text added is_table are).alike;
      is_table = are.table;
      steps = λ clean. add_step s session table text added.table is (add_accepted s session table text added.table early is (unbroken clean));
      valid = λ clean valid. add_check_valid s table text old added.table valid named are.made (unbroken clean);
    }

-- a row that was read has an amount for each RESERVABLE column of its table, also after the table is altered
known_altered : (catalog : List TableDef) (table : List ℕ) (old made : TableDef) → table_named catalog table ≡ Some old → made ≡ record old { checks = made.checks } → (read : Option ReadRow)
    → IsKnown catalog read → IsKnown (with_altered made catalog) read
known_altered catalog table old made named alike None known = tt
known_altered catalog table old made named alike (Some r) known =
    subst (λ (o : Option TableDef). IsSomeAnd o (λ t. length r.1 ≡ length (reservables t.columns))) (sym (altered_named made catalog r.0.table)) (at (table_named catalog r.0.table) refl known)
  where
    at : (o : Option TableDef) → table_named catalog r.0.table ≡ o → IsSomeAnd o (λ t. length r.1 ≡ length (reservables t.columns))
        → IsSomeAnd (option_map (in_place made) o) (λ t. length r.1 ≡ length (reservables t.columns))
    at None is many = absurd many
    at (Some other) is many =
        cond_both (bytes_eq other.name made.name) made other (λ (t : TableDef). length r.1 ≡ length (reservables t.columns))
        (λ same.
        let called : made.name ≡ table = ap (λ (t : TableDef). t.name) alike ∙ name_found catalog table old named in
        let here : r.0.table ≡ table = sym (name_found catalog r.0.table other is) ∙ name_same other.name made.name same ∙ called in
        let itself : other ≡ old = some_same (sym is ∙ ap (table_named catalog) here ∙ named) in
        many ∙ ap (λ (t : TableDef). length (reservables t.columns)) itself ∙ ap (λ (t : TableDef). length (reservables t.columns)) (sym alike))
        (λ _. many)

module _ {S : Type 0} (g : Ghosts S) (session : ℕ) (asked : Statement) (t new : Tables S) (o : Open) (table : List ℕ) (old made : TableDef)
    (may : MayAlter g session asked (database_of t o) table old made) where
  -- the call that writes the table may be made
  pub alters_like : IsSomeAnd (table_named t.catalog made.name) (λ (was : TableDef). made ≡ record was { checks = made.checks })
  alters_like =
      let called : made.name ≡ table = ap (λ (x : TableDef). x.name) may.alike ∙ name_found t.catalog table old may.named in
      some_from (λ (was : TableDef). made ≡ record was { checks = made.checks }) (table_named t.catalog made.name) old (ap (table_named t.catalog) called ∙ may.named) may.alike

  pub altered_place : (place : ℕ) → place_named t.catalog table ≡ Some place → place_named t.catalog made.name ≡ Some place
  altered_place place at =
      let called : made.name ≡ table = ap (λ (x : TableDef). x.name) may.alike ∙ name_found t.catalog table old may.named in
      ap (place_named t.catalog) called ∙ at

  -- the write succeeded
  pub alter_serves : Writes g t new true (with_altered made t.catalog) t.rows → Serves g session asked (database_of t o) (reply.Altered table) (database_of new o)
  alter_serves writes = wrote g session asked t new o o (reply.Altered table) (reply.Altered table) (altered_state (database_of t o).state made) may.asks may.early refl (λ _. refl) writes may.steps refl

  -- the write failed, and `?` returned the failure
  pub alter_fails : (result : Result Reply Refusal) (f : Failure) → IsErrAnd result (λ e. e ≡ refusal_for f) → Writes g t new false (with_altered made t.catalog) t.rows
      → Serves g session asked (database_of t o) (answer_of result) (database_of new o)
  alter_fails result f is writes =
      handed_on g session asked (database_of t o) (database_of new o) result (refusal_for f) is
      (write_failed g session asked t new o f (reply.Altered table) (altered_state (database_of t o).state made) may.asks may.early (may.takes f) writes may.steps)

  -- what the database keeps if the table's places come from the old ones
  pub alter_holds : (Step : RowName → Place → Place → Type 0) (places after : Bounds) (recent : ReadRows) → Holds g (database_of t o) places recent → Writes g t new true (with_altered made t.catalog) t.rows
      → TableGoes table Step places after → ((row : RowName) (a b : Place) → Step row a b → b.amounts ≡ a.amounts)
      → ((row : RowName) (a b : Place) → Step row a b → checks_of a.checks ≡ old.checks → checks_of b.checks ≡ made.checks) → Holds g (database_of new o) after recent
  alter_holds Step places after recent holds writes goes amounts checks =
      let s : State = (database_of t o).state in
      let keeps = holds.keeps in
      let called : old.name ≡ table = name_found t.catalog table old may.named in
      let here : table_named t.catalog old.name ≡ Some old = ap (table_named t.catalog) called ∙ may.named in
      record {
        keeps = record {
          kept = wrote_keeps g session asked t new o o (altered_state s made) keeps.kept writes refl
              (subst (λ (x : TableDef). IsOrderly (with_altered x s.catalog) s.reservations s.savepoints s.next_id) (sym may.alike)
              (alter_orderly s old made.checks keeps.kept.orderly here (subst IsTable may.alike may.is_table)))
              (λ valid u. may.valid u valid);
          placed = gone_placed table Step places after goes s.reservations keeps.placed;
          of_tables = subst (λ c. AreOfTables c after) (sym (writes.done_catalog refl)) (gone_tables table Step places after goes amounts s.catalog old made may.named may.alike checks keeps.of_tables);
          amounts = λ clean.
              let was = still_clean _ _ _ writes.survives clean in
              subst (λ rs. HaveAmounts rs after) (sym (writes.done_rows refl clean)) (gone_amounts table Step places after goes amounts s.rows (keeps.amounts was));
        };
        known = λ name. subst (λ c. IsKnown c (row_read recent name)) (sym (writes.done_catalog refl)) (known_altered t.catalog table old made may.named may.alike (row_read recent name) (holds.known name));
        read = λ clean name. subst (λ rs. IsRead rs (row_read recent name)) (sym (writes.done_rows refl clean)) (holds.read (still_clean _ _ _ writes.survives clean) name);
      }

-- the check at the index is removed
pub checks_without : (old made : TableDef) (index : ℕ) → made ≡ without_check_at old index → (row : RowName) (a b : Place) → IsWithout index a b → checks_of a.checks ≡ old.checks → checks_of b.checks ≡ made.checks
checks_without old made index made_is row a b step is = step.checks ∙ ap (λ (checks : List Check). remove checks index) is ∙ ap (λ (t : TableDef). t.checks) (sym made_is)

-- ADD: THE PLACES OF THE TABLE'S ROWS

-- the value of an option that has one
pub some_is : {A : Type 0} (P : A → Type 0) (o : Option A) → IsSomeAnd o P → (x : A) × (o ≡ Some x) × P x
some_is P None h = absurd h
some_is P (Some x) h = (x, refl, h)

-- the place of a row of the table is a place of that table
own_place : (catalog : List TableDef) (table : List ℕ) (old : TableDef) (places : Bounds) (row : RowName) (place : Place) → table_named catalog table ≡ Some old → AreOfTables catalog places
    → bytes_eq row.table table ≡ true → place_at places row ≡ Some place → IsOfTable old place
own_place catalog table old places row place named of_tables here at =
    some_at (λ (t : TableDef). IsOfTable t place) (table_named catalog row.table) old (ap (table_named catalog) (name_same row.table table here) ∙ named) (of_tables row place at)

-- it has at most as many amounts as a check may have coefficients
pub few_amounts : (catalog : List TableDef) (table : List ℕ) (old : TableDef) (places : Bounds) → table_named catalog table ≡ Some old → IsTable old → AreOfTables catalog places
    → (row : RowName) (place : Place) → bytes_eq row.table table ≡ true → place_at places row ≡ Some place → length place.amounts ≤ MAX_LEN
few_amounts catalog table old places named is_table of_tables = λ row place here at.
    let of = own_place catalog table old places row place named of_tables here at in
    omega (arith, of.amounts, (few_reservable old is_table).1)

-- its amounts cover all checks of the altered table
pub amounts_cover : (catalog : List TableDef) (table : List ℕ) (old : TableDef) (text : CheckText) (added : AddedChecks) (places : Bounds) → table_named catalog table ≡ Some old → IsTable old
    → Adds old text added → AreOfTables catalog places
    → (row : RowName) (place : Place) → bytes_eq row.table table ≡ true → place_at places row ≡ Some place → AllByRecursion (λ (check : Check). IsCovered check.coeffs place.amounts) added.table.checks
amounts_cover catalog table old text added places named is_table are of_tables = λ row place here at.
    let of = own_place catalog table old places row place named of_tables here at in
    covered added.table place.amounts are.table (of.amounts ∙ ap (λ (t : TableDef). length (reservables t.columns)) (sym (are_new old text added is_table are).alike))

-- the rows of the table can therefore be judged
pub can_judge : (catalog : List TableDef) (table : List ℕ) (old : TableDef) (text : CheckText) (added : AddedChecks) (reserved : Reserved) (addition : Bounds) → table_named catalog table ≡ Some old
    → IsTable old → Adds old text added → ArePlaced reserved.txns.reservations reserved.places
    → ArePrepared table added.table.checks reserved.txns.reservations reserved.places addition → CanJudge added reserved addition
can_judge catalog table old text added reserved addition named is_table are placed prepared =
    let new = are_new old text added is_table are in
    let called : added.table.name ≡ table = ap (λ (t : TableDef). t.name) new.alike ∙ name_found catalog table old named in
    record {
      table = are.table;
      within = new.within;
      placed = placed;
      prepared = subst (λ (n : List ℕ). ArePrepared n added.table.checks reserved.txns.reservations reserved.places addition) (sym called) prepared;
    }

-- the verdict is the machine's
pub rows_judged : (s : State) (table : List ℕ) (old : TableDef) (text : CheckText) (added : AddedChecks) (reserved : Reserved) (addition : Bounds) → table_named s.catalog table ≡ Some old → IsTable old
    → Adds old text added → CanJudge added reserved addition → reserved.txns.reservations ≡ s.reservations → AreSafeRows s.catalog s.rows s.reservations → HaveAmounts s.rows reserved.places
    → first_violation (by_amounts (violation_by (record { added = added; reservations = reserved.txns.reservations; addition = addition }))) (rows_of s.rows table) ≡ added_violation s table text
rows_judged s table old text added reserved addition named is_table adds can held safe amounts =
    let called : old.name ≡ table = name_found s.catalog table old named in
    let here : table_named s.catalog old.name ≡ Some old = ap (table_named s.catalog) called ∙ named in
    subst (λ (n : List ℕ). first_violation (by_amounts (violation_by (record { added = added; reservations = reserved.txns.reservations; addition = addition }))) (rows_of s.rows n) ≡ added_violation s n text) called
    (judged_rows s old text added reserved addition (record { named = here; is_table = is_table; adds = adds; can = can; held = held; safe = safe; amounts = amounts }))

-- the judge's table without the new checks is the one in the catalog
pub judges_old : (catalog : List TableDef) (table : List ℕ) (old : TableDef) (text : CheckText) (added : AddedChecks) → table_named catalog table ≡ Some old → IsTable old → Adds old text added
    → table_named catalog table ≡ Some (table_without added)
judges_old catalog table old text added named is_table are = named ∙ ap (λ (t : TableDef). Some t) (sym (are_new old text added is_table are).before)

-- reading rows leaves the state unchanged
pub read_only_reads : {S : Type 0} (g : Ghosts S) (t after : Tables S) (o : Open) → Reads g t after → OnlyReads g (database_of t o) (database_of after o)
read_only_reads g t after o reads = record {
  same = ap (λ (c : _ × _). record (database_of t o).state { catalog = c.0; rows = c.1 }) (ap₂ (λ a b. (a, b)) reads.catalog reads.rows);
  usable = reads.usable;
  survives = reads.survives;
}

-- reading rows leaves what the database keeps
pub read_holds : {S : Type 0} (g : Ghosts S) (t after : Tables S) (o : Open) (places : Bounds) (recent : ReadRows) → Holds g (database_of t o) places recent → Reads g t after
    → Holds g (database_of after o) places recent
read_holds g t after o places recent holds reads = record {
  keeps = read_keeps g t after o places holds.keeps reads;
  known = λ name. rw reads.catalog (holds.known name);
  read = λ clean name. rw reads.rows (holds.read (still_clean _ _ _ reads.survives clean) name);
}

-- the table with the new checks, made from the one in the catalog
pub with_named : (s : State) (table : List ℕ) (text : CheckText) (old : TableDef) (added : AddedChecks) → table_named s.catalog table ≡ Some old → Adds old text added
    → table_with_check s table text ≡ Some added.table
with_named s table text old added named are = ap (option_and_then (λ (t : TableDef). with_check t text)) named ∙ are.made
