-- COMMIT: the store is asked if the session holds a reservation; otherwise the transaction just ends.
use Rattle.std.specs.Prelude.{◌≡◌, ℕ, ℤ, true, false, nat_lt, ◌==◌, Option, Some, None, option_map, List, [], ◌∷◌, length}
use Rattle.std.proofs.Common.{refl, sym, ap, ap₂, subst, ◌∙◌, arith}
use Rattle.std.proofs.lemmas.Bool.Decides.{nat_tests}
use Rattle.std.proofs.lemmas.List.{length-map, nil_from_length}
use Rattle.sqlite_trees.specs.declared.store.Store.{Ghosts}
use Rattle.escrow_num.specs.declared.reservation.Reservation.{Reservation}
use Rattle.escrow_num.specs.declared.row.Row.{Row}
use Rattle.escrow_statement.specs.declared.statement.Statement.TheVariants as statement
use Rattle.escrow_num.specs.declared.session.End.TheVariants as end
use Rattle.escrow_num.specs.declared.value.RowName.{RowName}
use Rattle.escrow_bounds.specs.Ended.{AreEnded}
use Rattle.escrow_bounds.specs.Place.{Place}
use Rattle.escrow_bounds.specs.Bounds.{Bounds, place_at}
use Rattle.escrow_journal.specs.Reservations.{own}
use Rattle.escrow_tables.specs.Calls.{AreGiven}
use Rattle.escrow_tables.specs.Tables.{Tables}
use Rattle.escrow_journal.specs.Open.{Open, open_after_end}
use Rattle.escrow_machine.specs.declared.reply.Reply.{Reply}
use Rattle.escrow_machine.specs.declared.reply.Reply.TheVariants as reply
use Rattle.escrow_schema.specs.Catalog.{table_named}
use Rattle.escrow_schema.specs.Column.{reservables}
use Rattle.escrow_schema.specs.declared.table.TableDef.{TableDef}
use Rattle.escrow_bounds.specs.Held.{of_row}
use Rattle.escrow_bounds.proofs.Ending.{length-after_all}
use Rattle.escrow_machine.proofs.Safe.{some_weaker}
use Rattle.escrow_reserved.specs.Placed.{amounts_named, HaveAmounts}
use Rattle.escrow_reserved.specs.Read.{committed_by, IsKnown, IsRead, ReadRow, ReadRows}
use Rattle.escrow_core.specs.Inside.{database_of, Holds}
use Rattle.escrow_reserved.specs.Reserved.{AreAmounts, ArePlaced, Reserved}
use Rattle.escrow_core.specs.Serves.{Serves}
use Rattle.escrow_machine.specs.Accepted.{PassesEarly}
use Rattle.escrow_machine.specs.State.{State}
use Rattle.escrow_schema.specs.Rows.{applied}
use Rattle.escrow_machine.specs.Step.{StepOrRefusal}
use Rattle.escrow_machine.specs.Transition.{transition_of, after_commit, after_rollback}
use Rattle.escrow_machine.specs.Valid.{IsOrderly, IsValid}
use Rattle.escrow_machine.proofs.Applying.{applied_none}
use Rattle.escrow_core.proofs.Served.{commit_serves}
use Rattle.escrow_reserved.proofs.Places.{committed_amounts, ended_tables, rollbacks_amounts}
use Rattle.escrow_core.proofs.Serving.{apart_keeps, served_apart}
use Rattle.escrow_machine.proofs.ValidEnds.{rollback_orderly, rollback_valid}

-- a nonempty list has items, and an empty list has none
pub holds_some : (all mine : List Reservation) → all ≡ mine → false ≡ (length all == 0) → nat_lt 0 (length mine) ≡ true
holds_some all mine same e = rw (← same) (grind (arith, nat_tests))

pub holds_none : (all mine : List Reservation) → all ≡ mine → true ≡ (length all == 0) → mine ≡ []
holds_none all mine same e = sym same ∙ nil_from_length all (grind (arith, nat_tests))

-- the reply to a COMMIT that succeeds: the number of the session's reservations
abbrev done : ℕ → Open → Reply
done session o = reply.Committed (length (own session o.reservations))

-- COMMIT has no early refusal
pub passes : (s : State) (session : ℕ) → PassesEarly s session statement.Commit
unfolding transition_of
passes s session = refl

-- if the session holds none, no row changes
changes_none : (s : State) (session : ℕ) → own session s.reservations ≡ [] → after_commit s session ≡ after_rollback s session
changes_none s session none =
    let same : applied s.rows (own session s.reservations) ≡ s.rows = subst (λ (mine : List Reservation). applied s.rows mine ≡ s.rows) (sym none) (applied_none s.rows) in
    ap (λ (rows : List Row). record (after_rollback s session) { rows = rows }) same

-- what was read of a row, after reservations are committed
pub known_after : (catalog : List TableDef) (reservations : List Reservation) (recent : Option ReadRow) → IsKnown catalog recent → IsKnown catalog (option_map (committed_by reservations) recent)
known_after catalog reservations None known = tt
known_after catalog reservations (Some r) known =
    some_weaker (λ (t : TableDef). length r.1 ≡ length (reservables t.columns)) (λ (t : TableDef). length (committed_by reservations r).1 ≡ length (reservables t.columns)) (table_named catalog r.0.table)
    (λ t many. length-after_all end.Commit r.1 (of_row r.0 reservations) ∙ many) known

pub read_after : (s : State) (session : ℕ) (recent : Option ReadRow) → IsValid s → IsRead s.rows recent → IsRead (applied s.rows (own session s.reservations)) (option_map (committed_by (own session s.reservations)) recent)
read_after s session None valid read = tt
read_after s session (Some r) valid read = committed_amounts s session r.0 r.1 valid read

-- what a database holds after reservations are dropped and the store is untouched
pub dropped_holds : {S : Type 0} (g : Ghosts S) (t : Tables S) (o left : Open) (dropped : List Reservation) (old : Bounds) (after : Reserved) (recent : ReadRows) → Holds g (database_of t o) old recent
    → after.txns ≡ left → AreEnded end.Rollback dropped old after.places → (ArePlaced o.reservations old → ArePlaced after.txns.reservations after.places)
    → IsOrderly t.catalog left.reservations left.savepoints left.next_id → (IsValid (database_of t o).state → IsValid (database_of t left).state) → Holds g (database_of t after.txns) after.places recent
dropped_holds g t o left dropped old after recent holds is are placed orderly valid =
    let keeps = holds.keeps in
    record {
      keeps = record {
        kept = rw is (apart_keeps g (database_of t o) (database_of t left).state keeps.kept orderly valid);
        placed = placed keeps.placed;
        of_tables = ended_tables end.Rollback dropped t.catalog old after.places are keeps.of_tables;
        amounts = λ clean. rollbacks_amounts dropped t.rows old after.places are (keeps.amounts clean);
      };
      known = holds.known;
      read = holds.read;
    }

module _ {S : Type 0} (g : Ghosts S) (session : ℕ) (t : Tables S) (o : Open) where
  -- the session holds no reservation
  pub just_ended : own session o.reservations ≡ [] → Serves g session statement.Commit (database_of t o) (done session o) (database_of t (open_after_end session o))
  just_ended none =
      let s : State = (database_of t o).state in
      let event : StepOrRefusal s session statement.Commit (done session o) (after_rollback s session) =
      subst (λ (after : State). StepOrRefusal s session statement.Commit (done session o) after) (changes_none s session none) (commit_serves s session) in
      let quiet : nat_lt 0 (length (own session o.reservations)) ≡ false = subst (λ (mine : List Reservation). nat_lt 0 (length mine) ≡ false) (sym none) refl in
      served_apart g session statement.Commit (database_of t o) (database_of t (open_after_end session o)) (done session o) quiet refl event

  pub just_ended_holds : (old : Bounds) (after : Reserved) (recent : ReadRows) → Holds g (database_of t o) old recent → after.txns ≡ open_after_end session o → AreEnded end.Rollback (own session o.reservations) old after.places
      → (ArePlaced o.reservations old → ArePlaced after.txns.reservations after.places) → Holds g (database_of t after.txns) after.places recent
  just_ended_holds old after recent holds is are placed =
      let s : State = (database_of t o).state in
      dropped_holds g t o (open_after_end session o) (own session o.reservations) old after recent holds is are placed (rollback_orderly s session holds.keeps.kept.orderly) (rollback_valid s session)

-- for the rows of reservations, the places have the amounts of the rows
given_one : (rows : List Row) (places : Bounds) (row : RowName) (amounts : List ℤ) → HaveAmounts rows places → (o : Option Place) → place_at places row ≡ o
    → option_map (λ (place : Place). place.amounts) o ≡ Some amounts → amounts_named rows row ≡ Some amounts
given_one rows places row amounts have None at is = absurd (cc)
given_one rows places row amounts have (Some place) at is = have row place at ∙ is

pub given : (rows : List Row) (places : Bounds) (reservations : List Reservation) (before : List (List ℤ)) → HaveAmounts rows places → AreAmounts places reservations before → AreGiven rows reservations before
given rows places [] before have are = are
given rows places (r ∷ reservations) [] have are = absurd (cc)
given rows places (r ∷ reservations) (amounts ∷ before) have are =
    let first : option_map (λ (place : Place). place.amounts) (place_at places r.row) ≡ Some amounts = cc in
    let rest : AreAmounts places reservations before = cc in
    ap₂ (λ (o : Option (List ℤ)) (os : List (Option (List ℤ))). o ∷ os) (given_one rows places r.row amounts have (place_at places r.row) refl first) (given rows places reservations before have rest)

-- there is one list of amounts for each reservation
pub as_many : (places : Bounds) (reservations : List Reservation) (before : List (List ℤ)) → AreAmounts places reservations before → length before ≡ length reservations
as_many places reservations before are =
    sym (length-map before Some) ∙ sym (ap length are) ∙ length-map reservations (λ (r : Reservation). option_map (λ (place : Place). place.amounts) (place_at places r.row))
