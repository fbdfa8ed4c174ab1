-- Believed: the statements of the laws in src/laws.rt.
use Rattle.std.specs.Prelude.{◌≡◌, ℕ, ℤ, ◌+◌, ◌*◌, ◌<◌, ◌≤◌, ◌+ℤ◌, ◌≤ℤ◌, true, false, is_none, option_map, Option, Some, None, IsSome, IsSomeAnd, List, [], ◌∷◌, ◌++◌, length, map, take, slice_get, Contains, IsTrue}
use Rattle.std.specs.List.{AllByRecursion, AllZip}
use Rattle.escrow_num.specs.declared.refusal.Violation.{Violation}
use Rattle.escrow_num.specs.declared.refusal.Refusal.{Refusal}
use Rattle.escrow_num.specs.declared.refusal.Refusal.TheVariants as refusal
use Rattle.escrow_num.specs.declared.reservation.Reservation.{Reservation}
use Rattle.escrow_num.specs.declared.reservation.Savepoint.{Savepoint}
use Rattle.escrow_num.specs.declared.row.Row.{Row}
use Rattle.escrow_num.specs.declared.session.End.{End}
use Rattle.escrow_num.specs.Refusal.{refuse_if, first_refusal}
use Rattle.escrow_num.specs.Reservation.{deltas}
use Rattle.escrow_num.specs.Session.{IsSession}
use Rattle.escrow_num.specs.Span.{Holds}
use Rattle.escrow_num.specs.declared.value.Value.{Value}
use Rattle.escrow_statement.specs.declared.statement.Statement.{Statement}
use Rattle.escrow_statement.specs.declared.statement.Statement.TheVariants as statement
use Rattle.escrow_statement.specs.declared.statement.UpdateText.{UpdateText}
use Rattle.escrow_statement.specs.declared.statement.RowText.{RowText}
use Rattle.escrow_checks.specs.declared.check.Check.{Check}
use Rattle.escrow_checks.specs.Condition.{amount_of}
use Rattle.escrow_checks.specs.Extremes.{least, greatest}
use Rattle.escrow_checks.specs.Form.{form}
use Rattle.escrow_checks.specs.Grant.{Meets}
use Rattle.escrow_checks.specs.Laws.{IsBeyond}
use Rattle.escrow_checks.specs.Sublists.{sublists}
use Rattle.escrow_checks.specs.declared.spread.TheConstants.Spread.{MAX_OPEN}
use Rattle.escrow_schema.specs.declared.column.Column.{Column}
use Rattle.escrow_schema.specs.declared.table.TableDef.{TableDef}
use Rattle.escrow_schema.specs.declared.plan.Plan.{Plan}
use Rattle.escrow_schema.specs.declared.plan.Plan.TheVariants as plan
use Rattle.escrow_schema.specs.Altered.{with_altered}
use Rattle.escrow_schema.specs.Catalog.{table_named, with_table, without_table}
use Rattle.escrow_schema.specs.Column.{names_of, reservables, scale_of}
use Rattle.escrow_schema.specs.Definition.{definition_of}
use Rattle.escrow_schema.specs.Fit.{FitColumns, values_of}
use Rattle.escrow_schema.specs.Print.{declared_checks}
use Rattle.escrow_machine.specs.declared.event.Event.{Event}
use Rattle.escrow_machine.specs.declared.event.Event.TheVariants as event
use Rattle.escrow_machine.specs.declared.reply.CheckBounds.{CheckBounds}
use Rattle.escrow_machine.specs.declared.reply.ColumnBounds.{ColumnBounds}
use Rattle.escrow_machine.specs.declared.reply.Reply.{Reply}
use Rattle.escrow_machine.specs.declared.reply.Reply.TheVariants as reply
use Rattle.escrow_machine.specs.Event.{HasSession}
use Rattle.escrow_machine.specs.Reply.{failure_of, holds_memory, is_refused}
use Rattle.escrow_journal.specs.declared.journal.TheConstants.Journal.{MAX_RESERVATIONS}
use Rattle.escrow_journal.specs.Open.{grant_refusal}
use Rattle.escrow_journal.specs.Reservations.{own, others, own_savepoints}
use Rattle.escrow_journal.specs.Savepoints.{savepoint_of}
use Rattle.escrow_machine.specs.Held.{passes, Waiting, IsHeldRun, Outcome, events_of, answers_by, ended_by}
use Rattle.escrow_machine.specs.Altered.{table_altered}
use Rattle.escrow_machine.specs.Asked.{new_row, plan_of, row_name, named_by, reservation_from, reservation_of, violation_of}
use Rattle.escrow_machine.specs.Settle.{end_of, settled, after_end, after_ends}
use Rattle.escrow_machine.specs.State.{State, empty, opened, open_in}
use Rattle.escrow_schema.specs.Rows.{row_named, changes_to, row_after, applied, with_row, without_row, without_rows_of, with_plain, MeetsChecks}
use Rattle.escrow_machine.specs.Step.{step, StepOrRefusal, IsRun}
use Rattle.escrow_machine.specs.Transition.{transition_of, update_refusals}
use Rattle.escrow_machine.specs.Valid.{IsValid}

-- VALIDITY

-- whatever a session asks, the machine leads from a valid state to a valid one
abbrev pub StepKeepsValid : Type 0
StepKeepsValid =
    (s : State) (session : ℕ) (asked : Statement) → IsValid s → IsSession session → IsValid (step s session asked).1

-- from a valid state, any events of sessions, some of which may fail, lead to a valid state
abbrev pub RunKeepsValid : Type 0
RunKeepsValid = (s : State) (events : List Event) (answers : List Reply) (new : State)
    → IsValid s → AllByRecursion HasSession events → IsRun s events answers new → IsValid new

-- each committed row of a valid state meets each check of its table
abbrev pub CommittedRowsMeetChecks : Type 0
CommittedRowsMeetChecks = (s : State) → IsValid s → AllByRecursion (MeetsChecks s.catalog) s.rows

-- each value of a row fits the type of its column
abbrev pub HasFittingValues : List TableDef → Row → Type 0
HasFittingValues catalog row =
    IsSomeAnd (table_named catalog row.name.table) (λ table. FitColumns table.columns (values_of table row))

-- each value of each committed row of a valid state fits the type of its column
abbrev pub CommittedValuesFit : Type 0
CommittedValuesFit = (s : State) → IsValid s → AllByRecursion (HasFittingValues s.catalog) s.rows

-- after any events of sessions, from the empty state, each committed row meets each check of its table
abbrev pub EveryRunIsSafe : Type 0
EveryRunIsSafe = (events : List Event) (answers : List Reply) (new : State)
    → AllByRecursion HasSession events → IsRun empty events answers new
    → AllByRecursion (MeetsChecks new.catalog) new.rows

-- REFUSALS AND FAILURES

-- a refused statement leaves the state equal, so it takes no id either
abbrev pub RefusedChangesNothing : Type 0
RefusedChangesNothing = (s : State) (session : ℕ) (asked : Statement) (r : Refusal)
    → (step s session asked).0 ≡ reply.Refused r → (step s session asked).1 ≡ s

-- the machine never runs out of memory, and no store refuses it
abbrev pub MachineNeverFails : Type 0
MachineNeverFails = (s : State) (session : ℕ) (asked : Statement) → failure_of (step s session asked).0 ≡ None

-- if an early refusal applies, the first of them is the reply, whatever memory there is
abbrev pub EarlyRefusalsStand : Type 0
EarlyRefusalsStand = (s : State) (session : ℕ) (asked : Statement) (answer : Reply) (new : State) (r : Refusal)
    → StepOrRefusal s session asked answer new → first_refusal (transition_of s session asked).early ≡ Some r
    → (answer ≡ reply.Refused r) × (new ≡ s)

-- the reply to COMMIT is the number of the session's reservations, in every state
abbrev pub CommitIsNeverRefused : Type 0
CommitIsNeverRefused =
    (s : State) (session : ℕ)
    → (step s session statement.Commit).0 ≡ reply.Committed (length (own session s.reservations))

-- WHAT A STATEMENT CHANGES

-- a query of what is committed
abbrev pub IsQuery : Statement → Type 0
IsQuery (statement.Select text) = Unit {0}
IsQuery (statement.ShowTable name) = Unit {0}
IsQuery _ = ⊥

-- a state shows exactly these tables and rows. They are the committed ones, and every query, whoever asks it, is
-- answered as in a state with these tables and rows in which nothing is open
pub record ShowsJust (s : State) (tables : List TableDef) (committed : List Row) : Type 0 where
  pub catalog : s.catalog ≡ tables
  pub rows : s.rows ≡ committed
  pub answers : (asker : ℕ) (query : Statement) → IsQuery query
      → (step s asker query).0 ≡ (step (opened tables committed) asker query).0

-- what a state shows after an UPDATE, by its plan: the plain values that it replaces; what it reserves shows nowhere
abbrev pub ShowsPlanned : State → List ℕ → Plan → State → Type 0
ShowsPlanned s table (plan.Reserve key changes) new = ShowsJust new s.catalog s.rows
ShowsPlanned s table (plan.Plain key values) new =
    ShowsJust new s.catalog (with_plain (row_name table key) values s.rows)

-- what a state shows after a statement that is accepted: after a CREATE TABLE, one table more; after a DROP TABLE,
-- neither the table nor its rows; after an ALTER TABLE, the altered table; after an INSERT, the row among the others;
-- after a DELETE, the row no longer; after a COMMIT, the changes of its session's reservations, added; after anything
-- else, as a ROLLBACK, what it showed before. ROLLBACK leaves open only the reservations of the other sessions, so no
-- COMMIT adds what it dropped
abbrev pub ShowsAfter : State → ℕ → Statement → State → Type 0
ShowsAfter s session (statement.Create text) new =
    (table : TableDef) × (definition_of text ≡ Some table) × ShowsJust new (with_table table s.catalog) s.rows
ShowsAfter s session (statement.Drop name) new =
    ShowsJust new (without_table name s.catalog) (without_rows_of name s.rows)
ShowsAfter s session (statement.Alter text) new =
    (table : TableDef) × (table_altered s text.table text.change ≡ Some table)
    × ShowsJust new (with_altered table s.catalog) s.rows
ShowsAfter s session (statement.Insert text) new =
    (row : Row) × (new_row s text ≡ Some row) × ShowsJust new s.catalog (with_row row s.rows)
ShowsAfter s session (statement.Update text) new =
    (asked : Plan) × (plan_of s text ≡ Some asked) × ShowsPlanned s text.table asked new
ShowsAfter s session (statement.Delete text) new =
    ShowsJust new s.catalog (without_row (named_by s.catalog text.table text.row) s.rows)
ShowsAfter s session statement.Commit new = ShowsJust new s.catalog (applied s.rows (own session s.reservations))
ShowsAfter s session statement.Rollback new =
    ShowsJust new s.catalog s.rows × (new.reservations ≡ others session s.reservations)
ShowsAfter s session asked new = ShowsJust new s.catalog s.rows

-- every statement of every session is answered from what is committed, and a refused one leaves it as it is
pub record SeesCommitsAlone (s : State) (session : ℕ) (asked : Statement) (answer : Reply) (new : State) : Type 0 where
  pub before : ShowsJust s s.catalog s.rows
  pub refused : IsTrue (is_refused answer) → new ≡ s
  pub accepted : is_refused answer ≡ false → ShowsAfter s session asked new

abbrev pub QueriesSeeCommitsAlone : Type 0
QueriesSeeCommitsAlone = (s : State) (session : ℕ) (asked : Statement) → let after =
    step s session asked in SeesCommitsAlone s session asked after.0 after.1

-- no step lowers the next id
abbrev pub IdsNeverFall : Type 0
IdsNeverFall = (s : State) (session : ℕ) (asked : Statement) → s.next_id ≤ (step s session asked).1.next_id

-- an event isn't a restart
abbrev pub IsNoRestart : Event → Type 0
IsNoRestart (event.Statement session asked) = Unit {0}
IsNoRestart event.Restart = ⊥

-- of two reservations of a run without a restart, the later one has the greater id, so no id is used twice
abbrev pub IdsAreUsedOnce : Type 0
IdsAreUsedOnce = (s : State) (events : List Event) (answers : List Reply) (new : State) (i k a b : ℕ)
    → AllByRecursion IsNoRestart events → IsRun s events answers new → i < k
    → slice_get answers i ≡ Some (reply.Reserved a) → slice_get answers k ≡ Some (reply.Reserved b) → a < b

-- ids show the order. Those of the open reservations rise in their order, from 1 on, and are below the next id. Of two
-- savepoints of a session, the earlier one has another name, and no greater id. No savepoint's id is above the next one
pub record AreIdsInOrder (s : State) : Type 0 where
  pub rise : (i k : ℕ) (a b : Reservation) → i < k → slice_get s.reservations i ≡ Some a
      → slice_get s.reservations k ≡ Some b → a.id < b.id
  pub taken : (i : ℕ) (r : Reservation) → slice_get s.reservations i ≡ Some r → (1 ≤ r.id) × (r.id < s.next_id)
  pub never_fall : (session i k : ℕ) (p q : Savepoint) → i < k
      → slice_get (own_savepoints session s.savepoints) i ≡ Some p
      → slice_get (own_savepoints session s.savepoints) k ≡ Some q → (p.id ≤ q.id) × (¬ (p.name ≡ q.name))
  pub made : (i : ℕ) (p : Savepoint) → slice_get s.savepoints i ≡ Some p → (1 ≤ p.id) × (p.id ≤ s.next_id)

-- in a valid state, ids show the order in which things were made
abbrev pub IdsTellTheOrder : Type 0
IdsTellTheOrder = (s : State) → IsValid s → AreIdsInOrder s

-- after a step from a valid state, the row of each open reservation exists, and so does its table
abbrev pub ReservationsKeepRows : Type 0
ReservationsKeepRows = (s : State) (session : ℕ) (asked : Statement) → IsValid s → IsSession session
    → let new =
    (step s session asked).1 in AllByRecursion
    (λ r. IsSome (row_named new.rows r.row) × IsSome (table_named new.catalog r.row.table)) new.reservations

-- WHAT A QUERY SHOWS

-- a step whose reply holds memory, as the lists and the text in the replies to queries do, leaves the state equal
abbrev pub ShownStays : Type 0
ShownStays = (s : State) (session : ℕ) (asked : Statement) (answer : Reply) (new : State)
    → StepOrRefusal s session asked answer new → IsTrue (holds_memory answer) → new ≡ s

-- SAVEPOINTS

-- going back to a savepoint right after it was made drops nothing: the state stays as it was then, and making the
-- savepoint changed only savepoints
abbrev pub BackAtOnceChangesNothing : Type 0
BackAtOnceChangesNothing = (s : State) (session : ℕ) (name : List ℕ) → IsValid s
    → let made = step s session (statement.Savepoint name) in made.0 ≡ reply.Savepoint name
    → (made.1 ≡ record s { savepoints = made.1.savepoints })
    × (step made.1 session (statement.RollbackTo name) ≡ (reply.RolledBackTo name 0, made.1))

-- an event makes no savepoint of this session and name
abbrev pub MakesNone : ℕ → List ℕ → Event → Type 0
MakesNone session name (event.Statement other asked) = other ≡ session → ¬ (asked ≡ statement.Savepoint name)
MakesNone session name event.Restart = Unit {0}

-- A session makes a savepoint. Then any events of any sessions happen: it may reserve, make other savepoints, and go
-- back to them. If the savepoint still exists and wasn't made again, going back to it leaves the session's reservations
-- as they were when it was made. The reservations of the others, and all else but savepoints, stay as they are.
abbrev pub BackLeavesWhatWas : Type 0
BackLeavesWhatWas =
    (s : State) (session : ℕ) (name : List ℕ) (events : List Event) (answers : List Reply) (later : State)
    → IsValid s → IsSession session → AllByRecursion HasSession events → AllByRecursion (MakesNone session name) events
    → let made = step s session (statement.Savepoint name) in made.0 ≡ reply.Savepoint name
    → IsRun made.1 events answers later → IsSome (savepoint_of session name later.savepoints)
    → let back =
    (step later session (statement.RollbackTo name)).1 in (own session back.reservations ≡ own session s.reservations)
    × (others session back.reservations ≡ others session later.reservations)
    × (back ≡ record later { reservations = back.reservations; savepoints = back.savepoints })

-- what would be granted would also be granted, with the same id, after a ROLLBACK TO of any session
abbrev pub BackRefusesNothing : Type 0
BackRefusesNothing = (s : State) (session other : ℕ) (name : List ℕ) (text : UpdateText) (id : ℕ)
    → (step s other (statement.Update text)).0 ≡ reply.Reserved id
    → (step (step s session (statement.RollbackTo name)).1 other (statement.Update text)).0 ≡ reply.Reserved id

-- two numbers are the bounds of a row's value. Whichever of the open reservations are applied, the value is from the
-- one to the other, and some choice gives it each of the two
pub record AreBounds (reservations : List Reservation) (row : Row) (value : List ℤ → ℤ) (low high : ℤ) : Type 0 where
  pub each : AllByRecursion
      (λ chosen. (low ≤ℤ value (row_after chosen row).amounts) × (value (row_after chosen row).amounts ≤ℤ high))
      (sublists reservations)
  pub reaches_low : (chosen : List Reservation) × Contains (sublists reservations) chosen
      × (value (row_after chosen row).amounts ≡ low)
  pub reaches_high : (chosen : List Reservation) × Contains (sublists reservations) chosen
      × (value (row_after chosen row).amounts ≡ high)

-- a column's line, among the RESERVABLE columns of these names: its scale, its committed amount, and the
-- bounds of its amount
abbrev pub IsColumnLine : List Reservation → Row → List (List ℕ) → Column → ColumnBounds → Type 0
IsColumnLine reservations row names column shown =
    (shown.column ≡ column.name) × (shown.scale ≡ scale_of column.kind)
    × (shown.value ≡ amount_of names row.amounts column.name)
    × AreBounds reservations row (λ amounts. amount_of names amounts column.name) shown.inf shown.sup

-- a check's line: its scale, its limits, and the bounds of its form, which are within them
abbrev pub IsCheckLine : List Reservation → Row → Check → CheckBounds → Type 0
IsCheckLine reservations row check shown =
    (shown.check ≡ check.name) × (shown.scale ≡ check.scale) × (shown.limits ≡ check.span)
    × AreBounds reservations row (form check.coeffs) shown.least shown.greatest
    × Holds check.span shown.least × Holds check.span shown.greatest

-- SHOW BOUNDS shows a line for each RESERVABLE column and each declared check of the row that it names
pub record IsShownBounds (s : State) (text : RowText) (columns : List ColumnBounds)
    (checks : List CheckBounds) : Type 0 where
  pub table : TableDef
  pub named : table_named s.catalog text.table ≡ Some table
  pub row : Row
  pub found : row_named s.rows (named_by s.catalog text.table text.row) ≡ Some row
  pub column_lines : AllZip (IsColumnLine s.reservations row (names_of (reservables table.columns)))
      (reservables table.columns) columns
  pub check_lines : AllZip (IsCheckLine s.reservations row) (declared_checks table) checks

-- in a valid state SHOW BOUNDS shows this
abbrev pub BoundsAreReached : Type 0
BoundsAreReached =
    (s : State) (session : ℕ) (text : RowText) (columns : List ColumnBounds) (checks : List CheckBounds) → IsValid s
    → (step s session (statement.ShowBounds text)).0 ≡ reply.Bounds columns checks → IsShownBounds s text columns checks

-- ENDS OF TRANSACTIONS

-- the ends of two sessions' transactions, commits or rollbacks, lead to one state in either order
abbrev pub TransactionsCommute : Type 0
TransactionsCommute =
    (s : State) (a b : ℕ) (x y : End) → ¬ (a ≡ b) → after_end (after_end s a x) b y ≡ after_end (after_end s b y) a x

-- if transactions are committed or rolled back, in any order, the state is valid after each of the ends
abbrev pub AnyOrderOfEnds : Type 0
AnyOrderOfEnds = (s : State) (ends : List (ℕ × End)) (n : ℕ) → IsValid s → IsValid (after_ends s (take n ends))

-- a plan leaves the state that the machine's steps leave: one COMMIT or ROLLBACK for each of its entries
abbrev pub SettledIsTheRun : Type 0
SettledIsTheRun = (s : State) (plan : List (ℕ × End)) → settled plan s ≡ after_ends s plan

-- the state is valid after any number of a plan's first entries
abbrev pub SettledStaysValid : Type 0
SettledStaysValid = (s : State) (plan : List (ℕ × End)) (n : ℕ) → IsValid s → IsValid (settled (take n plan) s)

-- two plans that end the same sessions' transactions in the same way leave equal states, whatever their order
abbrev pub SettledInAnyOrder : Type 0
SettledInAnyOrder =
    (s : State) (plan other : List (ℕ × End)) → ((session : ℕ) → end_of plan session ≡ end_of other session)
    → settled plan s ≡ settled other s

-- COMMITS THAT ARE HELD BACK

-- in a valid state, a statement that may be served while another session's COMMIT is held back has the same reply after
-- that COMMIT. Both orders lead to one state
abbrev pub PassesCommits : Type 0
PassesCommits =
    (s : State) (session other : ℕ) (asked : Statement) → IsValid s → ¬ (session ≡ other) → passes s other asked ≡ true
    → step (step s session statement.Commit).1 other asked
    ≡ ((step s other asked).0, (step (step s other asked).1 session statement.Commit).1)

-- from a valid state, however the COMMITs that are held back end, the replies and the state are those of a run in the
-- order in which everything was asked
abbrev pub HeldCommitsMayComeLast : Type 0
HeldCommitsMayComeLast = (s : State) (waiting : List Waiting) (now : State) (outcome : Outcome)
    → IsValid s → IsHeldRun s waiting now
    → IsRun s (events_of waiting) (answers_by outcome waiting) (ended_by outcome waiting now)

-- THE GRANT RULE

-- the table, the row and the reservation that an UPDATE asks for
abbrev pub IsAsked : State → ℕ → UpdateText → TableDef → Row → Reservation → Type 0
IsAsked s session text table row r =
    (table_named s.catalog text.table ≡ Some table) × (reservation_of s session text ≡ Some r)
    × (row_named s.rows r.row ≡ Some row)

-- a row with the chosen reservations and a new one applied meets each check of its table
abbrev pub MeetsWith : TableDef → Row → Reservation → List Reservation → Type 0
MeetsWith table row new chosen =
    AllByRecursion (λ check. Meets check (row_after (chosen ++ new ∷ []) row).amounts) table.checks

-- a granted reservation: whichever of the open reservations are applied with it, its row meets each check
abbrev pub GrantedInEveryChoice : Type 0
GrantedInEveryChoice = (s : State) (session : ℕ) (text : UpdateText) (id : ℕ)
    → (step s session (statement.Update text)).0 ≡ reply.Reserved id
    → (table : TableDef) × (row : Row) × (new : Reservation) × IsAsked s session text table row new
    × AllByRecursion (MeetsWith table row new) (sublists s.reservations)

-- the row does so without any earlier reservation of its own session too: an increment that isn't committed can't be
-- spent, not even by the session that made it
abbrev pub OwnIncrementNotSpent : Type 0
OwnIncrementNotSpent = (s : State) (session : ℕ) (text : UpdateText) (id : ℕ)
    → (step s session (statement.Update text)).0 ≡ reply.Reserved id
    → (table : TableDef) × (row : Row) × (new : Reservation) × IsAsked s session text table row new
    × AllByRecursion (MeetsWith table row new) (sublists (others session s.reservations))

-- a violation that can happen. With the new reservation, some choice of the open ones gives the form of the named check
-- the named worst value. This is past the named limit; both are in units of the check's scale
abbrev pub IsReachedViolation : TableDef → Row → List Reservation → Reservation → Violation → Type 0
IsReachedViolation table row reservations new violation =
    (check : Check) × Contains table.checks check × (violation.check ≡ check.name) × (violation.scale ≡ check.scale)
    × IsBeyond check.span violation.side violation.worst violation.limit
    × ((chosen : List Reservation) × Contains (sublists reservations) chosen
    × (form check.coeffs (row_after (chosen ++ new ∷ []) row).amounts ≡ violation.worst))

-- a reservation that a check refuses: some choice of the open reservations with the new one breaks that check
abbrev pub RefusedByAChoice : Type 0
RefusedByAChoice = (s : State) (session : ℕ) (text : UpdateText) (violation : Violation)
    → (step s session (statement.Update text)).0 ≡ reply.Refused (refusal.Check violation)
    → (table : TableDef) × (row : Row) × (new : Reservation) × IsAsked s session text table row new
    × IsReachedViolation table row s.reservations new violation

-- both bounds of a check, moved by what changes add to its form, are within its limits
abbrev pub StaysWithin : Row → List Reservation → List ℤ → Check → Type 0
StaysWithin row reservations changes check =
    let open_ones = map (changes_to row) reservations in
    Holds check.span (least check.coeffs row.amounts open_ones +ℤ form check.coeffs changes)
    × Holds check.span (greatest check.coeffs row.amounts open_ones +ℤ form check.coeffs changes)

-- the bounds decide: a granted reservation keeps those of every check of its table within the limits, and one that a
-- check refuses doesn't
abbrev pub BoundsDecideGrants : Type 0
BoundsDecideGrants =
    (s : State) (session : ℕ) (text : UpdateText) (table : TableDef) (row : Row) (new : Reservation) → IsValid s
    → IsAsked s session text table row new
    → ((id : ℕ) → (step s session (statement.Update text)).0 ≡ reply.Reserved id
    → AllByRecursion (StaysWithin row s.reservations (deltas new.changes)) table.checks)
    × ((violation : Violation) → (step s session (statement.Update text)).0 ≡ reply.Refused (refusal.Check violation)
    → ¬ (AllByRecursion (StaysWithin row s.reservations (deltas new.changes)) table.checks))

-- THE LIMIT OF A ROW

-- why a session can't reserve changes of a row, if the row's limit is left out
abbrev pub refusals_without_limit : State → ℕ → List ℕ → Value → List (Option ℤ) → List (Option Refusal)
refusals_without_limit s session table key changes =
    refuse_if (is_none (row_named s.rows (row_name table key))) refusal.NoSuchRow
    ∷ grant_refusal session (open_in s)
    ∷ option_map refusal.Check (violation_of s (reservation_from s session (row_name table key) changes))
    ∷ []

-- if a row may have all the reservations that so many sessions may hold, its limit refuses nothing that theirs doesn't
abbrev pub SessionsFillFirst : Type 0
SessionsFillFirst =
    (s : State) (sessions session : ℕ) (table : List ℕ) (key : Value) (changes : List (Option ℤ)) → IsValid s
    → MAX_RESERVATIONS * sessions ≤ MAX_OPEN → AllByRecursion (λ r. r.session ≤ sessions) s.reservations → 1 ≤ session
    → session ≤ sessions
    → first_refusal (update_refusals s session table (plan.Reserve key changes))
    ≡ first_refusal (refusals_without_limit s session table key changes)
