-- Believed: the statements of the laws in src/laws.rt.
use Rattle.std.specs.Prelude.{◌≡◌, ◌⊎◌, ℕ, ◌==◌, Bool, true, false, ◌&&◌, Option, None, List, [], ◌∷◌, ◌++◌, filter}
use Rattle.std.specs.List.{AllByRecursion, list_any}
use Rattle.escrow_num.specs.declared.row.Row.{Row}
use Rattle.escrow_num.specs.declared.reservation.Reservation.{Reservation}
use Rattle.escrow_num.specs.declared.value.RowName.{RowName}
use Rattle.escrow_num.specs.Order.{same_row}
use Rattle.escrow_schema.specs.declared.table.TableDef.{TableDef}
use Rattle.escrow_schema.specs.Rows.{row_named, applied, MeetsChecks}
use Rattle.escrow_journal.specs.Reservations.{own}
use Rattle.escrow_machine.specs.Asked.{violation_of}
use Rattle.escrow_machine.specs.State.{opened}
use Rattle.escrow_machine.specs.Valid.{IsValid}
use Rattle.escrow_protocol.specs.Protocol.{all_done, running, holding, Moment, Protocol, installed, is_committed, may_commit, transaction_of, amounts_in}
use Rattle.escrow_protocol.specs.Step.{Event, grant, write, pass, mark, back, fail, commit, abort, hold, take, release, tell, drop, fold, insert, delete, take_over, serve, stale, crash, IsRun, after_fold}
use Rattle.escrow_protocol.specs.Wrong.{Rule, IsWrongRun}

-- a state to which events lead, from tables and rows of which a database may consist
pub record IsReached (catalog : List TableDef) (rows : List Row) (s : Protocol) : Type 0 where
  pub valid : IsValid (opened catalog rows)
  pub events : List Event
  pub run : IsRun (installed catalog rows) events s

-- the rows with the journal are the first rows after each change of each committed transaction, once, in the order of
-- the commits
abbrev pub EachChangeOnce : Type 0
EachChangeOnce =
    (catalog : List TableDef) (rows : List Row) (s : Protocol) → IsReached catalog rows s
    → amounts_in s.now ≡ all_done rows s.now.history

-- they are the rows of the last owner's server, with those of its open reservations that PostgreSQL has committed
abbrev pub ServerKnows : Type 0
ServerKnows = (catalog : List TableDef) (rows : List Row) (s : Protocol) → IsReached catalog rows s
    → amounts_in s.now ≡ applied s.now.server.rows
    (filter (λ r. is_committed (transaction_of s.now r)) s.now.server.reservations)

-- a transaction that may still commit, or a hold, is of the last owner: its notes are all that the server holds of its
-- session
abbrev pub WhatIsOpenIsReserved : Type 0
WhatIsOpenIsReserved =
    (catalog : List TableDef) (rows : List Row) (s : Protocol) → IsReached catalog rows s
    → (epoch session : ℕ) (notes : List Reservation)
    → (s.now.transactions epoch session ≡ running notes) ⊎ (s.now.transactions epoch session ≡ holding notes)
    → (epoch ≡ s.now.served) × (own session s.now.server.reservations ≡ notes)

-- the state of the last owner's server is a valid one of the machine: each choice of what is open is legal
abbrev pub ServerIsValid : Type 0
ServerIsValid =
    (catalog : List TableDef) (rows : List Row) (s : Protocol) → IsReached catalog rows s → IsValid s.now.server

-- no check refuses what is open, if a server with the same rows reserves it again in this order. It doesn't matter
-- which of those before it are reserved
abbrev pub WhatIsOpenIsGrantedAgain : Type 0
WhatIsOpenIsGrantedAgain = (catalog : List TableDef) (rows : List Row) (s : Protocol) → IsReached catalog rows s
    → (first rest : List Reservation) (r : Reservation) (kept : Reservation → Bool)
    → s.now.server.reservations ≡ first ++ r ∷ rest
    → violation_of (record s.now.server { reservations = filter kept first }) r ≡ None

-- what is open of the chosen sessions, and may still commit
abbrev pub may_go : (ℕ → Bool) → Moment → List Reservation
may_go chosen m = filter (λ r. chosen r.session && may_commit (transaction_of m r)) m.server.reservations

-- whichever of the transactions and holds that may still commit are committed, the rows with the journal meet all
-- checks
abbrev pub NoCheckBreaks : Type 0
NoCheckBreaks =
    (catalog : List TableDef) (rows : List Row) (s : Protocol) → IsReached catalog rows s → (chosen : ℕ → Bool)
    → AllByRecursion (MeetsChecks catalog) (applied (amounts_in s.now) (may_go chosen s.now))

-- the rows by themselves meet all checks, and do after a fold of any key: no check refuses it
abbrev pub NoFoldIsRefused : Type 0
NoFoldIsRefused =
    (catalog : List TableDef) (rows : List Row) (s : Protocol) → IsReached catalog rows s → (key : RowName)
    → AllByRecursion (MeetsChecks catalog) s.now.rows × AllByRecursion (MeetsChecks catalog) (after_fold key s.now).rows

-- a load of a key folds it and reads its row. If nothing of the key is reserved, the row is what the last owner's
-- server has. So it may come later than `serve`, when the key is first asked for; and a row may be given up, and loaded
-- again
abbrev pub LoadsMayComeLater : Type 0
LoadsMayComeLater =
    (catalog : List TableDef) (rows : List Row) (s : Protocol) → IsReached catalog rows s → (key : RowName)
    → AllByRecursion (λ r. same_row key r.row ≡ false) s.now.server.reservations
    → row_named (after_fold key s.now).rows key ≡ row_named s.now.server.rows key

-- THE RULES

-- without any one of the rules there is a run after which a row breaks a check, by itself or with the journal
abbrev pub EachRuleIsNeeded : Type 0
EachRuleIsNeeded =
    (rule : Rule) → (catalog : List TableDef) × (rows : List Row) × (steps : List (Option Event)) × (s : Protocol)
    × IsValid (opened catalog rows) × IsWrongRun rule (installed catalog rows) steps s
    × ¬ (AllByRecursion (MeetsChecks catalog) s.now.rows × AllByRecursion (MeetsChecks catalog) (amounts_in s.now))

-- the kind of an event
abbrev pub kind : Event → ℕ
kind (grant session text r notes) = 0
kind (write epoch session notes r) = 1
kind (pass epoch session notes r) = 2
kind (mark session name) = 3
kind (back session name notes gone) = 4
kind (fail session name notes r) = 5
kind (commit epoch session notes) = 6
kind (abort epoch session) = 7
kind (hold epoch session notes) = 8
kind (take epoch session notes) = 9
kind (release epoch session notes) = 10
kind (tell session notes) = 11
kind (drop session) = 12
kind (fold key) = 13
kind (insert text row) = 14
kind (delete key) = 15
kind (take_over epoch) = 16
kind (serve ends) = 17
kind (stale epoch session r notes) = 18
kind (crash lost left older stay) = 19

-- there is a run with an event of each kind, so that no rule keeps one away
abbrev pub EachEventComes : Type 0
EachEventComes = (catalog : List TableDef) × (rows : List Row) × (events : List Event) × (s : Protocol)
    × IsValid (opened catalog rows) × IsRun (installed catalog rows) events s
    × AllByRecursion (λ n. list_any (λ event. kind event == n) events ≡ true)
    (0 ∷ 1 ∷ 2 ∷ 3 ∷ 4 ∷ 5 ∷ 6 ∷ 7 ∷ 8 ∷ 9 ∷ 10 ∷ 11 ∷ 12 ∷ 13 ∷ 14 ∷ 15 ∷ 16 ∷ 17 ∷ 18 ∷ 19 ∷ [])
