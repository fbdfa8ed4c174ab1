-- Believed: the statements of the laws in src/laws.rt.
use Rattle.std.specs.Prelude.{◌≡◌, ◌≢◌, ℕ, ◌<◌, ◌≤◌, Some, None, IsSome, List, [], ◌∷◌, ◌++◌, length, filter}
use Rattle.std.specs.List.{AllByRecursion}
use Rattle.escrow_num.specs.declared.reservation.Reservation.{Reservation}
use Rattle.escrow_num.specs.declared.reservation.Savepoint.{Savepoint}
use Rattle.escrow_journal.specs.declared.journal.TheConstants.Journal.{MAX_RESERVATIONS, MAX_SAVEPOINTS}
use Rattle.escrow_journal.specs.Journal.{Journal, IsJournal, pushed, marked, later, cut_journal}
use Rattle.escrow_journal.specs.Savepoints.{is_named, savepoint_of}

-- all reservations of the journal came before an id
abbrev pub CameBefore : ℕ → Journal → Type 0
CameBefore id log = AllByRecursion (λ r. r.id < id) log.reservations

-- reservations are of the journal's session, and have this id or a later one
abbrev pub CameSince : ℕ → Journal → List Reservation → Type 0
CameSince id log reservations = AllByRecursion (λ r. (r.session ≡ log.session) × (id ≤ r.id)) reservations

-- the journal with more reservations, added one after another
abbrev pub all_pushed : List Reservation → Journal → Journal
all_pushed [] log = log
all_pushed (r ∷ rest) log = all_pushed rest (pushed r log)

-- the savepoints of a name that a journal has
abbrev pub savepoints_named : List ℕ → Journal → List Savepoint
savepoints_named name log = filter (is_named log.session name) log.savepoints

-- going back to a savepoint right after it was made drops nothing, and leaves the journal as it is
abbrev pub GoingBackAtOnceDropsNothing : Type 0
GoingBackAtOnceDropsNothing = (log : Journal) (name : List ℕ) (id : ℕ) → CameBefore id log
    → (later name (marked name id log) ≡ Some []) × (cut_journal name (marked name id log) ≡ marked name id log)

-- going back drops exactly the reservations that were added after the savepoint was made, and leaves the journal as it
-- was then
abbrev pub GoingBackUndoesWhatCame : Type 0
GoingBackUndoesWhatCame =
    (log : Journal) (name : List ℕ) (id : ℕ) (more : List Reservation) → CameBefore id log → CameSince id log more
    → (later name (all_pushed more (marked name id log)) ≡ Some more)
    × (cut_journal name (all_pushed more (marked name id log)) ≡ marked name id log)

-- going back drops a savepoint of another name that was made later
abbrev pub GoingBackDropsLaterSavepoints : Type 0
GoingBackDropsLaterSavepoints =
    (log : Journal) (name other : List ℕ) (id later_id : ℕ) (more : List Reservation) → CameBefore id log
    → CameSince id log more
    → (other ≢ name) → savepoint_of log.session other log.savepoints ≡ None
    → cut_journal name (marked other later_id (all_pushed more (marked name id log))) ≡ marked name id log

-- after going back to a savepoint, the savepoint still exists, and nothing comes after it
abbrev pub GoingBackAgainDropsNothing : Type 0
GoingBackAgainDropsNothing =
    (log : Journal) (name : List ℕ) (dropped : List Reservation) → later name log ≡ Some dropped
    → later name (cut_journal name log) ≡ Some []

-- the reservations that going back leaves and those that it drops are together those of the journal, each once and in
-- order
abbrev pub NothingIsLost : Type 0
NothingIsLost =
    (log : Journal) (name : List ℕ) (dropped : List Reservation) → IsJournal log → later name log ≡ Some dropped
    → (cut_journal name log).reservations ++ dropped ≡ log.reservations

-- of two savepoints of one name only the second exists, and nothing shows that there was a first
abbrev pub TheLastOfANameStands : Type 0
TheLastOfANameStands = (log : Journal) (name : List ℕ) (first second : ℕ)
    → (marked name second (marked name first log) ≡ marked name second log)
    × (savepoints_named name (marked name second log) ≡ (record { session = log.session; name = name; id = second })
    ∷ [])

-- a savepoint whose name already exists takes no further place
abbrev pub ANameTakesOnePlace : Type 0
ANameTakesOnePlace = (log : Journal) (name : List ℕ) (id : ℕ) → IsSome (savepoint_of log.session name log.savepoints)
    → length (marked name id log).savepoints ≤ length log.savepoints

-- a session has at most 256 open reservations and at most 64 savepoints
abbrev pub LimitsOfASession : Type 0
LimitsOfASession = (MAX_RESERVATIONS ≡ 256) × (MAX_SAVEPOINTS ≡ 64)
