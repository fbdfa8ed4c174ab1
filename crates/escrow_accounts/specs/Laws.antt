-- Believed: the statements of the laws in src/laws.rt.
use Rattle.std.specs.Prelude.{◌≡◌, ℕ, ◌+◌, ◌≤◌, ◌==◌, ℤ, ◌+ℤ◌, pos, Bool, List, [], ◌∷◌, ◌++◌, length, map}
use Rattle.std.specs.List.{AllByRecursion}
use Rattle.escrow_num.specs.Session.{IsSession}
use Rattle.escrow_num.specs.declared.reservation.Reservation.{Reservation}
use Rattle.escrow_num.specs.declared.value.RowName.{RowName}
use Rattle.escrow_machine.specs.declared.event.Event.{Event}
use Rattle.escrow_machine.specs.declared.reply.Reply.{Reply}
use Rattle.escrow_machine.specs.declared.reply.Reply.TheVariants as reply
use Rattle.escrow_machine.specs.Event.{HasSession}
use Rattle.escrow_machine.specs.Laws.{IsNoRestart}
use Rattle.escrow_machine.specs.State.{State, empty}
use Rattle.escrow_machine.specs.Step.{IsRun}
use Rattle.escrow_machine.specs.Valid.{IsValid}
use Rattle.escrow_transcript.specs.declared.entry.Entry.{Entry}
use Rattle.escrow_transcript.specs.Laws.{event_of}
use Rattle.escrow_transcript.specs.Legal.{AreSteps}
use Rattle.escrow_accounts.specs.Book.{Move, put, taken, granted, committed, released, book, total, worth, balance, granted_in, committed_in, released_in, number}
use Rattle.escrow_accounts.specs.Example.{row_of, reservation}

-- a run of sessions from a valid state
pub record IsGoodRun (s : State) (events : List Event) (answers : List Reply) (new : State) : Type 0 where
  pub valid : IsValid s
  pub sessions : AllByRecursion HasSession events
  pub run : IsRun s events answers new

-- EVERY UNIT: in each column, the amounts at the end are those at the start and the balance of the book
abbrev pub UnitsAreAccountedFor : Type 0
UnitsAreAccountedFor =
    (s : State) (events : List Event) (answers : List Reply) (new : State) → IsGoodRun s events answers new
    → (chosen : RowName → Bool) (column : ℕ)
    → total chosen column new.rows ≡ total chosen column s.rows +ℤ balance chosen column (book s events answers)

-- if the sum holds without a move of the book, that move adds nothing
abbrev pub NoMoveIsLeftOut : Type 0
NoMoveIsLeftOut =
    (s : State) (events : List Event) (answers : List Reply) (new : State) → IsGoodRun s events answers new
    → (chosen : RowName → Bool) (column : ℕ) (front rest : List Move) (m : Move)
    → book s events answers ≡ front ++ m ∷ rest
    → total chosen column new.rows ≡ total chosen column s.rows +ℤ balance chosen column (front ++ rest)
    → worth chosen column m ≡ pos 0

-- EVERY RESERVATION: of each kind, as many were open or are granted as are committed, released, or open at the end
abbrev pub ReservationsEndOnce : Type 0
ReservationsEndOnce =
    (s : State) (events : List Event) (answers : List Reply) (new : State) → IsGoodRun s events answers new
    → (kind : Reservation → Bool) → let moves = book s events answers in
    number kind s.reservations + number kind (granted_in moves)
    ≡ number kind (committed_in moves) + number kind (released_in moves) + number kind new.reservations

-- a reservation has this id
abbrev pub has_id : ℕ → Reservation → Bool
has_id id r = r.id == id

-- without a restart, at most one reservation of an id is committed, released, or open at the end
abbrev pub ChangesAreAppliedOnce : Type 0
ChangesAreAppliedOnce =
    (s : State) (events : List Event) (answers : List Reply) (new : State) → IsGoodRun s events answers new
    → AllByRecursion IsNoRestart events → (id : ℕ) → let moves = book s events answers in
    number (has_id id) (committed_in moves) + number (has_id id) (released_in moves) + number
    (has_id id) new.reservations ≤ 1

-- THE REPLIES

-- the ids of the reservations that replies grant
abbrev pub ids_in : List Reply → List ℕ
ids_in [] = []
ids_in (reply.Reserved id ∷ answers) = id ∷ ids_in answers
ids_in (answer ∷ answers) = ids_in answers

-- how many reservations replies commit
abbrev pub commits_in : List Reply → ℕ
commits_in [] = 0
commits_in (reply.Committed count ∷ answers) = count + commits_in answers
commits_in (answer ∷ answers) = commits_in answers

-- the replies tell which reservations are granted, and how many are committed
pub record AreTold (answers : List Reply) (moves : List Move) : Type 0 where
  pub ids : ids_in answers ≡ map (λ r. r.id) (granted_in moves)
  pub commits : commits_in answers ≡ length (committed_in moves)

abbrev pub RepliesTellTheBook : Type 0
RepliesTellTheBook =
    (s : State) (events : List Event) (answers : List Reply) (new : State) → IsRun s events answers new
    → AreTold answers (book s events answers)

-- TRANSCRIPTS

-- the book of a transcript that begins in a state
abbrev pub book_of : State → List Entry → List Move
book_of s entries = book s (map event_of entries) (map (λ e. e.reply) entries)

-- entries of sessions, which are the machine's steps from a valid state. So are those of a legal transcript, and all
-- entries of a database that a close finds to be one run
pub record AreGoodSteps (s : State) (entries : List Entry) (end : State) : Type 0 where
  pub valid : IsValid s
  pub sessions : AllByRecursion (λ e. IsSession e.session) entries
  pub steps : AreSteps s entries end

-- in each column, the amounts at the end are those at the beginning and the balance of the book. Each reservation that
-- was open or is granted is committed or released, or is open at the end, once
pub record IsAccountedFor (s : State) (entries : List Entry) (end : State) : Type 0 where
  pub units : (chosen : RowName → Bool) (column : ℕ)
      → total chosen column end.rows ≡ total chosen column s.rows +ℤ balance chosen column (book_of s entries)
  pub reservations : (kind : Reservation → Bool) → let moves = book_of s entries in
      number kind s.reservations + number kind (granted_in moves)
      ≡ number kind (committed_in moves) + number kind (released_in moves) + number kind end.reservations
  pub once : (id : ℕ) → let moves = book_of s entries in
      number (has_id id) (committed_in moves) + number (has_id id) (released_in moves) + number
      (has_id id) end.reservations ≤ 1

abbrev pub TranscriptsAreAccountedFor : Type 0
TranscriptsAreAccountedFor =
    (s : State) (entries : List Entry) (end : State) → AreGoodSteps s entries end → IsAccountedFor s entries end

-- A RUN with a move of each kind: a row comes with 5, a reservation of 3 is committed, one of 1 is rolled back, and the
-- row goes with 8
abbrev pub EachMoveComes : Type 0
EachMoveComes =
    (events : List Event) × (answers : List Reply) × (new : State) × AllByRecursion HasSession events
    × IsRun empty events answers new
    × (book empty events answers
    ≡ put (row_of (pos 5)) ∷ granted (reservation 1 (pos 3)) ∷ committed (reservation 1 (pos 3))
    ∷ granted (reservation 2 (pos 1)) ∷ released (reservation 2 (pos 1)) ∷ taken (row_of (pos 8)) ∷ [])
