-- Believed: the output of a script.
use Rattle.std.specs.Prelude.{◌≡◌, ◌⊎◌, ℕ, ◌==◌, ◌≤◌, Option, IsSomeAnd, List, [], ◌∷◌, ◌++◌, length, map, filter, slice_get, slice_set}
use Rattle.std.specs.Io.KnownBytes.{Appends}
use Rattle.std.specs.List.{AllByRecursion}
use Rattle.sqlite.specs.Held.{state}
use Rattle.sqlite_trees.specs.declared.store.Store.{Ghosts}
use Rattle.escrow_sql.specs.declared.fault.ParseFault.{ParseFault}
use Rattle.escrow_statement.specs.declared.statement.Statement.{Statement}
use Rattle.escrow_statement.specs.declared.statement.Request.TheVariants as request
use Rattle.escrow_sql.specs.Parser.{Asks, IsFaultIn}
use Rattle.sqlite.specs.State.{HasCleanDisk}
use Rattle.escrow_machine.specs.declared.reply.Reply.{Reply}
use Rattle.escrow_machine.specs.declared.reply.Reply.TheVariants as reply
use Rattle.escrow_core.specs.Database.{Database}
use Rattle.escrow_machine.specs.State.{State}
use Rattle.escrow_machine.specs.Step as machine
use Rattle.escrow_machine.specs.Step.{StepOrRefusal}
use Rattle.escrow_machine.specs.declared.event.Event.TheVariants as event
use Rattle.escrow_reply.specs.Text.{rendered, rendered_whole}
use Rattle.escrow_stats.specs.Tally.{tally_of}
use Rattle.escrow_stats.specs.Text.{rendered_totals}
use Rattle.escrow_script.specs.declared.fault.ServeFault.{ServeFault}
use Rattle.escrow_script.specs.declared.limits.TheConstants.{MAX_SCRIPT}
use Rattle.escrow_script.specs.Written.{fault_refusal, no_line_text, Leaves}
use Rattle.escrow_script.specs.Line.{Reading, nothing, join, restart, statement, no_line, database_name, Reads, lines_of}

-- the state of a database, as contracts see it
abbrev pub state_in : {S : Type 0} → Database S → State
state_in database = database.state

-- the states of databases, by place
abbrev pub states_of : {S : Type 0} → List (Database S) → List State
states_of databases = map state_in databases

-- the disk of each database's store returned what was written
abbrev pub HaveCleanDisks : {S : Type 0} → Ghosts S → List (Database S) → Type 0
HaveCleanDisks g databases = AllByRecursion (λ database. HasCleanDisk (state g database.store)) databases

-- a text is a statement, and its reply is the machine's step or its refusal
abbrev pub IsServed : State → ℕ → List ℕ → Reply → State → Type 0
IsServed s session text answer new =
    (asked : Statement) × Asks text (request.Statement asked) × StepOrRefusal s session asked answer new

-- A text is no statement, and is refused with the column of its first fault. Or it is refused for memory, as any text
-- may be, since reading it takes memory. Nothing changes.
abbrev pub IsRefused : State → List ℕ → Reply → State → Type 0
IsRefused s text answer new =
    (f : ParseFault) × IsFaultIn text f × (answer ≡ reply.Refused (fault_refusal f)) × (new ≡ s)

-- the reply to a text of a session, and the state after it. If the text is a statement, it is the machine's step, or
-- what may happen instead. If the text asks nothing, it is 11 with the column of its first fault. It is 51 if memory to
-- read the text is refused
abbrev pub Answers : State → ℕ → List ℕ → Reply → State → Type 0
Answers s session text answer new = IsServed s session text answer new ⊎ IsRefused s text answer new

-- WHAT A SCRIPT'S LINES DO

-- A database in a script: its state, and the replies to its sessions, in order, each with its session, since the script
-- began or the database was last restarted.
pub record Sitting : Type 0 where
  pub state : State
  pub answered : List (ℕ × Reply)

-- a database as the script finds it
abbrev pub begun : State → Sitting
begun s = record { state = s; answered = [] }

-- the replies to one session
abbrev pub replies_to : ℕ → List (ℕ × Reply) → List Reply
replies_to session answered = map (λ given. given.1) (filter (λ given. given.0 == session) answered)

-- after a restart of the database, earlier replies no longer count
abbrev pub answered_after : Reply → List (ℕ × Reply) → List (ℕ × Reply)
answered_after reply.Restarted answered = []
answered_after _ answered = answered

-- a restart prints its reply
abbrev pub Restarts : List ℕ → Sitting → List ℕ → Sitting → Type 0
Restarts name sitting out new =
    (answer : Reply) × (after : State) × machine.IsServed sitting.state event.Restart answer after
    × (out ≡ rendered_whole name answer)
    × (new ≡ record { state = after; answered = answered_after answer sitting.answered })

-- the text of a session prints its reply, which is added to those of the session
abbrev pub PrintsAnswer : List ℕ → Sitting → ℕ → List ℕ → List ℕ → Sitting → Type 0
PrintsAnswer name sitting session text out new =
    (answer : Reply) × (after : State) × Answers sitting.state session text answer after
    × (out ≡ rendered name session answer)
    × (new ≡ record { state = after; answered = sitting.answered ++ (session, answer) ∷ [] })

-- the text of a session asks for totals: it prints those of the replies to its session, and nothing changes
abbrev pub PrintsTotals : List ℕ → Sitting → ℕ → List ℕ → List ℕ → Sitting → Type 0
PrintsTotals name sitting session text out new =
    Asks text request.Statistics × (out ≡ rendered_totals name session (tally_of (replies_to session sitting.answered)))
    × (new ≡ sitting)

-- what the text of a session prints
abbrev pub PrintsText : List ℕ → Sitting → ℕ → List ℕ → List ℕ → Sitting → Type 0
PrintsText name sitting session text out new =
    PrintsAnswer name sitting session text out new ⊎ PrintsTotals name sitting session text out new

-- what a line writes, and the sittings of the databases after it: a restart and a statement affect the database at
-- their place, and the others stay as they are
abbrev pub ServesLine : List Sitting → Reading → List ℕ → List Sitting → Type 0
ServesLine sittings nothing out new = (out ≡ []) × (new ≡ sittings)
ServesLine sittings join out new = (out ≡ []) × (new ≡ sittings)
ServesLine sittings no_line out new = (out ≡ no_line_text) × (new ≡ sittings)
ServesLine sittings (restart place) out new =
    IsSomeAnd (slice_get sittings place)
    (λ sitting. (after : Sitting) × Restarts (database_name place) sitting out after
    × (new ≡ slice_set sittings place after))
ServesLine sittings (statement place session text) out new =
    IsSomeAnd (slice_get sittings place)
    (λ sitting. (after : Sitting) × PrintsText (database_name place) sitting session text out after
    × (new ≡ slice_set sittings place after))

-- what the bytes of a line write, and the sittings after it
abbrev pub ServesBytes : ℕ → List Sitting → List ℕ → List ℕ → List Sitting → Type 0
ServesBytes sessions sittings bytes out new =
    (reading : Reading) × Reads (length sittings) sessions bytes reading × ServesLine sittings reading out new

-- what lines write, one after another, and the sittings after them
abbrev pub ServesLines : ℕ → List Sitting → List (List ℕ) → List ℕ → List Sitting → Type 0
ServesLines sessions sittings [] out new = (out ≡ []) × (new ≡ sittings)
ServesLines sessions sittings (line ∷ lines) out new =
    (first rest : List ℕ) × (mid : List Sitting) × ServesBytes sessions sittings line first mid
    × ServesLines sessions mid lines rest new × (out ≡ first ++ rest)

-- what a script's first lines write from the databases' states, and the states after them
abbrev pub WritesLines : ℕ → List State → List (List ℕ) → List ℕ → List State → Type 0
WritesLines sessions states lines out new =
    (end : List Sitting) × ServesLines sessions (map begun states) lines out end
    × (new ≡ map (λ sitting. sitting.state) end)

-- THE OUTPUT OF A SCRIPT: what it writes from the databases' states, with no replies to any session yet, and the states
-- after it
abbrev pub Output : ℕ → List ℕ → List State → List ℕ → List State → Type 0
Output sessions script states out new = WritesLines sessions states (lines_of script) out new

-- all of the lines were served, however many they are, and their output was written
pub record ServesAll (sessions : ℕ) (script : List ℕ) (states new : List State)
    (old_bytes new_bytes : Option (List ℕ)) : Type 0 where
  pub out : List ℕ
  pub output : Output sessions script states out new
  pub appends : Appends old_bytes new_bytes out

-- the whole script was served: it is no longer than a script may be, and its output was written
pub record ServesWhole (sessions : ℕ) (script : List ℕ) (states new : List State)
    (old_bytes new_bytes : Option (List ℕ)) : Type 0 where
  pub limit : length script ≤ MAX_SCRIPT
  pub out : List ℕ
  pub output : Output sessions script states out new
  pub appends : Appends old_bytes new_bytes out

-- What a fault leaves: some lines of the script from its first on were served, and a prefix of their
-- output was written.
pub record StopsWithin (sessions : ℕ) (fault : ServeFault) (script : List ℕ) (states new : List State)
    (old_bytes new_bytes : Option (List ℕ)) : Type 0 where
  pub served : List (List ℕ)
  pub unserved : List (List ℕ)
  pub written : List ℕ
  pub unwritten : List ℕ
  pub lines : lines_of script ≡ served ++ unserved
  pub serves : WritesLines sessions states served (written ++ unwritten) new
  pub appends : Appends old_bytes new_bytes written
  pub leaves : Leaves fault unwritten
