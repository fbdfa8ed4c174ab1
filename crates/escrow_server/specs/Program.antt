-- Believed: how the program ends.
use Rattle.std.specs.Prelude.{◌≡◌, ◌⊎◌, ℕ, Option, Some, None, Result, Ok, Err, List, [], ◌++◌, length, map, take, slice_get, replicate, codes}
use Rattle.std.specs.declared.io.ErrorKind.{ErrorKind}
use Rattle.std.specs.declared.io.ErrorKind.TheVariants as error
use Rattle.std.specs.List.{flat_map}
use Rattle.std.specs.Io.KnownBytes.{Appends, IsAtEnd, Keeps}
use Rattle.sqlite.specs.Effect.{Database}
use Rattle.escrow_cells.specs.Tables.{no_schema}
use Rattle.escrow_recover.specs.Holds.{Holds}
use Rattle.escrow_recover.specs.Migrated.{HoldsInFormat1}
use Rattle.escrow_num.specs.declared.session.TheConstants.Session.{MAX_SHARED}
use Rattle.escrow_machine.specs.State.{State, empty, opened}
use Rattle.escrow_server.specs.declared.args.Mode.{Mode}
use Rattle.escrow_server.specs.declared.args.Mode.TheVariants as mode
use Rattle.escrow_server.specs.Files.{file_of}
use Rattle.escrow_server.specs.declared.fault.RunFault.{RunFault}
use Rattle.escrow_server.specs.declared.fault.RunFault.TheVariants as run_fault
use Rattle.escrow_script.specs.declared.fault.ServeFault.{ServeFault}
use Rattle.escrow_script.specs.Written.{Leaves}
use Rattle.escrow_server.specs.Free.{RunsFree}
use Rattle.escrow_serve.specs.Output.{ServesAll, ServesWhole, StopsWithin}

-- HOW DATABASES BEGIN

-- a database of SQLite without objects begins without tables; any other begins with the tables and rows that it holds,
-- in the known format or in the previous one; nothing is open
abbrev pub StartsAs : Database → State → Type 0
StartsAs db s =
    ((db.schema ≡ no_schema) × (s ≡ empty))
    ⊎ ((Holds s.catalog s.rows db ⊎ HoldsInFormat1 s.catalog s.rows db) × (s ≡ opened s.catalog s.rows))

-- a database may begin in this state, over a store that holds what it may hold
abbrev pub IsFound : (Database → Type 0) → State → Type 0
IsFound may_hold s = (db : Database) × may_hold db × StartsAs db s

-- `count` states, each found in what the store at its place may hold
pub record AreFound (may_hold : ℕ → Database → Type 0) (count : ℕ) (states : List State) : Type 0 where
  pub length_is : length states ≡ count
  pub each : (place : ℕ) (s : State) → slice_get states place ≡ Some s → IsFound (may_hold place) s

-- `count` databases without tables, in which nothing is open
abbrev pub empty_states : ℕ → List State
empty_states count = replicate count empty

-- some of a text was written, from its first byte on
abbrev pub WritesPrefix : Option (List ℕ) → Option (List ℕ) → List ℕ → Type 0
WritesPrefix old_bytes new_bytes text = (len : ℕ) × Appends old_bytes new_bytes (take len text)

-- nothing was written
abbrev pub WritesNothing : Option (List ℕ) → Option (List ℕ) → Type 0
WritesNothing old_bytes new_bytes = Appends old_bytes new_bytes []

-- the line about a file whose store was migrated to the known format
abbrev pub migrated_line : List ℕ → List ℕ
migrated_line file = codes "escrowd: " ++ (file ++ codes " was migrated from format 1 to format 2\n")

-- a text is the lines about the files at some places of a path, one after another, if there are any
abbrev pub AreLinesOf : List ℕ → List ℕ → Type 0
AreLinesOf path text = (places : List ℕ) × (text ≡ flat_map migrated_line (map (file_of path) places))

-- the line if memory is refused, which names no file
abbrev pub nameless_line : List ℕ
nameless_line = migrated_line (codes "a store")

-- such lines were written about the stores of a path, as far as the writer took them, and nothing about stores in
-- memory
abbrev pub TellsOfMigrated : Option (List ℕ) → Option (List ℕ) → Option (List ℕ) → Type 0
TellsOfMigrated None old_bytes new_bytes = WritesNothing old_bytes new_bytes
TellsOfMigrated (Some path) old_bytes new_bytes =
    (text : List ℕ) × (AreLinesOf path text ⊎ (text ≡ nameless_line)) × WritesPrefix old_bytes new_bytes text

-- the program's name, a colon and a text were written, as far as the writer took them. It is meant to be a reason
abbrev pub SaysReason : Option (List ℕ) → Option (List ℕ) → Type 0
SaysReason old_bytes new_bytes = (text : List ℕ) × WritesPrefix old_bytes new_bytes (codes "escrowd: " ++ text)

-- the same, after the lines about the migrated stores of a path
abbrev pub SaysWhy : Option (List ℕ) → Option (List ℕ) → Option (List ℕ) → Type 0
SaysWhy path old_bytes new_bytes =
    (told_bytes : Option (List ℕ)) × TellsOfMigrated path old_bytes told_bytes × SaysReason told_bytes new_bytes

-- lines about stores that can't be closed were written, as far as the writer took them
abbrev pub TellsOfStores : Option (List ℕ) → Option (List ℕ) → Type 0
TellsOfStores old_bytes new_bytes =
    (text : List ℕ) × WritesPrefix old_bytes new_bytes (codes "escrowd: the store of " ++ text)

-- nothing was written, or only lines about stores that can't be closed
abbrev pub TellsOfStoresAlone : Option (List ℕ) → Option (List ℕ) → Type 0
TellsOfStoresAlone old_bytes new_bytes = WritesNothing old_bytes new_bytes ⊎ TellsOfStores old_bytes new_bytes

-- only lines about the migrated stores of a path were written, and after them lines about stores that can't be closed
abbrev pub IsQuiet : Option (List ℕ) → Option (List ℕ) → Option (List ℕ) → Type 0
IsQuiet path old_bytes new_bytes =
    (told_bytes : Option (List ℕ)) × TellsOfMigrated path old_bytes told_bytes × TellsOfStoresAlone told_bytes new_bytes

-- the exit status if the words of the command line can't be read: 2 if one isn't UTF-8, otherwise 1
abbrev pub unread_status : ErrorKind → ℕ
unread_status error.InvalidData = 2
unread_status _ = 1

-- the exit status if a script isn't served to its end: 3 if a store can't be opened, otherwise 1
abbrev pub run_status : RunFault → ℕ
run_status (run_fault.Unopened database place cause) = 3
run_status (run_fault.Unserved fault) = 1
run_status (run_fault.Unjoined fault) = 1

-- what is true if a script of so many sessions isn't served to its end, line by line, from states of which `starts` is
-- true to `new`. If a store can't be opened, nothing was read or written. No fault is one of sessions at the same time
abbrev pub Stops : ℕ → RunFault → (List State → Type 0) → List State → List ℕ → Option (List ℕ) → Option (List ℕ)
    → Option (List ℕ) → Type 0
Stops sessions (run_fault.Unopened database place cause) starts new script rest old_bytes new_bytes =
    Keeps (Some script) rest × WritesNothing old_bytes new_bytes
Stops sessions (run_fault.Unserved fault) starts new script rest old_bytes new_bytes =
    (old : List State) × starts old × StopsWithin sessions fault script old new old_bytes new_bytes
Stops sessions (run_fault.Unjoined fault) starts new script rest old_bytes new_bytes = ⊥

-- what is left of lines and of their output, if all stores were opened: nothing, or what a fault leaves
abbrev pub LeftBy : Result (Unit {0}) RunFault → List (List ℕ) → List ℕ → Type 0
LeftBy (Ok done) unserved unwritten = (unserved ≡ []) × (unwritten ≡ [])
LeftBy (Err (run_fault.Unserved fault)) unserved unwritten = Leaves fault unwritten
LeftBy (Err _) unserved unwritten = ⊥

-- Line by line, with so many sessions, in `count` databases that were empty: all of the script was served, with status
-- 0; or serving ended at a fault, with status 1; or a store couldn't be opened, with status 3, and nothing was read or
-- written.
abbrev pub EndsInTurn : (ℕ → List ℕ → List State → List State → Option (List ℕ) → Option (List ℕ) → Type 0)
    → ℕ → ℕ → ℕ → List ℕ → Option (List ℕ) → Option (List ℕ) → Option (List ℕ) → Type 0
EndsInTurn Serves sessions count status script rest old_bytes new_bytes =
    ((status ≡ 0) × (new : List State) × Serves sessions script (empty_states count) new old_bytes new_bytes)
    ⊎ ((status ≡ 1) × (fault : ServeFault) × (new : List State)
    × StopsWithin sessions fault script (empty_states count) new old_bytes new_bytes)
    ⊎ ((status ≡ 3) × Keeps (Some script) rest × WritesNothing old_bytes new_bytes)

-- The sessions of each phase at the same time, in `count` databases that were empty: the script was served, with status
-- 0; or serving ended at a fault, with status 1, and no contract says what it leaves; or a store couldn't be opened,
-- with status 3, and nothing was read or written.
abbrev pub EndsFree : ℕ → ℕ → List ℕ → Option (List ℕ) → Option (List ℕ) → Option (List ℕ) → Type 0
EndsFree count status script rest old_bytes new_bytes =
    ((status ≡ 0) × RunsFree script (empty_states count) old_bytes new_bytes)
    ⊎ (status ≡ 1)
    ⊎ ((status ≡ 3) × Keeps (Some script) rest × WritesNothing old_bytes new_bytes)

-- In memory: as the mode says. `serve` has as many sessions as it is asked for.
abbrev pub EndsInMemory : Mode → ℕ → ℕ → ℕ → List ℕ → Option (List ℕ) → Option (List ℕ) → Option (List ℕ) → Type 0
EndsInMemory mode.Run sessions count status script rest old_bytes new_bytes =
    EndsInTurn ServesWhole MAX_SHARED count status script rest old_bytes new_bytes
EndsInMemory mode.Free sessions count status script rest old_bytes new_bytes =
    EndsFree count status script rest old_bytes new_bytes
EndsInMemory mode.Serve sessions count status script rest old_bytes new_bytes =
    EndsInTurn ServesAll sessions count status script rest old_bytes new_bytes

-- Over files, of which no contract says what they hold: with status 0 the script was read to its end; with status 3 a
-- store couldn't be opened, and nothing was read or written.
abbrev pub EndsOverFiles : ℕ → List ℕ → Option (List ℕ) → Option (List ℕ) → Option (List ℕ) → Type 0
EndsOverFiles status script rest old_bytes new_bytes =
    ((status ≡ 0) × IsAtEnd rest) ⊎ (status ≡ 1)
    ⊎ ((status ≡ 3) × Keeps (Some script) rest × WritesNothing old_bytes new_bytes)
