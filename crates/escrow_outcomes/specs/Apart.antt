-- Believed: the lines of a script, each with what it writes, and those of one database.
use Rattle.std.specs.Prelude.{◌≡◌, ℕ, ◌==◌, Bool, false, List, [], ◌∷◌, length, map, filter}
use Rattle.std.specs.List.{flat_map}
use Rattle.escrow_machine.specs.State.{State}
use Rattle.escrow_script.specs.Line.{Reading, nothing, join, restart, statement, no_line, Reads}
use Rattle.escrow_serve.specs.Output.{Sitting, begun, ServesLine}

-- a line that was served: its bytes, what it was read as, and what it wrote
pub record Served : Type 0 where
  pub bytes : List ℕ
  pub reading : Reading
  pub wrote : List ℕ

-- lines as they came, and all that they wrote
abbrev pub bytes_of : List Served → List (List ℕ)
bytes_of served = map (λ l. l.bytes) served

abbrev pub output_of : List Served → List ℕ
output_of served = flat_map (λ l. l.wrote) served

-- lines were served one after another: what each wrote, and where they led the databases
abbrev pub AreServed : ℕ → List Sitting → List Served → List Sitting → Type 0
AreServed sessions sittings [] new = new ≡ sittings
AreServed sessions sittings (l ∷ served) new =
    (mid : List Sitting) × Reads (length sittings) sessions l.bytes l.reading
    × ServesLine sittings l.reading l.wrote mid × AreServed sessions mid served new

-- A SCRIPT LINE BY LINE: the lines that were served from the databases' states, and the states after them
abbrev pub ServesEach : ℕ → List State → List Served → List State → Type 0
ServesEach sessions states served new =
    (end : List Sitting) × AreServed sessions (map begun states) served end × (new ≡ map (λ sitting. sitting.state) end)

-- whether a line is of the database at a place: a statement of one of its sessions, or its restart
abbrev pub is_of : ℕ → Reading → Bool
is_of place nothing = false
is_of place join = false
is_of place no_line = false
is_of place (restart at) = at == place
is_of place (statement at session text) = at == place

-- the lines of the database at a place, in their order
abbrev pub lines_at : ℕ → List Served → List Served
lines_at place served = filter (λ l. is_of place l.reading) served
