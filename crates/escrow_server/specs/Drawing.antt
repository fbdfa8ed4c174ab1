-- Helps: what is sent to a terminal to show the progress of a script, to the byte.
use Rattle.std.specs.Prelude.{ℕ, zero, suc, ◌==◌, if◌then◌else◌, Bool, true, false, Option, Some, None, List, [], ◌+◌, ◌++◌, slice_get, codes, decimal}
use Rattle.escrow_script.specs.Line.{database_name}
use Rattle.escrow_server.specs.declared.drawing.Layout.{Layout}
use Rattle.escrow_server.specs.declared.drawing.Progress.{Progress}
use Rattle.escrow_stats.specs.declared.tally.Tally.{Tally}

-- the text after the name of a database in its line
unfoldable pub totals_text : Tally → List ℕ
totals_text t =
    codes ": served " ++ decimal t.served ++ codes " granted " ++ decimal t.granted
    ++ codes " broken " ++ decimal t.broken ++ codes " commits " ++ decimal t.commits

-- the line of the database at a place; it clears what was after it in its row
abbrev pub line_text : ℕ → Tally → List ℕ
line_text place t = database_name place ++ totals_text t ++ codes "\u{1b}[K\n"

-- the line at a place among those of databases, if there is one
abbrev pub shown_text : ℕ → Option Tally → List ℕ
shown_text place None = []
shown_text place (Some t) = line_text place t

-- the lines of this many databases, the first ones
abbrev pub lines_text : List Tally → ℕ → List ℕ
lines_text ts zero = []
lines_text ts (suc n) = lines_text ts n ++ shown_text n (slice_get ts n)

-- the line of a phase
unfoldable pub phase_text : Progress → List ℕ
phase_text p =
    codes "phase " ++ decimal p.phase ++ codes ": " ++ decimal p.served ++ codes " of "
    ++ decimal p.statements ++ codes " statements\u{1b}[K\n"

-- the line for this many databases that have no line of their own
abbrev pub more_text : ℕ → List ℕ
more_text count = if count == 0 then [] else codes "and " ++ decimal count ++ codes " more databases\u{1b}[K\n"

-- how many lines a drawing has
abbrev pub height : ℕ → ℕ → ℕ
height shown more = if more == 0 then shown + 1 else shown + 2

-- moves the cursor up this many rows, to the first column
unfoldable pub back_text : ℕ → List ℕ
back_text rows = codes "\r\u{1b}[" ++ decimal rows ++ codes "A"

-- moves the cursor up if lines were drawn before
abbrev pub over_text : Bool → ℕ → List ℕ
over_text true rows = back_text rows
over_text false rows = []

-- a drawing: a line for the phase and for each database that is shown, none of which continues in a further row
abbrev pub drawing_text : Bool → Progress → Layout → List Tally → List ℕ
drawing_text is_drawn p l ts =
    over_text is_drawn (height l.shown l.more) ++ codes "\u{1b}[?7l" ++ phase_text p
    ++ lines_text ts l.shown ++ more_text l.more ++ codes "\u{1b}[?7h"

-- erases this many lines
abbrev pub erasing_text : ℕ → List ℕ
erasing_text lines = back_text lines ++ codes "\u{1b}[J"
