-- Believed: the output of a script whose sessions run at the same time.
use Rattle.std.specs.Prelude.{◌≡◌, ◌⊎◌, ℕ, ◌==◌, ◌&&◌, ◌≤◌, Option, Some, if◌then◌else◌, List, [], ◌∷◌, ◌++◌, length, map, slice_get}
use Rattle.std.specs.List.{AllByRecursion}
use Rattle.std.specs.Io.KnownBytes.{Appends}
use Rattle.escrow_num.specs.declared.session.TheConstants.Session.{MAX_SHARED}
use Rattle.escrow_num.specs.declared.refusal.Refusal.{Refusal}
use Rattle.escrow_num.specs.Session.{IsShared}
use Rattle.escrow_sql.specs.declared.fault.ParseFault.{ParseFault}
use Rattle.escrow_statement.specs.declared.statement.Statement.{Statement}
use Rattle.escrow_statement.specs.declared.statement.Request.{Request}
use Rattle.escrow_statement.specs.declared.statement.Request.TheVariants as request
use Rattle.escrow_sql.specs.Parser.{Asks, IsFaultIn}
use Rattle.escrow_machine.specs.declared.reply.Reply.{Reply}
use Rattle.escrow_machine.specs.declared.reply.Reply.TheVariants as reply
use Rattle.escrow_transcript.specs.declared.entry.Entry.{Entry}
use Rattle.escrow_reply.specs.Text.{rendered}
use Rattle.escrow_stats.specs.Tally.{tally_of}
use Rattle.escrow_stats.specs.Text.{rendered_totals}
use Rattle.escrow_shards.specs.Answer.{IsUnserved}
use Rattle.escrow_shards.specs.Receipts.{receipts_of}
use Rattle.escrow_shards.specs.Whole.{IsOfSessions}
use Rattle.escrow_shards.specs.declared.pass.Receipt.{Receipt}
use Rattle.escrow_script.specs.declared.limits.TheConstants.{MAX_SCRIPT}
use Rattle.escrow_script.specs.Line.{Reading, nothing, join, restart, statement, no_line, database_name, Reads, lines_of}
use Rattle.escrow_script.specs.Written.{fault_refusal, no_line_text}

-- WHAT LINES TAKE

-- What a line took: an entry of the history of its session, which is a session of the database at a place. Of the entry
-- it has the number, the statement and the reply.
pub record Taken : Type 0 where
  pub place : ℕ
  pub session : ℕ
  pub receipt : Receipt

-- what the lines of one session took, in order
abbrev pub taken_by : ℕ → ℕ → List Taken → List Receipt
taken_by place session [] = []
taken_by place session (t ∷ taken) =
    if (t.place == place) && (t.session == session) then t.receipt ∷ taken_by place session taken
    else taken_by place session taken

-- the replies in these
abbrev pub replies_by : ℕ → ℕ → List Taken → List Reply
replies_by place session taken = map (λ r. r.reply) (taken_by place session taken)

-- WHAT A LINE DOES: what it writes, and what was taken before it and after it

-- a refusal, as it is written to a session
abbrev pub refused : ℕ → ℕ → Refusal → List ℕ
refused place session cause = rendered (database_name place) session (reply.Refused cause)

-- a statement takes its session's next entry, which has that statement, and prints its reply
abbrev pub TakesNext : List Taken → ℕ → ℕ → Statement → List ℕ → List Taken → Type 0
TakesNext taken place session asked out new =
    (number : ℕ) × (answer : Reply) × (out ≡ rendered (database_name place) session answer)
    × (new ≡ taken ++ (record
    { place = place; session = session; receipt = record { number = number; statement = asked; reply = answer } }) ∷ [])

-- a statement takes no entry, and prints that it wasn't served: 51, 52 or 60
abbrev pub TakesNone : List Taken → ℕ → ℕ → List ℕ → List Taken → Type 0
TakesNone taken place session out new =
    (cause : Refusal) × IsUnserved cause × (out ≡ refused place session cause) × (new ≡ taken)

-- SHOW STATISTICS takes no entry, and prints the totals of what its session took so far
abbrev pub ShowsTotals : List Taken → ℕ → ℕ → List ℕ → List Taken → Type 0
ShowsTotals taken place session out new =
    (out ≡ rendered_totals (database_name place) session (tally_of (replies_by place session taken))) × (new ≡ taken)

-- what a request does
abbrev pub Does : List Taken → ℕ → ℕ → Request → List ℕ → List Taken → Type 0
Does taken place session (request.Statement asked) out new =
    TakesNext taken place session asked out new ⊎ TakesNone taken place session out new
Does taken place session request.Statistics out new = ShowsTotals taken place session out new

-- A text does what it asks. Or it asks nothing, and is refused with the column of its first fault. Or it is refused for
-- memory, as any text may be, since reading it takes memory.
abbrev pub DoesText : List Taken → ℕ → ℕ → List ℕ → List ℕ → List Taken → Type 0
DoesText taken place session text out new =
    ((r : Request) × Asks text r × Does taken place session r out new)
    ⊎ ((f : ParseFault) × IsFaultIn text f × (out ≡ refused place session (fault_refusal f)) × (new ≡ taken))

-- a line does what it reads as; a restart is refused here as no line
abbrev pub DoesLine : List Taken → Reading → List ℕ → List Taken → Type 0
DoesLine taken nothing out new = (out ≡ []) × (new ≡ taken)
DoesLine taken join out new = (out ≡ []) × (new ≡ taken)
DoesLine taken no_line out new = (out ≡ no_line_text) × (new ≡ taken)
DoesLine taken (restart place) out new = (out ≡ no_line_text) × (new ≡ taken)
DoesLine taken (statement place session text) out new = DoesText taken place session text out new

-- the bytes of a line, with this many databases
abbrev pub DoesBytes : ℕ → List Taken → List ℕ → List ℕ → List Taken → Type 0
DoesBytes databases taken bytes out new =
    (reading : Reading) × Reads databases MAX_SHARED bytes reading × DoesLine taken reading out new

-- lines, one after another
abbrev pub DoLines : ℕ → List Taken → List (List ℕ) → List ℕ → List Taken → Type 0
DoLines databases taken [] out new = (out ≡ []) × (new ≡ taken)
DoLines databases taken (line ∷ lines) out new =
    (first rest : List ℕ) × (mid : List Taken) × DoesBytes databases taken line first mid
    × DoLines databases mid lines rest new × (out ≡ first ++ rest)

-- THE OUTPUT OF A SCRIPT whose databases have these histories. Its lines wrote it one after another. At the end, the
-- lines of each session have taken all its entries, each once, in their order. Each entry is of a session that lines
-- may name: one from 1 to 64.
pub record FreeOutput (script : List ℕ) (histories : List (List Entry)) (out : List ℕ) : Type 0 where
  pub taken : List Taken
  pub lines : DoLines (length histories) [] (lines_of script) out taken
  pub all : (place session : ℕ) (entries : List Entry) → slice_get histories place ≡ Some entries → IsShared session
      → taken_by place session taken ≡ receipts_of session entries
  pub named : (place : ℕ) (entries : List Entry) → slice_get histories place ≡ Some entries
      → AllByRecursion (IsOfSessions MAX_SHARED) entries

-- the whole script was served: it is no longer than a script may be, and its output was written
pub record ServesFree (script : List ℕ) (histories : List (List Entry))
    (old_bytes new_bytes : Option (List ℕ)) : Type 0 where
  pub limit : length script ≤ MAX_SCRIPT
  pub out : List ℕ
  pub output : FreeOutput script histories out
  pub appends : Appends old_bytes new_bytes out
