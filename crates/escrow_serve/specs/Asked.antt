-- Believed: what the lines of a script ask of databases, and what was answered.
use Rattle.std.specs.Prelude.{◌≡◌, ◌⊎◌, ℕ, ◌==◌, List, [], ◌∷◌, ◌++◌, map, filter}
use Rattle.escrow_sql.specs.declared.fault.ParseFault.{ParseFault}
use Rattle.escrow_statement.specs.declared.statement.Statement.{Statement}
use Rattle.escrow_statement.specs.declared.statement.Request.TheVariants as request
use Rattle.escrow_sql.specs.Parser.{Asks, IsFaultIn}
use Rattle.escrow_machine.specs.declared.event.Event.{Event}
use Rattle.escrow_machine.specs.declared.event.Event.TheVariants as event
use Rattle.escrow_machine.specs.declared.reply.Reply.{Reply}
use Rattle.escrow_machine.specs.declared.reply.Reply.TheVariants as reply
use Rattle.escrow_reply.specs.Text.{rendered, rendered_whole}
use Rattle.escrow_stats.specs.declared.tally.Tally.{Tally}
use Rattle.escrow_stats.specs.Text.{rendered_totals}
use Rattle.escrow_script.specs.Line.{Reading, nothing, join, restart, statement, no_line, database_name, Reads}
use Rattle.escrow_script.specs.Written.{fault_refusal, no_line_text}

-- an event of the database at a place, and the reply
pub record Given : Type 0 where
  pub place : ℕ
  pub happened : Event
  pub answer : Reply

-- a text of a session is a statement, and the database's reply to it is written; or it is no statement, or memory to
-- read it is refused, and no database sees it; or it asks for totals
abbrev pub GivesText : ℕ → ℕ → List ℕ → List Given → List ℕ → Type 0
GivesText place session text given out =
    ((asked : Statement) × (answer : Reply) × Asks text (request.Statement asked)
    × (given ≡ record { place = place; happened = event.Statement session asked; answer = answer } ∷ [])
    × (out ≡ rendered (database_name place) session answer))
    ⊎ (((f : ParseFault) × IsFaultIn text f × (given ≡ [])
    × (out ≡ rendered (database_name place) session (reply.Refused (fault_refusal f))))
    ⊎ ((totals : Tally) × Asks text request.Statistics × (given ≡ [])
    × (out ≡ rendered_totals (database_name place) session totals)))

-- what a line gives, and what it writes
abbrev pub GivesLine : Reading → List Given → List ℕ → Type 0
GivesLine nothing given out = (given ≡ []) × (out ≡ [])
GivesLine join given out = (given ≡ []) × (out ≡ [])
GivesLine no_line given out = (given ≡ []) × (out ≡ no_line_text)
GivesLine (restart place) given out =
    (answer : Reply) × (given ≡ record { place = place; happened = event.Restart; answer = answer } ∷ [])
    × (out ≡ rendered_whole (database_name place) answer)
GivesLine (statement place session text) given out = GivesText place session text given out

-- WHAT LINES GIVE, with this many databases and sessions, one line after another, and what they write
abbrev pub GivesLines : ℕ → ℕ → List (List ℕ) → List Given → List ℕ → Type 0
GivesLines databases sessions [] given out = (given ≡ []) × (out ≡ [])
GivesLines databases sessions (line ∷ lines) given out =
    (reading : Reading) × Reads databases sessions line reading × (first rest : List Given) × (before behind : List ℕ)
    × GivesLine reading first before × GivesLines databases sessions lines rest behind × (given ≡ first ++ rest)
    × (out ≡ before ++ behind)

-- what the database at a place was given
abbrev pub given_at : ℕ → List Given → List Given
given_at place given = filter (λ g. g.place == place) given

-- the events of the database at a place, and its replies
abbrev pub events_at : ℕ → List Given → List Event
events_at place given = map (λ g. g.happened) (given_at place given)

abbrev pub answers_at : ℕ → List Given → List Reply
answers_at place given = map (λ g. g.answer) (given_at place given)
