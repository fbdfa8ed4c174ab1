-- Helps: what is planned for lines.
use Rattle.std.specs.Prelude.{◌≡◌, ◌⊎◌, ℕ, List, [], ◌∷◌, ◌++◌}
use Rattle.escrow_num.specs.declared.session.TheConstants.Session.{MAX_SHARED}
use Rattle.escrow_sql.specs.declared.fault.ParseFault.{ParseFault}
use Rattle.escrow_statement.specs.declared.statement.Statement.{Statement}
use Rattle.escrow_statement.specs.declared.statement.Request.{Request}
use Rattle.escrow_statement.specs.declared.statement.Request.TheVariants as request
use Rattle.escrow_sql.specs.Parser.{Asks, IsFaultIn}
use Rattle.escrow_script.specs.Line.{Reading, nothing, join, restart, statement, no_line, Reads}
use Rattle.escrow_free.specs.Outboxes.{outbox_of}
use Rattle.escrow_free.specs.declared.plan.Planned.{Planned}
use Rattle.escrow_free.specs.declared.plan.Planned.TheVariants as planned

-- what a text adds to a plan: a statement for the outbox of its session, and a line that asks for its answer; or a line
-- that asks for totals; or a line that refuses the text
abbrev pub PlansText : ℕ → ℕ → List ℕ → List Planned → List (ℕ × Request) → Type 0
PlansText place session text lines items =
    ((asked : Statement) × Asks text (request.Statement asked) × (lines ≡ planned.Asked place session ∷ [])
    × (items ≡ (outbox_of place session, request.Statement asked) ∷ []))
    ⊎ (Asks text request.Statistics × (lines ≡ planned.Totals place session ∷ []) × (items ≡ []))
    ⊎ ((f : ParseFault) × IsFaultIn text f × (lines ≡ planned.Refused place session f ∷ []) × (items ≡ []))

-- what a line adds
abbrev pub PlansReading : Reading → List Planned → List (ℕ × Request) → Type 0
PlansReading nothing lines items = (lines ≡ []) × (items ≡ [])
PlansReading join lines items = (lines ≡ []) × (items ≡ [])
PlansReading no_line lines items = (lines ≡ planned.NoLine ∷ []) × (items ≡ [])
PlansReading (restart place) lines items = (lines ≡ planned.NoLine ∷ []) × (items ≡ [])
PlansReading (statement place session text) lines items = PlansText place session text lines items

-- what the bytes of a line add, with this many databases
abbrev pub PlansBytes : ℕ → List ℕ → List Planned → List (ℕ × Request) → Type 0
PlansBytes databases bytes lines items =
    (reading : Reading) × Reads databases MAX_SHARED bytes reading × PlansReading reading lines items

-- what lines add, one after another
abbrev pub Plans : ℕ → List (List ℕ) → List Planned → List (ℕ × Request) → Type 0
Plans databases [] plan items = (plan ≡ []) × (items ≡ [])
Plans databases (line ∷ lines) plan items =
    (p ps : List Planned) × (i is : List (ℕ × Request)) × PlansBytes databases line p i × Plans databases lines ps is
    × (plan ≡ p ++ ps) × (items ≡ i ++ is)
