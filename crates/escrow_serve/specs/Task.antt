-- Helps: what a line asks, once its text is parsed.
use Rattle.std.specs.Prelude.{◌≡◌, ◌⊎◌, ℕ, List}
use Rattle.escrow_sql.specs.declared.fault.ParseFault.{ParseFault}
use Rattle.escrow_sql.specs.Parser.{Asks, IsFaultIn}
use Rattle.escrow_statement.specs.declared.statement.Request.TheVariants as request
use Rattle.escrow_script.specs.Line.{nothing, join, restart, statement, no_line, Reads}
use Rattle.escrow_script.specs.Written.{fault_refusal}
use Rattle.escrow_serve.specs.declared.task.Task.{Task}
use Rattle.escrow_serve.specs.declared.task.Task.TheVariants as task

-- what the bytes of a line ask, with this many databases
abbrev pub IsTask : ℕ → ℕ → List ℕ → Task → Type 0
IsTask sessions databases bytes task.Nothing =
    Reads databases sessions bytes nothing ⊎ Reads databases sessions bytes join
IsTask sessions databases bytes task.NoLine = Reads databases sessions bytes no_line
IsTask sessions databases bytes (task.Restart place) = Reads databases sessions bytes (restart place)
IsTask sessions databases bytes (task.Refuse place session refusal) =
    (text : List ℕ) × (fault : ParseFault) × Reads databases sessions bytes (statement place session text)
    × IsFaultIn text fault × (refusal ≡ fault_refusal fault)
IsTask sessions databases bytes (task.Statement place session asked) =
    (text : List ℕ) × Reads databases sessions bytes (statement place session text)
    × Asks text (request.Statement asked)
IsTask sessions databases bytes (task.Statistics place session) =
    (text : List ℕ) × Reads databases sessions bytes (statement place session text) × Asks text request.Statistics
