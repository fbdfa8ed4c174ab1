-- Helps: what a line is, found part by part.
use Rattle.std.specs.Prelude.{◌≡◌, ◌≤◌, ℕ, zero, suc, ◌==◌, Bool, not, ◌&&◌, ◌||◌, nat_eq, if◌then◌else◌, Option, Some, None, List, length, take, drop, bytes_eq, codes, decimal}
use Rattle.std.specs.List.{starts_with, list_all, prefix_len}
use Rattle.escrow_num.specs.Session.{IsSession}
use Rattle.escrow_script.specs.Line.{Reading, nothing, join, restart, statement, no_line, is_blank, after_blanks, database_name}
use Rattle.escrow_script.specs.declared.line.Line.{Line}
use Rattle.escrow_script.specs.declared.line.Line.TheVariants as line

-- a line of the program, as a reading
abbrev pub seen : Line → Reading
seen line.Nothing = nothing
seen line.Join = join
seen (line.Restart database) = restart database
seen (line.Statement database session text) = statement database session text.now
seen line.NoLine = no_line

-- whether a content is empty or a comment
abbrev pub is_nothing : List ℕ → Bool
is_nothing content = length content == 0 || starts_with nat_eq content (codes "--")

-- whether a content is `@join`, with only blanks after it
abbrev pub is_join : List ℕ → Bool
is_join content = starts_with nat_eq content (codes "@join") && list_all is_blank (drop 5 content)

-- the place of the database with a name, among this many databases
abbrev pub database_place : ℕ → List ℕ → Option ℕ
database_place zero name = None
database_place (suc n) name = if bytes_eq (database_name n) name then Some n else database_place n name

-- how many bytes come before the first blank
abbrev pub word_len : List ℕ → ℕ
word_len bytes = prefix_len (λ c. not (is_blank c)) bytes

-- the place of the database whose name is the only word, after at least one blank
abbrev pub named_place : ℕ → List ℕ → Option ℕ
named_place databases bytes =
    if prefix_len is_blank bytes == 0 || not
    (list_all is_blank (drop (word_len (after_blanks bytes)) (after_blanks bytes))) then None
    else database_place databases (take (word_len (after_blanks bytes)) (after_blanks bytes))

-- the place of the database to restart
abbrev pub restart_of : ℕ → List ℕ → Option ℕ
restart_of databases content =
    if starts_with nat_eq content (codes "@restart") then named_place databases (drop 8 content) else None

-- digits spell one of this many sessions, without a leading zero
abbrev pub Spells : ℕ → List ℕ → ℕ → Type 0
Spells sessions digits session = IsSession session × (session ≤ sessions) × (digits ≡ decimal session)
