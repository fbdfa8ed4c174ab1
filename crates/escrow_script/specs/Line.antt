-- Believed: the lines of a script, and what each is made of.
use Rattle.std.specs.Prelude.{◌≡◌, ◌≢◌, ◌≤◌, ◌<◌, ◌⊎◌, ℕ, ◌+◌, ◌-◌, ◌==◌, Bool, ◌||◌, if◌then◌else◌, List, [], ◌∷◌, ◌++◌, length, take, drop, slice_index, codes, decimal}
use Rattle.std.specs.List.{AllByRecursion, AllPass, prefix_len}
use Rattle.std.specs.Str.{IsUtf8}
use Rattle.escrow_num.specs.Session.{IsSession}
use Rattle.escrow_script.specs.declared.limits.TheConstants.{MAX_LINE}

-- THE LINES OF A SCRIPT

-- a byte added before the first line
abbrev pub onto_first : ℕ → List (List ℕ) → List (List ℕ)
onto_first b [] = (b ∷ []) ∷ []
onto_first b (first ∷ lines) = (b ∷ first) ∷ lines

-- the lines of a script: each is the bytes up to a line feed; bytes after the last line feed are a line too
abbrev pub lines_of : List ℕ → List (List ℕ)
lines_of [] = []
lines_of (b ∷ bytes) = if b == 10 then [] ∷ lines_of bytes else onto_first b (lines_of bytes)

-- none of the bytes is a line feed
abbrev pub HasNoFeed : List ℕ → Type 0
HasNoFeed bytes = AllByRecursion (λ b. b ≢ 10) bytes

-- THE NAMES OF DATABASES

-- the database at a place, from 0: the first is called `bank`, and each further one `bank` and its
-- number, from 2 on
abbrev pub database_name : ℕ → List ℕ
database_name place = if place == 0 then codes "bank" else codes "bank" ++ decimal (place + 1)

-- WHAT A LINE IS

-- a line has no meaning; it ends a phase; it restarts a database, given by its place; it is a statement, with the place
-- of its database, its session and its text; or it is no line
pub data Reading : Type 0 where
  nothing : Reading
  join : Reading
  restart : ℕ → Reading
  statement : ℕ → ℕ → List ℕ → Reading
  no_line : Reading

-- whether a byte is a space or a tab
abbrev pub is_blank : ℕ → Bool
is_blank c = c == 32 || c == 9

-- a line without the carriage return at its end, if it has one
abbrev pub without_return : List ℕ → List ℕ
without_return bytes = if slice_index bytes (length bytes - 1) == 13 then take (length bytes - 1) bytes else bytes

-- a text without the spaces and tabs at its beginning
abbrev pub after_blanks : List ℕ → List ℕ
after_blanks bytes = drop (prefix_len is_blank bytes) bytes

-- the content of a line: the line without its carriage return and its leading blanks
abbrev pub content_of : List ℕ → List ℕ
content_of bytes = after_blanks (without_return bytes)

-- a comment begins with two dashes
abbrev pub IsComment : List ℕ → Type 0
IsComment content = (rest : List ℕ) × (content ≡ codes "--" ++ rest)

-- `@join`, with only blanks after it
abbrev pub IsJoin : List ℕ → Type 0
IsJoin content = (blanks : List ℕ) × AllPass is_blank blanks × (content ≡ codes "@join" ++ blanks)

-- `@restart`, blanks, the name of one of this many databases, and only blanks after it
pub record IsRestart (databases : ℕ) (content : List ℕ) (place : ℕ) : Type 0 where
  pub within : place < databases
  pub front : List ℕ
  pub back : List ℕ
  pub apart : 0 < length front
  pub front_blank : AllPass is_blank front
  pub back_blank : AllPass is_blank back
  pub parts : content ≡ codes "@restart" ++ (front ++ (database_name place ++ back))

-- a statement: the name of one of this many databases, a point, one of this many sessions in decimal, a colon, and the
-- text
pub record IsStatement (databases sessions : ℕ) (content : List ℕ) (place session : ℕ) (text : List ℕ) : Type 0 where
  pub within : place < databases
  pub is_session : IsSession session
  pub among : session ≤ sessions
  pub parts : content ≡ database_name place ++ codes "." ++ decimal session ++ codes ":" ++ text

-- what the content of a line must be, for each reading
abbrev pub IsMadeOf : ℕ → ℕ → List ℕ → Reading → Type 0
IsMadeOf databases sessions content nothing = (content ≡ []) ⊎ IsComment content
IsMadeOf databases sessions content join = IsJoin content
IsMadeOf databases sessions content (restart place) = IsRestart databases content place
IsMadeOf databases sessions content (statement place session text) =
    IsStatement databases sessions content place session text
IsMadeOf databases sessions content no_line = ⊥

-- the content is as the reading demands, or it is no line because it is as no reading demands
abbrev pub ReadsContent : ℕ → ℕ → List ℕ → Reading → Type 0
ReadsContent databases sessions content no_line = (reading : Reading) → IsMadeOf databases sessions content reading → ⊥
ReadsContent databases sessions content reading = IsMadeOf databases sessions content reading

-- a readable line has at most 4,096 bytes, and they are UTF-8
abbrev pub IsReadable : List ℕ → Type 0
IsReadable bytes = (length bytes ≤ MAX_LINE) × IsUtf8 bytes

-- WHAT A LINE IS, with this many databases and sessions: a readable line is what its content is, and any other is no
-- line
abbrev pub Reads : ℕ → ℕ → List ℕ → Reading → Type 0
Reads databases sessions bytes reading =
    (IsReadable bytes × ReadsContent databases sessions (content_of bytes) reading)
    ⊎ ((IsReadable bytes → ⊥) × (reading ≡ no_line))
