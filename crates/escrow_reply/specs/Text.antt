-- Believed: a reply's lines, to the byte.
use Rattle.std.specs.Prelude.{ℕ, suc, ℤ, if◌then◌else◌, Option, Some, None, unwrap_or, option_map, List, [], ◌∷◌, ◌++◌, length, map, slice_get, codes, decimal}
use Rattle.std.specs.Int.{is_negative}
use Rattle.std.specs.List.{flat_map, join_by}
use Rattle.escrow_num.specs.declared.span.Side.{Side}
use Rattle.escrow_num.specs.declared.span.Side.TheVariants as side
use Rattle.escrow_num.specs.declared.refusal.Violation.{Violation}
use Rattle.escrow_num.specs.declared.refusal.Refusal.{Refusal}
use Rattle.escrow_num.specs.declared.refusal.Refusal.TheVariants as refusal
use Rattle.escrow_num.specs.Refusal.{number_of}
use Rattle.escrow_num.specs.Scaled.{scaled_text}
use Rattle.escrow_num.specs.declared.value.Value.{Value}
use Rattle.escrow_num.specs.declared.value.Value.TheVariants as value
use Rattle.escrow_sql.specs.Lex.{doubled}
use Rattle.escrow_machine.specs.declared.reply.CheckBounds.{CheckBounds}
use Rattle.escrow_machine.specs.declared.reply.ColumnBounds.{ColumnBounds}
use Rattle.escrow_machine.specs.declared.reply.ColumnChange.{ColumnChange}
use Rattle.escrow_machine.specs.declared.reply.Heading.{Heading}
use Rattle.escrow_machine.specs.declared.reply.JournalEntry.{JournalEntry}
use Rattle.escrow_machine.specs.declared.reply.Reply.{Reply}
use Rattle.escrow_machine.specs.declared.reply.Reply.TheVariants as reply

-- VALUES, AND THE LINES OF ROWS

-- a text in quotes, with each quote in it doubled
abbrev pub quoted : List ℕ → List ℕ
quoted text = codes "'" ++ doubled text ++ codes "'"

-- a value of a column of a scale: a number in decimal with as many digits after the point as the scale, and with a
-- minus if it is negative; or a text in quotes
abbrev pub value_text : ℕ → Value → List ℕ
value_text scale (value.Number units) = scaled_text scale units
value_text scale (value.Text text) = quoted text

-- the text between two columns
abbrev pub bar : List ℕ
bar = codes " | "

-- the scale of the k-th column, from 0. Past the columns, where no row of a table has a value, it is 0
abbrev pub scale_at : List Heading → ℕ → ℕ
scale_at headings k = unwrap_or (option_map (λ heading. heading.scale) (slice_get headings k)) 0

-- the values of a row from the k-th on, each with the scale of the column at its place
abbrev pub value_texts : List Heading → ℕ → List Value → List (List ℕ)
value_texts headings k [] = []
value_texts headings k (v ∷ values) = value_text (scale_at headings k) v ∷ value_texts headings (suc k) values

-- the values of a row, with a bar between two
abbrev pub row_text : List Heading → List Value → List ℕ
row_text headings values = join_by (λ text. text) bar (value_texts headings 0 values)

-- the names of columns
abbrev pub header_text : List Heading → List ℕ
header_text headings = join_by (λ heading. heading.name) bar headings

-- REFUSALS

-- the word for a side
abbrev pub side_text : Side → List ℕ
side_text side.Low = codes "low"
side_text side.High = codes "high"

-- a limit that could be broken: the check, the side, the worst value, the limit, both with the check's scale
abbrev pub violation_text : Violation → List ℕ
violation_text b =
    b.check ++ codes " " ++ side_text b.side ++ codes " " ++ scaled_text b.scale b.worst ++ codes " limit "
    ++ scaled_text b.scale b.limit

-- the words for a refusal
abbrev pub refusal_text : Refusal → List ℕ
refusal_text (refusal.Syntax column) = codes "syntax column " ++ decimal column
refusal_text refusal.Line = codes "line"
refusal_text refusal.TableExists = codes "table exists"
refusal_text refusal.NoSuchTable = codes "no such table"
refusal_text refusal.BadDefinition = codes "bad definition"
refusal_text refusal.BadValue = codes "bad value"
refusal_text refusal.BadAssignment = codes "bad assignment"
refusal_text refusal.NotTheKey = codes "not the key"
refusal_text refusal.TransactionOpen = codes "transaction open"
refusal_text refusal.NoSuchConstraint = codes "no such constraint"
refusal_text refusal.RowExists = codes "row exists"
refusal_text refusal.NoSuchRow = codes "no such row"
refusal_text refusal.RowReserved = codes "row reserved"
refusal_text refusal.TableReserved = codes "table reserved"
refusal_text refusal.TableFull = codes "table full"
refusal_text refusal.TooManyTables = codes "too many tables"
refusal_text (refusal.Check b) = violation_text b
refusal_text refusal.TooManyReservations = codes "too many reservations"
refusal_text refusal.NoSuchSavepoint = codes "no such savepoint"
refusal_text refusal.TooManySavepoints = codes "too many savepoints"
refusal_text refusal.NoMoreIds = codes "no more ids"
refusal_text refusal.Memory = codes "memory"
refusal_text refusal.TranscriptFull = codes "transcript full"
refusal_text refusal.Store = codes "store"
refusal_text refusal.ForeignStore = codes "foreign store"
refusal_text refusal.UnknownVersion = codes "unknown version"

-- BOUNDS

-- a column's bounds, with its scale: its committed value, and the least and the greatest value that it can have
unfoldable pub column_text : ColumnBounds → List ℕ
column_text b =
    b.column ++ codes " value " ++ scaled_text b.scale b.value ++ codes " inf " ++ scaled_text b.scale b.inf
    ++ codes " sup " ++ scaled_text b.scale b.sup

-- a limit in units of a scale, if there is one
abbrev pub limit_text : ℕ → Option ℤ → List ℕ
limit_text scale None = codes "none"
limit_text scale (Some limit) = scaled_text scale limit

-- a check's bounds, with its scale: the least and the greatest value of its form, and its limits
unfoldable pub check_text : CheckBounds → List ℕ
check_text b =
    codes "CHECK " ++ b.check ++ codes " least " ++ scaled_text b.scale b.least ++ codes " greatest "
    ++ scaled_text b.scale b.greatest
    ++ codes " low " ++ limit_text b.scale b.limits.lo ++ codes " high " ++ limit_text b.scale b.limits.hi

-- OPEN RESERVATIONS

-- a change in units of a scale, with its sign: a plus if it isn't negative
abbrev pub signed_text : ℕ → ℤ → List ℕ
signed_text scale change =
    if is_negative change then scaled_text scale change else codes "+" ++ scaled_text scale change

-- the change of a column, with its scale
abbrev pub change_text : ColumnChange → List ℕ
change_text c = codes " " ++ c.column ++ codes " " ++ signed_text c.scale c.change

-- an open reservation: its id, its session, its row, and the change of each column that it assigns; the row's
-- key has the scale of the key's column
unfoldable pub entry_text : JournalEntry → List ℕ
entry_text e =
    decimal e.id ++ codes " session " ++ decimal e.session ++ codes " " ++ e.row.table ++ codes " "
    ++ value_text e.key_scale e.row.key
    ++ flat_map change_text e.changes

-- REPLIES

-- the words of a reply's last line
abbrev pub reply_text : Reply → List ℕ
reply_text (reply.Refused r) = codes "ERR " ++ decimal (number_of r) ++ codes " " ++ refusal_text r
reply_text (reply.Created name) = codes "OK created " ++ name
reply_text (reply.Dropped name) = codes "OK dropped " ++ name
reply_text (reply.Altered name) = codes "OK altered " ++ name
reply_text reply.Inserted = codes "OK inserted"
reply_text reply.Deleted = codes "OK deleted"
reply_text reply.Updated = codes "OK updated"
reply_text (reply.Reserved id) = codes "OK reserved " ++ decimal id
reply_text (reply.Committed count) = codes "OK committed " ++ decimal count
reply_text (reply.RolledBack count) = codes "OK rolled back " ++ decimal count
reply_text (reply.Rows columns rows) = codes "OK rows " ++ decimal (length rows)
reply_text (reply.Table text) = codes "OK table"
reply_text (reply.Bounds columns checks) = codes "OK bounds"
reply_text (reply.Journal entries) = codes "OK reservations " ++ decimal (length entries)
reply_text (reply.Savepoint name) = codes "OK savepoint " ++ name
reply_text (reply.RolledBackTo name count) = codes "OK rolled back to " ++ name ++ codes " " ++ decimal count
reply_text reply.Restarted = codes "OK restarted"

-- the lines before the last one: the columns' names and each row, or a table's text, or the bounds of
-- each column and each check, or each open reservation
abbrev pub shown_lines : Reply → List (List ℕ)
shown_lines (reply.Rows columns rows) = header_text columns ∷ map (row_text columns) rows
shown_lines (reply.Table text) = text ∷ []
shown_lines (reply.Bounds columns checks) = map column_text columns ++ map check_text checks
shown_lines (reply.Journal entries) = map entry_text entries
shown_lines _ = []

-- the lines of a reply
abbrev pub reply_lines : Reply → List (List ℕ)
reply_lines answer = shown_lines answer ++ reply_text answer ∷ []

-- lines, each with a prefix before it and a line feed after it
abbrev pub with_prefix : List ℕ → List (List ℕ) → List ℕ
with_prefix prefix lines = flat_map (λ line. prefix ++ line ++ 10 ∷ []) lines

-- the prefix of a reply: the database and the session that it is for
abbrev pub prefix_of : List ℕ → ℕ → List ℕ
prefix_of database session = database ++ codes "." ++ decimal session ++ codes "> "

-- the prefix of a reply that is for a whole database
abbrev pub database_prefix : List ℕ → List ℕ
database_prefix database = database ++ codes "> "

-- a reply to a whole database, as it is written
abbrev pub rendered_whole : List ℕ → Reply → List ℕ
rendered_whole database answer = with_prefix (database_prefix database) (reply_lines answer)

-- a reply to a session, as it is written
abbrev pub rendered : List ℕ → ℕ → Reply → List ℕ
rendered database session answer = with_prefix (prefix_of database session) (reply_lines answer)
