-- Believed: the reserved words.
use Rattle.std.specs.Prelude.{ℕ, List, [], ◌∷◌, Option, bytes_eq, codes}
use Rattle.std.specs.List.{find}
use Rattle.escrow_statement.specs.declared.word.Word.{Word}
use Rattle.escrow_statement.specs.declared.word.Word.TheVariants as word

-- how each reserved word is spelled
abbrev pub spelling : Word → List ℕ
spelling word.Add = codes "ADD"
spelling word.Alter = codes "ALTER"
spelling word.And = codes "AND"
spelling word.Between = codes "BETWEEN"
spelling word.Bounds = codes "BOUNDS"
spelling word.Check = codes "CHECK"
spelling word.Commit = codes "COMMIT"
spelling word.Constraint = codes "CONSTRAINT"
spelling word.Create = codes "CREATE"
spelling word.Delete = codes "DELETE"
spelling word.Drop = codes "DROP"
spelling word.From = codes "FROM"
spelling word.Insert = codes "INSERT"
spelling word.Integer = codes "INTEGER"
spelling word.Into = codes "INTO"
spelling word.Journal = codes "JOURNAL"
spelling word.Key = codes "KEY"
spelling word.Not = codes "NOT"
spelling word.Null = codes "NULL"
spelling word.Number = codes "NUMBER"
spelling word.Primary = codes "PRIMARY"
spelling word.Reservable = codes "RESERVABLE"
spelling word.Rollback = codes "ROLLBACK"
spelling word.Savepoint = codes "SAVEPOINT"
spelling word.Select = codes "SELECT"
spelling word.Set = codes "SET"
spelling word.Show = codes "SHOW"
spelling word.Statistics = codes "STATISTICS"
spelling word.Table = codes "TABLE"
spelling word.To = codes "TO"
spelling word.Update = codes "UPDATE"
spelling word.Values = codes "VALUES"
spelling word.Varchar2 = codes "VARCHAR2"
spelling word.Where = codes "WHERE"
spelling word.Work = codes "WORK"

-- the reserved words, in alphabetical order
abbrev pub reserved_words : List Word
reserved_words =
    word.Add ∷ word.Alter ∷ word.And ∷ word.Between ∷ word.Bounds ∷ word.Check ∷ word.Commit ∷ word.Constraint
    ∷ word.Create ∷ word.Delete ∷ word.Drop ∷ word.From ∷ word.Insert ∷ word.Integer ∷ word.Into ∷ word.Journal
    ∷ word.Key ∷ word.Not ∷ word.Null ∷ word.Number ∷ word.Primary ∷ word.Reservable ∷ word.Rollback ∷ word.Savepoint
    ∷ word.Select ∷ word.Set ∷ word.Show ∷ word.Statistics ∷ word.Table ∷ word.To ∷ word.Update ∷ word.Values
    ∷ word.Varchar2 ∷ word.Where ∷ word.Work ∷ []

-- the reserved word that a text spells, if it spells one
abbrev pub reserved : List ℕ → Option Word
reserved text = find (λ w. bytes_eq (spelling w) text) reserved_words
