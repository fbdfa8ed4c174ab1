-- Helps: a number for each reserved word.
use Rattle.std.specs.Prelude.{ℕ}
use Rattle.escrow_statement.specs.declared.word.Word.{Word}
use Rattle.escrow_statement.specs.declared.word.Word.TheVariants as word

-- the place of a reserved word in alphabetical order, from 0
abbrev pub number_of : Word → ℕ
number_of word.Add = 0
number_of word.Alter = 1
number_of word.And = 2
number_of word.Between = 3
number_of word.Bounds = 4
number_of word.Check = 5
number_of word.Commit = 6
number_of word.Constraint = 7
number_of word.Create = 8
number_of word.Delete = 9
number_of word.Drop = 10
number_of word.From = 11
number_of word.Insert = 12
number_of word.Integer = 13
number_of word.Into = 14
number_of word.Journal = 15
number_of word.Key = 16
number_of word.Not = 17
number_of word.Null = 18
number_of word.Number = 19
number_of word.Primary = 20
number_of word.Reservable = 21
number_of word.Rollback = 22
number_of word.Savepoint = 23
number_of word.Select = 24
number_of word.Set = 25
number_of word.Show = 26
number_of word.Statistics = 27
number_of word.Table = 28
number_of word.To = 29
number_of word.Update = 30
number_of word.Values = 31
number_of word.Varchar2 = 32
number_of word.Where = 33
number_of word.Work = 34
