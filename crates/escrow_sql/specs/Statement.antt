-- Believed: the grammar of statements, and what each sentence of it means.
use Rattle.std.specs.Prelude.{ℕ, ℤ, pos, neg_ℤ, ◌*ℤ◌, Bool, true, false, if◌then◌else◌, Option, Some, None, List, [], ◌∷◌}
use Rattle.escrow_num.specs.Scale.{unit_at}
use Rattle.escrow_sql.specs.Grammar.{Grammar, token, nothing, sequence, either, many}
use Rattle.escrow_sql.specs.declared.token.Symbol.{Symbol}
use Rattle.escrow_sql.specs.declared.token.Symbol.TheVariants as symbols
use Rattle.escrow_sql.specs.declared.token.Kind.{Kind}
use Rattle.escrow_sql.specs.declared.token.Kind.TheVariants as kind
use Rattle.escrow_statement.specs.declared.word.Word.{Word}
use Rattle.escrow_statement.specs.declared.word.Word.TheVariants as words
use Rattle.escrow_statement.specs.declared.statement.AlterText.{AlterText}
use Rattle.escrow_statement.specs.declared.statement.Assign.{Assign}
use Rattle.escrow_statement.specs.declared.statement.Assigned.{Assigned}
use Rattle.escrow_statement.specs.declared.statement.Assigned.TheVariants as assigned_values
use Rattle.escrow_statement.specs.declared.statement.CheckText.{CheckText}
use Rattle.escrow_statement.specs.declared.statement.ColumnMark.{ColumnMark}
use Rattle.escrow_statement.specs.declared.statement.ColumnMark.TheVariants as marks
use Rattle.escrow_statement.specs.declared.statement.ColumnText.{ColumnText}
use Rattle.escrow_statement.specs.declared.statement.Comparison.{Comparison}
use Rattle.escrow_statement.specs.declared.statement.Comparison.TheVariants as comparisons
use Rattle.escrow_statement.specs.declared.statement.Condition.{Condition}
use Rattle.escrow_statement.specs.declared.statement.CreateText.{CreateText}
use Rattle.escrow_statement.specs.declared.statement.InsertText.{InsertText}
use Rattle.escrow_statement.specs.declared.statement.Item.{Item}
use Rattle.escrow_statement.specs.declared.statement.Item.TheVariants as items
use Rattle.escrow_statement.specs.declared.statement.Literal.{Literal}
use Rattle.escrow_statement.specs.declared.statement.Literal.TheVariants as literals
use Rattle.escrow_statement.specs.declared.statement.NumberSize.{NumberSize}
use Rattle.escrow_statement.specs.declared.statement.Request.{Request}
use Rattle.escrow_statement.specs.declared.statement.Request.TheVariants as requests
use Rattle.escrow_statement.specs.declared.statement.RowText.{RowText}
use Rattle.escrow_statement.specs.declared.statement.SelectText.{SelectText}
use Rattle.escrow_statement.specs.declared.statement.Statement.{Statement}
use Rattle.escrow_statement.specs.declared.statement.Statement.TheVariants as statements
use Rattle.escrow_statement.specs.declared.statement.TableChange.{TableChange}
use Rattle.escrow_statement.specs.declared.statement.TableChange.TheVariants as table_changes
use Rattle.escrow_statement.specs.declared.statement.Term.{Term}
use Rattle.escrow_statement.specs.declared.statement.Term.TheVariants as terms
use Rattle.escrow_statement.specs.declared.statement.Test.{Test}
use Rattle.escrow_statement.specs.declared.statement.Test.TheVariants as tests
use Rattle.escrow_statement.specs.declared.statement.TypeText.{TypeText}
use Rattle.escrow_statement.specs.declared.statement.TypeText.TheVariants as types
use Rattle.escrow_statement.specs.declared.statement.UpdateText.{UpdateText}
use Rattle.escrow_statement.specs.declared.statement.WhereText.{WhereText}

infixr 20 ◌then◌
infixr 15 ◌or◌
-- a reserved word, which means nothing by itself
abbrev pub word : Word → Grammar (Unit {0})
word w = token (kind.Word w) (λ k. tt)

-- a symbol, which means nothing by itself
abbrev pub symbol : Symbol → Grammar (Unit {0})
symbol s = token (kind.Symbol s) (λ k. tt)

-- one and then the other; the meaning is that of the second
abbrev pub ◌then◌ : {V : Type 0} → Grammar (Unit {0}) → Grammar V → Grammar V
a then b = sequence a b (λ x y. y)

-- one and then the other; the meaning is that of the first
abbrev pub before : {V : Type 0} → Grammar V → Grammar (Unit {0}) → Grammar V
before a b = sequence a b (λ x y. x)

-- one and then the other; the meaning is a pair of both
abbrev pub both : {A B : Type 0} → Grammar A → Grammar B → Grammar (A × B)
both a b = sequence a b (λ x y. (x, y))

-- one or the other
abbrev pub ◌or◌ : {V : Type 0} → Grammar V → Grammar V → Grammar V
a or b = either a b

-- it, or nothing, which means d
abbrev pub optional : {V : Type 0} → V → Grammar V → Grammar V
optional d a = either a (nothing d)

-- its meaning is computed from the meaning of a
abbrev pub meaning : {A V : Type 0} → (A → V) → Grammar A → Grammar V
meaning f a = sequence a (nothing (tt {0})) (λ x y. f x)

-- one or more of a, with a separator between two
abbrev pub separated : {V : Type 0} → Grammar (Unit {0}) → Grammar V → Grammar (List V)
separated separator a = sequence a (many (separator then a) (λ xs. xs)) (λ x xs. x ∷ xs)

-- a { "," a }
abbrev pub list : {V : Type 0} → Grammar V → Grammar (List V)
list a = separated (symbol symbols.Comma) a

-- "(" a ")"
abbrev pub in_parentheses : {V : Type 0} → Grammar V → Grammar V
in_parentheses a = symbol symbols.Open then before a (symbol symbols.Close)

-- the name that a token holds, if it is a name
abbrev pub name_in : Kind → List ℕ
name_in (kind.Name n) = n
name_in other = []

-- the number that a token holds, if it is a number without a point
abbrev pub whole_in : Kind → ℤ
whole_in (kind.Number n) = n
whole_in other = pos 0

-- the millionths that a token holds, if it is a number with a point
abbrev pub point_in : Kind → ℤ
point_in (kind.Decimal d) = d
point_in other = pos 0

-- the text that a token holds, without its quotes, if it is a text
abbrev pub text_in : Kind → List ℕ
text_in (kind.Text t) = t
text_in other = []

-- a name
abbrev pub name : Grammar (List ℕ)
name = token (kind.Name []) name_in

-- a number without a point, which means itself
abbrev pub whole : Grammar ℤ
whole = token (kind.Number (pos 0)) whole_in

-- a number with a point, which means its millionths
abbrev pub point : Grammar ℤ
point = token (kind.Decimal (pos 0)) point_in

-- a text in quotes
abbrev pub text : Grammar (List ℕ)
text = token (kind.Text []) text_in

-- the millionths of a whole number
abbrev pub millionths : ℤ → ℤ
millionths n = n *ℤ pos (unit_at 0)

-- number = whole | point, in millionths
unfoldable pub number : Grammar ℤ
number = meaning millionths whole or point

-- a minus makes a number negative
abbrev pub with_sign : Bool → ℤ → ℤ
with_sign minus n = if minus then neg_ℤ n else n

-- sign = "+" | "-"
unfoldable pub sign : Grammar Bool
sign = meaning (λ s. false) (symbol symbols.Plus) or meaning (λ s. true) (symbol symbols.Minus)

-- snum = [ sign ] number
unfoldable pub signed_number : Grammar ℤ
signed_number = sequence (optional false sign) number with_sign

-- literal = snum | text
unfoldable pub literal : Grammar Literal
literal = meaning literals.Number signed_number or meaning literals.Text text

-- where = WHERE name "=" literal
unfoldable pub where_part : Grammar WhereText
where_part =
    word words.Where then sequence name (symbol symbols.Equal then literal) (λ c l. record { column = c; literal = l })

-- change = sign number
unfoldable pub change : Grammar ℤ
change = sequence sign number with_sign

-- assigned = literal | name change
unfoldable pub assigned : Grammar Assigned
assigned = meaning assigned_values.Literal literal or sequence name change (λ s n. assigned_values.Change s n)

-- assign = name "=" assigned
unfoldable pub assign : Grammar Assign
assign = sequence name (symbol symbols.Equal then assigned) (λ c v. record { column = c; value = v })

-- update = UPDATE name SET assign { "," assign } where
unfoldable pub update : Grammar UpdateText
update =
    word words.Update then sequence (both name (word words.Set then list assign)) where_part
    (λ p w. record { table = p.0; assigns = p.1; row = w })

-- columns = [ "(" name { "," name } ")" ]
unfoldable pub columns : Grammar (Option (List (List ℕ)))
columns = optional None (meaning (λ ns. Some ns) (in_parentheses (list name)))

-- insert = INSERT INTO name columns VALUES "(" literal { "," literal } ")"
unfoldable pub insert : Grammar InsertText
insert =
    word words.Insert then word words.Into
    then sequence (both name columns) (word words.Values then in_parentheses (list literal))
    (λ p vs. record { table = p.0; columns = p.1; values = vs })

-- row = name where
unfoldable pub row : Grammar RowText
row = sequence name where_part (λ t w. record { table = t; row = w })

-- delete = DELETE FROM row
unfoldable pub delete : Grammar RowText
delete = word words.Delete then word words.From then row

-- select = SELECT "*" FROM name [ where ]
unfoldable pub select : Grammar SelectText
select =
    word words.Select then symbol symbols.Star then word words.From
    then sequence name (optional None (meaning (λ w. Some w) where_part)) (λ t w. record { table = t; row = w })

-- comparison = "<" | "<=" | ">" | ">=" | "="
unfoldable pub comparison : Grammar Comparison
comparison =
    meaning (λ s. comparisons.Below) (symbol symbols.Below)
    or meaning (λ s. comparisons.AtMost) (symbol symbols.AtMost)
    or meaning (λ s. comparisons.Above) (symbol symbols.Above)
    or meaning (λ s. comparisons.AtLeast) (symbol symbols.AtLeast)
    or meaning (λ s. comparisons.Equal) (symbol symbols.Equal)

-- a whole number by itself, in millionths, or times the column that follows
abbrev pub times : ℤ → Option (List ℕ) → Term
times n None = terms.Number (millionths n)
times n (Some column) = terms.Column n column

-- term = whole [ "*" name ] | point | name [ "*" whole ]
unfoldable pub term : Grammar Term
term =
    sequence whole (optional None (meaning (λ c. Some c) (symbol symbols.Star then name))) times
    or meaning terms.Number point
    or sequence name (optional (pos 1) (symbol symbols.Star then whole)) (λ c n. terms.Column n c)

-- a minus makes a term's number negative
abbrev pub signed : Bool → Term → Term
signed minus (terms.Number n) = terms.Number (with_sign minus n)
signed minus (terms.Column n column) = terms.Column (with_sign minus n) column

-- signed_term = sign term
unfoldable pub signed_term : Grammar Term
signed_term = sequence sign term signed

-- sum = [ sign ] term { sign term }
unfoldable pub sum : Grammar (List Term)
sum = sequence (sequence (optional false sign) term signed) (many signed_term (λ ts. ts)) (λ t ts. t ∷ ts)

-- test_part = comparison sum | BETWEEN snum AND snum
unfoldable pub test_part : Grammar Test
test_part =
    sequence comparison sum (λ c s. tests.Compare c s)
    or word words.Between then sequence signed_number (word words.And then signed_number) (λ l h. tests.Between l h)

-- condition = sum test_part
unfoldable pub condition : Grammar Condition
condition = sequence sum test_part (λ s t. record { sum = s; test = t })

-- constraint = [ CONSTRAINT name ]
unfoldable pub constraint : Grammar (Option (List ℕ))
constraint = optional None (meaning (λ n. Some n) (word words.Constraint then name))

-- check = constraint CHECK "(" condition { AND condition } ")"
unfoldable pub check : Grammar CheckText
check =
    sequence constraint (word words.Check then in_parentheses (separated (word words.And) condition))
    (λ n cs. record { name = n; conditions = cs })

-- mark = PRIMARY KEY | RESERVABLE | NOT NULL | check
unfoldable pub mark : Grammar ColumnMark
mark =
    meaning (λ k. marks.PrimaryKey) (word words.Primary then word words.Key)
    or meaning (λ k. marks.Reservable) (word words.Reservable)
    or meaning (λ k. marks.NotNull) (word words.Not then word words.Null)
    or meaning marks.Check check

-- size = whole [ "," whole ], the digits of a NUMBER and how many of them are after the point
unfoldable pub size : Grammar NumberSize
size =
    sequence whole (optional None (meaning (λ s. Some s) (symbol symbols.Comma then whole)))
    (λ p s. record { digits = p; scale = s })

-- digits = [ "(" size ")" ]
unfoldable pub digits : Grammar (Option NumberSize)
digits = optional None (meaning (λ s. Some s) (in_parentheses size))

-- type = INTEGER | NUMBER digits | VARCHAR2 "(" whole ")"
unfoldable pub type_text : Grammar TypeText
type_text =
    meaning (λ k. types.Integer) (word words.Integer)
    or meaning types.Number (word words.Number then digits)
    or meaning types.Varchar2 (word words.Varchar2 then in_parentheses whole)

-- column = name type { mark }
unfoldable pub column : Grammar ColumnText
column = sequence (both name type_text) (many mark (λ ms. ms)) (λ p ms. record { name = p.0; kind = p.1; marks = ms })

-- item = column | check | PRIMARY KEY "(" name ")"
unfoldable pub item : Grammar Item
item =
    meaning items.Column column
    or meaning items.Check check
    or meaning items.PrimaryKey (word words.Primary then word words.Key then in_parentheses name)

-- create = CREATE TABLE name "(" item { "," item } ")"
unfoldable pub create : Grammar CreateText
create =
    word words.Create then word words.Table
    then sequence name (in_parentheses (list item)) (λ t is. record { table = t; items = is })

-- drop = DROP TABLE name
unfoldable pub drop : Grammar (List ℕ)
drop = word words.Drop then word words.Table then name

-- table_change = ADD check | DROP CONSTRAINT name
unfoldable pub table_change : Grammar TableChange
table_change =
    meaning table_changes.Add (word words.Add then check)
    or meaning table_changes.Drop (word words.Drop then word words.Constraint then name)

-- alter = ALTER TABLE name table_change
unfoldable pub alter : Grammar AlterText
alter = word words.Alter then word words.Table then sequence name table_change (λ t c. record { table = t; change = c })

-- table_statement = create | drop | alter
unfoldable pub table_statement : Grammar Statement
table_statement =
    meaning statements.Create create
    or meaning statements.Drop drop
    or meaning statements.Alter alter

-- row_statement = insert | update | delete | select
unfoldable pub row_statement : Grammar Statement
row_statement =
    meaning statements.Insert insert
    or meaning statements.Update update
    or meaning statements.Delete delete
    or meaning statements.Select select

-- work = [ WORK ]
unfoldable pub work : Grammar (Unit {0})
work = optional tt (word words.Work)

-- back = [ TO [ SAVEPOINT ] name ]
unfoldable pub back : Grammar Statement
back =
    optional statements.Rollback
    (meaning statements.RollbackTo (word words.To then optional tt (word words.Savepoint) then name))

-- ending = COMMIT work | ROLLBACK work back | SAVEPOINT name
unfoldable pub ending : Grammar Statement
ending =
    meaning (λ k. statements.Commit) (word words.Commit then work)
    or word words.Rollback then work then back
    or meaning statements.Savepoint (word words.Savepoint then name)

-- show = SHOW TABLE name | SHOW JOURNAL [ name ] | SHOW BOUNDS row | SHOW STATISTICS
unfoldable pub show : Grammar Request
show =
    word words.Show then meaning requests.Statement (meaning statements.ShowTable (word words.Table then name))
    or word words.Show then meaning requests.Statement
    (meaning statements.ShowJournal (word words.Journal then optional None (meaning (λ n. Some n) name)))
    or word words.Show then meaning requests.Statement (meaning statements.ShowBounds (word words.Bounds then row))
    or word words.Show then meaning (λ k. requests.Statistics) (word words.Statistics)

-- body = table_statement | row_statement | ending | show
unfoldable pub body : Grammar Request
body =
    meaning requests.Statement table_statement
    or meaning requests.Statement row_statement
    or meaning requests.Statement ending
    or show

-- request = body [ ";" ]. A number means its millionths. The factor of a column and the size of a type are each a
-- `whole` (a number without a point), and mean themselves.
unfoldable pub request : Grammar Request
request = before body (optional tt (symbol symbols.Semicolon))
