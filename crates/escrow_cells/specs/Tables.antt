-- Believed: the three tables of a store, as SQLite understands the texts that make them.
use Rattle.std.specs.Prelude.{ℕ, true, false, List, [], ◌∷◌, map, Option, Some, None, codes}
use Rattle.sqlite_value.specs.declared.value.Value.TheVariants.{Null}
use Rattle.sqlite_value.specs.declared.keys.Collation.TheVariants.{Binary}
use Rattle.sqlite_value.specs.Keys.{plain}
use Rattle.sqlite_schema.specs.declared.schema.Kind.{Kind}
use Rattle.sqlite_schema.specs.declared.schema.Kind.TheVariants as kind
use Rattle.sqlite_schema.specs.declared.schema.Column.{Column}
use Rattle.sqlite_schema.specs.declared.schema.Table.{Table}
use Rattle.sqlite_schema.specs.declared.schema.Index.{Index}
use Rattle.sqlite_schema.specs.declared.schema.View.{View}
use Rattle.sqlite_schema.specs.declared.schema.Schema.{Schema}

-- the text that makes META, which has the format of a store
abbrev pub meta_text : List ℕ
meta_text = codes "CREATE TABLE META(K TEXT NOT NULL PRIMARY KEY, V INTEGER NOT NULL) STRICT"

-- the text that makes TAB: for each table its number, its name and the text that defines it
abbrev pub tab_text : List ℕ
tab_text = codes "CREATE TABLE TAB(ID INTEGER PRIMARY KEY, NAME TEXT NOT NULL UNIQUE, DDL TEXT NOT NULL) STRICT"

-- the text that makes CELL: values, each with the number of its table, the key of its row and the place of its column
abbrev pub cell_text : List ℕ
cell_text =
    codes "CREATE TABLE CELL(TAB INTEGER NOT NULL, K ANY NOT NULL, C INTEGER NOT NULL, V ANY NOT NULL, PRIMARY KEY(TAB, K, C)) STRICT"

-- a column that is NOT NULL
abbrev pub filled : List ℕ → Kind → Column
filled name what =
    record { name = name; kind = what; is_strict = true; not_null = true; default = Null; collation = Binary }

-- a table whose rows are in a tree, with these columns; the INTEGER PRIMARY KEY among them, if there is one; the places
-- of its primary key; and those of each key that an index keeps, from 1
abbrev table_of : List ℕ → ℕ → List Column → Option ℕ → List ℕ → List (List ℕ) → Table
table_of name tree columns key primary uniques = record {
  name = name;
  tree = tree;
  columns = columns;
  key = key;
  primary = primary;
  uniques = uniques;
  orders = map (λ _. plain) uniques;
  checks = [];
  references = [];
  computed = [];
  stamps = record { places = []; terms = []; formats = [] };
  is_counted = false;
}

-- the number of the tree that has the rows of META
abbrev pub meta_tree : ℕ
meta_tree = 0

-- the number of the tree that has the rows of TAB
abbrev pub tab_tree : ℕ
tab_tree = 2

-- the number of the tree that has the rows of CELL
abbrev pub cell_tree : ℕ
cell_tree = 4

-- META as SQLite understands its text: no column is NULL, and no two rows have the same K
abbrev pub meta : Table
meta =
    table_of (codes "META") meta_tree (filled (codes "K") kind.Text ∷ filled (codes "V") kind.Integer ∷ []) None
    (1 ∷ []) ((1 ∷ []) ∷ [])

-- TAB as SQLite understands its text: the ID is SQLite's own number of the row, NAME and DDL aren't NULL, and no two
-- rows have the same NAME
abbrev pub tab : Table
tab =
    table_of (codes "TAB") tab_tree
    (record (filled (codes "ID") kind.Integer) { not_null = false } ∷ filled (codes "NAME") kind.Text
    ∷ filled (codes "DDL") kind.Text ∷ []) (Some 0) (0 ∷ []) ((2 ∷ []) ∷ [])

-- CELL as SQLite understands its text: no column is NULL, K and V take values of any type, and no two rows have the
-- same TAB, K and C
abbrev pub cell : Table
cell =
    table_of (codes "CELL") cell_tree
    (filled (codes "TAB") kind.Integer ∷ filled (codes "K") kind.Any ∷ filled (codes "C") kind.Integer
    ∷ filled (codes "V") kind.Any ∷ []) None (1 ∷ 2 ∷ 3 ∷ []) ((1 ∷ 2 ∷ 3 ∷ []) ∷ [])

-- the schema of a store: the three tables, and any objects that were made after them
abbrev pub beside : List Table → List Index → List View → Schema
beside more indexes views = record { tables = meta ∷ tab ∷ cell ∷ more; indexes = indexes; views = views }

-- the schema of a database without objects
abbrev pub no_schema : Schema
no_schema = record { tables = []; indexes = []; views = [] }
