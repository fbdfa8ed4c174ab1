-- Believed: the canonical text of a table, to the byte.
use Rattle.std.specs.Prelude.{ℕ, ℤ, pos, negsuc, ◌+◌, ◌-◌, ◌==◌, Bool, true, false, if◌then◌else◌, Option, Some, None, List, [], ◌∷◌, ◌++◌, length, take, map, codes, decimal}
use Rattle.std.specs.Int.RustNames.{unsigned_abs}
use Rattle.std.specs.Ordering.{int_eq}
use Rattle.escrow_num.specs.Scaled.{scaled_text}
use Rattle.escrow_statement.specs.Joined.{joined}
use Rattle.escrow_checks.specs.declared.check.Check.{Check}
use Rattle.escrow_checks.specs.DeclaredCheck.{written_of}
use Rattle.escrow_schema.specs.declared.column.Column.{Column}
use Rattle.escrow_schema.specs.declared.column.ColumnType.{ColumnType}
use Rattle.escrow_schema.specs.declared.column.ColumnType.TheVariants.{Number, Varchar2}
use Rattle.escrow_schema.specs.declared.table.TableDef.{TableDef}
use Rattle.escrow_schema.specs.Column.{reservables, names_of, scales_of}

-- a scale after a precision; nothing is written if it is 0
abbrev pub scale_words : ℕ → List ℕ
scale_words scale = if scale == 0 then [] else codes "," ++ decimal scale

-- a type: NUMBER(p) or NUMBER(p,s), or VARCHAR2 and its bytes
abbrev pub type_words : ColumnType → List ℕ
type_words (Number digits scale) = codes "NUMBER(" ++ (decimal digits ++ (scale_words scale ++ codes ")"))
type_words (Varchar2 bytes) = codes "VARCHAR2(" ++ (decimal bytes ++ codes ")")

-- the mark of the key, or of a RESERVABLE column; other columns have none
unfoldable pub marks_words : Bool → Bool → List ℕ
marks_words is_key reservable = if is_key then codes " PRIMARY KEY" else if reservable then codes " RESERVABLE" else []

-- a column: its name, its type, its mark
abbrev pub column_words : Bool → Column → List ℕ
column_words is_key column =
    (column.name ++ (codes " " ++ type_words column.kind)) ++ marks_words is_key column.reservable

-- columns in order; the first has this place
abbrev pub columns_words : List Column → ℕ → ℕ → List (List ℕ)
columns_words [] place key = []
columns_words (column ∷ columns) place key = column_words (place == key) column ∷ columns_words columns (place + 1) key

-- the sign of a term; the first term only shows a minus
abbrev pub sign_words : Bool → ℤ → List ℕ
sign_words true (pos n) = []
sign_words true (negsuc n) = codes "-"
sign_words false (pos n) = codes " + "
sign_words false (negsuc n) = codes " - "

-- a magnitude times a column
abbrev pub times_words : ℕ → List ℕ → List ℕ
times_words magnitude name = if magnitude == 1 then name else decimal magnitude ++ (codes " * " ++ name)

-- a form: each column with a coefficient other than zero, in column order. The flag says whether the next term is the
-- first one
abbrev pub form_words : Bool → List (List ℕ) → List ℤ → List ℕ
form_words is_first [] coeffs = []
form_words is_first (name ∷ names) [] = []
form_words is_first (name ∷ names) (c ∷ coeffs) =
    if int_eq c (pos 0) then form_words is_first names coeffs
    else (sign_words is_first c ++ times_words (unsigned_abs c) name) ++ form_words false names coeffs

-- the limits of a form, in units of a scale
abbrev pub limit_words : ℕ → Option ℤ → Option ℤ → List ℕ
limit_words scale (Some lo) (Some hi) =
    if int_eq lo hi then codes " = " ++ scaled_text scale lo
    else codes " BETWEEN " ++ (scaled_text scale lo ++ (codes " AND " ++ scaled_text scale hi))
limit_words scale (Some lo) None = codes " >= " ++ scaled_text scale lo
limit_words scale None (Some hi) = codes " <= " ++ scaled_text scale hi
limit_words scale None None = []

-- the condition of a check over columns of these names and scales: its coefficients as written, in units of the
-- columns' own scales, and its limits
abbrev pub condition_words : List (List ℕ) → List ℕ → Check → List ℕ
condition_words names scales check =
    form_words true names (written_of check scales) ++ limit_words check.scale check.span.lo check.span.hi

-- a declared check, over the RESERVABLE columns of these names and scales
unfoldable pub check_words : List (List ℕ) → List ℕ → Check → List ℕ
check_words names scales check =
    (codes "CONSTRAINT " ++ check.name) ++ (codes " CHECK (" ++ (condition_words names scales check ++ codes ")"))

-- the declared checks of a table: those before the ranges of its RESERVABLE columns
abbrev pub declared_checks : TableDef → List Check
declared_checks table = take (length table.checks - length (reservables table.columns)) table.checks

-- a table of this name with these items
unfoldable pub table_words : List ℕ → List (List ℕ) → List ℕ
table_words name items = codes "CREATE TABLE " ++ (name ++ (codes " (" ++ (joined items ++ codes ")")))

-- the canonical text of a table: its columns in order, then its declared checks
abbrev pub canonical : TableDef → List ℕ
canonical table =
    table_words table.name
    (columns_words table.columns 0 table.key
    ++ map (check_words (names_of (reservables table.columns)) (scales_of (reservables table.columns)))
    (declared_checks table))
