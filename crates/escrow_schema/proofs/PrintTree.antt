-- The tree that a table's canonical text prints, and what it declares: the table's columns, key and checks.
use Rattle.std.proofs.Common.{◌≡◌, ℕ, zero, suc, ℤ, pos, ◌+◌, ◌*ℤ◌, ◌<◌, Bool, true, false, Option, Some, None, List, [], ◌∷◌, ◌++◌, map, filter, refl, sym, ap, subst, arith, inl, inr}
use Rattle.std.specs.Prelude.{◌==◌, slice_get, unwrap_or, if◌then◌else◌}
use Rattle.std.specs.List.{AllByRecursion, flat_map, list_any}
use Rattle.std.specs.Ordering.{int_eq}
use Rattle.std.proofs.lemmas.Bool.Decides.{nat_tests}
use Rattle.std.proofs.lemmas.Bool.{cases_Bool, eqb-true, eq-eqb, le-leb}
use Rattle.std.proofs.lemmas.Option.{same_Some}
use Rattle.escrow_num.specs.Scale.{unit_at}
use Rattle.escrow_statement.specs.declared.statement.CheckText.{CheckText}
use Rattle.escrow_statement.specs.declared.statement.ColumnMark.{ColumnMark}
use Rattle.escrow_statement.specs.declared.statement.ColumnMark.TheVariants as marks
use Rattle.escrow_statement.specs.declared.statement.ColumnText.{ColumnText}
use Rattle.escrow_statement.specs.declared.statement.Comparison.TheVariants as comparisons
use Rattle.escrow_statement.specs.declared.statement.Condition.{Condition}
use Rattle.escrow_statement.specs.declared.statement.CreateText.{CreateText}
use Rattle.escrow_statement.specs.declared.statement.Item.{Item}
use Rattle.escrow_statement.specs.declared.statement.Item.TheVariants as items
use Rattle.escrow_statement.specs.declared.statement.Term.{Term}
use Rattle.escrow_statement.specs.declared.statement.Term.TheVariants as terms
use Rattle.escrow_statement.specs.declared.statement.Test.{Test}
use Rattle.escrow_statement.specs.declared.statement.Test.TheVariants as tests
use Rattle.escrow_statement.specs.declared.statement.TypeText.{TypeText}
use Rattle.escrow_statement.specs.declared.statement.TypeText.TheVariants as types
use Rattle.escrow_checks.specs.declared.check.Check.{Check}
use Rattle.escrow_checks.specs.DeclaredCheck.{written_of}
use Rattle.escrow_schema.specs.declared.column.Column.{Column}
use Rattle.escrow_schema.specs.declared.column.ColumnType.{ColumnType}
use Rattle.escrow_schema.specs.declared.column.ColumnType.TheVariants.{Number, Varchar2}
use Rattle.escrow_schema.specs.declared.table.TableDef.{TableDef}
use Rattle.escrow_schema.specs.Column.{type_of, reservables, names_of, scales_of}
use Rattle.escrow_schema.specs.Definition.{check_of_mark, checks_in, column_of, column_texts, columns_of, is_key_mark, is_reservable_mark, key_names}
use Rattle.escrow_schema.specs.Print.{declared_checks}
use Rattle.escrow_schema.specs.Typed.{IsType}
use Rattle.escrow_schema.proofs.ColumnsLemmas.{HasType}

-- the scale after a precision; none if it is 0
abbrev pub scale_tree : ℕ → Option ℤ
scale_tree scale = if scale == 0 then None else Some (pos scale)

-- a type
abbrev pub type_tree : ColumnType → TypeText
type_tree (Number digits scale) = types.Number (Some (record { digits = pos digits; scale = scale_tree scale }))
type_tree (Varchar2 bytes) = types.Varchar2 (pos bytes)

-- the mark of the key, or of a RESERVABLE column
abbrev pub marks_tree : Bool → Bool → List ColumnMark
marks_tree true reservable = marks.PrimaryKey ∷ []
marks_tree false true = marks.Reservable ∷ []
marks_tree false false = []

-- a column
abbrev pub column_tree : Bool → Column → ColumnText
column_tree is_key column = record { name = column.name; kind = type_tree column.kind; marks = marks_tree is_key column.reservable }

-- columns in order, the first of which is at a given place
abbrev pub columns_tree : List Column → ℕ → ℕ → List Item
columns_tree [] place key = []
columns_tree (column ∷ columns) place key = items.Column (column_tree (place == key) column) ∷ columns_tree columns (place + 1) key

-- a form: each column with a coefficient other than zero, in column order
abbrev pub terms_tree : List (List ℕ) → List ℤ → List Term
terms_tree [] coeffs = []
terms_tree (name ∷ names) [] = []
terms_tree (name ∷ names) (c ∷ coeffs) = if int_eq c (pos 0) then terms_tree names coeffs else terms.Column c name ∷ terms_tree names coeffs

-- units of a scale, in millionths
abbrev pub units_tree : ℕ → ℤ → ℤ
units_tree scale z = z *ℤ pos (unit_at scale)

-- such a number by itself
abbrev pub number_tree : ℕ → ℤ → List Term
number_tree scale z = terms.Number (units_tree scale z) ∷ []

-- limits, in units of a scale
abbrev pub test_tree : ℕ → Option ℤ → Option ℤ → Test
test_tree scale (Some lo) (Some hi) = if int_eq lo hi then tests.Compare comparisons.Equal (number_tree scale lo) else tests.Between (units_tree scale lo) (units_tree scale hi)
test_tree scale (Some lo) None = tests.Compare comparisons.AtLeast (number_tree scale lo)
test_tree scale None (Some hi) = tests.Compare comparisons.AtMost (number_tree scale hi)
test_tree scale None None = tests.Compare comparisons.AtMost []

-- a check over columns of these names and scales: one condition under its name
abbrev pub condition_tree : List (List ℕ) → List ℕ → Check → Condition
condition_tree names scales check = record { sum = terms_tree names (written_of check scales); test = test_tree check.scale check.span.lo check.span.hi }

abbrev pub check_tree : List (List ℕ) → List ℕ → Check → CheckText
check_tree names scales check = record { name = Some check.name; conditions = condition_tree names scales check ∷ [] }

abbrev pub check_item : List (List ℕ) → List ℕ → Check → Item
check_item names scales check = items.Check (check_tree names scales check)

-- a table's items, and the whole
abbrev pub items_tree : TableDef → List Item
items_tree table = columns_tree table.columns 0 table.key ++ map (check_item (names_of (reservables table.columns)) (scales_of (reservables table.columns))) (declared_checks table)

abbrev pub tree_of : TableDef → CreateText
tree_of table = record { table = table.name; items = items_tree table }

-- ---- the columns

-- the column at the key's place is not RESERVABLE
abbrev pub PlainKey : List Column → ℕ → ℕ → Type 0
PlainKey [] place key = Unit {0}
PlainKey (column ∷ columns) place key = ((place == key) ≡ true → column.reservable ≡ false) × PlainKey columns (place + 1) key

plain_past : (columns : List Column) (place key : ℕ) → key < place → PlainKey columns place key
plain_past [] place key past = tt
plain_past (column ∷ columns) place key past = (λ e. let same = eqb-true place key e in absurd (omega arith), plain_past columns (place + 1) key (omega arith))

pub plain_found : (columns : List Column) (place key i : ℕ) (column : Column) → key ≡ place + i → slice_get columns i ≡ Some column → column.reservable ≡ false → PlainKey columns place key
plain_found [] place key i column at found plain = tt
plain_found (first ∷ columns) place key zero column at found plain =
    (λ e. subst (λ (c : Column). c.reservable ≡ false) (sym (same_Some first column found)) plain, plain_past columns (place + 1) key (omega arith))
plain_found (first ∷ columns) place key (suc i) column at found plain =
    (λ e. let same = eqb-true place key e in absurd (omega arith), plain_found columns (place + 1) key i column (omega arith) found plain)

-- the scale after a precision is read back, even if none is printed
scale_back : (scale : ℕ) → unwrap_or (scale_tree scale) (pos 0) ≡ pos scale
scale_back scale =
    elim (cases_Bool (scale == 0)) [
      | inl e ↦ rw e (ap pos (sym (eqb-true scale 0 e)))
      | inr e ↦ rw e refl
    ]

-- a valid type is read back
type_back : (kind : ColumnType) → IsType kind → type_of (type_tree kind) ≡ Some kind
type_back (Number digits scale) h =
    let low = le-leb 1 digits h.0 in
    let high = le-leb digits 15 h.1 in
    let most = le-leb scale 6 h.2 in
    let within = le-leb scale digits h.3 in
    let least = le-leb 0 scale (omega arith) in
    rw (scale_back scale, low, high, least, most, within) refl
type_back (Varchar2 bytes) h = let low = le-leb 1 bytes h.0 in let high = le-leb bytes 255 h.1 in rw (low, high) refl

marks_back : (is_key reservable : Bool) → (is_key ≡ true → reservable ≡ false) → list_any is_reservable_mark (marks_tree is_key reservable) ≡ reservable
marks_back true reservable plain = sym (plain refl)
marks_back false true plain = refl
marks_back false false plain = refl

column_back : (is_key : Bool) (column : Column) → HasType column → (is_key ≡ true → column.reservable ≡ false) → column_of (column_tree is_key column) ≡ Some column
column_back is_key column typed plain = rw (type_back column.kind typed, marks_back is_key column.reservable plain) refl

pub columns_back : (columns : List Column) (place key : ℕ) (names : List (List ℕ)) (scales : List ℕ) (checks : List Check) → AllByRecursion HasType columns → PlainKey columns place key
    → columns_of (column_texts (columns_tree columns place key ++ map (check_item names scales) checks)) ≡ Some columns
columns_back [] place key names scales [] typed plain = refl
columns_back [] place key names scales (check ∷ checks) typed plain = columns_back [] place key names scales checks typed plain
columns_back (column ∷ columns) place key names scales checks typed plain =
    rw (column_back (place == key) column typed.0 plain.0, columns_back columns (place + 1) key names scales checks typed.1 plain.1) refl

-- ---- the key

no_keys : (names : List (List ℕ)) (scales : List ℕ) (checks : List Check) → key_names (map (check_item names scales) checks) ≡ []
no_keys names scales [] = refl
no_keys names scales (check ∷ checks) = no_keys names scales checks

no_key_mark : (reservable : Bool) (name : List ℕ) → map (λ mark. name) (filter is_key_mark (marks_tree false reservable)) ≡ []
no_key_mark true name = refl
no_key_mark false name = refl

keys_past : (columns : List Column) (place key : ℕ) (names : List (List ℕ)) (scales : List ℕ) (checks : List Check) → key < place → key_names (columns_tree columns place key ++ map (check_item names scales) checks) ≡ []
keys_past [] place key names scales checks past = no_keys names scales checks
keys_past (column ∷ columns) place key names scales checks past =
    let apart : (place == key) ≡ false = grind (arith, nat_tests) in
    rw (apart, no_key_mark column.reservable column.name) (keys_past columns (place + 1) key names scales checks (omega arith))

pub keys_back : (columns : List Column) (place key i : ℕ) (column : Column) (names : List (List ℕ)) (scales : List ℕ) (checks : List Check) → key ≡ place + i → slice_get columns i ≡ Some column
    → key_names (columns_tree columns place key ++ map (check_item names scales) checks) ≡ column.name ∷ []
keys_back [] place key i column names scales checks at found = absurd (cc)
keys_back (first ∷ columns) place key zero column names scales checks at found =
    let same : (place == key) ≡ true = eq-eqb place key (omega arith) in
    rw (same, keys_past columns (place + 1) key names scales checks (omega arith)) (ap (λ (c : Column). c.name ∷ []) (same_Some first column found))
keys_back (first ∷ columns) place key (suc i) column names scales checks at found =
    let apart : (place == key) ≡ false = grind (arith, nat_tests) in
    rw (apart, no_key_mark first.reservable first.name) (keys_back columns (place + 1) key i column names scales checks (omega arith) found)

-- ---- the CHECKs

no_check_mark : (is_key reservable : Bool) → flat_map check_of_mark (marks_tree is_key reservable) ≡ []
no_check_mark true reservable = refl
no_check_mark false true = refl
no_check_mark false false = refl

pub checks_back : (columns : List Column) (place key : ℕ) (names : List (List ℕ)) (scales : List ℕ) (checks : List Check)
    → checks_in (columns_tree columns place key ++ map (check_item names scales) checks) ≡ map (check_tree names scales) checks
checks_back [] place key names scales [] = refl
checks_back [] place key names scales (check ∷ checks) = ap (λ (texts : List CheckText). check_tree names scales check ∷ texts) (checks_back [] place key names scales checks)
checks_back (column ∷ columns) place key names scales checks = rw (no_check_mark (place == key) column.reservable) (checks_back columns (place + 1) key names scales checks)
