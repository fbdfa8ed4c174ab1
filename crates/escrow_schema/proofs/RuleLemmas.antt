-- The rules that the columns of a table follow, one by one.
use Rattle.std.proofs.Common.{◌≡◌, ℕ, ◌≤◌, ◌<◌, zero, suc, true, false, not, Option, Some, None, option_map, bytes_eq, List, [], ◌∷◌, length, ap, sym, ◌∙◌, subst, refl, arith}
use Rattle.std.specs.Prelude.{IsTrue, slice_get, unwrap_or}
use Rattle.std.specs.List.{AllByRecursion, list_all}
use Rattle.std.proofs.lemmas.List.Elements.{All-from_recursion, All-filter, recursion_from_All}
use Rattle.std.proofs.lemmas.List.Quantifiers.{position-Some}
use Rattle.std.proofs.lemmas.List.Sums.{AllPass-from_list_all}
use Rattle.std.proofs.lemmas.Bool.{and_parts, not-true, leb-true, false≢true}
use Rattle.std.proofs.lemmas.Option.{none-some, same_Some, option_and_then_some, get_or_from_slice_get}
use Rattle.std.proofs.lemmas.Slice.Eq.{bytes_eq-Decides}
use Rattle.escrow_statement.specs.declared.statement.CreateText.{CreateText}
use Rattle.escrow_statement.specs.declared.statement.Item.{Item}
use Rattle.escrow_checks.proofs.ConditionLemmas.{checks_declared, checks_whole}
use Rattle.escrow_checks.specs.DeclaredCheck.{IsDeclared}
use Rattle.escrow_checks.specs.Scales.{AreScales}
use Rattle.escrow_checks.specs.declared.coefficients.TheConstants.Coefficients.{MAX_LEN}
use Rattle.escrow_checks.specs.WrittenName.{is_written_name}
use Rattle.escrow_schema.specs.declared.column.Column.{Column}
use Rattle.escrow_schema.specs.declared.table.TableDef.{TableDef}
use Rattle.escrow_schema.specs.declared.table.TheConstants.TableDef.{MIN_COLUMNS, MAX_COLUMNS}
use Rattle.escrow_schema.specs.Column.{is_numeric, reservables, names_of, scales_of}
use Rattle.escrow_schema.specs.Definition.{IsTable, check_names, checks_in, column_texts, columns_of, definition_of, are_columns, are_distinct, is_plain_at, key_names, key_place, only_one, place_of_column}
use Rattle.escrow_schema.specs.Rules.{FollowsRules}
use Rattle.escrow_schema.specs.Typed.{CanRange, TypedColumns}
use Rattle.escrow_schema.proofs.ColumnsLemmas.{HasType, written_columns, reservable_types, reservables_distinct, reservables_written, scales_typed}
use Rattle.escrow_schema.proofs.DistinctLemmas.{distinct_from}
use Rattle.escrow_schema.proofs.TableLemmas.{parts}

pub record Rules (columns : List Column) (key : ℕ) : Type 0 where
  pub least : MIN_COLUMNS ≤ length columns
  pub most : length columns ≤ MAX_COLUMNS
  pub distinct : are_distinct (names_of columns) ≡ true
  pub written_names : list_all is_written_name (names_of columns) ≡ true
  pub plain_key : is_plain_at columns key ≡ true
  pub some_reservable : 1 ≤ length (reservables columns)
  pub few_reservable : length (reservables columns) ≤ MAX_LEN
  pub numeric : list_all (λ column. is_numeric column.kind) (reservables columns) ≡ true

pub rules_on : (columns : List Column) (key : ℕ) → are_columns columns key ≡ true → Rules columns key
rules_on columns key e =
    let k = and_parts _ _ e in
    let h = and_parts _ _ k.0 in
    let g = and_parts _ _ h.0 in
    let f = and_parts _ _ g.0 in
    let s = and_parts _ _ f.0 in
    let n = and_parts _ _ s.0 in
    let m = and_parts _ _ n.0 in
    record {
      least = leb-true _ _ m.0;
      most = leb-true _ _ m.1;
      distinct = n.1;
      written_names = s.1;
      plain_key = f.1;
      some_reservable = leb-true _ _ g.1;
      few_reservable = leb-true _ _ h.1;
      numeric = k.1;
    }

-- the columns of a table follow the rules
pub rules_of : (table : TableDef) → IsTable table → Rules table.columns table.key
rules_of table is_table = rules_on table.columns table.key (parts is_table.0 table is_table.1).follow

-- each column of a table has a type
pub column_types : (table : TableDef) → IsTable table → AllByRecursion HasType table.columns
column_types table is_table = written_columns (column_texts is_table.0.items) table.columns (parts is_table.0 table is_table.1).columns

-- the scales of its RESERVABLE columns are scales, one for each name
pub table_scales : (table : TableDef) → IsTable table → AreScales (names_of (reservables table.columns)) (scales_of (reservables table.columns))
table_scales table is_table = scales_typed (reservables table.columns) (reservable_types table.columns (column_types table is_table))

-- if a column passes the test at an index, the index is within the columns
stands : (columns : List Column) (key : ℕ) → is_plain_at columns key ≡ true → key < length columns
stands [] key e = absurd (false≢true e)
stands (column ∷ columns) zero e = omega arith
stands (column ∷ columns) (suc key) e = let rest = stands columns key e in omega arith

-- the key of a table is among its columns
pub key_stands : (table : TableDef) → IsTable table → table.key < length table.columns
key_stands table is_table = stands table.columns table.key (rules_of table is_table).plain_key

-- each column of a table, by its index, has a type
pub typed_columns : (table : TableDef) → IsTable table → (columns : List Column) → columns ≡ table.columns → TypedColumns columns
typed_columns table is_table columns same = All-from_recursion HasType columns (subst (AllByRecursion HasType) (sym same) (column_types table is_table))

-- the key is among the columns
pub key_among : (table : TableDef) → IsTable table → (columns : List Column) → columns ≡ table.columns → table.key < length columns
key_among table is_table columns same = subst (λ (xs : List Column). table.key < length xs) (sym same) (key_stands table is_table)

-- the RESERVABLE columns of a table can have range checks
pub can_range : (columns reserved : List Column) (key : ℕ) → are_columns columns key ≡ true → TypedColumns columns → reserved ≡ reservables columns → CanRange reserved
can_range columns reserved key follow types same =
    let rules = rules_on columns key follow in
    subst CanRange (sym same)
    (rules.few_reservable, reservables_distinct columns rules.distinct, reservables_written columns rules.written_names, All-filter (λ column. column.reservable) HasType columns types)

-- so can those of a table that is given
pub table_can_range : (table : TableDef) (reserved : List Column) → IsTable table → reserved ≡ reservables table.columns → CanRange reserved
table_can_range table reserved is_table same =
    can_range table.columns reserved table.key (parts is_table.0 table is_table.1).follow (typed_columns table is_table table.columns refl) same

-- columns that items write are typed
pub written_typed : (items : List Item) (columns : List Column) → columns_of (column_texts items) ≡ Some columns → TypedColumns columns
written_typed items columns e = All-from_recursion HasType columns (written_columns (column_texts items) columns e)

-- a list of one item
only_from : (names : List (List ℕ)) (name : List ℕ) → only_one names ≡ Some name → names ≡ name ∷ []
only_from [] name e = absurd (none-some name e)
only_from (x ∷ []) name e = ap (λ n. n ∷ []) (same_Some x name e)
only_from (x ∷ y ∷ names) name e = absurd (none-some name e)

-- the column at an index, if it is not RESERVABLE
plain_column : (o : Option Column) → unwrap_or (option_map (λ column. not column.reservable) o) false ≡ true → (column : Column) × (o ≡ Some column) × (column.reservable ≡ false)
plain_column None e = absurd (false≢true e)
plain_column (Some column) e = (column, refl, not-true column.reservable e)

-- the key column has the single name that is written as key
pub key_written : (items : List Item) (columns : List Column) (key : ℕ) (column : Column) → key_place items columns ≡ Some key → slice_get columns key ≡ Some column
    → key_names items ≡ column.name ∷ []
key_written items columns key column e found =
    option_and_then_some (place_of_column columns) (only_one (key_names items)) key e
    (λ name one at.
    let there = (position-Some (λ (c : Column). bytes_eq c.name name) columns key column at).1 in
    let same : bytes_eq column.name name ≡ true = subst (λ (c : Column). bytes_eq c.name name ≡ true) (get_or_from_slice_get columns key column column found) there in
    only_from (key_names items) name one ∙ ap (λ n. n ∷ []) (sym ((bytes_eq-Decides column.name name).0 same)))

-- names that pass a test, one by one
passes : (names : List (List ℕ)) → list_all is_written_name names ≡ true → AllByRecursion (λ name. IsTrue (is_written_name name)) names
passes names e = recursion_from_All (λ name. IsTrue (is_written_name name)) names (AllPass-from_list_all is_written_name names e)

-- columns of numbers, one by one
pub numeric_each : (columns : List Column) → list_all (λ column. is_numeric column.kind) columns ≡ true → AllByRecursion (λ column. IsTrue (is_numeric column.kind)) columns
numeric_each columns e =
    recursion_from_All (λ column. IsTrue (is_numeric column.kind)) columns (AllPass-from_list_all (λ column. is_numeric column.kind) columns e)

-- a table follows the rules
pub follows_rules : (text : CreateText) (table : TableDef) → definition_of text ≡ Some table → FollowsRules text table
follows_rules text table e =
    let p = parts text table e in
    let rules = rules_on table.columns table.key p.follow in
    let key = plain_column (slice_get table.columns table.key) rules.plain_key in
    let names = names_of (reservables table.columns) in
    let scales = scales_of (reservables table.columns) in
    let texts = checks_in text.items in
    let written = checks_whole names scales texts p.written p.from_texts in
    record {
      name = p.name;
      columns = p.columns;
      enough_columns = rules.least;
      few_columns = rules.most;
      written_names = (subst (λ name. is_written_name name ≡ true) (sym p.name) p.written_name, passes (names_of table.columns) rules.written_names);
      distinct_columns = distinct_from (names_of table.columns) rules.distinct;
      key = key.0;
      key_there = key.1;
      one_key = key_written text.items table.columns table.key key.0 p.key key.1;
      plain_key = key.2;
      some_reservable = rules.some_reservable;
      few_reservable = rules.few_reservable;
      number_reservable = numeric_each (reservables table.columns) rules.numeric;
      declared = p.written;
      of_text = p.from_texts;
      few_declared = written.1;
      good_declared = recursion_from_All (IsDeclared names scales) p.written (checks_declared names scales texts p.written p.from_texts);
      checks = p.checks;
      distinct_checks = distinct_from (check_names table.checks) p.distinct;
    }
