-- If a text and a table follow the rules of definitions, the text defines the table.
use Rattle.std.proofs.Common.{◌≡◌, ℕ, ◌<◌, zero, suc, true, false, cond, not, nat_lt, Option, Some, None, option_map, option_and_then, bytes_eq, List, [], ◌∷◌, ◌++◌, get_or, length, ap, ap₂, sym, subst, refl, arith}
use Rattle.std.specs.Prelude.{IsTrue, slice_get, unwrap_or}
use Rattle.std.specs.List.{list_all, position_or_len}
use Rattle.std.proofs.lemmas.Bool.{and_from, le-leb, lt-ltb, not_from_false}
use Rattle.std.proofs.lemmas.List.Elements.{All-from_recursion}
use Rattle.std.proofs.lemmas.List.Sums.{list_all-from_AllPass, position_or_len_is}
use Rattle.std.proofs.lemmas.Option.{get_or_from_slice_get, slice_get_within}
use Rattle.escrow_statement.specs.declared.statement.CreateText.{CreateText}
use Rattle.escrow_checks.specs.declared.check.Check.{Check}
use Rattle.escrow_checks.specs.declared.coefficients.TheConstants.Coefficients.{MAX_LEN}
use Rattle.escrow_checks.specs.Checks.{checks_of}
use Rattle.escrow_checks.specs.WrittenName.{is_written_name}
use Rattle.escrow_schema.specs.declared.column.Column.{Column}
use Rattle.escrow_schema.specs.declared.table.TableDef.{TableDef}
use Rattle.escrow_schema.specs.declared.table.TheConstants.TableDef.{MIN_COLUMNS, MAX_COLUMNS}
use Rattle.escrow_schema.specs.Column.{is_numeric, reservables, names_of, scales_of}
use Rattle.escrow_schema.specs.Definition.{are_columns, are_distinct, check_names, checks_in, definition_of, is_plain_at, key_place, only_one, place_of_column, range_checks, table_of, table_with}
use Rattle.escrow_schema.specs.Rules.{FollowsRules}
use Rattle.escrow_schema.proofs.DistinctLemmas.{distinct_back, first_apart, same_name}
use Rattle.escrow_schema.proofs.UnitLemmas.{at_apart}

-- if names are distinct, the column at an index is the first of its name
earlier_apart : (columns : List Column) (i k : ℕ) (d : Column) → are_distinct (names_of columns) ≡ true → k < i → i < length columns
    → bytes_eq (get_or columns k d).name (get_or columns i d).name ≡ false
earlier_apart [] i k d apart before within = absurd (omega arith)
earlier_apart (column ∷ columns) zero k d apart before within = absurd (omega arith)
earlier_apart (column ∷ columns) (suc i) zero d apart before within = at_apart columns column.name i d (first_apart column.name (names_of columns) apart).0 (omega arith)
earlier_apart (column ∷ columns) (suc i) (suc k) d apart before within =
    earlier_apart columns i k d (first_apart column.name (names_of columns) apart).1 (omega arith) (omega arith)

place_found : (columns : List Column) (i : ℕ) (column : Column) → are_distinct (names_of columns) ≡ true → slice_get columns i ≡ Some column → place_of_column columns column.name ≡ Some i
place_found columns i column apart found =
    let within : i < length columns = slice_get_within columns i column found in
    let here : get_or columns i column ≡ column = get_or_from_slice_get columns i column column found in
    let first : position_or_len (λ (c : Column). bytes_eq c.name column.name) columns ≡ i =
    position_or_len_is (λ (c : Column). bytes_eq c.name column.name) columns i column (omega arith)
    (λ k before. subst (λ (c : Column). bytes_eq (get_or columns k column).name c.name ≡ false) here (earlier_apart columns i k column apart before within))
    (λ _. subst (λ (c : Column). bytes_eq c.name column.name ≡ true) (sym here) (same_name column.name)) in
    subst (λ (n : ℕ). cond (nat_lt n (length columns)) (Some n) None ≡ Some i) (sym first) (rw (lt-ltb i (length columns) within) refl)

-- the rules on columns
columns_follow : (text : CreateText) (table : TableDef) → FollowsRules text table → are_columns table.columns table.key ≡ true
columns_follow text table h =
    let columns = table.columns in
    let written : list_all is_written_name (names_of columns) ≡ true =
    list_all-from_AllPass is_written_name (names_of columns) (All-from_recursion (λ name. IsTrue (is_written_name name)) (names_of columns) h.written_names.1) in
    let plain : is_plain_at columns table.key ≡ true =
    subst (λ (o : Option Column). unwrap_or (option_map (λ (c : Column). not c.reservable) o) false ≡ true) (sym h.key_there) (not_from_false h.key.reservable h.plain_key) in
    let numeric : list_all (λ column. is_numeric column.kind) (reservables columns) ≡ true =
    list_all-from_AllPass (λ column. is_numeric column.kind) (reservables columns) (All-from_recursion (λ column. IsTrue (is_numeric column.kind)) (reservables columns) h.number_reservable) in
    and_from _ _ (and_from _ _ (and_from _ _ (and_from _ _ (and_from _ _ (and_from _ _ (and_from _ _
    (le-leb MIN_COLUMNS (length columns) h.enough_columns) (le-leb (length columns) MAX_COLUMNS h.few_columns))
    (distinct_back (names_of columns) h.distinct_columns)) written) plain)
    (le-leb 1 (length (reservables columns)) h.some_reservable)) (le-leb (length (reservables columns)) MAX_LEN h.few_reservable)) numeric

-- the table with these columns, this key and these declared checks
with_checks : (text : CreateText) (table : TableDef) (h : FollowsRules text table) → table_with text.table table.columns table.key h.declared ≡ Some table
with_checks text table h =
    let checks : List Check = h.declared ++ range_checks table.columns in
    let apart : are_distinct (check_names checks) ≡ true = subst (λ (cs : List Check). are_distinct (check_names cs) ≡ true) h.checks (distinct_back (check_names table.checks) h.distinct_checks) in
    let made : TableDef = record { name = text.table; columns = table.columns; key = table.key; checks = checks } in
    let same : made ≡ table = ap₂ (λ (n : List ℕ) (cs : List Check). record { name = n; columns = table.columns; key = table.key; checks = cs }) (sym h.name) (sym h.checks) in
    subst (λ b. cond b (Some made) None ≡ Some table) (sym apart) (ap Some same)

with_key : (text : CreateText) (table : TableDef) → FollowsRules text table → table_of text table.columns table.key ≡ Some table
with_key text table h =
    let written : is_written_name text.table ≡ true = subst (λ name. is_written_name name ≡ true) h.name h.written_names.0 in
    let follow = and_from (is_written_name text.table) (are_columns table.columns table.key) written (columns_follow text table h) in
    let checks = checks_of (names_of (reservables table.columns)) (scales_of (reservables table.columns)) (checks_in text.items) in
    subst (λ b. cond b (option_and_then (table_with text.table table.columns table.key) checks) None ≡ Some table) (sym follow)
    (subst (λ o. option_and_then (table_with text.table table.columns table.key) o ≡ Some table) (sym h.of_text) (with_checks text table h))

-- the text defines the table
pub defined : (text : CreateText) (table : TableDef) → FollowsRules text table → definition_of text ≡ Some table
defined text table h =
    let apart : are_distinct (names_of table.columns) ≡ true = distinct_back (names_of table.columns) h.distinct_columns in
    let key : key_place text.items table.columns ≡ Some table.key =
    subst (λ (names : List (List ℕ)). option_and_then (place_of_column table.columns) (only_one names) ≡ Some table.key) (sym h.one_key) (place_found table.columns table.key h.key apart h.key_there) in
    subst (λ o. option_and_then (λ columns. option_and_then (table_of text columns) (key_place text.items columns)) o ≡ Some table) (sym h.columns)
    (subst (λ o. option_and_then (table_of text table.columns) o ≡ Some table) (sym key) (with_key text table h))
