-- The laws.
use Rattle.std.proofs.Common.{◌≡◌, ℕ, ℤ, ◌+◌, true, Option, Some, None, List, [], ◌∷◌, ◌++◌, codes, length, map, ap, sym, ◌∙◌, subst, refl, arith, length-append}
use Rattle.std.specs.List.{AllByRecursion}
use Rattle.std.specs.Prelude.{IsSomeAnd, IsTrue, slice_get}
use Rattle.std.proofs.lemmas.Bool.{and_parts}
use Rattle.std.proofs.lemmas.Option.{option_and_then_some, same_Some}
use Rattle.std.proofs.lemmas.List.{length-map, map-append}
use Rattle.std.proofs.lemmas.List.Elements.{All-from_recursion, recursion_from_All}
use Rattle.escrow_num.specs.declared.value.Value.{Value}
use Rattle.escrow_num.specs.declared.value.Value.TheVariants as value
use Rattle.escrow_statement.specs.declared.statement.CheckText.{CheckText}
use Rattle.escrow_statement.specs.declared.statement.CreateText.{CreateText}
use Rattle.escrow_checks.specs.declared.check.Check.{Check}
use Rattle.escrow_checks.specs.Condition.{MeetsText}
use Rattle.escrow_checks.specs.Grant.{Meets}
use Rattle.escrow_checks.specs.Scales.{in_millionths}
use Rattle.escrow_checks.proofs.CheckNames.{checks_are_named}
use Rattle.escrow_checks.proofs.ConditionLemmas.{checks_whole, mean_the_same}
use Rattle.escrow_schema.specs.declared.column.Column.{Column}
use Rattle.escrow_schema.specs.declared.table.TableDef.{TableDef}
use Rattle.escrow_schema.specs.Column.{fits, reservables, names_of, scales_of}
use Rattle.escrow_schema.specs.Definition.{IsTable, are_distinct, check_names, checks_in, definition_of, range_check, range_checks}
use Rattle.escrow_schema.specs.Fit.{FitColumns, IsRowOf, fitted, in_column_order, literals_beside, values_of}
use Rattle.escrow_schema.specs.Laws.{NameOfTable, FewReservable, ChecksOfWholeRow, ChecksKeepAmounts, ChecksMeanConditions, DefinitionsFollowRules, FewChecks, NamesOfChecks, RowsOfTable, ValuesBesideNames, ValuesOfRow, ValuesFit}
use Rattle.escrow_schema.specs.Asked.{is_list}
use Rattle.escrow_schema.proofs.AskedLemmas.{beside_at, beside_is}
use Rattle.escrow_schema.proofs.CheckLemmas.{IsWhole, whole_ranges}
use Rattle.escrow_schema.proofs.ColumnsLemmas.{reservable_types, reservables_distinct}
use Rattle.escrow_schema.proofs.DefinedLemmas.{defined}
use Rattle.escrow_schema.proofs.FitLemmas.{fitted_parts, as_many_values, as_many_amounts}
use Rattle.escrow_schema.proofs.ListLemmas.{first_part, second_part, both_parts, some_under}
use Rattle.escrow_schema.proofs.RangeLemmas.{fit_in_range, fitting_amounts, range_met}
use Rattle.escrow_schema.proofs.RowLemmas.{KeyFits, NumericColumns, fit_at, fit_values, literal_at, made_values, plain_fits, values_from_fit}
use Rattle.escrow_schema.proofs.DistinctLemmas.{distinct_from, one_place}
use Rattle.escrow_schema.proofs.RuleLemmas.{rules_of, rules_on, column_types, follows_rules, numeric_each, table_scales}
use Rattle.escrow_schema.proofs.TableLemmas.{parts}

pub definitions_follow_rules : DefinitionsFollowRules
definitions_follow_rules text table = (follows_rules text table, defined text table)

pub name_of_table : NameOfTable
name_of_table text table e = (parts text table e).name

pub few_reservable : FewReservable
few_reservable table is_table = let rules = rules_of table is_table in (rules.some_reservable, rules.few_reservable)

pub checks_of_whole_row : ChecksOfWholeRow
checks_of_whole_row table is_table =
    let p = parts is_table.0 table is_table.1 in
    let names = names_of (reservables table.columns) in
    let written = checks_whole names (scales_of (reservables table.columns)) (checks_in is_table.0.items) p.written p.from_texts in
    let whole : AllByRecursion (IsWhole names) table.checks =
    subst (AllByRecursion (IsWhole names)) (sym p.checks) (both_parts (IsWhole names) p.written (range_checks table.columns) (recursion_from_All (IsWhole names) p.written written.2) (whole_ranges names (reservables table.columns))) in
    let as_many : length names ≡ length (reservables table.columns) = length-map (reservables table.columns) (λ column. column.name) in
    subst (λ (n : ℕ). AllByRecursion (λ check. length check.coeffs ≡ n) table.checks) as_many whole

-- the checks of a table: the declared ones and the ranges
split_checks : (text : CreateText) (table : TableDef) (e : definition_of text ≡ Some table) (numbers : List ℤ) → AllByRecursion (λ check. Meets check numbers) table.checks
    → AllByRecursion (λ check. Meets check numbers) ((parts text table e).written ++ range_checks table.columns)
split_checks text table e numbers met = subst (AllByRecursion (λ check. Meets check numbers)) (parts text table e).checks met

-- numbers that meet the checks fit the types of the RESERVABLE columns
fit_by_checks : (text : CreateText) (table : TableDef) (numbers : List ℤ) → definition_of text ≡ Some table → length numbers ≡ length (reservables table.columns)
    → AllByRecursion (λ check. Meets check numbers) table.checks → FitColumns (reservables table.columns) (map value.Number numbers)
fit_by_checks text table numbers e same met =
    let p = parts text table e in
    fit_in_range (reservables table.columns) numbers
    (reservables_distinct table.columns (rules_on table.columns table.key p.follow).distinct)
    (numeric_each (reservables table.columns) (rules_on table.columns table.key p.follow).numeric) same
    (second_part (λ (check : Check). Meets check numbers) p.written (range_checks table.columns) (split_checks text table e numbers met))

pub checks_keep_amounts : ChecksKeepAmounts
checks_keep_amounts table numbers is_table same met =
    fitting_amounts (reservables table.columns) numbers
    (reservable_types table.columns (column_types table is_table))
    (fit_by_checks is_table.0 table numbers is_table.1 same met)

pub checks_mean_conditions : ChecksMeanConditions
checks_mean_conditions text table numbers e same =
    let p = parts text table e in
    let Met : Check → Type 0 = λ check. Meets check numbers in
    let names = names_of (reservables table.columns) in
    let scales = scales_of (reservables table.columns) in
    let Written : CheckText → Type 0 = MeetsText names (in_millionths scales numbers) in
    let texts = checks_in text.items in
    let distinct : are_distinct names ≡ true = reservables_distinct table.columns (rules_on table.columns table.key p.follow).distinct in
    let many : length numbers ≡ length names = same ∙ sym (length-map (reservables table.columns) (λ column. column.name)) in
    let mean = mean_the_same names scales texts p.written p.from_texts (distinct_from names distinct) (table_scales table (text, e)) numbers many in (
      λ met. (
        recursion_from_All Written texts (mean.0 (All-from_recursion Met p.written (first_part Met p.written (range_checks table.columns) (split_checks text table e numbers met)))),
        fit_by_checks text table numbers e same met,
      ),
      λ h. subst (AllByRecursion Met) (sym p.checks)
          (both_parts Met p.written (range_checks table.columns) (recursion_from_All Met p.written (mean.1 (All-from_recursion Written texts h.0)))
          (range_met (reservables table.columns) numbers distinct h.1)),
    )

pub few_checks : FewChecks
few_checks table is_table =
    let p = parts is_table.0 table is_table.1 in
    let names = names_of (reservables table.columns) in
    let written = checks_whole names (scales_of (reservables table.columns)) (checks_in is_table.0.items) p.written p.from_texts in
    let most = written.1 in
    let few = (rules_of table is_table).few_reservable in
    let ranges : length (range_checks table.columns) ≡ length (reservables table.columns) = length-map (reservables table.columns) (range_check names) in
    let all : length table.checks ≡ length (p.written ++ range_checks table.columns) = ap length p.checks in
    omega (arith, length-append p.written (range_checks table.columns))

-- the names of ranges
range_names : (names : List (List ℕ)) (columns : List Column) → check_names (map (range_check names) columns) ≡ map (λ (column : Column). codes "RANGE_" ++ column.name) columns
range_names names [] = refl
range_names names (column ∷ columns) = ap (λ (rest : List (List ℕ)). (codes "RANGE_" ++ column.name) ∷ rest) (range_names names columns)

pub names_of_checks : NamesOfChecks
names_of_checks text table e =
    let p = parts text table e in
    let columns = names_of (reservables table.columns) in
    record {
      declared = check_names p.written;
      of_text = checks_are_named columns (scales_of (reservables table.columns)) (checks_in text.items) p.written p.from_texts;
      names = ap check_names p.checks
          ∙ map-append (λ (check : Check). check.name) p.written (range_checks table.columns)
          ∙ ap (λ (rest : List (List ℕ)). check_names p.written ++ rest) (range_names columns (reservables table.columns));
      apart = one_place (check_names table.checks) p.distinct;
    }

-- the RESERVABLE columns of a table hold numbers
pub numeric_columns : (table : TableDef) → IsTable table → NumericColumns table.columns
numeric_columns table is_table = numeric_each (reservables table.columns) (rules_of table is_table).numeric

pub rows_of_table : RowsOfTable
rows_of_table table text row e =
    option_and_then_some (fitted table) (in_column_order table.columns text.columns text.values) row e
    (λ literals ordered made. fitted_parts table literals row made
    (λ values key at found whole.
    let fit = fit_values table.columns literals values at in
    let long = (as_many_values table.columns literals values at).0 in
    subst (IsRowOf table) whole (record {
      table_name = refl;
      key = fit_at table.columns values table.key key fit found;
      plain = plain_fits table.columns values 0 table.key fit;
      amounts = as_many_amounts table.columns values long;
    })))

pub values_of_row : ValuesOfRow
values_of_row table literals row is_table e =
    fitted_parts table literals row e
    (λ values key at found made. at ∙ ap Some (made_values table values key row (numeric_columns table is_table) (fit_values table.columns literals values at) found made))

pub values_beside_names : ValuesBesideNames
values_beside_names table text names row is_table named e i k column literal there name_at literal_here =
    option_and_then_some (fitted table) (in_column_order table.columns text.columns text.values) row e
    (λ literals ordered made.
    let listed : in_column_order table.columns (Some names) text.values ≡ Some literals = subst (λ o. in_column_order table.columns o text.values ≡ Some literals) named ordered in
    let parts = some_under (is_list table.columns (Some names) text.values) (literals_beside names text.values table.columns) literals listed in
    let apart : are_distinct names ≡ true = (and_parts _ _ (and_parts _ _ parts.0).0).0 in
    let beside : slice_get literals i ≡ Some literal =
    beside_at names text.values table.columns literals i column parts.1 there ∙ beside_is names text.values k column.name literal apart name_at literal_here in
    literal_at table.columns literals (values_of table row) i column literal (values_of_row table literals row is_table made) there beside)

pub values_fit : ValuesFit
values_fit table row is_table is_row met =
    let fit = fit_by_checks is_table.0 table row.amounts is_table.1 is_row.amounts met in
    let key : KeyFits table.columns 0 table.key row.name.key = λ i column e found. key_fits row.name.key (slice_get table.columns table.key) column is_row.key
    (subst (λ n. slice_get table.columns n ≡ Some column) (sym (the_place table.key i e)) found) in
    values_from_fit table.columns 0 table.key row.name.key row.amounts row.plain key fit is_row.plain
  where
    the_place : (at i : ℕ) → at ≡ 0 + i → at ≡ i
    the_place at i e = omega arith

    key_fits : (key : Value) (o : Option Column) (column : Column) → IsSomeAnd o (λ c. IsTrue (fits c.kind key)) → o ≡ Some column → fits column.kind key ≡ true
    key_fits key None column h e = absurd h
    key_fits key (Some c) column h e = subst (λ x. fits x.kind key ≡ true) (same_Some c column e) h
