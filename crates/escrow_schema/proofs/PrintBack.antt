-- The tree of a table's canonical text defines that table.
use Rattle.std.proofs.Common.{◌≡◌, ℕ, ◌-◌, ◌≤◌, true, List, ◌++◌, Option, Some, None, option_and_then, length, map, take, refl, sym, ap, ◌∙◌, subst, arith, length-append}
use Rattle.std.specs.Prelude.{bytes_eq, cond, nat_le}
use Rattle.std.specs.List.{AllByRecursion, IsDistinct, list_all}
use Rattle.std.proofs.Math.Seq.{take-append_seam}
use Rattle.std.proofs.lemmas.Bool.{cond-true, le-leb}
use Rattle.std.proofs.lemmas.List.{length-map}
use Rattle.escrow_statement.specs.declared.statement.CreateText.{CreateText}
use Rattle.escrow_checks.specs.declared.check.Check.{Check}
use Rattle.escrow_checks.specs.declared.condition.TheConstants.{MAX_CHECKS}
use Rattle.escrow_checks.specs.Checks.{checks_of}
use Rattle.escrow_checks.specs.DeclaredCheck.{IsDeclared}
use Rattle.escrow_checks.specs.WrittenName.{is_written_name}
use Rattle.escrow_schema.specs.declared.column.Column.{Column}
use Rattle.escrow_schema.specs.declared.table.TableDef.{TableDef}
use Rattle.escrow_schema.specs.Column.{names_of, reservables, scales_of}
use Rattle.escrow_schema.specs.Definition.{IsTable, are_distinct, check_names, definition_of, range_check, range_checks}
use Rattle.escrow_schema.specs.Print.{declared_checks}
use Rattle.escrow_schema.specs.Rules.{FollowsRules}
use Rattle.escrow_schema.proofs.ColumnsLemmas.{HasType, reservables_distinct}
use Rattle.escrow_schema.proofs.DefinedLemmas.{defined}
use Rattle.escrow_schema.proofs.RuleLemmas.{column_types, follows_rules, rules_of}
use Rattle.escrow_schema.proofs.PrintChecks.{all_again}
use Rattle.escrow_schema.proofs.PrintTree.{check_tree, checks_back, columns_back, keys_back, plain_found, tree_of}

-- the declared checks come before those of ranges
declared_first : (table : TableDef) (declared : List Check) → table.checks ≡ declared ++ range_checks table.columns → declared_checks table ≡ declared
declared_first table declared e =
    let reserved = reservables table.columns in
    let ranges = range_checks table.columns in
    let many : length table.checks - length reserved ≡ length declared =
    let whole = ap length e in
    omega (arith, whole, length-append declared ranges, length-map reserved (range_check (names_of reserved))) in
    ap (λ (n : ℕ). take n table.checks) many ∙ (ap (take (length declared)) e ∙ take-append_seam declared ranges)

-- checks, if there are few enough
abbrev at_most : List Check → Option (List Check)
at_most checks = cond (nat_le (length checks) MAX_CHECKS) (Some checks) None

-- what the definition of a table says about the text of its columns: names that can be printed, and types
pub record SoundColumns (columns : List Column) : Type 0 where
  pub names : list_all is_written_name (names_of columns) ≡ true
  pub distinct : are_distinct (names_of columns) ≡ true
  pub types : AllByRecursion HasType columns
  pub some : 1 ≤ length columns
  pub most : length columns ≤ 30
  pub reserved : length (reservables columns) ≤ 10

-- and about its whole text, with the declared checks
pub record Sound (table : TableDef) : Type 0 where
  pub name : is_written_name table.name ≡ true
  pub columns : SoundColumns table.columns
  pub few : length (declared_checks table) ≤ MAX_CHECKS
  pub declared : AllByRecursion (IsDeclared (names_of (reservables table.columns)) (scales_of (reservables table.columns))) (declared_checks table)
  pub checks : table.checks ≡ declared_checks table ++ range_checks table.columns

pub sound : (text : CreateText) (table : TableDef) → definition_of text ≡ Some table → FollowsRules text table → Sound table
sound text table e h =
    let rules = rules_of table (text, e) in
    let names = names_of (reservables table.columns) in
    let scales = scales_of (reservables table.columns) in
    let same = declared_first table h.declared h.checks in
    let least = rules.least in
    record {
      name = h.written_names.0;
      columns = record {
        names = rules.written_names;
        distinct = rules.distinct;
        types = column_types table (text, e);
        some = omega arith;
        most = rules.most;
        reserved = rules.few_reservable;
      };
      few = subst (λ (checks : List Check). length checks ≤ MAX_CHECKS) (sym same) h.few_declared;
      checks = h.checks ∙ ap (λ (checks : List Check). checks ++ range_checks table.columns) (sym same);
      declared = subst (AllByRecursion (IsDeclared names scales)) (sym same) h.good_declared;
    }

pub sound_of : (table : TableDef) → IsTable table → Sound table
sound_of table (text, e) = sound text table e (follows_rules text table e)

-- the declared checks are declared again by their own texts
checks_again : (names : List (List ℕ)) (scales : List ℕ) (checks : List Check) → are_distinct names ≡ true → length checks ≤ MAX_CHECKS → AllByRecursion (IsDeclared names scales) checks
    → checks_of names scales (map (check_tree names scales) checks) ≡ Some checks
checks_again names scales checks apart few all =
    ap (option_and_then at_most) (all_again names scales checks 1 apart all) ∙ cond-true (nat_le (length checks) MAX_CHECKS) (Some checks) None (le-leb (length checks) MAX_CHECKS few)

-- the tree of a table with other checks and that table follow the rules of definitions
pub follows_tree : (text : CreateText) (table : TableDef) (checks : List Check) → Sound (record table { checks = checks }) → IsDistinct bytes_eq (check_names checks) → FollowsRules text table
    → FollowsRules (tree_of (record table { checks = checks })) (record table { checks = checks })
follows_tree text table checks s apart h =
    let names = names_of (reservables table.columns) in
    let scales = scales_of (reservables table.columns) in
    let declared : List Check = declared_checks (record table { checks = checks }) in
    record {
      name = refl;
      columns = columns_back table.columns 0 table.key names scales declared s.columns.types (plain_found table.columns 0 table.key table.key h.key (omega arith) h.key_there h.plain_key);
      enough_columns = h.enough_columns;
      few_columns = h.few_columns;
      written_names = h.written_names;
      distinct_columns = h.distinct_columns;
      key = h.key;
      key_there = h.key_there;
      one_key = keys_back table.columns 0 table.key table.key h.key names scales declared (omega arith) h.key_there;
      plain_key = h.plain_key;
      some_reservable = h.some_reservable;
      few_reservable = h.few_reservable;
      number_reservable = h.number_reservable;
      declared = declared;
      of_text = ap (checks_of names scales) (checks_back table.columns 0 table.key names scales declared) ∙ checks_again names scales declared (reservables_distinct table.columns s.columns.distinct) s.few s.declared;
      few_declared = s.few;
      good_declared = s.declared;
      checks = s.checks;
      distinct_checks = apart;
    }

-- a table with other declared checks, followed by those of its ranges
abbrev pub over : TableDef → List Check → TableDef
over table declared = record table { checks = declared ++ range_checks table.columns }

sound_over : (table : TableDef) (declared : List Check) → Sound table → length declared ≤ MAX_CHECKS
    → AllByRecursion (IsDeclared (names_of (reservables table.columns)) (scales_of (reservables table.columns))) declared → Sound (over table declared)
sound_over table declared s few good =
    let same = declared_first (over table declared) declared refl in
    record {
      name = s.name;
      columns = s.columns;
      few = subst (λ (checks : List Check). length checks ≤ MAX_CHECKS) (sym same) few;
      declared = subst (AllByRecursion (IsDeclared (names_of (reservables table.columns)) (scales_of (reservables table.columns)))) (sym same) good;
      checks = ap (λ (checks : List Check). checks ++ range_checks table.columns) (sym same);
    }

-- it is a table if these checks are few, each may be declared by a CHECK, and no two of all its checks share a name
pub over_is_table : (table : TableDef) (declared : List Check) → IsTable table → length declared ≤ MAX_CHECKS
    → AllByRecursion (IsDeclared (names_of (reservables table.columns)) (scales_of (reservables table.columns))) declared
    → IsDistinct bytes_eq (check_names (declared ++ range_checks table.columns)) → IsTable (over table declared)
over_is_table table declared (text, e) few good apart =
    let h = follows_rules text table e in
    let s = sound_over table declared (sound text table e h) few good in
    let other : TableDef = over table declared in
    (tree_of other, defined (tree_of other) other (follows_tree text table (declared ++ range_checks table.columns) s apart h))
