-- The bounds of a row with these amounts, from the checks of its table.
use Rattle.std.specs.Prelude.{◌≡◌, ℕ, ℤ, ◌-◌, ◌≤◌, bytes_eq, true, false, List, [], ◌∷◌, ◌++◌, length, take, drop, map}
use Rattle.std.specs.List.{AllZip, list_any}
use Rattle.std.proofs.Common.{refl, ap, ap₂, ◌∙◌, arith, length-append}
use Rattle.std.proofs.Math.Seq.{drop-append_seam}
use Rattle.std.proofs.lemmas.Bool.{or_parts}
use Rattle.std.proofs.lemmas.List.{length-map, take-map, drop-map}
use Rattle.escrow_checks.specs.declared.check.Check.{Check}
use Rattle.escrow_checks.specs.Condition.{amount_of}
use Rattle.escrow_schema.specs.declared.column.Column.{Column}
use Rattle.escrow_schema.specs.declared.table.TableDef.{TableDef}
use Rattle.escrow_schema.specs.Column.{names_of, reservables}
use Rattle.escrow_schema.specs.Definition.{IsTable, are_distinct, range_check, range_checks}
use Rattle.escrow_schema.specs.Print.{declared_checks}
use Rattle.escrow_schema.proofs.ColumnsLemmas.{reservables_distinct}
use Rattle.escrow_schema.proofs.DistinctLemmas.{same_name, first_apart}
use Rattle.escrow_schema.proofs.RuleLemmas.{rules_on}
use Rattle.escrow_schema.proofs.TableLemmas.{parts}
use Rattle.escrow_machine.specs.declared.reply.CheckBounds.{CheckBounds}
use Rattle.escrow_machine.specs.Bounds.{check_bounds, column_bounds}
use Rattle.escrow_machine.specs.Walked.{columns_from}

-- if names are distinct, each column has its own amount
abbrev HasAmount : List (List ℕ) → List ℤ → Column → ℤ → Type 0
HasAmount names amounts column a = amount_of names amounts column.name ≡ a

amounts_behind : (first : List ℕ) (names : List (List ℕ)) (a : ℤ) (all rest : List ℤ) (columns : List Column)
    → list_any (λ other. bytes_eq first other) (names_of columns) ≡ false
    → AllZip (HasAmount names all) columns rest → AllZip (HasAmount (first ∷ names) (a ∷ all)) columns rest
amounts_behind first names a all [] [] none have = tt
amounts_behind first names a all (b ∷ rest) [] none have = have
amounts_behind first names a all [] (column ∷ columns) none have = have
amounts_behind first names a all (b ∷ rest) (column ∷ columns) none have =
    let apart = or_parts (bytes_eq first column.name) (list_any (λ other. bytes_eq first other) (names_of columns)) none in
    (rw apart.0 have.0, amounts_behind first names a all rest columns apart.1 have.1)

have_amounts : (columns : List Column) (amounts : List ℤ) → are_distinct (names_of columns) ≡ true → length amounts ≡ length columns
    → AllZip (HasAmount (names_of columns) amounts) columns amounts
have_amounts [] [] distinct same = tt
have_amounts [] (a ∷ amounts) distinct same = absurd (omega arith)
have_amounts (column ∷ columns) [] distinct same = absurd (omega arith)
have_amounts (column ∷ columns) (a ∷ amounts) distinct same =
    let apart = first_apart column.name (names_of columns) distinct in
    (rw (same_name column.name) refl, amounts_behind column.name (names_of columns) a amounts amounts columns apart.0 (have_amounts columns amounts apart.1 (omega arith)))

-- a column's bounds are its amount, its scale, and the bounds of its range
columns_shown : (names : List (List ℕ)) (amounts rest : List ℤ) (reservations : List (List ℤ)) (columns : List Column)
    → AllZip (HasAmount names amounts) columns rest
    → columns_from (names_of columns) rest (map (check_bounds amounts reservations) (map (range_check names) columns))
    ≡ map (column_bounds names amounts reservations) columns
columns_shown names amounts [] reservations [] have = refl
columns_shown names amounts (a ∷ rest) reservations [] have = refl
columns_shown names amounts [] reservations (column ∷ columns) have = absurd have
columns_shown names amounts (a ∷ rest) reservations (column ∷ columns) have =
    rw (← have.0, columns_shown names amounts rest reservations columns have.1) refl

-- the last checks of a table are the ranges, and those before them are the declared ones
pub record Split (table : TableDef) (amounts : List ℤ) : Type 0 where
  pub within : length amounts ≤ length table.checks
  pub declared : take (length table.checks - length amounts) table.checks ≡ declared_checks table
  pub ranges : drop (length table.checks - length amounts) table.checks ≡ range_checks table.columns
  pub distinct : are_distinct (names_of (reservables table.columns)) ≡ true

pub split : (table : TableDef) (amounts : List ℤ) → IsTable table → length amounts ≡ length (reservables table.columns) → Split table amounts
split table amounts is_table many =
    let p = parts is_table.0 table is_table.1 in
    let written = p.written in
    let ranges = range_checks table.columns in
    let ranges_many : length ranges ≡ length (reservables table.columns) = length-map (reservables table.columns) (range_check (names_of (reservables table.columns))) in
    let all : length table.checks ≡ length (written ++ ranges) = ap length p.checks in
    let at : length table.checks - length amounts ≡ length written = omega (arith, length-append written ranges, many) in
    record {
      within = omega (arith, length-append written ranges, many);
      declared = ap (λ (n : ℕ). take (length table.checks - n) table.checks) many;
      ranges = ap₂ (λ (n : ℕ) (checks : List Check). drop n checks) at p.checks ∙ drop-append_seam written ranges;
      distinct = reservables_distinct table.columns (rules_on table.columns table.key p.follow).distinct;
    }

-- the bounds shown for the declared checks, from those of all checks
pub shown_checks : (table : TableDef) (amounts : List ℤ) (reservations : List (List ℤ)) (n : ℕ) → Split table amounts → n ≡ length table.checks - length amounts
    → take n (map (check_bounds amounts reservations) table.checks) ≡ map (check_bounds amounts reservations) (declared_checks table)
shown_checks table amounts reservations n s at =
    take-map (check_bounds amounts reservations) n table.checks
    ∙ ap (λ (m : ℕ). map (check_bounds amounts reservations) (take m table.checks)) at
    ∙ ap (map (check_bounds amounts reservations)) s.declared

pub shown_columns : (table : TableDef) (amounts : List ℤ) (reservations : List (List ℤ)) (n : ℕ) → length amounts ≡ length (reservables table.columns) → Split table amounts → n ≡ length table.checks - length amounts
    → columns_from (names_of (reservables table.columns)) amounts (drop n (map (check_bounds amounts reservations) table.checks))
    ≡ map (column_bounds (names_of (reservables table.columns)) amounts reservations) (reservables table.columns)
shown_columns table amounts reservations n many s at =
    let names = names_of (reservables table.columns) in
    ap (columns_from names amounts)
    (drop-map (check_bounds amounts reservations) n table.checks
    ∙ ap (λ (m : ℕ). map (check_bounds amounts reservations) (drop m table.checks)) at
    ∙ ap (map (check_bounds amounts reservations)) s.ranges)
    ∙ columns_shown names amounts amounts reservations (reservables table.columns) (have_amounts (reservables table.columns) amounts s.distinct many)

pub names_shown : (columns : List Column) → length (names_of columns) ≡ length columns
names_shown columns = length-map columns (λ (column : Column). column.name)

pub columns_same : {names others : List (List ℕ)} {amounts numbers : List ℤ} {ranges bounds : List CheckBounds} → names ≡ others → amounts ≡ numbers → ranges ≡ bounds
    → columns_from names amounts ranges ≡ columns_from others numbers bounds
columns_same e f g = cc
