-- The table after an ALTER TABLE is well formed.
use Rattle.std.proofs.Common.{◌≡◌, ℕ, zero, suc, ◌≤◌, ◌<◌, false, nat_lt, Option, Some, None, bytes_eq, List, [], ◌∷◌, ◌++◌, length, refl, sym, ap, ap₂, ◌∙◌, subst, arith, length-append}
use Rattle.std.specs.Prelude.{IfOk, IfSome, Result, Ok, Err, option_and_then, remove}
use Rattle.std.specs.List.{AllByRecursion, IsDistinct, position_or_len}
use Rattle.std.proofs.lemmas.Bool.{ltb-true}
use Rattle.std.proofs.lemmas.List.Edits.{length-remove, remove-append_left}
use Rattle.std.proofs.lemmas.List.Elements.{recursion_from_All}
use Rattle.std.proofs.lemmas.Option.{cond_some, option_and_then_some}
use Rattle.escrow_statement.specs.declared.statement.CheckText.{CheckText}
use Rattle.escrow_checks.specs.declared.check.Check.{Check}
use Rattle.escrow_checks.specs.Checks.{checks_behind}
use Rattle.escrow_checks.specs.DeclaredCheck.{IsDeclared}
use Rattle.escrow_checks.proofs.ConditionLemmas.{stand_behind}
use Rattle.escrow_schema.specs.declared.column.Column.{Column}
use Rattle.escrow_schema.specs.declared.table.TableDef.{TableDef}
use Rattle.escrow_schema.specs.Altered.{declared_place, with_check, without_check_at}
use Rattle.escrow_schema.specs.Column.{names_of, reservables, scales_of}
use Rattle.escrow_schema.specs.Definition.{IsTable, are_distinct, check_names, range_checks, table_with}
use Rattle.escrow_schema.specs.Print.{declared_checks}
use Rattle.escrow_schema.proofs.DistinctLemmas.{distinct_from}
use Rattle.escrow_schema.proofs.ListLemmas.{both_parts}
use Rattle.escrow_schema.proofs.PrintBack.{over, over_is_table, sound_of}
use Rattle.escrow_schema.proofs.RuleLemmas.{follows_rules}

-- a table with the checks of one more CHECK
pub with_check_table : (table : TableDef) (text : CheckText) (made : TableDef) → IsTable table → with_check table text ≡ Some made → IsTable made
with_check_table table text made is_table e =
    let names = names_of (reservables table.columns) in
    let scales = scales_of (reservables table.columns) in
    let s = sound_of table is_table in
    option_and_then_some (table_with table.name table.columns table.key) (checks_behind names scales (declared_checks table) (text ∷ [])) made e
    (λ declared behind whole.
    let added = stand_behind names scales (declared_checks table) (text ∷ []) declared behind in
    let apart = cond_some (are_distinct (check_names (declared ++ range_checks table.columns))) (over table declared) made whole in
    let good : AllByRecursion (IsDeclared names scales) declared =
    subst (AllByRecursion (IsDeclared names scales)) (sym added.behind)
    (both_parts (IsDeclared names scales) (declared_checks table) added.more s.declared (recursion_from_All (IsDeclared names scales) added.more added.good)) in
    subst IsTable apart.1 (over_is_table table declared is_table added.few good (distinct_from (check_names (declared ++ range_checks table.columns)) apart.0)))

-- the table from the found checks and copies of its parts
pub made_with : {E : Type 0} (table : TableDef) (text : CheckText) (columns reserved : List Column) (declared written : List Check) (r : Result (Option TableDef) E)
    → columns ≡ table.columns → reserved ≡ reservables table.columns → declared ≡ declared_checks table
    → Some written ≡ checks_behind (names_of reserved) (scales_of reserved) declared (text ∷ [])
    → IfOk r (λ made. made ≡ table_with table.name columns table.key written) → IfOk r (λ made. made ≡ with_check table text)
made_with table text columns reserved declared written r same_columns same_reserved same_declared behind made =
    let found = behind ∙ ap₂ (λ (cs : List Column) (ds : List Check). checks_behind (names_of cs) (scales_of cs) ds (text ∷ [])) same_reserved same_declared in
    let whole : table_with table.name columns table.key written ≡ with_check table text =
    ap (λ (cs : List Column). table_with table.name cs table.key written) same_columns
    ∙ ap (λ (o : Option (List Check)). option_and_then (table_with table.name table.columns table.key) o) found in
    subst (λ (o : Option TableDef). IfOk r (λ made. made ≡ o)) whole made

-- the same for the result of the call
pub ok_with_check : {E : Type 0} (table : TableDef) (text : CheckText) (r : Result (Option TableDef) E) → IsTable table
    → IfOk r (λ made. made ≡ with_check table text) → IfOk r (λ made. IfSome made IsTable)
ok_with_check table text (Err e) is_table h = tt
ok_with_check table text (Ok None) is_table h = tt
ok_with_check table text (Ok (Some made)) is_table h = with_check_table table text made is_table (sym h)

-- what holds for each item holds for the remaining ones after one is removed
all_left : {A : Type 0} (P : A → Type 0) (xs : List A) (i : ℕ) → AllByRecursion P xs → AllByRecursion P (remove xs i)
all_left P [] zero h = tt
all_left P [] (suc i) h = tt
all_left P (x ∷ xs) zero h = h.1
all_left P (x ∷ xs) (suc i) h = (h.0, all_left P xs i h.1)

-- distinct names stay distinct
distinct_left : (names : List (List ℕ)) (i : ℕ) → IsDistinct bytes_eq names → IsDistinct bytes_eq (remove names i)
unfolding IsDistinct
distinct_left [] zero h = tt
distinct_left [] (suc i) h = tt
distinct_left (name ∷ names) zero h = h.1
distinct_left (name ∷ names) (suc i) h = (all_left (λ other. bytes_eq name other ≡ false) names i h.0, distinct_left names i h.1)

-- the names of the remaining checks
names_left : (checks : List Check) (i : ℕ) → check_names (remove checks i) ≡ remove (check_names checks) i
names_left [] zero = refl
names_left [] (suc i) = refl
names_left (check ∷ checks) zero = refl
names_left (check ∷ checks) (suc i) = ap (λ (names : List (List ℕ)). check.name ∷ names) (names_left checks i)

-- a table without the declared check at an index
pub without_check_table : (table : TableDef) (place : ℕ) → IsTable table → place < length (declared_checks table) → IsTable (without_check_at table place)
without_check_table table place is_table within =
    let names = names_of (reservables table.columns) in
    let scales = scales_of (reservables table.columns) in
    let s = sound_of table is_table in
    let declared = declared_checks table in
    let ranges = range_checks table.columns in
    let left : List Check = remove declared place in
    let made : remove table.checks place ≡ left ++ ranges = ap (λ (checks : List Check). remove checks place) s.checks ∙ remove-append_left declared ranges place within in
    let few : length left ≤ 32 = omega (arith, s.few, length-remove declared place within) in
    let apart : IsDistinct bytes_eq (check_names (remove table.checks place)) =
    subst (IsDistinct bytes_eq) (sym (names_left table.checks place)) (distinct_left (check_names table.checks) place (follows_rules is_table.0 table is_table.1).distinct_checks) in
    subst (λ (checks : List Check). IsTable (record table { checks = checks })) (sym made)
    (over_is_table table left is_table few (all_left (IsDeclared names scales) declared place s.declared)
    (subst (λ (checks : List Check). IsDistinct bytes_eq (check_names checks)) made apart))

-- the same for the result of the call
pub ok_without_check : {E : Type 0} (table : TableDef) (place : ℕ) (r : Result TableDef E) → IsTable table → place < length (declared_checks table)
    → IfOk r (λ made. made ≡ without_check_at table place) → IfOk r IsTable
ok_without_check table place (Err e) is_table within h = tt
ok_without_check table place (Ok made) is_table within h = subst IsTable (sym h) (without_check_table table place is_table within)

-- the index of a declared check is an index of all checks
pub place_within : (table : TableDef) (place : ℕ) → IsTable table → place < length (declared_checks table) → place < length table.checks
place_within table place is_table within =
    let declared = declared_checks table in
    let ranges = range_checks table.columns in
    omega (arith, ap (λ (checks : List Check). length checks) (sound_of table is_table).checks, length-append declared ranges)

-- the index found for a name is that of a declared check
pub place_declared : (table : TableDef) (name : List ℕ) (o : Option ℕ) → o ≡ declared_place table name → IfSome o (λ place. place < length (declared_checks table))
place_declared table name None e = tt
place_declared table name (Some place) e =
    let checks = declared_checks table in
    let first = position_or_len (λ (check : Check). bytes_eq check.name name) checks in
    let at = cond_some (nat_lt first (length checks)) first place (sym e) in
    subst (λ n. n < length checks) at.1 (ltb-true first (length checks) at.0)
