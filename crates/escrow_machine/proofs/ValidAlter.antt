-- ALTER TABLE: no choice of the open reservations breaks a check, neither an old one nor a new one.
use Rattle.std.specs.Prelude.{◌≡◌, ◌<◌, ℕ, ℤ, zero, suc, true, cond, Option, Some, None, option_map, option_and_then, List, [], ◌∷◌, ◌++◌, length, map, remove, bytes_eq, IsSomeAnd}
use Rattle.std.specs.List.{AllByRecursion}
use Rattle.std.proofs.Common.{inl, inr, refl, sym, ap, ◌∙◌, subst}
use Rattle.std.proofs.lemmas.Bool.{cond_both}
use Rattle.std.proofs.lemmas.List.{append-nil}
use Rattle.std.proofs.lemmas.Option.{cond_some, option_and_then_some, same_Some}
use Rattle.escrow_num.specs.declared.reservation.Reservation.{Reservation}
use Rattle.escrow_num.specs.declared.row.Row.{Row}
use Rattle.escrow_num.specs.Span.{first_of_two}
use Rattle.escrow_num.proofs.Items.{Has, all_has, has_all, filter_has, find_has}
use Rattle.escrow_num.proofs.Orders.{name_same, same_name}
use Rattle.escrow_statement.specs.declared.statement.CheckText.{CheckText}
use Rattle.escrow_checks.specs.declared.check.Check.{Check}
use Rattle.escrow_checks.specs.Checks.{checks_behind}
use Rattle.escrow_checks.specs.Form.{all_changed}
use Rattle.escrow_checks.specs.Grant.{Meets, broken}
use Rattle.escrow_checks.proofs.ConditionLemmas.{within_behind}
use Rattle.escrow_schema.specs.declared.table.TableDef.{TableDef}
use Rattle.escrow_schema.specs.Altered.{with_check, declared_place, without_check_at, without_check, with_altered}
use Rattle.escrow_schema.specs.Catalog.{table_named}
use Rattle.escrow_schema.specs.Column.{names_of, reservables, scales_of}
use Rattle.escrow_schema.specs.Definition.{IsTable, are_distinct, check_names, range_checks, table_with}
use Rattle.escrow_schema.specs.Fit.{IsRowOf}
use Rattle.escrow_schema.specs.Print.{declared_checks}
use Rattle.escrow_schema.specs.Rows.{rows_of, changes_to, row_after, applied, HasTable, MeetsChecks}
use Rattle.escrow_schema.proofs.AlteredLemmas.{with_check_table, without_check_table, place_declared}
use Rattle.escrow_schema.proofs.CatalogLemmas.{found_table, with_one_altered}
use Rattle.escrow_schema.proofs.PrintBack.{over, sound_of}
use Rattle.escrow_machine.specs.Altered.{new_checks, rows_violation, added_violation}
use Rattle.escrow_machine.specs.State.{State}
use Rattle.escrow_machine.specs.Valid.{IsValid, IsOrderly}
use Rattle.escrow_machine.proofs.Changes.{changed_nil}
use Rattle.escrow_machine.proofs.Choices.{IsChoice, all_append, append_all, choices_all, choice_map}
use Rattle.escrow_machine.proofs.Granted.{granted_meets}
use Rattle.escrow_machine.proofs.Kept.{over_catalog}
use Rattle.escrow_machine.proofs.Lengths.{find_map}
use Rattle.escrow_machine.proofs.Safe.{safe_row, safe_rows}

-- CATALOGS WITH AN ALTERED TABLE

-- the altered table in place of the table of its name
abbrev pub in_place : TableDef → TableDef → TableDef
in_place table other = cond (bytes_eq other.name table.name) table other

-- the name stays
name_stays : (table other : TableDef) → (in_place table other).name ≡ other.name
name_stays table other =
    cond_both (bytes_eq other.name table.name) table other (λ (t : TableDef). t.name ≡ other.name) (λ same. sym (name_same other.name table.name same)) (λ _. refl)

-- a lookup finds the altered table in place of the old one
pub altered_named : (table : TableDef) (catalog : List TableDef) (name : List ℕ) → table_named (with_altered table catalog) name ≡ option_map (in_place table) (table_named catalog name)
altered_named table catalog name =
    find_map (λ (t : TableDef). bytes_eq t.name name) (in_place table) (λ t. ap (λ (n : List ℕ). bytes_eq n name) (name_stays table t)) catalog

-- a table that is found has the name that was looked for
pub name_found : (catalog : List TableDef) (name : List ℕ) (table : TableDef) → table_named catalog name ≡ Some table → table.name ≡ name
name_found catalog name table named = name_same table.name name (find_has (λ (t : TableDef). bytes_eq t.name name) catalog table named).1

-- a table with other checks
abbrev pub over_checks : TableDef → List Check → TableDef
over_checks table checks = record table { checks = checks }

-- what holds for a table that a name finds still holds: for another table, as before; for the altered one,
-- if it holds with the new checks
still_some : (catalog : List TableDef) (table : TableDef) (checks : List Check) (name : List ℕ) (P : TableDef → Type 0) (o : Option TableDef)
    → table_named catalog table.name ≡ Some table → table_named catalog name ≡ o → (name ≡ table.name → P table → P (over_checks table checks))
    → IsSomeAnd o P → IsSomeAnd (option_map (in_place (over_checks table checks)) o) P
still_some catalog table checks name P None named is new h = h
still_some catalog table checks name P (Some other) named is new h =
    cond_both (bytes_eq other.name table.name) (over_checks table checks) other P
    (λ same.
    let here : name ≡ table.name = sym (name_found catalog name other is) ∙ name_same other.name table.name same in
    let itself : other ≡ table = same_Some other table (sym is ∙ ap (table_named catalog) here ∙ named) in
    new here (subst P itself h))
    (λ _. h)

still_has : (catalog : List TableDef) (table : TableDef) (checks : List Check) (name : List ℕ) (P : TableDef → Type 0) → table_named catalog table.name ≡ Some table
    → (name ≡ table.name → P table → P (over_checks table checks)) → IsSomeAnd (table_named catalog name) P
    → IsSomeAnd (table_named (with_altered (over_checks table checks) catalog) name) P
still_has catalog table checks name P named new h =
    subst (λ (o : Option TableDef). IsSomeAnd o P) (sym (altered_named (over_checks table checks) catalog name))
    (still_some catalog table checks name P (table_named catalog name) named refl new h)

-- A TABLE WITH OTHER CHECKS

-- a row still has the shape of its table
still_row_of : (table : TableDef) (checks : List Check) (row : Row) → IsRowOf table row → IsRowOf (over_checks table checks) row
still_row_of table checks row is_row = record { table_name = is_row.table_name; key = is_row.key; plain = is_row.plain; amounts = is_row.amounts }

-- the amounts meet all checks
abbrev pub MeetsAll : List ℤ → List Check → Type 0
MeetsAll amounts checks = AllByRecursion (λ check. Meets check amounts) checks

-- the order of the state stays
pub alter_orderly : (s : State) (table : TableDef) (checks : List Check) → IsOrderly s.catalog s.reservations s.savepoints s.next_id
    → table_named s.catalog table.name ≡ Some table → IsTable (over_checks table checks)
    → IsOrderly (with_altered (over_checks table checks) s.catalog) s.reservations s.savepoints s.next_id
alter_orderly s table checks orderly named is_table =
    over_catalog s (with_altered (over_checks table checks) s.catalog) orderly (with_one_altered s.catalog (over_checks table checks) orderly.tables is_table)
    (λ r _. still_has s.catalog table checks r.row.table (λ t. length r.changes ≡ length (reservables t.columns)) named (λ _ same. same))

-- a table's checks may be replaced if each of its rows that meets the old ones meets the new ones in each choice
pub alter_valid : (s : State) (table : TableDef) (checks : List Check) → IsValid s → table_named s.catalog table.name ≡ Some table → IsTable (over_checks table checks)
    → ((chosen : List Reservation) → IsChoice s.reservations chosen → (row : Row) → Has s.rows row → row.name.table ≡ table.name
    → MeetsAll (row_after chosen row).amounts table.checks → MeetsAll (row_after chosen row).amounts checks)
    → IsValid (record s { catalog = with_altered (over_checks table checks) s.catalog })
alter_valid s table checks valid named is_table new =
    let catalog : List TableDef = with_altered (over_checks table checks) s.catalog in
    let Safe : List Reservation → Type 0 = λ c. AllByRecursion (MeetsChecks catalog) (applied s.rows c) in
    let meets : (c : List Reservation) → IsChoice s.reservations c → (row : Row) → Has s.rows row → MeetsChecks catalog (row_after c row) = λ c choice row h.
    still_has s.catalog table checks row.name.table (λ t. MeetsAll (row_after c row).amounts t.checks) named (new c choice row h) (safe_row s valid c choice row h) in
    record {
      orderly = alter_orderly s table checks valid.orderly named is_table;
      safe_rows = record {
        tables = has_all (HasTable catalog) s.rows (λ row h.
            still_has s.catalog table checks row.name.table (λ t. IsRowOf t row) named (λ _ is_row. still_row_of table checks row is_row)
            (all_has (HasTable s.catalog) s.rows valid.safe_rows.tables row h));
        row_order = valid.safe_rows.row_order;
        few_rows = valid.safe_rows.few_rows;
        reserved_rows = valid.safe_rows.reserved_rows;
        safe = choices_all Safe s.reservations (λ c h. safe_rows catalog s.rows c (meets c h));
      };
    }

-- ADD

none_of_two : {A : Type 0} (a b : Option A) → first_of_two a b ≡ None → (a ≡ None) × (b ≡ None)
none_of_two None b e = (refl, e)
none_of_two (Some x) b e = absurd (cc)

-- if no row breaks the checks, this row does not
unbroken_row : (checks : List Check) (reservations : List Reservation) (rows : List Row) (row : Row) → rows_violation checks reservations rows ≡ None → Has rows row
    → broken checks row.amounts [] (map (changes_to row) reservations) ≡ None
unbroken_row checks reservations [] row e h = absurd h
unbroken_row checks reservations (other ∷ rows) row e (inl same) =
    subst (λ (r : Row). broken checks r.amounts [] (map (changes_to r) reservations) ≡ None) same
    (none_of_two (broken checks other.amounts [] (map (changes_to other) reservations)) (rows_violation checks reservations rows) e).0
unbroken_row checks reservations (other ∷ rows) row e (inr h) =
    unbroken_row checks reservations rows row
    (none_of_two (broken checks other.amounts [] (map (changes_to other) reservations)) (rows_violation checks reservations rows) e).1 h

-- this row meets them in each choice
meets_added : (checks : List Check) (reservations chosen : List Reservation) (row : Row) → broken checks row.amounts [] (map (changes_to row) reservations) ≡ None
    → IsChoice reservations chosen → MeetsAll (row_after chosen row).amounts checks
meets_added checks reservations chosen row unbroken choice =
    subst (λ (amounts : List ℤ). MeetsAll (all_changed amounts (map (changes_to row) chosen)) checks) (changed_nil row.amounts)
    (granted_meets checks row.amounts [] (map (changes_to row) reservations) (map (changes_to row) chosen) unbroken (choice_map (changes_to row) reservations chosen choice))

-- the table gets the new checks between its declared ones and its ranges
pub record IsAdded (table : TableDef) (text : CheckText) (made : TableDef) : Type 0 where
  pub more : List Check
  pub new : new_checks table text ≡ Some more
  pub checks : made.checks ≡ (declared_checks table ++ more) ++ range_checks table.columns
  pub alike : made ≡ over_checks table made.checks

only_text : (o : Option (List Check)) (more : List Check) → option_and_then (λ first. Some (first ++ [])) o ≡ Some more → o ≡ Some more
only_text None more e = absurd (cc)
only_text (Some first) more e = ap Some (sym (append-nil first)) ∙ e

pub is_added : (table : TableDef) (text : CheckText) (made : TableDef) → with_check table text ≡ Some made → IsAdded table text made
is_added table text made e =
    let names = names_of (reservables table.columns) in
    let scales = scales_of (reservables table.columns) in
    option_and_then_some (table_with table.name table.columns table.key) (checks_behind names scales (declared_checks table) (text ∷ [])) made e
    (λ declared behind whole.
    let known = within_behind names scales (declared_checks table) (text ∷ []) declared behind in
    let is : over table declared ≡ made = (cond_some (are_distinct (check_names (declared ++ range_checks table.columns))) (over table declared) made whole).1 in
    let checks : made.checks ≡ declared ++ range_checks table.columns = ap (λ (t : TableDef). t.checks) (sym is) in
    record {
      more = known.0;
      new = only_text (new_checks table text) known.0 known.1;
      checks = checks ∙ ap (λ (cs : List Check). cs ++ range_checks table.columns) (sym known.2);
      alike = sym is ∙ ap (over_checks table) (sym checks);
    })

-- what holds for the old checks and for the new ones holds for all
all_added : (P : Check → Type 0) (declared more ranges : List Check) → AllByRecursion P (declared ++ ranges) → AllByRecursion P more → AllByRecursion P ((declared ++ more) ++ ranges)
all_added P declared more ranges old new =
    let parts = all_append P declared ranges old in
    append_all P (declared ++ more) ranges (append_all P declared more parts.0 new) parts.1

-- ADD keeps a valid state valid if the table's rows break none of the new checks
pub add_check_valid : (s : State) (name : List ℕ) (text : CheckText) (table made : TableDef) → IsValid s → table_named s.catalog name ≡ Some table
    → with_check table text ≡ Some made → added_violation s name text ≡ None → IsValid (record s { catalog = with_altered made s.catalog })
add_check_valid s name text table made valid named e unbroken =
    let added = is_added table text made e in
    let called = name_found s.catalog name table named in
    let is_table = found_table s.catalog name table valid.orderly.tables named in
    let of_table : option_and_then (λ (checks : List Check). rows_violation checks s.reservations (rows_of s.rows name)) (new_checks table text) ≡ None =
    subst (λ (o : Option TableDef). option_and_then (λ (t : TableDef). option_and_then (λ (checks : List Check). rows_violation checks s.reservations (rows_of s.rows name)) (new_checks t text)) o ≡ None)
    named unbroken in
    let of_checks : rows_violation added.more s.reservations (rows_of s.rows name) ≡ None =
    subst (λ (o : Option (List Check)). option_and_then (λ (checks : List Check). rows_violation checks s.reservations (rows_of s.rows name)) o ≡ None) added.new of_table in
    let meets : (chosen : List Reservation) → IsChoice s.reservations chosen → (row : Row) → Has s.rows row → row.name.table ≡ table.name
    → MeetsAll (row_after chosen row).amounts table.checks → MeetsAll (row_after chosen row).amounts made.checks = λ chosen choice row h of_name old.
    let P : Check → Type 0 = λ check. Meets check (row_after chosen row).amounts in
    let here : bytes_eq row.name.table name ≡ true = subst (λ (n : List ℕ). bytes_eq n name ≡ true) (sym (of_name ∙ called)) (same_name name) in
    let row_of = filter_has (λ (r : Row). bytes_eq r.name.table name) s.rows row h here in
    let new = meets_added added.more s.reservations chosen row (unbroken_row added.more s.reservations (rows_of s.rows name) row of_checks row_of) choice in
    subst (AllByRecursion P) (sym added.checks)
    (all_added P (declared_checks table) added.more (range_checks table.columns) (subst (AllByRecursion P) (sound_of table is_table).checks old) new) in
    subst (λ (t : TableDef). IsValid (record s { catalog = with_altered t s.catalog })) (sym added.alike)
    (alter_valid s table made.checks valid (subst (λ (n : List ℕ). table_named s.catalog n ≡ Some table) (sym called) named)
    (subst IsTable added.alike (with_check_table table text made is_table e)) meets)

-- DROP CONSTRAINT

-- what holds for all checks holds for the remaining ones
all_left : {A : Type 0} (P : A → Type 0) (xs : List A) (i : ℕ) → AllByRecursion P xs → AllByRecursion P (remove xs i)
all_left P [] zero h = tt
all_left P [] (suc i) h = tt
all_left P (x ∷ xs) zero h = h.1
all_left P (x ∷ xs) (suc i) h = (h.0, all_left P xs i h.1)

pub image_of : {A B : Type 0} (f : A → B) (o : Option A) (y : B) → option_map f o ≡ Some y → (x : A) × (o ≡ Some x) × (f x ≡ y)
image_of f None y e = absurd (cc)
image_of f (Some x) y e = (x, refl, same_Some (f x) y e)

-- DROP CONSTRAINT keeps a valid state valid
pub drop_check_valid : (s : State) (name check : List ℕ) (table made : TableDef) → IsValid s → table_named s.catalog name ≡ Some table
    → without_check table check ≡ Some made → IsValid (record s { catalog = with_altered made s.catalog })
drop_check_valid s name check table made valid named e =
    let at = image_of (without_check_at table) (declared_place table check) made e in
    let is_table = found_table s.catalog name table valid.orderly.tables named in
    let within : at.0 < length (declared_checks table) = place_declared table check (Some at.0) (sym at.1) in
    subst (λ (t : TableDef). IsValid (record s { catalog = with_altered t s.catalog })) at.2
    (alter_valid s table (remove table.checks at.0) valid
    (subst (λ (n : List ℕ). table_named s.catalog n ≡ Some table) (sym (name_found s.catalog name table named)) named)
    (without_check_table table at.0 is_table within)
    (λ chosen _ row _ _ old. all_left (λ (check : Check). Meets check (row_after chosen row).amounts) table.checks at.0 old))
