-- The values that the literals of an INSERT stand for, column by column.
use Rattle.std.proofs.Common.{◌≡◌, ℕ, zero, suc, ◌+◌, ◌<◌, true, false, Option, Some, None, option_map, option_and_then, List, [], ◌∷◌, ◌++◌, length, drop, get_or, sym, ap, ◌∙◌, subst, refl, arith, inl, inr, bytes_eq}
use Rattle.std.specs.Prelude.{is_some, option_to_list, slice_get}
use Rattle.std.specs.List.{list_any}
use Rattle.std.proofs.lemmas.Bool.{cases_Bool, or_parts, eqb-true, eqb-false, false≢true}
use Rattle.std.proofs.lemmas.Option.{none-some, option_and_then_some, same_Some}
use Rattle.escrow_num.specs.declared.value.Value.{Value}
use Rattle.escrow_statement.specs.declared.statement.InsertText.{InsertText}
use Rattle.escrow_statement.specs.declared.statement.Literal.{Literal}
use Rattle.escrow_schema.specs.declared.column.Column.{Column}
use Rattle.escrow_schema.specs.declared.column.ColumnType.{ColumnType}
use Rattle.escrow_schema.specs.declared.table.TableDef.{TableDef}
use Rattle.escrow_schema.specs.Asked.{asked_value, asked_values, is_list, literal_for, values_at}
use Rattle.escrow_schema.specs.Column.{scale_of, value_at, value_in}
use Rattle.escrow_schema.specs.Definition.{are_distinct}
use Rattle.escrow_schema.specs.Fit.{fitted, in_column_order, inserted_row, literal_beside, literals_beside, row_with, values_in}
use Rattle.escrow_schema.proofs.DistinctLemmas.{first_apart, same_name}
use Rattle.escrow_schema.proofs.FitLemmas.{as_many_values, pushed, row_some, some_from}
use Rattle.escrow_schema.proofs.KeyValues.{value_in_at}
use Rattle.escrow_schema.proofs.ListLemmas.{after, drop_item, mapped_some}

nothing : (o : Option Value) (rest : Option (List Value)) → rest ≡ None → rest ≡ option_and_then (λ v. rest) o
nothing None rest e = e
nothing (Some v) rest e = refl

-- one more literal, and those after it
step : (o : Option Literal) (more : Option (List Literal)) (column : Column) (columns : List Column)
    → option_and_then (values_in (column ∷ columns)) (option_and_then (λ l. option_map (λ ls. l ∷ ls) more) o)
    ≡ option_and_then (λ v. option_map (λ vs. v ∷ vs) (option_and_then (values_in columns) more)) (option_and_then (value_in column.kind) o)
step None more column columns = refl
step (Some l) None column columns = nothing (value_in column.kind l) None refl
step (Some l) (Some ls) column columns = refl

-- the values of literals that are listed beside column names
beside_values : (names : List (List ℕ)) (literals : List Literal) (place : ℕ) (columns : List Column)
    → option_and_then (values_in columns) (literals_beside names literals columns) ≡ values_at (Some names) literals place columns
beside_values names literals place [] = refl
beside_values names literals place (column ∷ columns) =
    step (literal_beside names literals column.name) (literals_beside names literals columns) column columns
    ∙ ap (λ rest. option_and_then (λ v. option_map (λ vs. v ∷ vs) rest) (asked_value (Some names) literals place column)) (beside_values names literals (place + 1) columns)

-- the values of literals without column names
standing_values : (literals all : List Literal) (place : ℕ) (columns : List Column) → length columns ≡ length literals
    → ((i : ℕ) → slice_get literals i ≡ slice_get all (place + i)) → values_in columns literals ≡ values_at None all place columns
standing_values [] all place [] long same = refl
standing_values (l ∷ ls) all place [] long same = absurd (omega arith)
standing_values [] all place (column ∷ columns) long same = absurd (omega arith)
standing_values (l ∷ ls) all place (column ∷ columns) long same =
    let here : Some l ≡ slice_get all place = same 0 ∙ ap (slice_get all) (omega arith) in
    let later : (i : ℕ) → slice_get ls i ≡ slice_get all (place + 1 + i) = λ i. same (suc i) ∙ ap (slice_get all) (omega arith) in
    rw (← here) (ap (λ rest. option_and_then (λ v. option_map (λ vs. v ∷ vs) rest) (value_in column.kind l)) (standing_values ls all (place + 1) columns (omega arith) later))

-- if columns and literals form a list, the values are those of each column
pub list_values : (columns : List Column) (names : Option (List (List ℕ))) (literals : List Literal) → is_list columns names literals ≡ true
    → option_and_then (values_in columns) (in_column_order columns names literals) ≡ values_at names literals 0 columns
list_values columns None literals list = standing_values literals literals 0 columns (eqb-true (length columns) (length literals) list) (λ i. ap (slice_get literals) (omega arith))
list_values columns (Some names) literals list = rw list (beside_values names literals 0 columns)

-- otherwise there are none
pub no_list : (columns : List Column) (names : Option (List (List ℕ))) (literals : List Literal) → is_list columns names literals ≡ false
    → option_and_then (values_in columns) (in_column_order columns names literals) ≡ None
no_list columns None literals list = apart (values_in columns literals) (λ values e. eqb-false (length columns) (length literals) list (as_many_values columns literals values e).1)
  where
    apart : (o : Option (List Value)) → ((values : List Value) → o ≡ Some values → ⊥) → o ≡ None
    apart None none = refl
    apart (Some values) none = absurd (none values refl)
no_list columns (Some names) literals list = rw list refl

-- there are as many values as columns
pub length-values_at : (names : Option (List (List ℕ))) (literals : List Literal) (place : ℕ) (columns : List Column) (values : List Value)
    → values_at names literals place columns ≡ Some values → length columns ≡ length values
length-values_at names literals place [] values e = ap length (same_Some [] values e)
length-values_at names literals place (column ∷ columns) values e =
    option_and_then_some (λ v. option_map (λ vs. v ∷ vs) (values_at names literals (place + 1) columns)) (asked_value names literals place column) values e
    (λ v here more. mapped_some (λ vs. v ∷ vs) (values_at names literals (place + 1) columns) values more
    (λ vs others whole.
    let rest = length-values_at names literals (place + 1) columns vs others in
    let same : suc (length vs) ≡ length values = ap length whole in
    omega arith))

-- the row of an INSERT is made from its values
pub row_of_values : (table : TableDef) (text : InsertText) → inserted_row table text ≡ option_and_then (row_with table) (asked_values table.columns text)
row_of_values table text = chained (in_column_order table.columns text.columns text.values)
  where
    chained : (o : Option (List Literal)) → option_and_then (fitted table) o ≡ option_and_then (row_with table) (option_and_then (values_in table.columns) o)
    chained None = refl
    chained (Some literals) = refl

-- if all literals fit, there is a row
pub row_there : (table : TableDef) (text : InsertText) → table.key < length table.columns → is_some (asked_values table.columns text) ≡ true
    → is_some (inserted_row table text) ≡ true
row_there table text key some =
    elim (cases_Bool (is_list table.columns text.columns text.values)) [
      | inl list ↦ (let v = some_from (asked_values table.columns text) some in
          let at : values_at text.columns text.values 0 table.columns ≡ Some v.0 = sym (list_values table.columns text.columns text.values list) ∙ v.1 in
          let long = length-values_at text.columns text.values 0 table.columns v.0 at in
          rw (row_of_values table text) (subst (λ o. is_some (option_and_then (row_with table) o) ≡ true) (sym v.1) (row_some table v.0 key long)))
      | inr not ↦ absurd (false≢true (subst (λ o. is_some o ≡ true) (no_list table.columns text.columns text.values not) some))
    ]

-- if some literal does not fit, there is no row
pub no_row : (table : TableDef) (text : InsertText) → is_some (asked_values table.columns text) ≡ false → inserted_row table text ≡ None
no_row table text none = row_of_values table text ∙ go (asked_values table.columns text) none
  where
    go : (o : Option (List Value)) → is_some o ≡ false → option_and_then (row_with table) o ≡ None
    go None none = refl
    go (Some values) none = absurd (false≢true (sym none))

-- a literal that fits denotes its value at the type's scale
pub value_pushed : (kind : ColumnType) (o : Option Literal) → is_some (option_and_then (value_in kind) o) ≡ true
    → option_and_then (value_at (scale_of kind)) o ≡ option_and_then (value_in kind) o
value_pushed kind None some = absurd (false≢true some)
value_pushed kind (Some l) some = let v = some_from (value_in kind l) some in value_in_at kind l v.0 v.1 ∙ sym v.1

-- no literal is beside a name if none is left
beside_nothing : (names : List (List ℕ)) (name : List ℕ) → literal_beside names [] name ≡ None
beside_nothing [] name = refl
beside_nothing (other ∷ names) name = refl

-- the literal beside a name comes after another one
pub beside_later : (names : List (List ℕ)) (literals : List Literal) (i : ℕ) (other name : List ℕ) → i < length names → other ≡ get_or names i other → bytes_eq other name ≡ false
    → literal_beside (drop i names) (drop i literals) name ≡ literal_beside (drop (suc i) names) (drop (suc i) literals) name
beside_later [] literals i other name within at apart = absurd (omega arith)
beside_later (n ∷ names) [] zero other name within at apart = sym (beside_nothing names name)
beside_later (n ∷ names) (l ∷ literals) zero other name within at apart =
    let first : bytes_eq n name ≡ false = subst (λ x. bytes_eq x name ≡ false) at apart in
    rw first refl
beside_later (n ∷ names) [] (suc i) other name within at apart = beside_nothing (drop i names) name ∙ sym (beside_nothing (drop (suc i) names) name)
beside_later (n ∷ names) (l ∷ literals) (suc i) other name within at apart = beside_later names literals i other name (omega arith) at apart

-- if each column's literal fits, columns and literals form a list
pub list_of : (columns : List Column) (text : InsertText) → is_some (asked_values columns text) ≡ true → asked_values columns text ≡ values_at text.columns text.values 0 columns
list_of columns text some =
    elim (cases_Bool (is_list columns text.columns text.values)) [
      | inl list ↦ list_values columns text.columns text.values list
      | inr not ↦ absurd (false≢true (subst (λ o. is_some o ≡ true) (no_list columns text.columns text.values not) some))
    ]

-- one more value
pub one_more : (names : Option (List (List ℕ))) (literals : List Literal) (columns : List Column) (i : ℕ) (column : Column) (done values : List Value)
    → i < length columns → column ≡ get_or columns i column
    → after done (values_at names literals i (drop i columns)) ≡ values_at names literals 0 columns → is_some (values_at names literals 0 columns) ≡ true
    → values ≡ done ++ option_to_list (option_and_then (value_at (scale_of column.kind)) (literal_for names literals i column.name))
    → after values (values_at names literals (i + 1) (drop (i + 1) columns)) ≡ values_at names literals 0 columns
one_more names literals columns i column done values within at before some more =
    let c = drop_item columns i column within at in
    let split : after done (values_at names literals i (column ∷ drop (i + 1) columns)) ≡ values_at names literals 0 columns =
    subst (λ (cs : List Column). after done (values_at names literals i cs) ≡ values_at names literals 0 columns) c before in
    let there : is_some (asked_value names literals i column) ≡ true = first_there (asked_value names literals i column) (values_at names literals (i + 1) (drop (i + 1) columns)) done (subst (λ o. is_some o ≡ true) (sym split) some) in
    let same = value_pushed column.kind (literal_for names literals i column.name) there in
    subst (λ (vs : List Value). after vs (values_at names literals (i + 1) (drop (i + 1) columns)) ≡ values_at names literals 0 columns) (sym (more ∙ ap (λ o. done ++ option_to_list o) same))
    (pushed (asked_value names literals i column) (values_at names literals (i + 1) (drop (i + 1) columns)) (values_at names literals 0 columns) done split some)
  where
    first_there : (o : Option Value) (rest : Option (List Value)) (done : List Value)
        → is_some (after done (option_and_then (λ v. option_map (λ vs. v ∷ vs) rest) o)) ≡ true → is_some o ≡ true
    first_there None rest done h = absurd (false≢true h)
    first_there (Some v) rest done h = refl

-- the literal of the column at an index is the one beside its name
pub beside_at : (names : List (List ℕ)) (literals : List Literal) (columns : List Column) (ordered : List Literal) (i : ℕ) (column : Column)
    → literals_beside names literals columns ≡ Some ordered → slice_get columns i ≡ Some column → slice_get ordered i ≡ literal_beside names literals column.name
beside_at names literals [] ordered i column e there = absurd (none-some column there)
beside_at names literals (c ∷ columns) ordered i column e there =
    option_and_then_some (λ l. option_map (λ ls. l ∷ ls) (literals_beside names literals columns)) (literal_beside names literals c.name) ordered e
    (λ l here more. mapped_some (λ ls. l ∷ ls) (literals_beside names literals columns) ordered more
    (λ ls others whole. subst (λ o. slice_get o i ≡ literal_beside names literals column.name) whole (at_place i l ls here (λ j found. beside_at names literals columns ls j column others found) there)))
  where
    at_place : (i : ℕ) (l : Literal) (ls : List Literal) → literal_beside names literals c.name ≡ Some l
        → ((j : ℕ) → slice_get columns j ≡ Some column → slice_get ls j ≡ literal_beside names literals column.name) → slice_get (c ∷ columns) i ≡ Some column → slice_get (l ∷ ls) i ≡ literal_beside names literals column.name
    at_place zero l ls here later there = sym here ∙ ap (λ (x : Column). literal_beside names literals x.name) (same_Some c column there)
    at_place (suc i) l ls here later there = later i there

-- if names are distinct, each finds the literal beside it
pub beside_is : (names : List (List ℕ)) (literals : List Literal) (k : ℕ) (name : List ℕ) (literal : Literal) → are_distinct names ≡ true
    → slice_get names k ≡ Some name → slice_get literals k ≡ Some literal → literal_beside names literals name ≡ Some literal
beside_is [] literals k name literal apart at here = absurd (none-some name at)
beside_is (n ∷ names) [] k name literal apart at here = absurd (none-some literal here)
beside_is (n ∷ names) (l ∷ literals) zero name literal apart at here =
    let same : bytes_eq n name ≡ true = subst (λ x. bytes_eq n x ≡ true) (same_Some n name at) (same_name n) in
    rw same here
beside_is (n ∷ names) (l ∷ literals) (suc k) name literal apart at here =
    let parts = first_apart n names apart in
    let other = other_name names n k name parts.0 at in
    rw other (beside_is names literals k name literal parts.1 at here)
  where
    other_name : (names : List (List ℕ)) (n : List ℕ) (k : ℕ) (name : List ℕ) → list_any (λ other. bytes_eq n other) names ≡ false → slice_get names k ≡ Some name → bytes_eq n name ≡ false
    other_name [] n k name none at = absurd (none-some name at)
    other_name (x ∷ names) n zero name none at = subst (λ y. bytes_eq n y ≡ false) (same_Some x name at) (or_parts (bytes_eq n x) (list_any (λ other. bytes_eq n other) names) none).0
    other_name (x ∷ names) n (suc k) name none at = other_name names n k name (or_parts (bytes_eq n x) (list_any (λ other. bytes_eq n other) names) none).1 at
