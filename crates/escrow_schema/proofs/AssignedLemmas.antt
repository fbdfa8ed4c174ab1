-- What a plan has for a column is what the UPDATE assigns to it.
use Rattle.std.proofs.Common.{◌≡◌, ℕ, zero, suc, Bool, true, false, Option, Some, None, option_map, option_and_then, Result, Ok, Err, List, [], ◌∷◌, map, bytes_eq, sym, subst, ap, ◌∙◌, refl}
use Rattle.std.specs.Prelude.{ℤ, slice_get}
use Rattle.std.specs.List.{list_any, list_all}
use Rattle.std.proofs.lemmas.Bool.{and_parts, or_parts}
use Rattle.std.proofs.lemmas.Option.{none-some, same_Some, option_and_then_some}
use Rattle.escrow_num.specs.Decimal.{units_at}
use Rattle.escrow_num.specs.declared.refusal.Refusal.{Refusal}
use Rattle.escrow_num.specs.declared.value.Value.{Value}
use Rattle.escrow_statement.specs.declared.statement.Assign.{Assign}
use Rattle.escrow_statement.specs.declared.statement.Assigned.{Assigned}
use Rattle.escrow_statement.specs.declared.statement.Assigned.TheVariants as assigned
use Rattle.escrow_schema.specs.declared.column.Column.{Column}
use Rattle.escrow_schema.specs.declared.plan.Plan.TheVariants.{Reserve, Plain}
use Rattle.escrow_schema.specs.Column.{reservables, scale_of, value_in}
use Rattle.escrow_schema.specs.Definition.{are_distinct}
use Rattle.escrow_schema.specs.Fit.{plains}
use Rattle.escrow_schema.specs.Laws.{ChangesAsAssigned, NewValuesAsAssigned}
use Rattle.escrow_schema.specs.Plan.{are_changes, are_replacements, assigned_to, change_at, change_in, changes_for, changes_of, is_change, is_replacement, key_named, literal_in, new_value, new_values, new_values_of}
use Rattle.escrow_schema.proofs.DistinctLemmas.{first_apart, same_name}
use Rattle.escrow_schema.proofs.ListLemmas.{mapped_some}
use Rattle.escrow_schema.proofs.PlanLemmas.{plan_by, planned_changes_of, planned_values_of}

-- the columns that assignments name
abbrev pub assigned_names : List Assign → List (List ℕ)
assigned_names assigns = map (λ assign. assign.column) assigns

-- the name differs from each of the names
other_name : (name : List ℕ) (assigns : List Assign) (k : ℕ) (assign : Assign) → list_any (λ other. bytes_eq name other) (assigned_names assigns) ≡ false
    → slice_get assigns k ≡ Some assign → bytes_eq name assign.column ≡ false
other_name name [] k assign none at = absurd (none-some assign at)
other_name name (first ∷ assigns) zero assign none at =
    let parts = or_parts (bytes_eq name first.column) (list_any (λ other. bytes_eq name other) (assigned_names assigns)) none in
    subst (λ (a : Assign). bytes_eq name a.column ≡ false) (same_Some first assign at) parts.0
other_name name (first ∷ assigns) (suc k) assign none at =
    let parts = or_parts (bytes_eq name first.column) (list_any (λ other. bytes_eq name other) (assigned_names assigns)) none in
    other_name name assigns k assign parts.1 at

-- if columns are distinct, each assignment is the one for its column
assigned_at : (assigns : List Assign) (k : ℕ) (assign : Assign) → are_distinct (assigned_names assigns) ≡ true → slice_get assigns k ≡ Some assign
    → assigned_to assigns assign.column ≡ Some assign.value
assigned_at [] k assign apart at = absurd (none-some assign at)
assigned_at (first ∷ assigns) zero assign apart at =
    subst (λ (a : Assign). assigned_to (first ∷ assigns) a.column ≡ Some a.value) (same_Some first assign at) (rw (same_name first.column) refl)
assigned_at (first ∷ assigns) (suc k) assign apart at =
    let parts = first_apart first.column (assigned_names assigns) apart in
    rw (other_name first.column assigns k assign parts.0 at) (assigned_at assigns k assign parts.1 at)

-- if no assignment names a column, nothing is assigned to it
assigned_none : (assigns : List Assign) (name : List ℕ) → list_any (λ assign. bytes_eq assign.column name) assigns ≡ false → assigned_to assigns name ≡ None
assigned_none [] name none = refl
assigned_none (first ∷ assigns) name none =
    let parts = or_parts (bytes_eq first.column name) (list_any (λ assign. bytes_eq assign.column name) assigns) none in
    rw parts.0 (assigned_none assigns name parts.1)

-- a plan of one kind comes from assignments of that kind
kind_of_changes : (a b : Bool) (k : Result Value Refusal) (made : Option (List (Option ℤ))) (values : Option (List (Option Value))) (key : Value) (changes : List (Option ℤ))
    → plan_by a b k made values ≡ Ok (Reserve key changes) → a ≡ true
kind_of_changes true b k made values key changes e = refl
kind_of_changes false true (Ok v) made None key changes e = absurd (cc)
kind_of_changes false true (Ok v) made (Some values) key changes e = absurd (cc)
kind_of_changes false true (Err r) made values key changes e = absurd (cc)
kind_of_changes false false k made values key changes e = absurd (cc)

kind_of_values : (a b : Bool) (k : Result Value Refusal) (changes : Option (List (Option ℤ))) (made : Option (List (Option Value))) (key : Value) (values : List (Option Value))
    → plan_by a b k changes made ≡ Ok (Plain key values) → b ≡ true
kind_of_values a true k changes made key values e = refl
kind_of_values true false (Ok v) None made key values e = absurd (cc)
kind_of_values true false (Ok v) (Some changes) made key values e = absurd (cc)
kind_of_values true false (Err r) changes made key values e = absurd (cc)
kind_of_values false false k changes made key values e = absurd (cc)

-- the change of the column at an index
abbrev HasChange : List Assign → List (Option ℤ) → ℕ → Column → Type 0
HasChange assigns changes i column =
    (c : Option ℤ) × (slice_get changes i ≡ Some c) × (change_at (scale_of column.kind) (option_and_then change_in (assigned_to assigns column.name)) ≡ Some c)

change_there : (columns : List Column) (assigns : List Assign) (changes : List (Option ℤ)) (i : ℕ) (column : Column) → changes_for columns assigns ≡ Some changes
    → slice_get columns i ≡ Some column → HasChange assigns changes i column
change_there [] assigns changes i column e here = absurd (none-some column here)
change_there (first ∷ columns) assigns changes i column e here =
    option_and_then_some (λ c. option_map (λ cs. c ∷ cs) (changes_for columns assigns)) (change_at (scale_of first.kind) (option_and_then change_in (assigned_to assigns first.name))) changes e
    (λ c one more. mapped_some (λ cs. c ∷ cs) (changes_for columns assigns) changes more
    (λ cs others whole. subst (λ (xs : List (Option ℤ)). HasChange assigns xs i column) whole (at_place c cs i one (λ j. change_there columns assigns cs j column others) here)))
  where
    at_place : (c : Option ℤ) (cs : List (Option ℤ)) (i : ℕ) → change_at (scale_of first.kind) (option_and_then change_in (assigned_to assigns first.name)) ≡ Some c
        → ((j : ℕ) → slice_get columns j ≡ Some column → HasChange assigns cs j column) → slice_get (first ∷ columns) i ≡ Some column → HasChange assigns (c ∷ cs) i column
    at_place c cs zero one later here = subst (λ (x : Column). HasChange assigns (c ∷ cs) zero x) (same_Some first column here) (c, refl, one)
    at_place c cs (suc j) one later here = later j here

-- the new value of the column at an index
abbrev HasNew : List Assign → List (Option Value) → ℕ → Column → Type 0
HasNew assigns values i column =
    (v : Option Value) × (slice_get values i ≡ Some v) × (new_value column.kind (option_and_then literal_in (assigned_to assigns column.name)) ≡ Some v)

value_there : (columns : List Column) (assigns : List Assign) (values : List (Option Value)) (i : ℕ) (column : Column) → new_values_of columns assigns ≡ Some values
    → slice_get columns i ≡ Some column → HasNew assigns values i column
value_there [] assigns values i column e here = absurd (none-some column here)
value_there (first ∷ columns) assigns values i column e here =
    option_and_then_some (λ v. option_map (λ vs. v ∷ vs) (new_values_of columns assigns)) (new_value first.kind (option_and_then literal_in (assigned_to assigns first.name))) values e
    (λ v one more. mapped_some (λ vs. v ∷ vs) (new_values_of columns assigns) values more
    (λ vs others whole. subst (λ (xs : List (Option Value)). HasNew assigns xs i column) whole (at_place v vs i one (λ j. value_there columns assigns vs j column others) here)))
  where
    at_place : (v : Option Value) (vs : List (Option Value)) (i : ℕ) → new_value first.kind (option_and_then literal_in (assigned_to assigns first.name)) ≡ Some v
        → ((j : ℕ) → slice_get columns j ≡ Some column → HasNew assigns vs j column) → slice_get (first ∷ columns) i ≡ Some column → HasNew assigns (v ∷ vs) i column
    at_place v vs zero one later here = subst (λ (x : Column). HasNew assigns (v ∷ vs) zero x) (same_Some first column here) (v, refl, one)
    at_place v vs (suc j) one later here = later j here

-- a column is assigned the value of its assignment, or nothing if it has none
value_of_name : (assigns : List Assign) (name : List ℕ) (k : ℕ) (assign : Assign) (assigned : Assigned) → are_distinct (assigned_names assigns) ≡ true
    → slice_get assigns k ≡ Some assign → assign.column ≡ name → assign.value ≡ assigned → assigned_to assigns name ≡ Some assigned
value_of_name assigns name k assign assigned apart found named is =
    subst (λ (n : List ℕ). assigned_to assigns n ≡ Some assign.value) named (assigned_at assigns k assign apart found) ∙ ap Some is

-- what is made from a value that exists
made_there : {A B : Type 0} (make : A → Option B) (make_any : Option A → Option (Option B)) → ((x : A) → make_any (Some x) ≡ option_map (λ y. Some y) (make x))
    → (all : List (Option B)) (i : ℕ) (o : Option A) (made : Option B) (x : A) → o ≡ Some x → slice_get all i ≡ Some made → make_any o ≡ Some made
    → (y : B) × (slice_get all i ≡ Some (Some y)) × (make x ≡ Some y)
made_there make make_any there all i o made x known at is =
    mapped_some (λ y. Some y) (make x) made (sym (there x) ∙ ap make_any (sym known) ∙ is)
    (λ y makes same. (y, at ∙ ap Some (sym same), makes))

pub changes_as_assigned : ChangesAsAssigned
changes_as_assigned table text key changes e i column here =
    let assigns = text.assigns in
    let a : are_changes table.columns assigns ≡ true =
    kind_of_changes (are_changes table.columns assigns) (are_replacements table assigns) (key_named table text.row) (changes_of table.columns assigns) (new_values table assigns) key changes e in
    let apart : are_distinct (assigned_names assigns) ≡ true = (and_parts (are_distinct (assigned_names assigns)) (list_all (is_change table.columns) assigns) a).0 in
    let found = change_there (reservables table.columns) assigns changes i column (planned_changes_of table text key changes e) here in
    let scale = scale_of column.kind in (
      λ k assign source change at named value.
          let known = value_of_name assigns column.name k assign (assigned.Change source change) apart at named value in
          made_there (units_at scale) (change_at scale) (λ _. refl) changes i (option_and_then change_in (assigned_to assigns column.name)) found.0 change (ap (option_and_then change_in) known) found.1 found.2,
      λ none.
          let nothing : None ≡ found.0 = same_Some None found.0 (subst (λ (o : Option Assigned). change_at scale (option_and_then change_in o) ≡ Some found.0) (assigned_none assigns column.name none) found.2) in
          found.1 ∙ ap Some (sym nothing),
    )

pub new_values_as_assigned : NewValuesAsAssigned
new_values_as_assigned table text key values e i column here =
    let assigns = text.assigns in
    let b : are_replacements table assigns ≡ true =
    kind_of_values (are_changes table.columns assigns) (are_replacements table assigns) (key_named table text.row) (changes_of table.columns assigns) (new_values table assigns) key values e in
    let apart : are_distinct (assigned_names assigns) ≡ true = (and_parts (are_distinct (assigned_names assigns)) (list_all (is_replacement table) assigns) b).0 in
    let found = value_there (plains table.columns 0 table.key) assigns values i column (planned_values_of table text key values e) here in (
      λ k assign literal at named value.
          let known = value_of_name assigns column.name k assign (assigned.Literal literal) apart at named value in
          made_there (value_in column.kind) (new_value column.kind) (λ _. refl) values i (option_and_then literal_in (assigned_to assigns column.name)) found.0 literal (ap (option_and_then literal_in) known) found.1 found.2,
      λ none.
          let nothing : None ≡ found.0 = same_Some None found.0 (subst (λ (o : Option Assigned). new_value column.kind (option_and_then literal_in o) ≡ Some found.0) (assigned_none assigns column.name none) found.2) in
          found.1 ∙ ap Some (sym nothing),
    )
