-- The plan of an UPDATE, or the reason why it has none.
use Rattle.std.proofs.Common.{◌≡◌, ◌⊎◌, suc, Bool, true, false, cond, not, Option, Some, None, option_map, option_and_then, Result, Ok, Err, List, [], ◌∷◌, length, sym, subst, ap, ap₂, ◌∙◌, refl, inl, inr}
use Rattle.std.specs.Prelude.{ℤ, IfOk, IfSome, IsSomeAnd, IsTrue, is_some, nat_le}
use Rattle.std.proofs.lemmas.Bool.{false≢true}
use Rattle.std.specs.List.{AllZip}
use Rattle.std.specs.Option.{ok_or}
use Rattle.std.specs.Result.{IfErr, IsErrAnd, IsErrOf, IsOk, result_err}
use Rattle.std.proofs.lemmas.Option.{none-some, same_Some, option_and_then_some}
use Rattle.escrow_num.specs.declared.refusal.Refusal.{Refusal}
use Rattle.escrow_num.specs.declared.refusal.Refusal.TheVariants as refusal
use Rattle.escrow_num.specs.declared.changes.TheConstants.Changes.{IN_PLACE}
use Rattle.escrow_num.specs.declared.value.Value.{Value}
use Rattle.escrow_num.specs.declared.value.Value.TheVariants as value
use Rattle.escrow_statement.specs.declared.statement.Assign.{Assign}
use Rattle.escrow_statement.specs.declared.statement.Literal.{Literal}
use Rattle.escrow_statement.specs.declared.statement.UpdateText.{UpdateText}
use Rattle.escrow_statement.specs.declared.statement.WhereText.{WhereText}
use Rattle.escrow_schema.specs.declared.column.Column.{Column}
use Rattle.escrow_schema.specs.declared.column.ColumnType.{ColumnType}
use Rattle.escrow_schema.specs.declared.plan.Plan.{Plan}
use Rattle.escrow_schema.specs.declared.plan.Plan.TheVariants.{Reserve, Plain}
use Rattle.escrow_schema.specs.declared.table.TableDef.{TableDef}
use Rattle.escrow_schema.specs.Assigned.{IsAnswer, IsChangesFault, TakesMemory, values_assigned}
use Rattle.escrow_schema.specs.Column.{fits, is_number, reservables, scale_of, value_at, value_in, truncated_value}
use Rattle.escrow_schema.specs.Definition.{key_scale}
use Rattle.escrow_schema.specs.Fit.{plains}
use Rattle.escrow_schema.specs.Laws.{KeysOfPlans, KeysOfWheres, PlainPlansFit, PlansOfWholeRow, RefusalsOfKeys, RefusalsOfPlans}
use Rattle.escrow_schema.specs.Plan.{are_changes, are_replacements, assigned_to, change_at, change_in, changes_for, changes_of, for_key, is_key, key_in, key_of, key_named, literal_in, new_value, new_values, new_values_of, is_in_place, planned}
use Rattle.escrow_schema.proofs.KeyValues.{key_exact, value_in_at, value_in_fits, where_key}
use Rattle.escrow_schema.proofs.ListLemmas.{mapped_some}

-- the plan, from whether the assignments are changes, whether they replace values, what WHERE
-- names, the changes, and the new values
abbrev pub plan_by : Bool → Bool → Result Value Refusal → Option (List (Option ℤ)) → Option (List (Option Value)) → Result Plan Refusal
plan_by a b k changes values =
    cond a (for_key (λ key. ok_or (option_map (λ cs. Reserve key cs) changes) refusal.BadValue) k)
    (cond b (for_key (λ key. ok_or (option_map (λ vs. Plain key vs) values) refusal.BadValue) k) (Err refusal.BadAssignment))

-- assignments of neither kind are refused
pub why_of_neither : (table : TableDef) (text : UpdateText)
    → are_changes table.columns text.assigns ≡ false → are_replacements table text.assigns ≡ false → Some refusal.BadAssignment ≡ result_err (planned table text)
why_of_neither table text e h = rw (e, h) refl

-- a plan that is refused, and one that is not
pub refused_by : (p : Result Plan Refusal) (r : Refusal) → Some r ≡ result_err p → p ≡ Err r
refused_by (Ok plan) r e = absurd (none-some r (sym e))
refused_by (Err q) r e = ap Err (same_Some q r (sym e))

-- the value of a result that is not refused
pub not_refused : {A : Type 0} (r : Result A Refusal) → None ≡ result_err r → (v : A) × (r ≡ Ok v)
not_refused (Ok v) e = (v, refl)
not_refused (Err q) e = absurd (none-some q e)

-- there is a change or none for each column
as_many : (columns : List Column) (assigns : List Assign) (changes : List (Option ℤ)) → changes_for columns assigns ≡ Some changes → length changes ≡ length columns
as_many [] assigns changes e = ap length (sym (same_Some [] changes e))
as_many (column ∷ columns) assigns changes e =
    option_and_then_some (λ c. option_map (λ cs. c ∷ cs) (changes_for columns assigns)) (change_at (scale_of column.kind) (option_and_then change_in (assigned_to assigns column.name))) changes e
    (λ c one more. mapped_some (λ cs. c ∷ cs) (changes_for columns assigns) changes more
    (λ cs others whole. ap length (sym whole) ∙ ap (λ n. suc n) (as_many columns assigns cs others)))

-- the value assigned to a column of a type, if it fits
assigned_value : (kind : ColumnType) (o : Option Literal) (v : Option Value) → new_value kind o ≡ Some v
    → (v ≡ option_and_then (value_at (scale_of kind)) o) × IfSome v (λ x. IsTrue (fits kind x))
assigned_value kind None v e = let same = same_Some None v e in subst (λ (w : Option Value). (w ≡ None) × IfSome w (λ x. IsTrue (fits kind x))) same (refl, tt)
assigned_value kind (Some literal) v e =
    mapped_some (λ x. Some x) (value_in kind literal) v e
    (λ x at same. subst (λ (w : Option Value). (w ≡ value_at (scale_of kind) literal) × IfSome w (λ y. IsTrue (fits kind y))) same
    (sym (value_in_at kind literal x at), value_in_fits kind literal x at))

-- new values are the assigned ones, and each fits its column's type
abbrev pub FitNew : List Column → List (Option Value) → Type 0
FitNew columns values = AllZip (λ column new. IfSome new (λ v. IsTrue (fits column.kind v))) columns values

pub new_ones : (columns : List Column) (assigns : List Assign) (values : List (Option Value)) → new_values_of columns assigns ≡ Some values
    → (values ≡ values_assigned columns assigns) × FitNew columns values
new_ones [] assigns values e = let same = same_Some [] values e in subst (λ vs. (vs ≡ []) × FitNew [] vs) same (refl, tt)
new_ones (column ∷ columns) assigns values e =
    option_and_then_some (λ v. option_map (λ vs. v ∷ vs) (new_values_of columns assigns)) (new_value column.kind (option_and_then literal_in (assigned_to assigns column.name))) values e
    (λ v one more. mapped_some (λ vs. v ∷ vs) (new_values_of columns assigns) values more
    (λ vs others whole.
    let here = assigned_value column.kind (option_and_then literal_in (assigned_to assigns column.name)) v one in
    let rest = new_ones columns assigns vs others in
    subst (λ ws. (ws ≡ values_assigned (column ∷ columns) assigns) × FitNew (column ∷ columns) ws) whole
    (ap₂ (λ (x : Option Value) (xs : List (Option Value)). x ∷ xs) here.0 rest.0, (here.1, rest.1))))

-- a refused call, and what the caller returns
pub exit_refused : {X Y : Type 0} (r : Result X Refusal) (call : Result Y Refusal) (why : Refusal) (o : Option Refusal)
    → IsErrAnd r (λ e. e ≡ why) → call ≡ Err why → result_err call ≡ o → (r ≡ Err why) × (Some why ≡ o)
exit_refused (Ok x) call why o is was known = absurd is
exit_refused (Err e) call why o is was known = (ap Err is, sym (ap result_err was) ∙ known)

-- the key that WHERE names is that of its literal
pub keys_of_wheres : KeysOfWheres
keys_of_wheres table row key e = key_exact table row.literal key (where_key table row key e)

pub named_key : (table : TableDef) (row : WhereText) (key : Value) → key_named table row ≡ Ok key → key ≡ truncated_value (key_scale table) row.literal
named_key table row key e = (keys_of_wheres table row key e).1

-- why WHERE names no key
unnamed : (b : Bool) (o : Option Value) (r : Refusal) → cond (not b) (Err refusal.NotTheKey) (ok_or o refusal.BadValue) ≡ Err r
    → (r ≡ refusal.NotTheKey) ⊎ (r ≡ refusal.BadValue)
unnamed false o r e = inl (cc)
unnamed true None r e = inr (cc)
unnamed true (Some v) r e = absurd (cc)

pub refusals_of_keys : RefusalsOfKeys
refusals_of_keys table row r e = unnamed (is_key table row.column) (key_in table row.literal) r e

-- the parts of a plan
key_by : (a b : Bool) (k : Result Value Refusal) (changes : Option (List (Option ℤ))) (values : Option (List (Option Value))) (plan : Plan)
    → plan_by a b k changes values ≡ Ok plan → k ≡ Ok (key_of plan)
key_by true b (Ok key) None values plan e = absurd (cc)
key_by true b (Ok key) (Some cs) values plan e = let same : Reserve key cs ≡ plan = cc in ap (λ p. Ok (key_of p)) same
key_by true b (Err r) changes values plan e = absurd (cc)
key_by false true (Ok key) changes None plan e = absurd (cc)
key_by false true (Ok key) changes (Some values) plan e = let same : Plain key values ≡ plan = cc in ap (λ p. Ok (key_of p)) same
key_by false true (Err r) changes values plan e = absurd (cc)
key_by false false k changes values plan e = absurd (cc)

pub changes_by : (a b : Bool) (k : Result Value Refusal) (made : Option (List (Option ℤ))) (values : Option (List (Option Value))) (key : Value) (changes : List (Option ℤ))
    → plan_by a b k made values ≡ Ok (Reserve key changes) → made ≡ Some changes
changes_by true b (Ok v) None values key changes e = absurd (cc)
changes_by true b (Ok v) (Some made) values key changes e = cc
changes_by true b (Err r) made values key changes e = absurd (cc)
changes_by false true (Ok v) made None key changes e = absurd (cc)
changes_by false true (Ok v) made (Some values) key changes e = absurd (cc)
changes_by false true (Err r) made values key changes e = absurd (cc)
changes_by false false k made values key changes e = absurd (cc)

pub values_by : (a b : Bool) (k : Result Value Refusal) (changes : Option (List (Option ℤ))) (made : Option (List (Option Value))) (key : Value) (values : List (Option Value))
    → plan_by a b k changes made ≡ Ok (Plain key values) → made ≡ Some values
values_by true b (Ok v) None made key values e = absurd (cc)
values_by true b (Ok v) (Some changes) made key values e = absurd (cc)
values_by true b (Err r) changes made key values e = absurd (cc)
values_by false true (Ok v) changes None key values e = absurd (cc)
values_by false true (Ok v) changes (Some made) key values e = cc
values_by false true (Err r) changes made key values e = absurd (cc)
values_by false false k changes made key values e = absurd (cc)

-- the changes, and the new values, of a plan
pub planned_changes_of : (table : TableDef) (text : UpdateText) (key : Value) (changes : List (Option ℤ)) → planned table text ≡ Ok (Reserve key changes)
    → changes_of table.columns text.assigns ≡ Some changes
planned_changes_of table text key changes e =
    changes_by (are_changes table.columns text.assigns) (are_replacements table text.assigns) (key_named table text.row) (changes_of table.columns text.assigns) (new_values table text.assigns) key changes e

pub planned_values_of : (table : TableDef) (text : UpdateText) (key : Value) (values : List (Option Value)) → planned table text ≡ Ok (Plain key values)
    → new_values table text.assigns ≡ Some values
planned_values_of table text key values e =
    values_by (are_changes table.columns text.assigns) (are_replacements table text.assigns) (key_named table text.row) (changes_of table.columns text.assigns) (new_values table text.assigns) key values e

-- why there is no plan
refusal_by : (a b : Bool) (k : Result Value Refusal) (changes : Option (List (Option ℤ))) (values : Option (List (Option Value))) (r : Refusal)
    → plan_by a b k changes values ≡ Err r → (r ≡ refusal.BadAssignment) ⊎ ((k ≡ Err r) ⊎ (r ≡ refusal.BadValue))
refusal_by true b (Ok key) None values r e = inr (inr (cc))
refusal_by true b (Ok key) (Some cs) values r e = absurd (cc)
refusal_by true b (Err q) changes values r e = inr (inl (cc))
refusal_by false true (Ok key) changes None r e = inr (inr (cc))
refusal_by false true (Ok key) changes (Some values) r e = absurd (cc)
refusal_by false true (Err q) changes values r e = inr (inl (cc))
refusal_by false false k changes values r e = inl (cc)

pub refusals_of_plans : RefusalsOfPlans
refusals_of_plans table text r e =
    elim (refusal_by (are_changes table.columns text.assigns) (are_replacements table text.assigns) (key_named table text.row) (changes_of table.columns text.assigns) (new_values table text.assigns) r e) [
      | inl bad ↦ inl bad
      | inr other ↦ inr (elim other [ inl key ↦ refusals_of_keys table text.row r key | inr bad ↦ inr bad ])
    ]

-- planning an UPDATE is never refused for memory
pub never_memory : (table : TableDef) (text : UpdateText) → planned table text ≡ Err refusal.Memory → ⊥
never_memory table text e = elim (refusals_of_plans table text refusal.Memory e) [ inl bad ↦ cc | inr other ↦ elim other [ inl bad ↦ cc | inr bad ↦ cc ] ]

-- a plan's key is that of the WHERE's literal
pub keys_of_plans : KeysOfPlans
keys_of_plans table text plan e =
    keys_of_wheres table text.row (key_of plan)
    (key_by (are_changes table.columns text.assigns) (are_replacements table text.assigns) (key_named table text.row) (changes_of table.columns text.assigns) (new_values table text.assigns) plan e)

-- a plan of changes has one, or none, for each RESERVABLE column
pub plans_of_whole_row : PlansOfWholeRow
plans_of_whole_row table text key changes e = as_many (reservables table.columns) text.assigns changes (planned_changes_of table text key changes e)

-- a plan of new values has one that fits, or none, for each plain column
pub plain_plans_fit : PlainPlansFit
plain_plans_fit table text key values e = (new_ones (plains table.columns 0 table.key) text.assigns values (planned_values_of table text key values e)).1

-- what the answer to an UPDATE says
pub answer_plan : (planned answer : Result Plan Refusal) → IsAnswer planned answer → IfOk answer (λ plan. planned ≡ Ok plan)
answer_plan planned (Ok plan) is = is
answer_plan planned (Err e) is = tt

pub answer_refused : (planned answer : Result Plan Refusal) → IsAnswer planned answer → IfErr planned (λ e. answer ≡ Err e)
answer_refused (Ok plan) answer is = tt
answer_refused (Err q) (Ok plan) is = absurd (cc)
answer_refused (Err q) (Err e) is = elim is [ inl same ↦ sym same | inr memory ↦ absurd memory.1 ]

pub answer_only : (planned answer : Result Plan Refusal) → IsAnswer planned answer → IfErr answer (λ e. (planned ≡ Err e) ⊎ (e ≡ refusal.Memory))
answer_only planned (Ok plan) is = tt
answer_only planned (Err e) is = elim is [ inl same ↦ inl same | inr memory ↦ inr memory.0 ]

pub answer_memory : (table : TableDef) (text : UpdateText) (answer : Result Plan Refusal) → IsAnswer (planned table text) answer → IsErrOf answer refusal.Memory
    → IsOk (planned table text)
answer_memory table text (Ok plan) is memory = absurd (cc)
answer_memory table text (Err e) is memory =
    elim is [ inl same ↦ absurd (never_memory table text (same ∙ memory)) | inr other ↦ is_planned (planned table text) other.1 ]
  where
    is_planned : (p : Result Plan Refusal) → TakesMemory p → IsOk p
    is_planned (Ok plan) takes = refl
    is_planned (Err e) takes = absurd takes

pub answer_in_place : (planned answer : Result Plan Refusal) → IsAnswer planned answer → IfOk planned (λ plan. IsTrue (is_in_place plan) → answer ≡ Ok plan)
answer_in_place (Err q) answer is = tt
answer_in_place (Ok plan) (Ok other) is = λ free. sym is
answer_in_place (Ok plan) (Err e) is = λ free. elim is [ inl same ↦ absurd (cc) | inr memory ↦ absurd (false≢true (sym memory.1 ∙ free)) ]

-- if there is a plan that takes memory, lack of memory is a valid reason for refusal
pub memory_exit : (planned answer : Result Plan Refusal) → IsErrAnd answer (λ e. e ≡ refusal.Memory) → TakesMemory planned → IsAnswer planned answer
memory_exit planned (Ok plan) is can = absurd is
memory_exit planned (Err e) is can = inr (is, can)

-- the answer if WHERE names no key
key_first : (b : Bool) (why : Refusal) (k : Result Value Refusal) (changes : Option (List (Option ℤ))) (values : Option (List (Option Value)))
    → Some why ≡ result_err k → plan_by true b k changes values ≡ Err why
key_first b why (Ok v) changes values e = absurd (none-some why (sym e))
key_first b why (Err q) changes values e = ap Err (same_Some q why (sym e))

pub changes_unkeyed : (table : TableDef) (text : UpdateText) (why : Refusal) → are_changes table.columns text.assigns ≡ true
    → Some why ≡ result_err (key_named table text.row) → IsAnswer (planned table text) (Err why)
changes_unkeyed table text why a e =
    inl (rw a (key_first (are_replacements table text.assigns) why (key_named table text.row) (changes_of table.columns text.assigns) (new_values table text.assigns) e))

key_first_of_values : (why : Refusal) (k : Result Value Refusal) (changes : Option (List (Option ℤ))) (values : Option (List (Option Value)))
    → Some why ≡ result_err k → plan_by false true k changes values ≡ Err why
key_first_of_values why (Ok v) changes values e = absurd (none-some why (sym e))
key_first_of_values why (Err q) changes values e = ap Err (same_Some q why (sym e))

pub values_unkeyed : (table : TableDef) (text : UpdateText) (why : Refusal) → are_changes table.columns text.assigns ≡ false → are_replacements table text.assigns ≡ true
    → Some why ≡ result_err (key_named table text.row) → IsAnswer (planned table text) (Err why)
values_unkeyed table text why a b e =
    inl (rw (a, b) (key_first_of_values why (key_named table text.row) (changes_of table.columns text.assigns) (new_values table text.assigns) e))

-- the answer if WHERE names a key and the changes cannot be made
many_take_memory : (key : Value) (changes : List (Option ℤ)) → nat_le (length changes) IN_PLACE ≡ false → is_in_place (Reserve key changes) ≡ false
many_take_memory (value.Number z) changes many = many
many_take_memory (value.Text t) changes many = refl

changes_faulty : (b : Bool) (why : Refusal) (key : Value) (changes : Option (List (Option ℤ))) (values : Option (List (Option Value)))
    → ((why ≡ refusal.BadValue) × (changes ≡ None)) ⊎ ((why ≡ refusal.Memory) × IsSomeAnd changes (λ cs. nat_le (length cs) IN_PLACE ≡ false))
    → IsAnswer (plan_by true b (Ok key) changes values) (Err why)
changes_faulty b why key None values fault = elim fault [ inl bad ↦ inl (ap Err (sym bad.0)) | inr memory ↦ absurd memory.1 ]
changes_faulty b why key (Some cs) values fault = elim fault [ inl bad ↦ absurd (cc) | inr memory ↦ inr (memory.0, many_take_memory key cs memory.1) ]

pub changes_unmade : (table : TableDef) (text : UpdateText) (why : Refusal) → are_changes table.columns text.assigns ≡ true → None ≡ result_err (key_named table text.row)
    → IsChangesFault table.columns text.assigns why → IsAnswer (planned table text) (Err why)
changes_unmade table text why a named fault =
    let key = not_refused (key_named table text.row) named in
    rw (a, key.1) (changes_faulty (are_replacements table text.assigns) why key.0 (changes_of table.columns text.assigns) (new_values table text.assigns) fault)

-- the answer if the changes can be made
pub changes_planned : (table : TableDef) (text : UpdateText) (key : Value) (changes : List (Option ℤ))
    → are_changes table.columns text.assigns ≡ true → None ≡ result_err (key_named table text.row) → key ≡ truncated_value (key_scale table) text.row.literal
    → changes_of table.columns text.assigns ≡ Some changes → planned table text ≡ Ok (Reserve key changes)
changes_planned table text key changes a named same made =
    let known = not_refused (key_named table text.row) named in
    rw (a, known.1, made) (ap (λ (v : Value). Ok (Reserve v changes)) (named_key table text.row known.0 known.1 ∙ sym same))

pub changes_want_memory : (table : TableDef) (text : UpdateText) (changes : List (Option ℤ)) → are_changes table.columns text.assigns ≡ true
    → None ≡ result_err (key_named table text.row) → changes_of table.columns text.assigns ≡ Some changes
    → is_number (truncated_value (key_scale table) text.row.literal) ≡ false → TakesMemory (planned table text)
changes_want_memory table text changes a named made key_is_text =
    let known = not_refused (key_named table text.row) named in
    rw (a, known.1, made) (rw (named_key table text.row known.0 known.1, key_is_text) refl)

-- the answers if some new value does not fit, and if all do
pub values_bad : (table : TableDef) (text : UpdateText) → are_changes table.columns text.assigns ≡ false → are_replacements table text.assigns ≡ true
    → None ≡ result_err (key_named table text.row) → is_some (new_values table text.assigns) ≡ false → planned table text ≡ Err refusal.BadValue
values_bad table text a b named unfit =
    let known = not_refused (key_named table text.row) named in
    rw (a, b, known.1) (badly known.0 (new_values table text.assigns) unfit)
  where
    badly : (key : Value) (made : Option (List (Option Value))) → is_some made ≡ false → ok_or (option_map (λ vs. Plain key vs) made) refusal.BadValue ≡ Err refusal.BadValue
    badly key None e = refl
    badly key (Some vs) e = absurd (false≢true (sym e))

pub values_want_memory : (table : TableDef) (text : UpdateText) → are_changes table.columns text.assigns ≡ false → are_replacements table text.assigns ≡ true
    → None ≡ result_err (key_named table text.row) → is_some (new_values table text.assigns) ≡ true → TakesMemory (planned table text)
values_want_memory table text a b named fit =
    let known = not_refused (key_named table text.row) named in
    rw (a, b, known.1) (well known.0 (new_values table text.assigns) fit)
  where
    well : (key : Value) (made : Option (List (Option Value))) → is_some made ≡ true → TakesMemory (ok_or (option_map (λ vs. Plain key vs) made) refusal.BadValue)
    well key None e = absurd (false≢true e)
    well key (Some vs) e = refl

pub values_planned : (table : TableDef) (text : UpdateText) (key : Value) (values : List (Option Value))
    → are_changes table.columns text.assigns ≡ false → are_replacements table text.assigns ≡ true → None ≡ result_err (key_named table text.row)
    → is_some (new_values table text.assigns) ≡ true → key ≡ truncated_value (key_scale table) text.row.literal
    → values ≡ values_assigned (plains table.columns 0 table.key) text.assigns → planned table text ≡ Ok (Plain key values)
values_planned table text key values a b named fit same are =
    let known = not_refused (key_named table text.row) named in
    let made = some_made (new_values table text.assigns) fit in
    rw (a, b, known.1, made.1)
    (ap₂ (λ (v : Value) (vs : List (Option Value)). Ok (Plain v vs)) (named_key table text.row known.0 known.1 ∙ sym same)
    ((new_ones (plains table.columns 0 table.key) text.assigns made.0 made.1).0 ∙ sym are))
  where
    some_made : (made : Option (List (Option Value))) → is_some made ≡ true → (vs : List (Option Value)) × (made ≡ Some vs)
    some_made None e = absurd (false≢true e)
    some_made (Some vs) e = (vs, refl)
