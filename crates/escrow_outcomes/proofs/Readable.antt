-- Texts of rows stay in UTF-8.
use Rattle.std.specs.Prelude.{◌≡◌, ℕ, ℤ, Bool, true, false, cond, not, ◌==◌, ◌||◌, ◌&&◌, Option, Some, None, IfSome, option_map, option_and_then, unwrap_or, Result, Ok, Err, List, [], ◌∷◌, ◌+◌, length, find, slice_get, bytes_eq}
use Rattle.std.specs.List.{AllByRecursion}
use Rattle.std.specs.Option.{ok_or}
use Rattle.std.specs.Ordering.{is_lt}
use Rattle.std.specs.Result.{result_ok}
use Rattle.std.proofs.Common.{refl, sym, subst}
use Rattle.std.proofs.lemmas.Bool.{cond_both}
use Rattle.sqlite_trees.proofs.ListLemmas.{all-slice_get}
use Rattle.escrow_num.specs.declared.reservation.Reservation.{Reservation}
use Rattle.escrow_num.specs.declared.row.Row.{Row}
use Rattle.escrow_num.specs.declared.refusal.Refusal.{Refusal}
use Rattle.escrow_num.specs.declared.refusal.Refusal.TheVariants as refusal
use Rattle.escrow_num.specs.declared.value.RowName.{RowName}
use Rattle.escrow_num.specs.declared.value.Value.{Value}
use Rattle.escrow_num.specs.declared.value.Value.TheVariants as value
use Rattle.escrow_num.specs.Decimal.{units_at}
use Rattle.escrow_num.specs.Order.{same_row, row_cmp}
use Rattle.escrow_num.proofs.Items.{all_filter, all_has, find_has}
use Rattle.escrow_statement.specs.declared.statement.Assign.{Assign}
use Rattle.escrow_statement.specs.declared.statement.Assigned.{Assigned}
use Rattle.escrow_statement.specs.declared.statement.Assigned.TheVariants as assigned
use Rattle.escrow_statement.specs.declared.statement.InsertText.{InsertText}
use Rattle.escrow_statement.specs.declared.statement.Literal.{Literal}
use Rattle.escrow_statement.specs.declared.statement.Literal.TheVariants as literal
use Rattle.escrow_statement.specs.declared.statement.Statement.{Statement}
use Rattle.escrow_statement.specs.declared.statement.Statement.TheVariants as statement
use Rattle.escrow_statement.specs.declared.statement.UpdateText.{UpdateText}
use Rattle.escrow_schema.specs.declared.column.Column.{Column}
use Rattle.escrow_schema.specs.declared.column.ColumnType.{ColumnType}
use Rattle.escrow_schema.specs.declared.plan.Plan.{Plan}
use Rattle.escrow_schema.specs.declared.plan.Plan.TheVariants as plan
use Rattle.escrow_schema.specs.declared.table.TableDef.{TableDef}
use Rattle.escrow_schema.specs.Catalog.{table_named}
use Rattle.escrow_schema.specs.Column.{fits, scale_of, value_in}
use Rattle.escrow_schema.specs.Definition.{are_distinct}
use Rattle.escrow_schema.specs.Fit.{values_in, plain_of, row_with, fitted, literal_beside, literals_beside, in_column_order, inserted_row, plains}
use Rattle.escrow_schema.specs.Plan.{are_changes, are_replacements, assigned_to, literal_in, changes_of, new_value, new_values_of, new_values, for_key, key_named, planned}
use Rattle.escrow_schema.specs.Rows.{with_row, replaced, with_values, with_plain, applied}
use Rattle.escrow_journal.specs.Reservations.{own}
use Rattle.escrow_machine.specs.declared.event.Event.{Event}
use Rattle.escrow_machine.specs.declared.event.Event.TheVariants as event
use Rattle.escrow_machine.specs.declared.reply.Reply.{Reply}
use Rattle.escrow_machine.specs.Asked.{new_row, named_by, plan_of, row_name}
use Rattle.escrow_machine.specs.Reply.{is_refused}
use Rattle.escrow_machine.specs.State.{State}
use Rattle.escrow_machine.specs.Step.{IsServed}
use Rattle.escrow_machine.specs.Transition.{transition_of, after_update}
use Rattle.escrow_accounts.proofs.Served.{served_has, event_is, event_stays}
use Rattle.escrow_outcomes.specs.Laws.{TextsStayReadable}
use Rattle.escrow_outcomes.specs.Texts.{IsReadableValue, HasReadableTexts, IsReadableLiteral, IsReadableAssigned, PutsReadable, IsReadableEvent}

-- OPTIONS

if_map : {A B : Type 0} (P : A → Type 0) (Q : B → Type 0) (f : A → B) (o : Option A) → IfSome o P → ((x : A) → P x → Q (f x)) → IfSome (option_map f o) Q
if_map P Q f None h each = tt
if_map P Q f (Some x) h each = each x h

if_then : {A B : Type 0} (P : A → Type 0) (Q : B → Type 0) (f : A → Option B) (o : Option A) → IfSome o P → ((x : A) → P x → IfSome (f x) Q) → IfSome (option_and_then f o) Q
if_then P Q f None h each = tt
if_then P Q f (Some x) h each = each x h

if_kept : {A : Type 0} (P : A → Type 0) (b : Bool) (o : Option A) → IfSome o P → IfSome (cond b o None) P
if_kept P true o h = h
if_kept P false o h = tt

-- THE ROW OF AN INSERT

value_readable : (kind : ColumnType) (l : Literal) → IsReadableLiteral l → IfSome (value_in kind l) IsReadableValue
value_readable kind (literal.Number z) h =
    if_then (λ (v : Value). IsReadableValue v) IsReadableValue (λ v. cond (fits kind v) (Some v) None) (option_map value.Number (units_at (scale_of kind) z))
    (if_map (λ (x : ℤ). Unit {0}) IsReadableValue value.Number (units_at (scale_of kind) z) (always (units_at (scale_of kind) z)) (λ x _. tt))
    (λ v readable. if_kept IsReadableValue (fits kind v) (Some v) readable)
  where
    always : (o : Option ℤ) → IfSome o (λ (x : ℤ). Unit {0})
    always None = tt
    always (Some x) = tt
value_readable kind (literal.Text t) h = if_kept IsReadableValue (fits kind (value.Text t)) (Some (value.Text t)) h

values_readable : (columns : List Column) (literals : List Literal) → AllByRecursion IsReadableLiteral literals
    → IfSome (values_in columns literals) (AllByRecursion IsReadableValue)
values_readable [] [] all = tt
values_readable [] (l ∷ literals) all = tt
values_readable (column ∷ columns) [] all = tt
values_readable (column ∷ columns) (l ∷ literals) all =
    if_then IsReadableValue (AllByRecursion IsReadableValue) (λ v. option_map (λ values. v ∷ values) (values_in columns literals)) (value_in column.kind l)
    (value_readable column.kind l all.0)
    (λ v readable. if_map (AllByRecursion IsReadableValue) (AllByRecursion IsReadableValue) (λ values. v ∷ values) (values_in columns literals)
    (values_readable columns literals all.1) (λ values rest. (readable, rest)))

plain_readable : (columns : List Column) (values : List Value) (place key : ℕ) → AllByRecursion IsReadableValue values
    → AllByRecursion IsReadableValue (plain_of columns values place key)
plain_readable [] values place key all = tt
plain_readable (column ∷ columns) [] place key all = tt
plain_readable (column ∷ columns) (v ∷ values) place key all =
    let rest = plain_readable columns values (place + 1) key all.1 in
    cond_both (column.reservable || place == key) (plain_of columns values (place + 1) key) (v ∷ plain_of columns values (place + 1) key)
    (AllByRecursion IsReadableValue) (λ _. rest) (λ _. (all.0, rest))

found_readable : (values : List Value) (place : ℕ) (o : Option Value) → slice_get values place ≡ o → AllByRecursion IsReadableValue values → IfSome o IsReadableValue
found_readable values place None is all = tt
found_readable values place (Some v) is all = all-slice_get IsReadableValue values place v is all

row_readable : (table : TableDef) (values : List Value) → AllByRecursion IsReadableValue values → IfSome (row_with table values) HasReadableTexts
row_readable table values all =
    if_map IsReadableValue HasReadableTexts _ (slice_get values table.key) (found_readable values table.key (slice_get values table.key) refl all)
    (λ key readable. (readable, plain_readable table.columns values 0 table.key all))

fitted_readable : (table : TableDef) (literals : List Literal) → AllByRecursion IsReadableLiteral literals → IfSome (fitted table literals) HasReadableTexts
fitted_readable table literals all =
    if_then (AllByRecursion IsReadableValue) HasReadableTexts (row_with table) (values_in table.columns literals) (values_readable table.columns literals all) (row_readable table)

beside_readable : (names : List (List ℕ)) (literals : List Literal) (name : List ℕ) → AllByRecursion IsReadableLiteral literals → IfSome (literal_beside names literals name) IsReadableLiteral
beside_readable [] literals name all = tt
beside_readable (other ∷ names) [] name all = tt
beside_readable (other ∷ names) (l ∷ literals) name all =
    cond_both (bytes_eq other name) (Some l) (literal_beside names literals name) (λ o. IfSome o IsReadableLiteral) (λ _. all.0) (λ _. beside_readable names literals name all.1)

all_beside_readable : (names : List (List ℕ)) (literals : List Literal) (columns : List Column) → AllByRecursion IsReadableLiteral literals
    → IfSome (literals_beside names literals columns) (AllByRecursion IsReadableLiteral)
all_beside_readable names literals [] all = tt
all_beside_readable names literals (column ∷ columns) all =
    if_then IsReadableLiteral (AllByRecursion IsReadableLiteral) (λ l. option_map (λ more. l ∷ more) (literals_beside names literals columns)) (literal_beside names literals column.name)
    (beside_readable names literals column.name all)
    (λ l readable. if_map (AllByRecursion IsReadableLiteral) (AllByRecursion IsReadableLiteral) (λ more. l ∷ more) (literals_beside names literals columns)
    (all_beside_readable names literals columns all) (λ more rest. (readable, rest)))

order_readable : (columns : List Column) (names : Option (List (List ℕ))) (literals : List Literal) → AllByRecursion IsReadableLiteral literals
    → IfSome (in_column_order columns names literals) (AllByRecursion IsReadableLiteral)
order_readable columns None literals all = all
order_readable columns (Some names) literals all =
    if_kept (AllByRecursion IsReadableLiteral) (are_distinct names && length names == length columns && length names == length literals) (literals_beside names literals columns)
    (all_beside_readable names literals columns all)

inserted_readable : (o : Option TableDef) (text : InsertText) → AllByRecursion IsReadableLiteral text.values
    → IfSome (option_and_then (λ table. inserted_row table text) o) HasReadableTexts
inserted_readable None text all = tt
inserted_readable (Some table) text all =
    if_then (AllByRecursion IsReadableLiteral) HasReadableTexts (fitted table) (in_column_order table.columns text.columns text.values)
    (order_readable table.columns text.columns text.values all) (fitted_readable table)

with_row_readable : (row : Row) (rows : List Row) → HasReadableTexts row → AllByRecursion HasReadableTexts rows → AllByRecursion HasReadableTexts (with_row row rows)
with_row_readable row [] one all = (one, tt)
with_row_readable row (other ∷ rest) one all =
    cond_both (is_lt (row_cmp row.name other.name)) (row ∷ other ∷ rest) (other ∷ with_row row rest) (AllByRecursion HasReadableTexts)
    (λ _. (one, all)) (λ _. (all.0, with_row_readable row rest one all.1))

insert_readable : (rows : List Row) (o : Option Row) → IfSome o HasReadableTexts → AllByRecursion HasReadableTexts rows
    → AllByRecursion HasReadableTexts (unwrap_or (option_map (λ row. with_row row rows) o) rows)
insert_readable rows None one all = all
insert_readable rows (Some row) one all = with_row_readable row rows one all

-- THE VALUES OF AN UPDATE

abbrev IsReadableNew : Option Value → Type 0
IsReadableNew o = IfSome o IsReadableValue

assigned_readable : (assigns : List Assign) (column : List ℕ) → AllByRecursion (λ assign. IsReadableAssigned assign.value) assigns
    → IfSome (assigned_to assigns column) IsReadableAssigned
assigned_readable assigns column all =
    at (find (λ (assign : Assign). bytes_eq assign.column column) assigns) refl
  where
    at : (o : Option Assign) → find (λ (assign : Assign). bytes_eq assign.column column) assigns ≡ o → IfSome (option_map (λ assign. assign.value) o) IsReadableAssigned
    at None is = tt
    at (Some assign) is =
        all_has (λ (a : Assign). IsReadableAssigned a.value) assigns all assign (find_has (λ (a : Assign). bytes_eq a.column column) assigns assign is).0

literal_readable : (a : Assigned) → IsReadableAssigned a → IfSome (literal_in a) IsReadableLiteral
literal_readable (assigned.Literal l) h = h
literal_readable (assigned.Change source change) h = tt

new_readable : (kind : ColumnType) (o : Option Literal) → IfSome o IsReadableLiteral → IfSome (new_value kind o) IsReadableNew
new_readable kind None h = tt
new_readable kind (Some l) h = if_map IsReadableValue IsReadableNew (λ v. Some v) (value_in kind l) (value_readable kind l h) (λ v readable. readable)

news_readable : (columns : List Column) (assigns : List Assign) → AllByRecursion (λ assign. IsReadableAssigned assign.value) assigns
    → IfSome (new_values_of columns assigns) (AllByRecursion IsReadableNew)
news_readable [] assigns all = tt
news_readable (column ∷ columns) assigns all =
    if_then IsReadableNew (AllByRecursion IsReadableNew) (λ v. option_map (λ values. v ∷ values) (new_values_of columns assigns))
    (new_value column.kind (option_and_then literal_in (assigned_to assigns column.name)))
    (new_readable column.kind (option_and_then literal_in (assigned_to assigns column.name))
    (if_then IsReadableAssigned IsReadableLiteral literal_in (assigned_to assigns column.name) (assigned_readable assigns column.name all) literal_readable))
    (λ v readable. if_map (AllByRecursion IsReadableNew) (AllByRecursion IsReadableNew) (λ values. v ∷ values) (new_values_of columns assigns)
    (news_readable columns assigns all) (λ values rest. (readable, rest)))

-- what a plan puts into a row
abbrev IsReadablePlan : Plan → Type 0
IsReadablePlan (plan.Reserve key changes) = Unit {0}
IsReadablePlan (plan.Plain key values) = AllByRecursion IsReadableNew values

abbrev IsReadableResult : Result Plan Refusal → Type 0
IsReadableResult r = IfSome (result_ok r) IsReadablePlan

reserve_readable : (key : Value) (o : Option (List (Option ℤ))) → IsReadableResult (ok_or (option_map (λ changes. plan.Reserve key changes) o) refusal.BadValue)
reserve_readable key None = tt
reserve_readable key (Some changes) = tt

plain_plan_readable : (key : Value) (o : Option (List (Option Value))) → IfSome o (AllByRecursion IsReadableNew)
    → IsReadableResult (ok_or (option_map (λ values. plan.Plain key values) o) refusal.BadValue)
plain_plan_readable key None h = tt
plain_plan_readable key (Some values) h = h

for_key_readable : (plan_for : Value → Result Plan Refusal) (r : Result Value Refusal) → ((key : Value) → IsReadableResult (plan_for key)) → IsReadableResult (for_key plan_for r)
for_key_readable plan_for (Ok key) each = each key
for_key_readable plan_for (Err e) each = tt

planned_readable : (table : TableDef) (text : UpdateText) → AllByRecursion (λ assign. IsReadableAssigned assign.value) text.assigns → IsReadableResult (planned table text)
planned_readable table text all =
    cond_both (are_changes table.columns text.assigns) _ _ IsReadableResult
    (λ _. for_key_readable _ (key_named table text.row) (λ key. reserve_readable key (changes_of table.columns text.assigns)))
    (λ _. cond_both (are_replacements table text.assigns) _ _ IsReadableResult
    (λ _. for_key_readable _ (key_named table text.row) (λ key. plain_plan_readable key (new_values table text.assigns) (news_readable (plains table.columns 0 table.key) text.assigns all)))
    (λ _. tt))

plan_readable : (o : Option TableDef) (text : UpdateText) → AllByRecursion (λ assign. IsReadableAssigned assign.value) text.assigns
    → IfSome (option_and_then (λ table. result_ok (planned table text)) o) IsReadablePlan
plan_readable None text all = tt
plan_readable (Some table) text all = planned_readable table text all

replaced_readable : (news : List (Option Value)) (items : List Value) → AllByRecursion IsReadableNew news → AllByRecursion IsReadableValue items
    → AllByRecursion IsReadableValue (replaced news items)
replaced_readable [] items new all = all
replaced_readable (n ∷ news) [] new all = tt
replaced_readable (None ∷ news) (x ∷ items) new all = (all.0, replaced_readable news items new.1 all.1)
replaced_readable (Some v ∷ news) (x ∷ items) new all = (new.0, replaced_readable news items new.1 all.1)

with_values_readable : (name : RowName) (values : List (Option Value)) (row : Row) → AllByRecursion IsReadableNew values → HasReadableTexts row
    → HasReadableTexts (with_values name values row)
with_values_readable name values row new h =
    cond_both (same_row row.name name) (record row { plain = replaced values row.plain }) row HasReadableTexts
    (λ _. (h.0, replaced_readable values row.plain new h.1)) (λ _. h)

with_plain_readable : (name : RowName) (values : List (Option Value)) (rows : List Row) → AllByRecursion IsReadableNew values → AllByRecursion HasReadableTexts rows
    → AllByRecursion HasReadableTexts (with_plain name values rows)
with_plain_readable name values [] new all = tt
with_plain_readable name values (row ∷ rows) new all = (with_values_readable name values row new all.0, with_plain_readable name values rows new all.1)

update_readable : (s : State) (session : ℕ) (table : List ℕ) (o : Option Plan) → IfSome o IsReadablePlan → AllByRecursion HasReadableTexts s.rows
    → AllByRecursion HasReadableTexts (let new : State = unwrap_or (option_map (after_update s session table) o) s in new.rows)
update_readable s session table None new all = all
update_readable s session table (Some (plan.Reserve key changes)) new all = all
update_readable s session table (Some (plan.Plain key values)) new all = with_plain_readable (row_name table key) values s.rows new all

applied_readable : (rows : List Row) (chosen : List Reservation) → AllByRecursion HasReadableTexts rows → AllByRecursion HasReadableTexts (applied rows chosen)
applied_readable [] chosen all = tt
applied_readable (row ∷ rows) chosen all = (all.0, applied_readable rows chosen all.1)

-- EACH STATEMENT

transition_readable : (s : State) (session : ℕ) (asked : Statement) → PutsReadable asked → AllByRecursion HasReadableTexts s.rows
    → AllByRecursion HasReadableTexts (transition_of s session asked).next.rows
unfolding transition_of
transition_readable s session (statement.Create text) puts all = all
transition_readable s session (statement.Drop name) puts all = all_filter HasReadableTexts (λ row. not (bytes_eq row.name.table name)) s.rows all
transition_readable s session (statement.Alter text) puts all = all
transition_readable s session (statement.Insert text) puts all = insert_readable s.rows (new_row s text) (inserted_readable (table_named s.catalog text.table) text puts) all
transition_readable s session (statement.Update text) puts all =
    update_readable s session text.table (plan_of s text) (plan_readable (table_named s.catalog text.table) text puts) all
transition_readable s session (statement.Delete text) puts all =
    all_filter HasReadableTexts (λ row. not (same_row row.name (named_by s.catalog text.table text.row))) s.rows all
transition_readable s session (statement.Select text) puts all = all
transition_readable s session (statement.ShowTable name) puts all = all
transition_readable s session (statement.ShowBounds text) puts all = all
transition_readable s session (statement.ShowJournal table) puts all = all
transition_readable s session (statement.Savepoint name) puts all = all
transition_readable s session statement.Commit puts all = applied_readable s.rows (own session s.reservations) all
transition_readable s session statement.Rollback puts all = all
transition_readable s session (statement.RollbackTo name) puts all = all

-- EACH RUN

served_readable : (s : State) (happened : Event) (answer : Reply) (new : State) → IsReadableEvent happened → IsServed s happened answer new → AllByRecursion HasReadableTexts s.rows
    → (b : Bool) → is_refused answer ≡ b → AllByRecursion HasReadableTexts new.rows
served_readable s happened answer new puts served all true refused =
    subst (λ (t : State). AllByRecursion HasReadableTexts t.rows) (sym (event_stays s happened answer new served refused)) all
served_readable s (event.Statement session asked) answer new puts served all false done =
    served_has (λ _ after. AllByRecursion HasReadableTexts after.rows) s session asked answer new served done (transition_readable s session asked puts all)
served_readable s event.Restart answer new puts served all false done =
    subst (λ (t : State). AllByRecursion HasReadableTexts t.rows) (sym (event_is s event.Restart answer new served done)) all

pub texts_stay_readable : TextsStayReadable
texts_stay_readable s [] [] new all puts run = subst (λ (t : State). AllByRecursion HasReadableTexts t.rows) (sym run) all
texts_stay_readable s [] (answer ∷ answers) new all puts run = absurd run
texts_stay_readable s (happened ∷ events) [] new all puts run = absurd run
texts_stay_readable s (happened ∷ events) (answer ∷ answers) new all puts run =
    texts_stay_readable run.0 events answers new (served_readable s happened answer run.0 puts.0 run.1 all (is_refused answer) refl) puts.1 run.2
