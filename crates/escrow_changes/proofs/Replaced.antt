-- An UPDATE of plain columns replaces values of its row.
use Rattle.std.specs.Prelude.{◌≡◌, ℕ, zero, suc, true, false, Option, Some, None, option_map, List, [], ◌∷◌, length, slice_get}
use Rattle.std.proofs.Common.{refl, sym, ap, ◌∙◌}
use Rattle.std.proofs.lemmas.Bool.{cond-true, cond-false, false_from_ne_true}
use Rattle.escrow_num.specs.declared.refusal.Refusal.TheVariants as refusal
use Rattle.escrow_num.specs.declared.row.Row.{Row}
use Rattle.escrow_num.specs.declared.value.RowName.{RowName}
use Rattle.escrow_num.specs.declared.value.Value.{Value}
use Rattle.escrow_num.specs.Order.{same_row}
use Rattle.escrow_num.specs.Refusal.{first_refusal}
use Rattle.escrow_num.proofs.Items.{find_has}
use Rattle.escrow_num.proofs.Orders.{row_same}
use Rattle.escrow_statement.specs.declared.statement.UpdateText.{UpdateText}
use Rattle.escrow_statement.specs.declared.statement.Statement.TheVariants as statement
use Rattle.escrow_schema.specs.declared.plan.Plan.TheVariants as plan
use Rattle.escrow_schema.specs.Rows.{replaced, row_named, with_plain, with_values}
use Rattle.escrow_machine.specs.declared.reply.Reply.TheVariants as reply
use Rattle.escrow_machine.specs.Asked.{plan_of, row_name}
use Rattle.escrow_machine.specs.State.{State, is_open}
use Rattle.escrow_machine.specs.Step.{refusals}
use Rattle.escrow_machine.specs.Transition.{after_update, transition_of, update_refusals}
use Rattle.escrow_machine.proofs.Lengths.{find_map}
use Rattle.escrow_machine.proofs.Refusals.{all_passed, failed, first_behind, none_in_front, present}
use Rattle.escrow_machine.proofs.ValidPlain.{same_test}
use Rattle.escrow_changes.specs.Changes.{Replaces, value_or}
use Rattle.escrow_changes.specs.Laws.{UpdateReplacesValues}
use Rattle.escrow_changes.proofs.Accepted.{done}

-- VALUES

as_many : (values : List (Option Value)) (plain : List Value) → length (replaced values plain) ≡ length plain
as_many [] plain = refl
as_many (new ∷ values) [] = refl
as_many (new ∷ values) (old ∷ plain) = ap suc (as_many values plain)

each_value : (values : List (Option Value)) (plain : List Value) (place : ℕ) (old : Value) → slice_get plain place ≡ Some old
    → slice_get (replaced values plain) place ≡ Some (value_or values place old)
each_value [] plain place old found = found
each_value (new ∷ values) [] place old found = absurd (cc)
each_value (None ∷ values) (v ∷ plain) zero old found = found
each_value (Some new ∷ values) (v ∷ plain) zero old found = refl
each_value (new ∷ values) (v ∷ plain) (suc place) old found = each_value values plain place old found

-- ROWS

found_so : (name other : RowName) (values : List (Option Value)) (rows : List Row)
    → row_named (with_plain name values rows) other ≡ option_map (with_values name values) (row_named rows other)
found_so name other values rows = find_map (λ (r : Row). same_row r.name other) (with_values name values) (same_test name other values) rows

here_replaced : (name : RowName) (values : List (Option Value)) (rows : List Row) (row : Row) → row_named rows name ≡ Some row
    → row_named (with_plain name values rows) name ≡ Some (record row { plain = replaced values row.plain })
here_replaced name values rows row found =
    let same : same_row row.name name ≡ true = (find_has (λ (r : Row). same_row r.name name) rows row found).1 in
    found_so name name values rows ∙ ap (option_map (with_values name values)) found
    ∙ ap (λ (r : Row). Some r) (cond-true (same_row row.name name) (record row { plain = replaced values row.plain }) row same)

other_replaced : (name other : RowName) (values : List (Option Value)) (rows : List Row) → ¬ (other ≡ name)
    → row_named (with_plain name values rows) other ≡ row_named rows other
other_replaced name other values rows differ = found_so name other values rows ∙ at (row_named rows other) refl
  where
    at : (o : Option Row) → row_named rows other ≡ o → option_map (with_values name values) o ≡ o
    at None found = refl
    at (Some row) found =
        let same : same_row row.name other ≡ true = (find_has (λ (r : Row). same_row r.name other) rows row found).1 in
        let apart : same_row row.name name ≡ false =
        false_from_ne_true (same_row row.name name) (λ is. differ (sym (row_same row.name other same) ∙ row_same row.name name is)) in
        ap (λ (r : Row). Some r) (cond-false (same_row row.name name) (record row { plain = replaced values row.plain }) row apart)

-- UPDATE

replaces : (s : State) (session : ℕ) (text : UpdateText) (key : Value) (values : List (Option Value))
    → first_refusal (update_refusals s session text.table (plan.Plain key values)) ≡ None
    → Replaces s session text key values reply.Updated (after_update s session text.table (plan.Plain key values))
replaces s session text key values none =
    let passed = all_passed (update_refusals s session text.table (plan.Plain key values)) none in
    let name : RowName = row_name text.table key in
    let row = present (row_named s.rows name) refusal.NoSuchRow passed.1.0 in
    record {
      replies = refl;
      closed = failed (is_open session s) refusal.TransactionOpen passed.0;
      row = row.0;
      stood = row.1;
      now = record row.0 { plain = replaced values row.0.plain };
      stands = here_replaced name values s.rows row.0 row.1;
      alike = refl;
      many = as_many values row.0.plain;
      each = each_value values row.0.plain;
      others = λ other differ. other_replaced name other values s.rows differ;
      rest = refl;
    }

updates : (s : State) (session : ℕ) (text : UpdateText) (key : Value) (values : List (Option Value)) → plan_of s text ≡ Some (plan.Plain key values)
    → first_refusal (refusals (transition_of s session (statement.Update text))) ≡ None
    → Replaces s session text key values (transition_of s session (statement.Update text)).reply (transition_of s session (statement.Update text)).next
unfolding transition_of
updates s session text key values planned none =
    let t = transition_of s session (statement.Update text) in
    let late : first_refusal t.late ≡ None = sym (first_behind t.early t.late (none_in_front t.early t.late none)) ∙ none in
    rw planned (replaces s session text key values (rw planned at late))

pub update_replaces_values : UpdateReplacesValues
update_replaces_values s session text key values planned =
    done (Replaces s session text key values) s session (statement.Update text) (updates s session text key values planned)
