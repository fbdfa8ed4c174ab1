-- DELETE takes its row, and DROP TABLE its table.
use Rattle.std.specs.Prelude.{◌≡◌, ℕ, Bool, true, false, IsSome, not, Some, None, Ok, List, find, filter, bytes_eq}
use Rattle.std.specs.Result.{result_err}
use Rattle.std.proofs.Common.{refl, sym, ap, subst, ◌∙◌}
use Rattle.std.proofs.lemmas.Bool.{not-true, false_from_ne_true}
use Rattle.escrow_num.specs.declared.refusal.Refusal.TheVariants as refusal
use Rattle.escrow_num.specs.declared.reservation.Reservation.{Reservation}
use Rattle.escrow_num.specs.declared.row.Row.{Row}
use Rattle.escrow_num.specs.declared.value.RowName.{RowName}
use Rattle.escrow_num.specs.declared.value.Value.{Value}
use Rattle.escrow_num.specs.Order.{same_row}
use Rattle.escrow_num.specs.Refusal.{first_refusal}
use Rattle.escrow_num.proofs.Items.{has_all, has_filter}
use Rattle.escrow_num.proofs.Orders.{name_same, row_same, same_name, same_row_itself}
use Rattle.escrow_statement.specs.declared.statement.RowText.{RowText}
use Rattle.escrow_statement.specs.declared.statement.WhereText.{WhereText}
use Rattle.escrow_statement.specs.declared.statement.Statement.TheVariants as statement
use Rattle.escrow_schema.specs.declared.table.TableDef.{TableDef}
use Rattle.escrow_schema.specs.Catalog.{table_named}
use Rattle.escrow_schema.specs.Plan.{key_named}
use Rattle.escrow_schema.specs.Rows.{row_named, without_row, without_rows_of}
use Rattle.escrow_schema.proofs.PlanLemmas.{named_key, not_refused}
use Rattle.escrow_machine.specs.Asked.{key_refusal_of, named_by, row_name}
use Rattle.escrow_machine.specs.State.{State, is_open, is_reserved, is_table_reserved}
use Rattle.escrow_machine.specs.Step.{refusals}
use Rattle.escrow_machine.specs.Transition.{transition_of}
use Rattle.escrow_machine.proofs.Filters.{none_found}
use Rattle.escrow_machine.proofs.Kept.{any_none, find_filter}
use Rattle.escrow_machine.proofs.Keys.{named_in}
use Rattle.escrow_machine.proofs.LawsChanges.{other_found}
use Rattle.escrow_machine.proofs.Refusals.{all_passed, failed, present, there}
use Rattle.escrow_machine.proofs.ValidDrop.{other_table}
use Rattle.escrow_changes.specs.Changes.{Deletes, Drops}
use Rattle.escrow_changes.specs.Laws.{DeleteTakesItsRow, DropTakesItsTable}
use Rattle.escrow_changes.proofs.Accepted.{done}

-- WHAT GOES

-- nothing that passes a test is left of the items that don't
pub none_left : {A : Type 0} (p : A → Bool) (xs : List A) → find p (filter (λ x. not (p x)) xs) ≡ None
none_left p xs = none_found p (filter (λ x. not (p x)) xs) (λ x h. not-true (p x) (has_filter (λ y. not (p y)) xs x h).1)

names_differ : (a b : List ℕ) → ¬ (a ≡ b) → bytes_eq a b ≡ false
names_differ a b differ = false_from_ne_true (bytes_eq a b) (λ same. differ (name_same a b same))

-- THE KEY OF A WHERE

-- the key that a WHERE names, if it isn't refused, and the row that it names
pub record IsKeyOf (s : State) (name : List ℕ) (row : WhereText) (table : TableDef) : Type 0 where
  pub key : Value
  pub is_key : key_named table row ≡ Ok key
  pub named : named_by s.catalog name row ≡ row_name name key

pub key_of_where : (s : State) (name : List ℕ) (row : WhereText) (table : TableDef) → table_named s.catalog name ≡ Some table → key_refusal_of s name row ≡ None
    → IsKeyOf s name row table
key_of_where s name row table named passes =
    let here : result_err (key_named table row) ≡ None = rw named at passes in
    let found = not_refused (key_named table row) (sym here) in
    record {
      key = found.0;
      is_key = found.1;
      named = named_in s.catalog name table row named ∙ ap (λ (v : Value). row_name name v) (sym (named_key table row found.0 found.1));
    }

-- DELETE

deletes : (s : State) (session : ℕ) (text : RowText) → first_refusal (refusals (transition_of s session (statement.Delete text))) ≡ None
    → Deletes s session text (transition_of s session (statement.Delete text)).reply (transition_of s session (statement.Delete text)).next
unfolding transition_of
deletes s session text none =
    let passed = all_passed (refusals (transition_of s session (statement.Delete text))) none in
    let table = present (table_named s.catalog text.table) refusal.NoSuchTable passed.1.0 in
    let key = key_of_where s text.table text.row table.0 table.1 passed.1.1.0 in
    let free = failed (is_reserved s (named_by s.catalog text.table text.row)) refusal.RowReserved passed.1.1.1.1.0 in
    let stood = there (row_named s.rows (named_by s.catalog text.table text.row)) refusal.NoSuchRow passed.1.1.1.0 in
    record {
      replies = refl;
      closed = failed (is_open session s) refusal.TransactionOpen passed.0;
      table = table.0;
      named = table.1;
      key = key.key;
      is_key = key.is_key;
      stood = subst (λ (n : RowName). IsSome (row_named s.rows n)) key.named stood;
      free = has_all (λ (r : Reservation). ¬ (r.row ≡ row_name text.table key.key)) s.reservations (λ r h same.
          let differs : same_row r.row (named_by s.catalog text.table text.row) ≡ false = any_none (λ (x : Reservation). same_row x.row (named_by s.catalog text.table text.row)) s.reservations free r h in
          let alike : same_row r.row (named_by s.catalog text.table text.row) ≡ true =
          ap (λ (n : RowName). same_row n (named_by s.catalog text.table text.row)) same ∙ ap (λ (n : RowName). same_row (row_name text.table key.key) n) key.named ∙ same_row_itself (row_name text.table key.key) in
          absurd (cc));
      gone = subst (λ (n : RowName). row_named (without_row n s.rows) (row_name text.table key.key) ≡ None) (sym key.named) (none_left (λ (r : Row). same_row r.name (row_name text.table key.key)) s.rows);
      others = λ other differ.
          subst (λ (n : RowName). row_named (without_row n s.rows) other ≡ row_named s.rows other) (sym key.named) (other_found s.rows (row_name text.table key.key) other differ);
      rest = refl;
    }

pub delete_takes_its_row : DeleteTakesItsRow
delete_takes_its_row s session text = done (Deletes s session text) s session (statement.Delete text) (deletes s session text)

-- DROP TABLE

drops : (s : State) (session : ℕ) (name : List ℕ) → first_refusal (refusals (transition_of s session (statement.Drop name))) ≡ None
    → Drops s session name (transition_of s session (statement.Drop name)).reply (transition_of s session (statement.Drop name)).next
unfolding transition_of
drops s session name none =
    let passed = all_passed (refusals (transition_of s session (statement.Drop name))) none in
    let free = failed (is_table_reserved s name) refusal.TableReserved passed.1.1.0 in
    record {
      replies = refl;
      closed = failed (is_open session s) refusal.TransactionOpen passed.0;
      stood = there (table_named s.catalog name) refusal.NoSuchTable passed.1.0;
      free = has_all (λ (r : Reservation). ¬ (r.row.table ≡ name)) s.reservations (λ r h same.
          let differs : bytes_eq r.row.table name ≡ false = any_none (λ (x : Reservation). bytes_eq x.row.table name) s.reservations free r h in
          let alike : bytes_eq r.row.table name ≡ true = rw same (same_name name) in
          absurd (cc));
      gone = none_left (λ (t : TableDef). bytes_eq t.name name) s.catalog;
      others = λ other differ. other_table s.catalog name other (names_differ other name differ);
      rows_gone = λ row of_table.
          none_found (λ (r : Row). same_row r.name row) (without_rows_of name s.rows) (λ r h.
          false_from_ne_true (same_row r.name row) (λ same.
          let kept = not-true (bytes_eq r.name.table name) (has_filter (λ (x : Row). not (bytes_eq x.name.table name)) s.rows r h).1 in
          let alike : bytes_eq r.name.table name ≡ true = ap (λ (n : RowName). bytes_eq n.table name) (row_same r.name row same) ∙ rw of_table (same_name name) in
          absurd (cc)));
      other_rows = λ row differ.
          find_filter (λ (r : Row). same_row r.name row) (λ (r : Row). not (bytes_eq r.name.table name)) s.rows
          (λ r same. ap not (ap (λ (n : RowName). bytes_eq n.table name) (row_same r.name row same) ∙ names_differ row.table name differ));
      rest = refl;
    }

pub drop_takes_its_table : DropTakesItsTable
drop_takes_its_table s session name = done (Drops s session name) s session (statement.Drop name) (drops s session name)
