-- SELECT shows the rows that it asks for.
use Rattle.std.specs.Prelude.{◌≡◌, ◌⊎◌, ℕ, true, Bool, Option, Some, None, option_and_then, option_map, unwrap_or, List, [], ◌∷◌, map, filter, find}
use Rattle.std.specs.Ordering.{is_lt}
use Rattle.std.proofs.Common.{inl, inr, refl, sym, ap, subst, ◌∙◌}
use Rattle.std.proofs.lemmas.Bool.{cases_Bool, false≢true}
use Rattle.escrow_num.specs.declared.refusal.Refusal.TheVariants as refusal
use Rattle.escrow_num.specs.declared.row.Row.{Row}
use Rattle.escrow_num.specs.declared.value.RowName.{RowName}
use Rattle.escrow_num.specs.Ascending.{IsAscending}
use Rattle.escrow_num.specs.Order.{row_cmp, same_row}
use Rattle.escrow_num.specs.Refusal.{first_refusal}
use Rattle.escrow_num.proofs.Ascending.{ascending_filter}
use Rattle.escrow_num.proofs.Items.{Has, has_filter}
use Rattle.escrow_num.proofs.Orders.{before_itself, by_row, row_same, row_total}
use Rattle.escrow_statement.specs.declared.statement.SelectText.{SelectText}
use Rattle.escrow_statement.specs.declared.statement.WhereText.{WhereText}
use Rattle.escrow_statement.specs.declared.statement.Statement.TheVariants as statement
use Rattle.escrow_schema.specs.declared.table.TableDef.{TableDef}
use Rattle.escrow_schema.specs.Catalog.{table_named}
use Rattle.escrow_schema.specs.Fit.{values_of}
use Rattle.escrow_schema.specs.Rows.{row_before, row_named}
use Rattle.escrow_machine.specs.declared.reply.Reply.TheVariants as reply
use Rattle.escrow_machine.specs.Asked.{heading_of, is_shown, key_refusal_of, row_name}
use Rattle.escrow_machine.specs.State.{State}
use Rattle.escrow_machine.specs.Step.{refusals}
use Rattle.escrow_machine.specs.Transition.{transition_of}
use Rattle.escrow_machine.specs.Valid.{IsValid}
use Rattle.escrow_machine.proofs.Refusals.{all_passed, present}
use Rattle.escrow_changes.specs.Changes.{AreAsked, Selects}
use Rattle.escrow_changes.specs.Laws.{SelectShowsRows}
use Rattle.escrow_changes.proofs.Accepted.{done}
use Rattle.escrow_changes.proofs.Taken.{key_of_where}

-- the first item that passes is the one that is found
abbrev first_of : {A : Type 0} → List A → Option A
first_of [] = None
first_of (x ∷ xs) = Some x

found_first : {A : Type 0} (p : A → Bool) (xs : List A) → find p xs ≡ first_of (filter p xs)
found_first p [] = refl
found_first p (x ∷ xs) = elim (cases_Bool (p x)) [ inl passes ↦ rw passes refl | inr fails ↦ rw fails (found_first p xs) ]

-- two rows of one name aren't in order
not_twice : (name : RowName) (a b : Row) → a.name ≡ name → b.name ≡ name → row_before a b ≡ true → ⊥
not_twice name a b first second before =
    let same : row_before a a ≡ true = ap (λ (n : RowName). is_lt (row_cmp a.name n)) (first ∙ sym second) ∙ before in
    false≢true (sym (before_itself by_row row_total a) ∙ same)

-- of rows in order at most one has a name
abbrev IsOne : List Row → Option Row → Type 0
IsOne shown found = ((shown ≡ []) × (found ≡ None)) ⊎ ((row : Row) × (shown ≡ row ∷ []) × (found ≡ Some row))

one_named : (name : RowName) (shown : List Row) → ((row : Row) → Has shown row → row.name ≡ name) → IsAscending row_before shown → IsOne shown (first_of shown)
one_named name [] named order = inl (refl, refl)
one_named name (row ∷ []) named order = inr (row, refl, refl)
one_named name (row ∷ other ∷ rest) named order =
    absurd (not_twice name row other (named row (inl refl)) (named other (inr (inl refl))) order.0.0)

only_row : (rows : List Row) (name : RowName) → IsAscending row_before rows → IsOne (filter (λ row. same_row row.name name) rows) (row_named rows name)
only_row rows name order =
    let passes : Row → Bool = λ row. same_row row.name name in
    subst (IsOne (filter passes rows)) (sym (found_first passes rows))
    (one_named name (filter passes rows) (λ row h. row_same row.name name (has_filter passes rows row h).1) (ascending_filter row_before passes rows order))

asked_rows : (s : State) (table : TableDef) (text : SelectText) (o : Option WhereText) → IsValid s → table_named s.catalog text.table ≡ Some table
    → option_and_then (key_refusal_of s text.table) o ≡ None → AreAsked s table text.table o (filter (is_shown s.catalog text.table o) s.rows)
asked_rows s table text None valid named passes = refl
asked_rows s table text (Some where_text) valid named passes =
    let key = key_of_where s text.table where_text table named passes in (
      key.key,
      key.is_key,
      subst (λ (n : RowName). IsOne (filter (λ row. same_row row.name n) s.rows) (row_named s.rows (row_name text.table key.key))) (sym key.named)
          (only_row s.rows (row_name text.table key.key) valid.safe_rows.row_order),
    )

selects : (s : State) (session : ℕ) (text : SelectText) → IsValid s → first_refusal (refusals (transition_of s session (statement.Select text))) ≡ None
    → Selects s text (transition_of s session (statement.Select text)).reply (transition_of s session (statement.Select text)).next
unfolding transition_of
selects s session text valid none =
    let passed = all_passed (refusals (transition_of s session (statement.Select text))) none in
    let table = present (table_named s.catalog text.table) refusal.NoSuchTable passed.0 in
    record {
      stays = refl;
      table = table.0;
      named = table.1;
      shown = filter (is_shown s.catalog text.table text.row) s.rows;
      asked = asked_rows s table.0 text text.row valid table.1 passed.1.0;
      replies = ap (λ (o : Option TableDef). unwrap_or (option_map (λ (t : TableDef). reply.Rows (map heading_of t.columns) (map (values_of t) (filter (is_shown s.catalog text.table text.row) s.rows))) o) (reply.Rows [] [])) table.1;
    }

pub select_shows_rows : SelectShowsRows
select_shows_rows s session text valid = done (Selects s text) s session (statement.Select text) (selects s session text valid)
