-- An UPDATE is refused for its assignments exactly in one of six cases.
use Rattle.std.proofs.Common.{◌≡◌, ◌⊎◌, ℕ, ℤ, zero, suc, ◌+◌, ◌==◌, Bool, true, false, true≢false, ◌&&◌, ◌||◌, Option, Some, None, option_map, Result, Ok, Err, List, [], ◌∷◌, bytes_eq, slice_get, sym, ap, subst, ◌∙◌, refl, arith, inl, inr}
use Rattle.std.specs.List.{list_any, list_all}
use Rattle.std.proofs.lemmas.Bool.{and_from, and_left, and_parts, and_right, cases_Bool, cases_eq, cond_both, eqb-false, eqb-true, false_from_ne_true, false≢true, or_cases, or_left, or_parts, or_right}
use Rattle.std.proofs.lemmas.Map.Keys.{any_passes_from_place}
use Rattle.std.proofs.lemmas.Option.{none-some, same_Some, slice_get-map}
use Rattle.std.proofs.lemmas.Slice.Eq.{bytes_eq-Decides}
use Rattle.escrow_num.specs.declared.refusal.Refusal.{Refusal}
use Rattle.escrow_num.specs.declared.refusal.Refusal.TheVariants as refusal
use Rattle.escrow_num.specs.declared.value.Value.{Value}
use Rattle.escrow_statement.specs.declared.statement.Assign.{Assign}
use Rattle.escrow_statement.specs.declared.statement.Assigned.{Assigned}
use Rattle.escrow_statement.specs.declared.statement.Assigned.TheVariants as assigned
use Rattle.escrow_statement.specs.declared.statement.Literal.{Literal}
use Rattle.escrow_statement.specs.declared.statement.UpdateText.{UpdateText}
use Rattle.escrow_statement.specs.declared.statement.WhereText.{WhereText}
use Rattle.escrow_schema.specs.declared.column.Column.{Column}
use Rattle.escrow_schema.specs.declared.table.TableDef.{TableDef}
use Rattle.escrow_schema.specs.BadAssignment.{AssignsTwice, Assigns, HasColumn, IsBadlyAssigned, IsKeyName, IsNamedAt, IsPlainName, IsReservableName}
use Rattle.escrow_schema.specs.Column.{names_of}
use Rattle.escrow_schema.specs.Definition.{IsTable, are_distinct}
use Rattle.escrow_schema.specs.Fit.{plains}
use Rattle.escrow_schema.specs.Laws.{BadAssignmentsAreOfSixKinds}
use Rattle.escrow_schema.specs.Plan.{are_changes, are_replacements, changes_of, has_column, is_change, is_itself, is_literal, is_replacement, key_named, new_values, planned}
use Rattle.escrow_schema.proofs.AssignedLemmas.{assigned_names}
use Rattle.escrow_schema.proofs.DistinctLemmas.{not_apart, one_place, same_name, two_places}
use Rattle.escrow_schema.proofs.ListLemmas.{mapped_some, one_fails, some_fails, some_passes}
use Rattle.escrow_schema.proofs.PlanLemmas.{plan_by, refusals_of_keys, refused_by, why_of_neither}
use Rattle.escrow_schema.proofs.RuleLemmas.{follows_rules, rules_of}

-- ---- the column of a name

-- a RESERVABLE column, by the test
abbrev is_reservable : List ℕ → Column → Bool
is_reservable name column = column.reservable && bytes_eq column.name name

reservable_from : (table : TableDef) (name : List ℕ) → list_any (is_reservable name) table.columns ≡ true → IsReservableName table name
reservable_from table name e =
    let found = some_passes (is_reservable name) table.columns e in
    let parts = and_parts found.0.reservable (bytes_eq found.0.name name) found.3 in
    (found.1, found.0, (found.2, (bytes_eq-Decides found.0.name name).0 parts.1), parts.0)

reservable_passes : (table : TableDef) (name : List ℕ) → IsReservableName table name → list_any (is_reservable name) table.columns ≡ true
reservable_passes table name h =
    any_passes_from_place (is_reservable name) table.columns h.0 h.1 h.2.0
    (and_from h.1.reservable (bytes_eq h.1.name name) h.3 ((bytes_eq-Decides h.1.name name).1 h.2.1))

-- a plain column, in the terms of the test: the first of the columns is at a given place
abbrev PlainFrom : List Column → ℕ → ℕ → List ℕ → Type 0
PlainFrom columns place key name = (k : ℕ) × (column : Column) × (slice_get columns k ≡ Some column) × (column.name ≡ name) × (column.reservable ≡ false) × (¬ (place + k ≡ key))

plain_from : (columns : List Column) (place key : ℕ) (name : List ℕ) → has_column (plains columns place key) name ≡ true → PlainFrom columns place key name
plain_from [] place key name e = absurd (false≢true e)
plain_from (first ∷ columns) place key name e =
    let later : has_column (plains columns (place + 1) key) name ≡ true → PlainFrom (first ∷ columns) place key name = λ t.
    let found = plain_from columns (place + 1) key name t in
    (suc found.0, found.1, found.2, found.3, found.4, λ same. found.5 (omega arith)) in
    cond_both (first.reservable || (place == key)) (plains columns (place + 1) key) (first ∷ plains columns (place + 1) key)
    (λ (cs : List Column). has_column cs name ≡ true → PlainFrom (first ∷ columns) place key name)
    (λ _. later)
    (λ f t.
    let tests = or_parts first.reservable (place == key) f in
    elim (or_cases (bytes_eq first.name name) (has_column (plains columns (place + 1) key) name) t) [
      | inl same ↦ (0, first, refl, (bytes_eq-Decides first.name name).0 same, tests.0, λ here. eqb-false place key tests.1 (omega arith))
      | inr rest ↦ later rest
    ])
    e

plain_passes : (columns : List Column) (place key k : ℕ) (column : Column) → slice_get columns k ≡ Some column → column.reservable ≡ false → ¬ (place + k ≡ key)
    → has_column (plains columns place key) column.name ≡ true
plain_passes [] place key k column at plain other = absurd (none-some column at)
plain_passes (first ∷ columns) place key zero column at plain other =
    let is : first ≡ column = same_Some first column at in
    cond_both (first.reservable || (place == key)) (plains columns (place + 1) key) (first ∷ plains columns (place + 1) key)
    (λ (cs : List Column). has_column cs column.name ≡ true)
    (λ t. elim (or_cases first.reservable (place == key) t) [
      | inl reservable ↦ absurd (true≢false (sym reservable ∙ ap (λ (c : Column). c.reservable) is ∙ plain))
      | inr same ↦ (let here : place ≡ key = eqb-true place key same in absurd (other (omega arith)))
    ])
    (λ _. or_left (bytes_eq first.name column.name) (has_column (plains columns (place + 1) key) column.name)
    (subst (λ (c : Column). bytes_eq first.name c.name ≡ true) is (same_name first.name)))
plain_passes (first ∷ columns) place key (suc k) column at plain other =
    let rest = plain_passes columns (place + 1) key k column at plain (λ same. other (omega arith)) in
    cond_both (first.reservable || (place == key)) (plains columns (place + 1) key) (first ∷ plains columns (place + 1) key)
    (λ (cs : List Column). has_column cs column.name ≡ true)
    (λ _. rest) (λ _. or_right (bytes_eq first.name column.name) (has_column (plains columns (place + 1) key) column.name) rest)

plain_name_from : (table : TableDef) (name : List ℕ) → has_column (plains table.columns 0 table.key) name ≡ true → IsPlainName table name
plain_name_from table name e =
    let found = plain_from table.columns 0 table.key name e in
    (found.0, found.1, (found.2, found.3), found.4, λ same. found.5 (omega arith))

plain_name_passes : (table : TableDef) (name : List ℕ) → IsPlainName table name → has_column (plains table.columns 0 table.key) name ≡ true
plain_name_passes table name h =
    subst (λ (n : List ℕ). has_column (plains table.columns 0 table.key) n ≡ true) h.2.1
    (plain_passes table.columns 0 table.key h.0 h.1 h.2.0 h.3 (λ same. h.4 (omega arith)))

-- a name belongs to no column, or to a column of one of three kinds
kind_of : (table : TableDef) (name : List ℕ) → (¬ (HasColumn table name)) ⊎ (IsKeyName table name ⊎ (IsReservableName table name ⊎ IsPlainName table name))
kind_of table name =
    elim (cases_Bool (has_column table.columns name)) [
      | inl t ↦ (let found = some_passes (λ (column : Column). bytes_eq column.name name) table.columns t in
          let same : found.0.name ≡ name = (bytes_eq-Decides found.0.name name).0 found.3 in
          elim (cases_Bool found.0.reservable) [
            | inl reservable ↦ inr (inr (inl (found.1, found.0, (found.2, same), reservable)))
            | inr plain ↦ elim (cases_eq found.1 table.key) [
              | inl key ↦ inr (inl (found.0, (subst (λ (n : ℕ). slice_get table.columns n ≡ Some found.0) key found.2, same)))
              | inr other ↦ inr (inr (inr (found.1, found.0, (found.2, same), plain, other)))
            ]
          ])
      | inr f ↦ inl (λ h. true≢false
          (sym (any_passes_from_place (λ (column : Column). bytes_eq column.name name) table.columns h.0 h.1 h.2.0 ((bytes_eq-Decides h.1.name name).1 h.2.1)) ∙ f))
    ]

-- ---- no name belongs to two kinds

-- since no two columns have the same name
name_at : (table : TableDef) (name : List ℕ) (place : ℕ) (column : Column) → IsNamedAt table name place column → slice_get (names_of table.columns) place ≡ Some name
name_at table name place column h =
    slice_get-map (λ (c : Column). c.name) table.columns place
    ∙ ap (λ (o : Option Column). option_map (λ (c : Column). c.name) o) h.0
    ∙ ap (λ (n : List ℕ). Some n) h.1

one_column : (table : TableDef) → IsTable table → (name : List ℕ) (i k : ℕ) (a b : Column) → IsNamedAt table name i a → IsNamedAt table name k b → (i ≡ k) × (a ≡ b)
one_column table is_table name i k a b here there =
    let same : i ≡ k =
    one_place (names_of table.columns) (rules_of table is_table).distinct i k name (name_at table name i a here) (name_at table name k b there) in
    (same, same_Some a b (sym here.0 ∙ ap (λ (n : ℕ). slice_get table.columns n) same ∙ there.0))

reservable_or_plain : (table : TableDef) → IsTable table → (name : List ℕ) → IsReservableName table name → ¬ (IsPlainName table name)
reservable_or_plain table is_table name r = λ p.
    let same = one_column table is_table name r.0 p.0 r.1 p.1 r.2 p.2 in
    true≢false (sym r.3 ∙ ap (λ (c : Column). c.reservable) same.1 ∙ p.3)

key_or_reservable : (table : TableDef) → IsTable table → (name : List ℕ) → IsKeyName table name → ¬ (IsReservableName table name)
key_or_reservable table is_table name k = λ r.
    let rules = follows_rules is_table.0 table is_table.1 in
    let same = one_column table is_table name table.key r.0 k.0 r.1 k.1 r.2 in
    let key : k.0 ≡ rules.key = same_Some k.0 rules.key (sym k.1.0 ∙ rules.key_there) in
    true≢false (sym r.3 ∙ ap (λ (c : Column). c.reservable) (sym same.1 ∙ key) ∙ rules.plain_key)

key_or_plain : (table : TableDef) → IsTable table → (name : List ℕ) → IsKeyName table name → ¬ (IsPlainName table name)
key_or_plain table is_table name k = λ p. p.4 (sym (one_column table is_table name table.key p.0 k.0 p.1 k.1 p.2).0)

-- ---- what is assigned

itself_from : (column : List ℕ) (value : Assigned) → is_itself column value ≡ true → (change : ℤ) × (value ≡ assigned.Change column change)
itself_from column (assigned.Literal literal) e = absurd (false≢true e)
itself_from column (assigned.Change source change) e = (change, ap (λ (s : List ℕ). assigned.Change s change) (sym ((bytes_eq-Decides column source).0 e)))

not_itself : (column : List ℕ) (value : Assigned) → is_itself column value ≡ false → (change : ℤ) → ¬ (value ≡ assigned.Change column change)
not_itself column value f change = λ is. true≢false (sym (same_name column) ∙ sym (ap (is_itself column) is) ∙ f)

literal_from : (value : Assigned) → is_literal value ≡ true → (literal : Literal) × (value ≡ assigned.Literal literal)
literal_from (assigned.Literal literal) e = (literal, refl)
literal_from (assigned.Change source change) e = absurd (false≢true e)

not_literal : (value : Assigned) → is_literal value ≡ false → (literal : Literal) → ¬ (value ≡ assigned.Literal literal)
not_literal value f literal = λ is. true≢false (sym (ap is_literal is) ∙ f)

-- an assignment to a column that is not RESERVABLE is no change; one to a column that is not plain is no replacement
no_change : (table : TableDef) (assign : Assign) → ¬ (IsReservableName table assign.column) → is_change table.columns assign ≡ false
no_change table assign other =
    and_left (list_any (is_reservable assign.column) table.columns) (is_itself assign.column assign.value)
    (false_from_ne_true (list_any (is_reservable assign.column) table.columns) (λ t. other (reservable_from table assign.column t)))

no_replacement : (table : TableDef) (assign : Assign) → ¬ (IsPlainName table assign.column) → is_replacement table assign ≡ false
no_replacement table assign other =
    and_left (has_column (plains table.columns 0 table.key) assign.column) (is_literal assign.value)
    (false_from_ne_true (has_column (plains table.columns 0 table.key) assign.column) (λ t. other (plain_name_from table assign.column t)))

-- ---- one of the six cases holds

neither : (table : TableDef) (text : UpdateText) → are_changes table.columns text.assigns ≡ false → are_replacements table text.assigns ≡ false
    → planned table text ≡ Err refusal.BadAssignment
neither table text a b = refused_by (planned table text) refusal.BadAssignment (why_of_neither table text a b)

-- an assignment is no change, and one is no replacement
two_bad : (table : TableDef) (text : UpdateText) (one other : Assign) → Assigns text one → Assigns text other
    → is_change table.columns one ≡ false → is_replacement table other ≡ false → planned table text ≡ Err refusal.BadAssignment
two_bad table text one other at there no_change no_replacement =
    neither table text
    (and_right (are_distinct (assigned_names text.assigns)) (list_all (is_change table.columns) text.assigns) (one_fails (is_change table.columns) text.assigns at.0 one at.1 no_change))
    (and_right (are_distinct (assigned_names text.assigns)) (list_all (is_replacement table) text.assigns) (one_fails (is_replacement table) text.assigns there.0 other there.1 no_replacement))

column_at : (assigns : List Assign) (k : ℕ) (assign : Assign) → slice_get assigns k ≡ Some assign → slice_get (assigned_names assigns) k ≡ Some assign.column
column_at assigns k assign at =
    slice_get-map (λ (a : Assign). a.column) assigns k ∙ ap (λ (o : Option Assign). option_map (λ (a : Assign). a.column) o) at

refused_where_bad : (table : TableDef) (text : UpdateText) → IsTable table → IsBadlyAssigned table text → planned table text ≡ Err refusal.BadAssignment
refused_where_bad table text is_table (inl h) =
    two_bad table text h.0 h.0 h.1 h.1 (no_change table h.0 (λ r. h.2 (r.0, r.1, r.2))) (no_replacement table h.0 (λ p. h.2 (p.0, p.1, p.2)))
refused_where_bad table text is_table (inr (inl h)) =
    two_bad table text h.0 h.0 h.1 h.1
    (no_change table h.0 (key_or_reservable table is_table h.0.column h.2)) (no_replacement table h.0 (key_or_plain table is_table h.0.column h.2))
refused_where_bad table text is_table (inr (inr (inl h))) =
    let twice : are_distinct (assigned_names text.assigns) ≡ false =
    not_apart (assigned_names text.assigns) h.0 h.1 h.2.column h.4 (column_at text.assigns h.0 h.2 h.5)
    (column_at text.assigns h.1 h.3 h.6 ∙ ap (λ (n : List ℕ). Some n) (sym h.7)) in
    neither table text
    (and_left (are_distinct (assigned_names text.assigns)) (list_all (is_change table.columns) text.assigns) twice)
    (and_left (are_distinct (assigned_names text.assigns)) (list_all (is_replacement table) text.assigns) twice)
refused_where_bad table text is_table (inr (inr (inr (inl h)))) =
    two_bad table text h.0 h.0 h.1 h.1
    (and_right (list_any (is_reservable h.0.column) table.columns) (is_itself h.0.column h.0.value)
    (false_from_ne_true (is_itself h.0.column h.0.value) (λ t. let is = itself_from h.0.column h.0.value t in h.3 is.0 is.1)))
    (no_replacement table h.0 (reservable_or_plain table is_table h.0.column h.2))
refused_where_bad table text is_table (inr (inr (inr (inr (inl h))))) =
    two_bad table text h.0 h.0 h.1 h.1
    (no_change table h.0 (λ r. reservable_or_plain table is_table h.0.column r h.2))
    (and_right (has_column (plains table.columns 0 table.key) h.0.column) (is_literal h.0.value)
    (false_from_ne_true (is_literal h.0.value) (λ t. let is = literal_from h.0.value t in h.3 is.0 is.1)))
refused_where_bad table text is_table (inr (inr (inr (inr (inr h))))) =
    two_bad table text h.1 h.0 h.3 h.2
    (no_change table h.1 (λ r. reservable_or_plain table is_table h.1.column r h.5))
    (no_replacement table h.0 (reservable_or_plain table is_table h.0.column h.4))

-- ---- an UPDATE is refused for its assignments

-- they are no changes, and no replacements
neither_from : (a b : Bool) (k : Result Value Refusal) (changes : Option (List (Option ℤ))) (values : Option (List (Option Value)))
    → ((r : Refusal) → k ≡ Err r → ¬ (r ≡ refusal.BadAssignment)) → plan_by a b k changes values ≡ Err refusal.BadAssignment → (a ≡ false) × (b ≡ false)
neither_from true b (Ok key) None values other e = absurd (cc)
neither_from true b (Ok key) (Some cs) values other e = absurd (cc)
neither_from true b (Err r) changes values other e = let same : r ≡ refusal.BadAssignment = cc in absurd (other r refl same)
neither_from false true (Ok key) changes None other e = absurd (cc)
neither_from false true (Ok key) changes (Some vs) other e = absurd (cc)
neither_from false true (Err r) changes values other e = let same : r ≡ refusal.BadAssignment = cc in absurd (other r refl same)
neither_from false false k changes values other e = (refl, refl)

key_other : (table : TableDef) (row : WhereText) (r : Refusal) → key_named table row ≡ Err r → ¬ (r ≡ refusal.BadAssignment)
key_other table row r e = λ bad. elim (refusals_of_keys table row r e) [ inl key ↦ absurd (cc) | inr value ↦ absurd (cc) ]

second_fails : (x y : Bool) → x ≡ true → (x && y) ≡ false → y ≡ false
second_fails true y t e = e
second_fails false y t e = absurd (false≢true t)

-- an assignment to no column, or to the key, is a bad one; of another column it is asked what kind of column it is
bad_by_kind : (table : TableDef) (text : UpdateText) (other : Assign) → Assigns text other
    → (IsReservableName table other.column → IsBadlyAssigned table text) → (IsPlainName table other.column → IsBadlyAssigned table text) → IsBadlyAssigned table text
bad_by_kind table text other there of_reservable of_plain =
    elim (kind_of table other.column) [
      | inl none ↦ inl (other, there, none)
      | inr known ↦ elim known [
        | inl key ↦ inr (inl (other, there, key))
        | inr rest ↦ elim rest [ inl reservable ↦ of_reservable reservable | inr plain ↦ of_plain plain ]
      ]
    ]

-- an assignment that is no replacement, and one to a plain column
bad_beside_plain : (table : TableDef) (text : UpdateText) (plain other : Assign) → Assigns text plain → IsPlainName table plain.column
    → Assigns text other → is_replacement table other ≡ false → IsBadlyAssigned table text
bad_beside_plain table text plain other at is_plain there fails =
    bad_by_kind table text other there
    (λ reservable. inr (inr (inr (inr (inr (other, plain, there, at, reservable, is_plain))))))
    (λ as_well.
    let passes = plain_name_passes table other.column as_well in
    inr (inr (inr (inr (inl (
      other,
      there,
      as_well,
      not_literal other.value (second_fails (has_column (plains table.columns 0 table.key) other.column) (is_literal other.value) passes fails),
    ))))))

-- an assignment that is no change, and one that is no replacement
bad_of_both : (table : TableDef) (text : UpdateText) (one other : Assign) → Assigns text one → is_change table.columns one ≡ false
    → Assigns text other → is_replacement table other ≡ false → IsBadlyAssigned table text
bad_of_both table text one other at fails there fails_too =
    bad_by_kind table text one at
    (λ reservable.
    let passes = reservable_passes table one.column reservable in
    inr (inr (inr (inl (
      one,
      at,
      reservable,
      not_itself one.column one.value (second_fails (list_any (is_reservable one.column) table.columns) (is_itself one.column one.value) passes fails),
    )))))
    (λ plain. bad_beside_plain table text one other at plain there fails_too)

assigned_twice : (text : UpdateText) → are_distinct (assigned_names text.assigns) ≡ false → AssignsTwice text
assigned_twice text again =
    let found = two_places (assigned_names text.assigns) again in
    mapped_some (λ (a : Assign). a.column) (slice_get text.assigns found.0) found.2 (sym (slice_get-map (λ (a : Assign). a.column) text.assigns found.0) ∙ found.4)
    (λ first at is. mapped_some (λ (a : Assign). a.column) (slice_get text.assigns found.1) found.2 (sym (slice_get-map (λ (a : Assign). a.column) text.assigns found.1) ∙ found.5)
    (λ second there also. (found.0, found.1, first, second, found.3, at, there, is ∙ sym also)))

bad_where_refused : (table : TableDef) (text : UpdateText) → planned table text ≡ Err refusal.BadAssignment → IsBadlyAssigned table text
bad_where_refused table text e =
    let kinds = neither_from (are_changes table.columns text.assigns) (are_replacements table text.assigns) (key_named table text.row)
    (changes_of table.columns text.assigns) (new_values table text.assigns) (key_other table text.row) e in
    elim (cases_Bool (are_distinct (assigned_names text.assigns))) [
      | inl apart ↦ (let one = some_fails (is_change table.columns) text.assigns
          (second_fails (are_distinct (assigned_names text.assigns)) (list_all (is_change table.columns) text.assigns) apart kinds.0) in
          let other = some_fails (is_replacement table) text.assigns
          (second_fails (are_distinct (assigned_names text.assigns)) (list_all (is_replacement table) text.assigns) apart kinds.1) in
          bad_of_both table text one.0 other.0 (one.1, one.2) one.3 (other.1, other.2) other.3)
      | inr again ↦ inr (inr (inl (assigned_twice text again)))
    ]

pub bad_assignments_are_of_six_kinds : BadAssignmentsAreOfSixKinds
bad_assignments_are_of_six_kinds table text is_table = (bad_where_refused table text, refused_where_bad table text is_table)
