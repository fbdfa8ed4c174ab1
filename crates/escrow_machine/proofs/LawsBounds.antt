-- What SHOW BOUNDS shows; and a statement that shows something changes nothing.
use Rattle.std.specs.Prelude.{◌≡◌, ℕ, ℤ, ◌≤ℤ◌, ◌-◌, zero, suc, option_map, option_and_then, unwrap_or, bytes_eq, Option, Some, List, [], ◌∷◌, map, take, length, Contains}
use Rattle.std.specs.List.{AllByRecursion, AllZip, IsDistinct}
use Rattle.std.proofs.Common.{inl, inr, refl, sym, ap, subst, ◌∙◌}
use Rattle.std.proofs.lemmas.List.Elements.{recursion_from_All}
use Rattle.escrow_num.specs.declared.refusal.Refusal.TheVariants as refusal
use Rattle.escrow_num.specs.declared.reservation.Reservation.{Reservation}
use Rattle.escrow_num.specs.declared.row.Row.{Row}
use Rattle.escrow_num.specs.declared.value.RowName.{RowName}
use Rattle.escrow_num.specs.Order.{same_row}
use Rattle.escrow_num.specs.Span.{Holds}
use Rattle.escrow_num.proofs.Items.{Has, all_has, find_has}
use Rattle.escrow_num.proofs.Orders.{row_same}
use Rattle.escrow_statement.specs.declared.statement.RowText.{RowText}
use Rattle.escrow_statement.specs.declared.statement.Statement.TheVariants as statement
use Rattle.escrow_checks.specs.declared.check.Check.{Check}
use Rattle.escrow_checks.specs.Checks.{unit_of}
use Rattle.escrow_checks.specs.Condition.{amount_of}
use Rattle.escrow_checks.specs.Extremes.{least, greatest}
use Rattle.escrow_checks.specs.Form.{form, all_changed}
use Rattle.escrow_checks.specs.Grant.{Meets}
use Rattle.escrow_checks.specs.Laws.{IsReached}
use Rattle.escrow_checks.specs.Sublists.{sublists}
use Rattle.escrow_checks.proofs.LawsLemmas.{extremes_are_reached, form-column}
use Rattle.escrow_schema.specs.declared.column.Column.{Column}
use Rattle.escrow_schema.specs.declared.table.TableDef.{TableDef}
use Rattle.escrow_schema.specs.Catalog.{table_named}
use Rattle.escrow_schema.specs.Column.{names_of, reservables}
use Rattle.escrow_schema.specs.Print.{declared_checks}
use Rattle.escrow_schema.proofs.DistinctLemmas.{distinct_from}
use Rattle.escrow_machine.specs.declared.reply.CheckBounds.{CheckBounds}
use Rattle.escrow_machine.specs.declared.reply.ColumnBounds.{ColumnBounds}
use Rattle.escrow_machine.specs.declared.reply.Reply.{Reply}
use Rattle.escrow_machine.specs.declared.reply.Reply.TheVariants as reply
use Rattle.escrow_machine.specs.Asked.{named_by}
use Rattle.escrow_machine.specs.Bounds.{bounds_in, check_bounds, column_bounds}
use Rattle.escrow_machine.specs.Laws.{AreBounds, BoundsAreReached, IsCheckLine, IsColumnLine, IsShownBounds}
use Rattle.escrow_machine.specs.Accepted.{IsAccepted}
use Rattle.escrow_machine.specs.State.{State}
use Rattle.escrow_schema.specs.Rows.{row_named, changes_to, row_after}
use Rattle.escrow_machine.specs.Transition.{transition_of}
use Rattle.escrow_machine.specs.Valid.{IsValid}
use Rattle.escrow_machine.proofs.BoundsLemmas.{split}
use Rattle.escrow_machine.proofs.Choices.{IsChoice, all_choices, choices_all, choice_map}
use Rattle.escrow_machine.proofs.LawsGrants.{choice_contained, choice_of_image, contained_has}
use Rattle.escrow_machine.proofs.LawsSteps.{step_has}
use Rattle.escrow_machine.specs.Step.{refusals}
use Rattle.escrow_machine.proofs.Refusals.{all_passed, present}
use Rattle.escrow_machine.proofs.Safe.{safe_row, some_at}
use Rattle.escrow_machine.proofs.Shapes.{is_table_found, row_found}

-- ---- the bounds of a form

-- a choice of the changes of reservations to a row comes from a choice of the reservations
reached_by : (row : Row) (reservations : List Reservation) (coeffs : List ℤ) (z : ℤ) → IsReached coeffs row.amounts (map (changes_to row) reservations) z
    → (chosen : List Reservation) × Contains (sublists reservations) chosen × (form coeffs (row_after chosen row).amounts ≡ z)
reached_by row reservations coeffs z reached =
    let Image : List (List ℤ) → Type 0 = λ image. (chosen : List Reservation) × IsChoice reservations chosen × (map (changes_to row) chosen ≡ image) in
    let from : Image reached.0 = contained_has Image (map (changes_to row) reservations) (choice_of_image (changes_to row) reservations) reached.0 reached.1 in (
      from.0,
      choice_contained reservations from.0 from.1,
      ap (λ (image : List (List ℤ)). form coeffs (all_changed row.amounts image)) from.2 ∙ reached.2,
    )

form_bounds : (row : Row) (reservations : List Reservation) (coeffs : List ℤ)
    → AreBounds reservations row (form coeffs) (least coeffs row.amounts (map (changes_to row) reservations)) (greatest coeffs row.amounts (map (changes_to row) reservations))
form_bounds row reservations coeffs =
    let images = map (changes_to row) reservations in
    let low = least coeffs row.amounts images in
    let high = greatest coeffs row.amounts images in
    let extremes = extremes_are_reached coeffs row.amounts images in
    let Between : List (List ℤ) → Type 0 = λ image. (low ≤ℤ form coeffs (all_changed row.amounts image)) × (form coeffs (all_changed row.amounts image) ≤ℤ high) in
    let all : AllByRecursion Between (sublists images) = recursion_from_All Between (sublists images) extremes.0 in
    record {
      each = choices_all (λ (chosen : List Reservation). Between (map (changes_to row) chosen)) reservations
          (λ chosen choice. all_choices Between images all (map (changes_to row) chosen) (choice_map (changes_to row) reservations chosen choice));
      reaches_low = reached_by row reservations coeffs low extremes.1;
      reaches_high = reached_by row reservations coeffs high extremes.2;
    }

-- ---- the line of a column

column_line : (row : Row) (reservations : List Reservation) (names : List (List ℕ)) → IsDistinct bytes_eq names → (column : Column)
    → IsColumnLine reservations row names column (column_bounds names row.amounts (map (changes_to row) reservations) column)
column_line row reservations names distinct column =
    let name = column.name in
    let by_form : List ℤ → ℤ = form (unit_of names name) in
    let by_name : List ℤ → ℤ = λ amounts. amount_of names amounts name in
    let same : by_form ≡ by_name = λ i. λ amounts. (sym (form-column names amounts name distinct)) i in
    let images = map (changes_to row) reservations in (
      refl,
      refl,
      refl,
      subst (λ (value : List ℤ → ℤ). AreBounds reservations row value (least (unit_of names name) row.amounts images) (greatest (unit_of names name) row.amounts images)) same
          (form_bounds row reservations (unit_of names name)),
    )

-- ---- the line of a check

-- in a valid state, a row meets a check of its table whichever of the open reservations are applied
check_met : (s : State) → IsValid s → (name : RowName) (table : TableDef) (row : Row) → table_named s.catalog name.table ≡ Some table → row_named s.rows name ≡ Some row
    → (check : Check) → Has table.checks check → (chosen : List Reservation) → Contains (sublists s.reservations) chosen → Meets check (row_after chosen row).amounts
check_met s valid name table row named found check has chosen contained =
    contained_has (λ (c : List Reservation). Meets check (row_after c row).amounts) s.reservations
    (λ c choice.
    let of_row = find_has (λ (r : Row). same_row r.name name) s.rows row found in
    let same : row.name ≡ name = row_same row.name name of_row.1 in
    let at : table_named s.catalog row.name.table ≡ Some table = ap (λ (n : RowName). table_named s.catalog n.table) same ∙ named in
    let met = some_at (λ (t : TableDef). AllByRecursion (λ (k : Check). Meets k (row_after c row).amounts) t.checks) (table_named s.catalog row.name.table) table at (safe_row s valid c choice row of_row.0) in
    all_has (λ (k : Check). Meets k (row_after c row).amounts) table.checks met check has)
    chosen contained

check_line : (s : State) → IsValid s → (name : RowName) (table : TableDef) (row : Row) → table_named s.catalog name.table ≡ Some table → row_named s.rows name ≡ Some row
    → (check : Check) → Has table.checks check → IsCheckLine s.reservations row check (check_bounds row.amounts (map (changes_to row) s.reservations) check)
check_line s valid name table row named found check has =
    let bounds = form_bounds row s.reservations check.coeffs in
    let low = bounds.reaches_low in
    let high = bounds.reaches_high in (
      refl,
      refl,
      refl,
      bounds,
      subst (Holds check.span) low.2 (check_met s valid name table row named found check has low.0 low.1),
      subst (Holds check.span) high.2 (check_met s valid name table row named found check has high.0 high.1),
    )

-- an item of the first `n` is an item of the list
has_take : {A : Type 0} (n : ℕ) (xs : List A) (x : A) → Has (take n xs) x → Has xs x
has_take zero xs x h = absurd h
has_take (suc n) [] x h = absurd h
has_take (suc n) (y ∷ ys) x (inl e) = inl e
has_take (suc n) (y ∷ ys) x (inr h) = inr (has_take n ys x h)

-- what holds for each item and its image holds for a list and its image
zip_map : {A B : Type 0} (P : A → B → Type 0) (f : A → B) (xs : List A) → ((x : A) → Has xs x → P x (f x)) → AllZip P xs (map f xs)
zip_map P f [] each = tt
zip_map P f (x ∷ xs) each = (each x (inl refl), zip_map P f xs (λ y h. each y (inr h)))

-- ---- the reply

columns_of : State → TableDef → Row → List ColumnBounds
columns_of s table row =
    let columns = reservables table.columns in
    map (column_bounds (names_of columns) row.amounts (map (changes_to row) s.reservations)) columns

checks_of : State → TableDef → Row → List CheckBounds
checks_of s table row = map (check_bounds row.amounts (map (changes_to row) s.reservations)) (declared_checks table)

shown_in : (s : State) → IsValid s → (text : RowText) (table : TableDef) (row : Row) → table_named s.catalog text.table ≡ Some table
    → row_named s.rows (named_by s.catalog text.table text.row) ≡ Some row
    → IsShownBounds s text (columns_of s table row) (checks_of s table row)
unfolding columns_of checks_of
shown_in s valid text table row named found =
    let name = named_by s.catalog text.table text.row in
    let is_table = is_table_found s valid.orderly text.table table named in
    let parts = split table row.amounts is_table (row_found s valid name table row named found).amounts in
    let names = names_of (reservables table.columns) in
    let reservations = map (changes_to row) s.reservations in
    record {
      table = table;
      named = named;
      row = row;
      found = found;
      column_lines = zip_map (IsColumnLine s.reservations row names) (column_bounds names row.amounts reservations) (reservables table.columns)
          (λ column _. column_line row s.reservations names (distinct_from names parts.distinct) column);
      check_lines = zip_map (IsCheckLine s.reservations row) (check_bounds row.amounts reservations) (declared_checks table)
          (λ check has. check_line s valid name table row named found check (has_take (length table.checks - length (reservables table.columns)) table.checks check has));
    }

-- the table and the row of an accepted SHOW BOUNDS
record Stands (s : State) (text : RowText) : Type 0 where
  table : TableDef
  named : table_named s.catalog text.table ≡ Some table
  row : Row
  found : row_named s.rows (named_by s.catalog text.table text.row) ≡ Some row

bounds_stand : (s : State) (session : ℕ) (text : RowText) → IsAccepted s session (statement.ShowBounds text) → Stands s text
unfolding transition_of
bounds_stand s session text accepted =
    let none = all_passed (refusals (transition_of s session (statement.ShowBounds text))) accepted in
    let table = present (table_named s.catalog text.table) refusal.NoSuchTable none.0 in
    let row = present (row_named s.rows (named_by s.catalog text.table text.row)) refusal.NoSuchRow none.1.1.0 in
    record { table = table.0; named = table.1; row = row.0; found = row.1 }

reply_in : (s : State) (session : ℕ) (text : RowText) (stands : Stands s text)
    → (transition_of s session (statement.ShowBounds text)).reply ≡ reply.Bounds (columns_of s stands.table stands.row) (checks_of s stands.table stands.row)
unfolding transition_of columns_of checks_of
reply_in s session text stands =
    let shown : TableDef → Row → Reply = λ table row. bounds_in s.reservations table row.name row.amounts in
    let at_row : (table : TableDef) → option_map (shown table) (row_named s.rows (named_by s.catalog text.table text.row)) ≡ Some (shown table stands.row) =
    λ table. ap (option_map (shown table)) stands.found in
    ap (λ (o : Option TableDef). unwrap_or (option_and_then (λ (table : TableDef). option_map (shown table) (row_named s.rows (named_by s.catalog text.table text.row))) o) (reply.Bounds [] [])) stands.named
    ∙ ap (λ (o : Option Reply). unwrap_or o (reply.Bounds [] [])) (at_row stands.table)

pub bounds_are_reached : BoundsAreReached
bounds_are_reached s session text columns checks valid =
    step_has (λ (p : Reply × State). p.0 ≡ reply.Bounds columns checks → IsShownBounds s text columns checks) s session (statement.ShowBounds text)
    (λ _ _ e. absurd (cc))
    (λ accepted e.
    let stands = bounds_stand s session text accepted in
    let both : reply.Bounds (columns_of s stands.table stands.row) (checks_of s stands.table stands.row) ≡ reply.Bounds columns checks = sym (reply_in s session text stands) ∙ e in
    let same_columns : columns_of s stands.table stands.row ≡ columns = cc in
    let same_checks : checks_of s stands.table stands.row ≡ checks = cc in
    subst (λ (cs : List ColumnBounds). IsShownBounds s text cs checks) same_columns
    (subst (λ (ks : List CheckBounds). IsShownBounds s text (columns_of s stands.table stands.row) ks) same_checks
    (shown_in s valid text stands.table stands.row stands.named stands.found)))

-- ---- any session that asks
