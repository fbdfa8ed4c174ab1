-- What is open in a valid state of the machine would be granted again, in its order, whatever part of it is open already.
use Rattle.std.specs.Prelude.{◌≡◌, ℤ, Bool, List, [], ◌∷◌, ◌++◌, map, filter, Option, Some, None, option_and_then}
use Rattle.std.specs.List.{AllByRecursion}
use Rattle.std.proofs.Common.{inl, inr, refl, sym, ap, subst, ◌∙◌}
use Rattle.std.proofs.lemmas.List.{map_push}
use Rattle.std.proofs.lemmas.List.Elements.{All-from_recursion}
use Rattle.escrow_num.specs.declared.reservation.Reservation.{Reservation}
use Rattle.escrow_num.specs.declared.row.Row.{Row}
use Rattle.escrow_num.specs.declared.value.RowName.{RowName}
use Rattle.escrow_num.specs.Order.{same_row}
use Rattle.escrow_num.specs.Reservation.{deltas}
use Rattle.escrow_num.proofs.Items.{all_has, find_has, has_all}
use Rattle.escrow_num.proofs.Orders.{row_same}
use Rattle.escrow_checks.specs.declared.check.Check.{Check}
use Rattle.escrow_checks.specs.Form.{changed, all_changed}
use Rattle.escrow_checks.specs.Grant.{Meets, AlwaysMeets, broken}
use Rattle.escrow_checks.specs.Sublists.{sublists}
use Rattle.escrow_checks.proofs.LawsLemmas.{granted_where_all_always_met}
use Rattle.escrow_schema.specs.declared.table.TableDef.{TableDef}
use Rattle.escrow_schema.specs.Catalog.{table_named}
use Rattle.escrow_schema.specs.Rows.{row_named, changes_to, row_after, MeetsChecks}
use Rattle.escrow_machine.specs.Asked.{violation_of}
use Rattle.escrow_machine.specs.State.{State}
use Rattle.escrow_machine.specs.Valid.{IsValid}
use Rattle.escrow_machine.proofs.Applying.{changes_own}
use Rattle.escrow_machine.proofs.Changes.{all_changed_push}
use Rattle.escrow_machine.proofs.Choices.{IsChoice, choice_filter, choice_none, choices_all}
use Rattle.escrow_machine.proofs.LawsGrants.{choice_of_image}
use Rattle.escrow_machine.proofs.Safe.{safe_row, some_at}

-- a choice of what is before an item, with the item, is a choice of the whole
with_item : {A : Type 0} (first : List A) (x : A) (rest chosen : List A) → IsChoice first chosen → IsChoice (first ++ x ∷ rest) (chosen ++ x ∷ [])
with_item [] x rest chosen is = inr ([], choice_none rest, subst (λ zs. x ∷ [] ≡ zs ++ x ∷ []) is refl)
with_item (y ∷ first) x rest chosen (inl later) = inl (with_item first x rest chosen later)
with_item {A} (y ∷ first) x rest chosen (inr here) =
    inr (here.0 ++ x ∷ [], with_item first x rest here.0 here.1, ap (λ (zs : List A). zs ++ x ∷ []) here.2)

-- the row meets its checks with the reservation and each choice of some earlier ones
module _ (s : State) (valid : IsValid s) (first rest : List Reservation) (r : Reservation) (is : s.reservations ≡ first ++ r ∷ rest) (keep : Reservation → Bool) where
  met : (table : TableDef) (row : Row) → table_named s.catalog r.row.table ≡ Some table → row_named s.rows r.row ≡ Some row
      → (chosen : List Reservation) → IsChoice (filter keep first) chosen
      → AllByRecursion (λ check. Meets check (all_changed (changed row.amounts (deltas r.changes)) (map (changes_to row) chosen))) table.checks
  met table row named found chosen choice =
      let at = find_has (λ (x : Row). same_row x.name r.row) s.rows row found in
      let names : row.name ≡ r.row = row_same row.name r.row at.1 in
      let whole : IsChoice s.reservations (chosen ++ r ∷ []) =
      subst (λ (xs : List Reservation). IsChoice xs (chosen ++ r ∷ [])) (sym is) (with_item first r rest chosen (choice_filter keep first chosen choice)) in
      let meets : MeetsChecks s.catalog (row_after (chosen ++ r ∷ []) row) = safe_row s valid (chosen ++ r ∷ []) whole row at.0 in
      let same : (row_after (chosen ++ r ∷ []) row).amounts ≡ all_changed (changed row.amounts (deltas r.changes)) (map (changes_to row) chosen) =
      ap (all_changed row.amounts) (map_push (changes_to row) chosen r)
      ∙ all_changed_push row.amounts (changes_to row r) (map (changes_to row) chosen)
      ∙ ap (λ (zs : List ℤ). all_changed (changed row.amounts zs) (map (changes_to row) chosen)) (changes_own row.name r at.1) in
      subst (λ (zs : List ℤ). AllByRecursion (λ check. Meets check zs) table.checks) same
      (some_at (λ (t : TableDef). AllByRecursion (λ check. Meets check (row_after (chosen ++ r ∷ []) row).amounts) t.checks)
      (table_named s.catalog row.name.table) table (ap (λ (n : RowName). table_named s.catalog n.table) names ∙ named) meets)

  -- so it breaks none
  none_broken : (table : TableDef) (row : Row) → table_named s.catalog r.row.table ≡ Some table → row_named s.rows r.row ≡ Some row
      → broken table.checks row.amounts (deltas r.changes) (map (changes_to row) (filter keep first)) ≡ None
  none_broken table row named found =
      let left : List (List ℤ) = map (changes_to row) (filter keep first) in
      let Always : Check → Type 0 = λ check. AlwaysMeets check (changed row.amounts (deltas r.changes)) left in
      (granted_where_all_always_met table.checks row.amounts (deltas r.changes) left).1
      (All-from_recursion Always table.checks (has_all Always table.checks (λ check h.
      let Met : List (List ℤ) → Type 0 = λ c. Meets check (all_changed (changed row.amounts (deltas r.changes)) c) in
      All-from_recursion Met (sublists left) (choices_all Met left (λ image choice.
      let of = choice_of_image (changes_to row) (filter keep first) image choice in
      subst Met of.2 (all_has (λ k. Meets k (all_changed (changed row.amounts (deltas r.changes)) (map (changes_to row) of.0))) table.checks (met table row named found of.0 of.1) check h))))))

  at_row : (table : TableDef) (o : Option Row) → table_named s.catalog r.row.table ≡ Some table → row_named s.rows r.row ≡ o
      → option_and_then (λ (row : Row). broken table.checks row.amounts (deltas r.changes) (map (changes_to row) (filter keep first))) o ≡ None
  at_row table None named found = refl
  at_row table (Some row) named found = none_broken table row named found

  at_table : (o : Option TableDef) → table_named s.catalog r.row.table ≡ o
      → option_and_then (λ (table : TableDef). option_and_then (λ (row : Row). broken table.checks row.amounts (deltas r.changes) (map (changes_to row) (filter keep first))) (row_named s.rows r.row)) o ≡ None
  at_table None named = refl
  at_table (Some table) named = at_row table (row_named s.rows r.row) named refl

  pub granted_again : violation_of (record s { reservations = filter keep first }) r ≡ None
  granted_again = at_table (table_named s.catalog r.row.table) refl
