-- What a valid state says about each row, and how to show that rows are safe.
use Rattle.std.specs.Prelude.{◌≡◌, true, false, List, [], Option, Some, None, option_map, IsSome, IsSomeAnd, IsTrue}
use Rattle.std.specs.List.{AllByRecursion}
use Rattle.std.specs.Ordering.{is_lt}
use Rattle.std.proofs.Common.{inl, inr, sym, ap, ◌∙◌, subst}
use Rattle.escrow_num.specs.declared.value.RowName.{RowName}
use Rattle.escrow_num.specs.declared.row.Row.{Row}
use Rattle.escrow_num.specs.declared.reservation.Reservation.{Reservation}
use Rattle.escrow_num.specs.Ascending.{IsAscending}
use Rattle.escrow_num.specs.Order.{same_row, row_cmp}
use Rattle.escrow_schema.specs.declared.table.TableDef.{TableDef}
use Rattle.escrow_machine.specs.State.{State}
use Rattle.escrow_schema.specs.Rows.{row_named, row_after, applied, MeetsChecks, row_before}
use Rattle.escrow_machine.specs.Valid.{IsValid}
use Rattle.escrow_num.proofs.Items.{Has, all_has, has_all, find_has}
use Rattle.escrow_machine.proofs.Applying.{applied_none}
use Rattle.escrow_machine.proofs.Choices.{IsChoice, all_choices, choice_none}
use Rattle.escrow_schema.proofs.Listed.{all_map, all_unmap}
use Rattle.escrow_num.proofs.Ascending.{ascending_one}
use Rattle.escrow_num.proofs.Orders.{by_row, row_total, before_itself, row_same}

-- what holds for the value of an option
pub some_at : {A : Type 0} (P : A → Type 0) (o : Option A) (x : A) → o ≡ Some x → IsSomeAnd o P → P x
some_at P o x e h = subst (λ p. IsSomeAnd p P) e h

pub some_from : {A : Type 0} (P : A → Type 0) (o : Option A) (x : A) → o ≡ Some x → P x → IsSomeAnd o P
some_from P o x e h = subst (λ p. IsSomeAnd p P) (sym e) h

pub some_weaker : {A : Type 0} (P Q : A → Type 0) (o : Option A) → ((x : A) → P x → Q x) → IsSomeAnd o P → IsSomeAnd o Q
some_weaker P Q None each h = h
some_weaker P Q (Some x) each h = each x h

-- a mapped option has a value if the option has one
pub some_image : {A : Type 0} (f : A → A) (o : Option A) → IsSome o → IsSome (option_map f o)
some_image f None h = h
some_image f (Some x) h = h

-- the committed rows are those after the empty choice
pub committed_rows_meet_checks : (s : State) → IsValid s → AllByRecursion (MeetsChecks s.catalog) s.rows
committed_rows_meet_checks s valid =
    subst (AllByRecursion (MeetsChecks s.catalog)) (applied_none s.rows)
    (all_choices (λ (c : List Reservation). AllByRecursion (MeetsChecks s.catalog) (applied s.rows c)) s.reservations valid.safe_rows.safe [] (choice_none s.reservations))

-- in a valid state, each row meets its checks after each choice
pub safe_row : (s : State) → IsValid s → (chosen : List Reservation) → IsChoice s.reservations chosen → (row : Row) → Has s.rows row
    → MeetsChecks s.catalog (row_after chosen row)
safe_row s valid chosen choice row h =
    let all = all_choices (λ c. AllByRecursion (MeetsChecks s.catalog) (applied s.rows c)) s.reservations valid.safe_rows.safe chosen choice in
    all_has (λ r. MeetsChecks s.catalog (row_after chosen r)) s.rows (all_unmap (MeetsChecks s.catalog) (row_after chosen) s.rows all) row h

-- rows that meet their checks after each choice are safe
pub safe_rows : (catalog : List TableDef) (rows : List Row) (chosen : List Reservation)
    → ((row : Row) → Has rows row → MeetsChecks catalog (row_after chosen row)) → AllByRecursion (MeetsChecks catalog) (applied rows chosen)
safe_rows catalog rows chosen each =
    all_map (MeetsChecks catalog) (row_after chosen) rows (has_all (λ r. MeetsChecks catalog (row_after chosen r)) rows each)

-- no row is before a row of the same name
not_before_same : (a b : Row) → a.name ≡ b.name → IsTrue (row_before a b) → ⊥
not_before_same a b names before =
    let at : row_before a a ≡ row_before a b = ap (λ (n : RowName). is_lt (row_cmp a.name n)) names in
    let itself : row_before a a ≡ false = before_itself by_row row_total a in
    absurd (cc)

-- only one row has a given name
pub row_unique : (rows : List Row) (name : RowName) (row other : Row) → IsAscending row_before rows → row_named rows name ≡ Some row
    → Has rows other → same_row other.name name ≡ true → row ≡ other
row_unique rows name row other order found h same =
    let of_row = find_has (λ r. same_row r.name name) rows row found in
    let names : row.name ≡ other.name = row_same row.name name of_row.1 ∙ sym (row_same other.name name same) in
    elim (ascending_one row_before rows order row other of_row.0 h) [
      | inl e ↦ e
      | inr (inl before) ↦ absurd (not_before_same row other names before)
      | inr (inr before) ↦ absurd (not_before_same other row (sym names) before)
    ]
