-- What SHOW BOUNDS shows of what is kept.
use Rattle.std.specs.Prelude.{◌≡◌, ◌<◌, ◌≤◌, ◌-◌, ℕ, zero, suc, ℤ, [], ◌∷◌, false, length, slice_get, take, Some, List, map}
use Rattle.std.specs.List.{AllByRecursion, list_any}
use Rattle.std.proofs.Common.{refl, sym, ap, ap₂, subst, ◌∙◌, arith, get_or}
use Rattle.std.proofs.lemmas.Bool.{cond-false, or_parts}
use Rattle.std.proofs.lemmas.List.{length-map}
use Rattle.escrow_num.specs.declared.reservation.Reservation.{Reservation}
use Rattle.escrow_num.specs.Reservation.{changes_at, deltas}
use Rattle.escrow_checks.specs.declared.check.Check.{Check}
use Rattle.escrow_checks.specs.Checks.{unit_of}
use Rattle.escrow_checks.specs.Condition.{amount_of}
use Rattle.escrow_checks.specs.Form.{IsCovered}
use Rattle.escrow_checks.proofs.CoefficientsLemmas.{length-unit_of}
use Rattle.escrow_bounds.specs.Held.{of_row}
use Rattle.escrow_bounds.specs.Place.{Tracked, checks_of}
use Rattle.escrow_bounds.proofs.LawLemmas.{other_way, same_extremes}
use Rattle.escrow_num.specs.declared.value.RowName.{RowName}
use Rattle.escrow_num.specs.Order.{same_row}
use Rattle.escrow_schema.specs.declared.column.Column.{Column}
use Rattle.escrow_schema.specs.declared.table.TableDef.{TableDef}
use Rattle.escrow_schema.specs.Column.{names_of, reservables, scale_of}
use Rattle.escrow_schema.specs.Definition.{IsTable}
use Rattle.escrow_schema.specs.Print.{declared_checks}
use Rattle.escrow_machine.specs.declared.reply.Reply.TheVariants as reply
use Rattle.escrow_machine.specs.Bounds.{bounds_in, bounds_over, check_bounds, column_bounds}
use Rattle.escrow_machine.specs.declared.reply.CheckBounds.{CheckBounds}
use Rattle.escrow_machine.specs.declared.reply.ColumnBounds.{ColumnBounds}
use Rattle.escrow_machine.proofs.BoundsLemmas.{names_shown, split}
use Rattle.escrow_machine.proofs.Shapes.{covered}

-- equal lists have equal first items and equal rests
first_same : {A : Type 0} {x y : A} {xs ys : List A} → x ∷ xs ≡ y ∷ ys → x ≡ y
first_same is = cc

rest_same : {A : Type 0} {x y : A} {xs ys : List A} → x ∷ xs ≡ y ∷ ys → xs ≡ ys
rest_same is = cc

pub all_take : {A : Type 0} (P : A → Type 0) (n : ℕ) (xs : List A) → AllByRecursion P xs → AllByRecursion P (take n xs)
all_take P zero xs all = tt
all_take P (suc n) [] all = tt
all_take P (suc n) (x ∷ xs) all = (all.0, all_take P n xs all.1)

-- the form of a place at the index of a check
pub record FormAt (forms : List Tracked) (i : ℕ) (check : Check) : Type 0 where
  pub form : Tracked
  pub at : slice_get forms i ≡ Some form
  pub same : form.check ≡ check

pub form_at : (forms : List Tracked) (checks : List Check) (i : ℕ) (check : Check) → checks_of forms ≡ checks → i < length checks → check ≡ get_or checks i check → FormAt forms i check
form_at [] [] i check is below at = absurd (omega (arith, below))
form_at [] (c ∷ checks) i check is below at = absurd (cc)
form_at (form ∷ forms) [] i check is below at = absurd (cc)
form_at (form ∷ forms) (c ∷ checks) zero check is below at = record { form = form; at = refl; same = first_same is ∙ sym at }
form_at (form ∷ forms) (c ∷ checks) (suc i) check is below at =
    let rest = form_at forms checks i check (rest_same is) (omega (arith, below)) at in
    record { form = rest.form; at = rest.at; same = rest.same }

pub many_forms : (forms : List Tracked) (checks : List Check) (i : ℕ) → checks_of forms ≡ checks → i < length checks → i < length forms
many_forms forms checks i is below = omega (arith, below, length-map forms (λ (form : Tracked). form.check), ap length is)

-- the bounds of a row over all open reservations are those over its own
check_same : (amounts : List ℤ) (row : RowName) (held : List Reservation) (checks : List Check) → AllByRecursion (λ (check : Check). IsCovered check.coeffs amounts) checks
    → map (check_bounds amounts (map (changes_at row) held)) checks ≡ map (check_bounds amounts (of_row row held)) checks
check_same amounts row held [] covered = refl
check_same amounts row held (check ∷ checks) covered =
    let ends = same_extremes check.coeffs amounts row held covered.0 in
    ap₂ (λ (b : CheckBounds) (bs : List CheckBounds). b ∷ bs)
    (ap₂ (λ (low high : ℤ). record { check = check.name; scale = check.scale; least = low; greatest = high; limits = check.span }) ends.0 ends.1) (check_same amounts row held checks covered.1)

column_same : (names : List (List ℕ)) (amounts : List ℤ) (row : RowName) (held : List Reservation) (shown : List Column) → length names ≤ length amounts
    → map (column_bounds names amounts (map (changes_at row) held)) shown ≡ map (column_bounds names amounts (of_row row held)) shown
column_same names amounts row held [] few = refl
column_same names amounts row held (column ∷ shown) few =
    let unit = unit_of names column.name in
    let covered : IsCovered unit amounts = omega (arith, length-unit_of names column.name, few) in
    let ends = same_extremes unit amounts row held covered in
    ap₂ (λ (b : ColumnBounds) (bs : List ColumnBounds). b ∷ bs)
    (ap₂ (λ (low high : ℤ). record { column = column.name; scale = scale_of column.kind; value = amount_of names amounts column.name; inf = low; sup = high }) ends.0 ends.1) (column_same names amounts row held shown few)

pub bounds_same : (table : TableDef) (amounts : List ℤ) (row : RowName) (held : List Reservation) → IsTable table → length amounts ≡ length (reservables table.columns)
    → bounds_over (of_row row held) table amounts ≡ bounds_in held table row amounts
bounds_same table amounts row held is_table many =
    let names = names_of (reservables table.columns) in
    let few : length names ≤ length amounts = omega (arith, many, names_shown (reservables table.columns)) in
    let s = split table amounts is_table many in
    let all = covered table amounts is_table many in
    let declared : AllByRecursion (λ (check : Check). IsCovered check.coeffs amounts) (declared_checks table) =
    subst (AllByRecursion (λ (check : Check). IsCovered check.coeffs amounts)) s.declared (all_take (λ (check : Check). IsCovered check.coeffs amounts) (length table.checks - length amounts) table.checks all) in
    sym (ap₂ (λ (columns : List ColumnBounds) (checks : List CheckBounds). reply.Bounds columns checks) (column_same names amounts row held (reservables table.columns) few) (check_same amounts row held (declared_checks table) declared))

-- a row that is not reserved has no open reservations
pub free_list : (row : RowName) (held : List Reservation) → list_any (λ r. same_row r.row row) held ≡ false → of_row row held ≡ []
free_list row [] free = refl
free_list row (r ∷ held) free =
    let tests = or_parts (same_row r.row row) (list_any (λ x. same_row x.row row) held) free in
    cond-false (same_row row r.row) (deltas r.changes ∷ of_row row held) (of_row row held) (other_way r.row row tests.0) ∙ free_list row held tests.1

pub free_same : (table : TableDef) (amounts : List ℤ) (row : RowName) (held : List Reservation) → IsTable table → length amounts ≡ length (reservables table.columns)
    → list_any (λ r. same_row r.row row) held ≡ false → bounds_over [] table amounts ≡ bounds_in held table row amounts
free_same table amounts row held is_table many free =
    ap (λ (reservations : List (List ℤ)). bounds_over reservations table amounts) (sym (free_list row held free)) ∙ bounds_same table amounts row held is_table many
