-- Rows and tables that pass a test, and what a lookup finds among them.
use Rattle.std.specs.Prelude.{◌≡◌, Bool, true, false, cond, ◌||◌, Option, Some, List, [], ◌∷◌, filter, find, IsSome, IsSomeAnd, bytes_eq, length}
use Rattle.std.specs.List.{AllByRecursion, list_any}
use Rattle.std.proofs.Common.{inl, inr, sym, ap, ◌∙◌, subst, refl, le_trans}
use Rattle.std.proofs.lemmas.Bool.{cond_both, cond-false, false_from_ne_true}
use Rattle.escrow_num.specs.declared.row.Row.{Row}
use Rattle.escrow_num.specs.declared.reservation.Reservation.{Reservation}
use Rattle.escrow_num.specs.Order.{same_row}
use Rattle.escrow_num.proofs.Ascending.{ascending_filter}
use Rattle.escrow_num.proofs.Items.{Has, all_has, has_all, has_filter}
use Rattle.escrow_checks.specs.Grant.{Meets}
use Rattle.escrow_schema.specs.declared.table.TableDef.{TableDef}
use Rattle.escrow_schema.specs.Catalog.{IsCatalog, table_named}
use Rattle.escrow_schema.specs.Column.{reservables}
use Rattle.escrow_schema.specs.Fit.{IsRowOf}
use Rattle.escrow_machine.specs.State.{State}
use Rattle.escrow_schema.specs.Rows.{row_after, applied, HasTable, MeetsChecks, row_before}
use Rattle.escrow_machine.specs.Valid.{IsValid, IsOrderly, IsReservationIn, AreSafeRows, HasRow}
use Rattle.escrow_machine.proofs.Choices.{IsChoice, choices_all}
use Rattle.escrow_machine.proofs.Lengths.{length-filter_filter}
use Rattle.escrow_machine.proofs.Safe.{safe_row, safe_rows}

or_none : (a b : Bool) → (a || b) ≡ false → (a ≡ false) × (b ≡ false)
or_none true b e = absurd (cc)
or_none false b e = (refl, e)

-- if no item passes a test, each fails it
pub any_none : {A : Type 0} (p : A → Bool) (xs : List A) → list_any p xs ≡ false → (x : A) → Has xs x → p x ≡ false
any_none p [] e x h = absurd h
any_none p (y ∷ ys) e x (inl same) = ap p (sym same) ∙ (or_none (p y) (list_any p ys) e).0
any_none p (y ∷ ys) e x (inr h) = any_none p ys (or_none (p y) (list_any p ys) e).1 x h

-- a lookup of an item that is kept finds the same item
pub find_filter : {A : Type 0} (p q : A → Bool) (xs : List A) → ((x : A) → p x ≡ true → q x ≡ true) → find p (filter q xs) ≡ find p xs
find_filter p q [] kept = refl
find_filter {A} p q (x ∷ xs) kept =
    let rest = find_filter p q xs kept in
    cond_both (q x) (x ∷ filter q xs) (filter q xs) (λ zs. find p zs ≡ find p (x ∷ xs))
    (λ _. ap (λ (o : Option A). cond (p x) (Some x) o) rest)
    (λ f. rest ∙ sym (cond-false (p x) (Some x) (find p xs) (false_from_ne_true (p x) (λ t. let yes = kept x t in absurd (cc)))))

-- if a reservation's row is kept, it is still found
still_stands : (keep : Row → Bool) (rows : List Row) (r : Reservation) → ((row : Row) → same_row row.name r.row ≡ true → keep row ≡ true)
    → HasRow rows r → HasRow (filter keep rows) r
still_stands keep rows r kept h = subst (λ (o : Option Row). IsSome o) (sym (find_filter (λ (x : Row). same_row x.name r.row) keep rows kept)) h

-- the kept rows are safe if their tables are kept, and so are the rows of open reservations
pub kept_safe : (s : State) (keep : Row → Bool) (catalog : List TableDef) → IsValid s
    → ((row : Row) → keep row ≡ true → table_named catalog row.name.table ≡ table_named s.catalog row.name.table)
    → ((r : Reservation) → Has s.reservations r → (row : Row) → same_row row.name r.row ≡ true → keep row ≡ true)
    → AreSafeRows catalog (filter keep s.rows) s.reservations
kept_safe s keep catalog valid found kept =
    let rows : List Row = filter keep s.rows in
    let Safe : List Reservation → Type 0 = λ c. AllByRecursion (MeetsChecks catalog) (applied rows c) in
    let met : (c : List Reservation) → IsChoice s.reservations c → (row : Row) → Has rows row → MeetsChecks catalog (row_after c row) = λ c choice row h.
    let was = has_filter keep s.rows row h in
    subst (λ (o : Option TableDef). IsSomeAnd o (λ t. AllByRecursion (λ check. Meets check (row_after c row).amounts) t.checks)) (sym (found row was.1)) (safe_row s valid c choice row was.0) in
    record {
      tables = has_all (HasTable catalog) rows (λ row h.
          let was = has_filter keep s.rows row h in
          subst (λ (o : Option TableDef). IsSomeAnd o (λ t. IsRowOf t row)) (sym (found row was.1)) (all_has (HasTable s.catalog) s.rows valid.safe_rows.tables row was.0));
      row_order = ascending_filter row_before keep s.rows valid.safe_rows.row_order;
      few_rows = λ t. le_trans (length-filter_filter (λ r. bytes_eq r.name.table t) keep s.rows) (valid.safe_rows.few_rows t);
      reserved_rows = has_all (HasRow rows) s.reservations (λ r h.
          still_stands keep s.rows r (kept r h) (all_has (HasRow s.rows) s.reservations valid.safe_rows.reserved_rows r h));
      safe = choices_all Safe s.reservations (λ c h. safe_rows catalog rows c (met c h));
    }

-- a reservation has one change for each RESERVABLE column of its table
abbrev pub HasChanges : List TableDef → Reservation → Type 0
HasChanges catalog r = IsSomeAnd (table_named catalog r.row.table) (λ table. length r.changes ≡ length (reservables table.columns))

-- the order of a state holds with another catalog, if each open reservation finds its table unchanged there
pub over_catalog : (s : State) (catalog : List TableDef) → IsOrderly s.catalog s.reservations s.savepoints s.next_id → IsCatalog catalog
    → ((r : Reservation) → Has s.reservations r → HasChanges s.catalog r → HasChanges catalog r)
    → IsOrderly catalog s.reservations s.savepoints s.next_id
over_catalog s catalog orderly tables found =
    let still_in : (r : Reservation) → Has s.reservations r → IsReservationIn catalog s.next_id r = λ r h.
    let was = all_has (IsReservationIn s.catalog s.next_id) s.reservations orderly.reservations_in r h in
    record { session = was.session; first = was.first; below = was.below; changes = found r h was.changes } in
    record {
      tables = tables;
      reservations_in = has_all (IsReservationIn catalog s.next_id) s.reservations still_in;
      reservation_order = orderly.reservation_order;
      few_reservations = orderly.few_reservations;
      few_on_rows = orderly.few_on_rows;
      savepoints_in = orderly.savepoints_in;
      savepoint_order = orderly.savepoint_order;
      few_savepoints = orderly.few_savepoints;
      first_id = orderly.first_id;
      last_id = orderly.last_id;
    }
