-- ALTER TABLE: the image in which one table has other checks.
use Rattle.std.proofs.Common.{◌≡◌, ℕ, ℤ, Bool, true, false, cond, not, List, [], ◌∷◌, Option, Some, None, map, flat_map, refl, sym, ap, ◌∙◌, subst, inl, inr, IsPermutation}
use Rattle.std.specs.Borrow.{Bor}
use Rattle.std.specs.Prelude.{bytes_eq, option_map, unwrap_or, IsTrue}
use Rattle.std.specs.List.{AllByRecursion}
use Rattle.std.proofs.lemmas.Bool.{cases_Bool}
use Rattle.std.proofs.lemmas.List.Sorted.{IsPermutation-cons, IsPermutation-middle, IsPermutation-refl, IsPermutation-trans}
use Rattle.std.proofs.lemmas.Option.{same_Some}
use Rattle.sqlite_value.specs.Order.{Row as SqlRow}
use Rattle.sqlite_trees.proofs.ListLemmas.{all_weaker, filter_all, IsPermutation-filter}
use Rattle.sqlite.specs.Effect.{Database}
use Rattle.escrow_num.specs.Ascending.{IsAscending}
use Rattle.escrow_num.specs.declared.row.Row.{Row}
use Rattle.escrow_num.proofs.Items.{has_all}
use Rattle.escrow_num.proofs.Orders.{name_same, same_name}
use Rattle.escrow_checks.specs.declared.check.Check.{Check}
use Rattle.escrow_schema.specs.declared.table.TableDef.{TableDef}
use Rattle.escrow_schema.specs.Print.{canonical}
use Rattle.escrow_cells.specs.declared.step.Step.TheVariants as step
use Rattle.escrow_cells.specs.Step.{Does}
use Rattle.escrow_schema.specs.declared.stored.StoredTable.{StoredTable}
use Rattle.escrow_rows.specs.Image.{cells_in, cells_of, stored_named, tab_row}
use Rattle.escrow_rows.specs.Changes.{Redefines, with_checks, with_redefined, without_stored}
use Rattle.escrow_rows.proofs.Cells.{never_apart, stands_has}
use Rattle.escrow_rows.proofs.ImageTables.{pieces_same, tabs_left}
use Rattle.escrow_rows.proofs.Images.{image_after}

-- a table as the redefinition leaves it
abbrev redefined : List ℕ → List Check → StoredTable → StoredTable
redefined name checks t = cond (bytes_eq t.table.name name) (with_checks checks t) t

-- ---- the cells of rows

name_either : (checks : List Check) (t : StoredTable) (b : Bool) → (cond b (with_checks checks t) t).table.name ≡ t.table.name
name_either checks t true = refl
name_either checks t false = refl

cells_either : (checks : List Check) (t : StoredTable) (row : Row) (b : Bool) → cells_in (cond b (with_checks checks t) t) row ≡ cells_in t row
cells_either checks t row true = refl
cells_either checks t row false = refl

found_one : (b c : Bool) (t : StoredTable) (f : StoredTable → StoredTable) (new old : Option StoredTable) → c ≡ b → new ≡ option_map f old → cond c (Some (f t)) new ≡ option_map f (cond b (Some t) old)
found_one true c t f new old same rest = rw same refl
found_one false c t f new old same rest = rw same rest

-- the table with this name is the redefined one
named_redefined : (name : List ℕ) (checks : List Check) (other : List ℕ) (tables : List StoredTable)
    → stored_named (with_redefined name checks tables) other ≡ option_map (redefined name checks) (stored_named tables other)
named_redefined name checks other [] = refl
named_redefined name checks other (t ∷ tables) =
    found_one (bytes_eq t.table.name other) (bytes_eq (redefined name checks t).table.name other) t (redefined name checks)
    (stored_named (with_redefined name checks tables) other) (stored_named tables other)
    (ap (λ (n : List ℕ). bytes_eq n other) (name_either checks t (bytes_eq t.table.name name)))
    (named_redefined name checks other tables)

cells_found : (name : List ℕ) (checks : List Check) (row : Row) (o : Option StoredTable)
    → unwrap_or (option_map (λ (s : StoredTable). cells_in s row) (option_map (redefined name checks) o)) [] ≡ unwrap_or (option_map (λ (s : StoredTable). cells_in s row) o) []
cells_found name checks row None = refl
cells_found name checks row (Some t) = cells_either checks t row (bytes_eq t.table.name name)

-- rows keep their cells
cells_stay : (name : List ℕ) (checks : List Check) (tables : List StoredTable) (rows : List Row) → flat_map (cells_of (with_redefined name checks tables)) rows ≡ flat_map (cells_of tables) rows
cells_stay name checks tables rows =
    pieces_same (cells_of (with_redefined name checks tables)) (cells_of tables) rows
    (has_all (λ (row : Row). cells_of (with_redefined name checks tables) row ≡ cells_of tables row) rows (λ row has.
    ap (λ (o : Option StoredTable). unwrap_or (option_map (λ (s : StoredTable). cells_in s row) o) []) (named_redefined name checks row.name.table tables)
    ∙ cells_found name checks row (stored_named tables row.name.table)))

-- ---- the rows of TAB

-- tables of other names
others_stay : (name : List ℕ) (checks : List Check) (tables : List StoredTable) → AllByRecursion (λ t. bytes_eq t.table.name name ≡ false) tables → with_redefined name checks tables ≡ tables
others_stay name checks [] apart = refl
others_stay name checks (t ∷ tables) apart = rw (apart.0, others_stay name checks tables apart.1) refl

others_kept : (name : List ℕ) (tables : List StoredTable) → AllByRecursion (λ t. bytes_eq t.table.name name ≡ false) tables → without_stored name tables ≡ tables
others_kept name tables apart =
    filter_all (λ (t : StoredTable). not (bytes_eq t.table.name name)) tables
    (all_weaker (λ (t : StoredTable). bytes_eq t.table.name name ≡ false) (λ (t : StoredTable). not (bytes_eq t.table.name name) ≡ true) (λ t e. ap not e) tables apart)

-- a name that differs from one of two equal names differs from the other
other_name : (first second name : List ℕ) → first ≡ name → not (bytes_eq first second) ≡ true → bytes_eq second name ≡ false
other_name first second name is apart = elim (cases_Bool (bytes_eq second name)) [
  | inl same ↦ absurd (never_apart (bytes_eq first second) (ap (λ (n : List ℕ). bytes_eq n second) (is ∙ sym (name_same second name same)) ∙ same_name second) apart)
  | inr other ↦ other
]

-- the rows of TAB, one of them redefined, are that row and the rows of the other tables
tabs_redefined : (name : List ℕ) (checks : List Check) (s : StoredTable) (tables : List StoredTable)
    → IsAscending (λ a b. not (bytes_eq a.table.name b.table.name)) tables → stored_named tables name ≡ Some s
    → IsPermutation (map tab_row (with_redefined name checks tables)) (tab_row (with_checks checks s) ∷ map tab_row (without_stored name tables))
tabs_redefined name checks s [] apart is = absurd (cc (is))
tabs_redefined name checks s (t ∷ tables) apart is = elim (cases_Bool (bytes_eq t.table.name name)) [
  | inl same ↦ here same
  | inr other ↦ there other (tabs_redefined name checks s tables apart.1 (sym (ap (λ (b : Bool). cond b (Some t) (stored_named tables name)) other) ∙ is))
]
  where
    tab : SqlRow
    tab = tab_row (with_checks checks s)

    all : List StoredTable → List SqlRow
    all ts = map tab_row (with_redefined name checks ts)

    rest : List StoredTable → List SqlRow
    rest ts = map tab_row (without_stored name ts)

    here : bytes_eq t.table.name name ≡ true → IsPermutation (all (t ∷ tables)) (tab ∷ rest (t ∷ tables))
    here same =
        let found : t ≡ s = same_Some t s (sym (ap (λ (b : Bool). cond b (Some t) (stored_named tables name)) same) ∙ is) in
        let others : AllByRecursion (λ (u : StoredTable). bytes_eq u.table.name name ≡ false) tables =
        all_weaker (λ (u : StoredTable). IsTrue (not (bytes_eq t.table.name u.table.name))) (λ (u : StoredTable). bytes_eq u.table.name name ≡ false)
        (λ u k. other_name t.table.name u.table.name name (name_same t.table.name name same) k) tables apart.0 in
        let first : all (t ∷ tables) ≡ tab ∷ map tab_row tables =
        rw (same, others_stay name checks tables others) (ap (λ (u : StoredTable). tab_row (with_checks checks u) ∷ map tab_row tables) found) in
        let second : rest (t ∷ tables) ≡ map tab_row tables = rw same (ap (map tab_row) (others_kept name tables others)) in
        subst (λ (xs : List SqlRow). IsPermutation xs (tab ∷ rest (t ∷ tables))) (sym first)
        (subst (λ (xs : List SqlRow). IsPermutation (tab ∷ map tab_row tables) (tab ∷ xs)) (sym second) (IsPermutation-refl (tab ∷ map tab_row tables)))

    there : bytes_eq t.table.name name ≡ false → IsPermutation (all tables) (tab ∷ rest tables) → IsPermutation (all (t ∷ tables)) (tab ∷ rest (t ∷ tables))
    there other later =
        let first : all (t ∷ tables) ≡ tab_row t ∷ all tables = rw other refl in
        let second : rest (t ∷ tables) ≡ tab_row t ∷ rest tables = rw other refl in
        subst (λ (xs : List SqlRow). IsPermutation xs (tab ∷ rest (t ∷ tables))) (sym first)
        (subst (λ (xs : List SqlRow). IsPermutation (tab_row t ∷ all tables) (tab ∷ xs)) (sym second)
        (IsPermutation-trans _ _ _ (IsPermutation-cons (tab_row t) _ _ later) (IsPermutation-middle (tab_row t ∷ []) tab (rest tables))))

-- ---- the steps

-- the steps of ALTER TABLE remove the table's row and add one with other checks
pub redefines : (s : StoredTable) (altered : TableDef) (id : ℤ) (name text : Bor (List ℕ)) → id ≡ s.id → altered ≡ record s.table { checks = altered.checks } → name.now ≡ altered.name → text.now ≡ canonical altered
    → (old new : Database) → Does (step.DeleteTab id ∷ step.InsertTab id name text ∷ []) old new → Redefines s altered.checks old new
redefines s altered id name text number alike named written old new does tables rows are of stands =
    let checks = altered.checks in
    let called : name.now ≡ s.table.name = named ∙ ap (λ (t : TableDef). t.name) alike in
    let printed : text.now ≡ canonical (with_checks checks s).table = written ∙ ap canonical alike in
    let has = stands_has tables s stands in
    image_after (step.DeleteTab id ∷ step.InsertTab id name text ∷ []) tables (with_redefined s.table.name checks tables) rows rows old new does (λ coded. record {
      tabs_are = rw (number, called, printed) (IsPermutation-trans _ _ _ (tabs_redefined s.table.name checks s tables are.names_apart stands)
          (IsPermutation-cons (tab_row (with_checks checks s)) _ _ (rw (← tabs_left tables s are has) (IsPermutation-filter _ _ _ coded.tabs_are))));
      cells_are = rw (cells_stay s.table.name checks tables rows) coded.cells_are;
    })
