-- ALTER TABLE: the held tables, one of them with other checks.
use Rattle.std.proofs.Common.{◌≡◌, ℕ, Bool, true, false, cond, List, [], ◌∷◌, length, map, get_or, find, Option, Some, refl, sym, ap, ap₂, subst, ◌∙◌, inl, inr, bytes_eq}
use Rattle.std.specs.Prelude.{IsSomeAnd}
use Rattle.std.specs.List.{AllByRecursion}
use Rattle.std.proofs.lemmas.Bool.{cases_Bool, cond-false, cond-true, cond_both}
use Rattle.std.proofs.lemmas.Option.{same_Some}
use Rattle.sqlite_trees.proofs.ListLemmas.{all_weaker}
use Rattle.sqlite_trees.specs.declared.store.Store.{Ghosts}
use Rattle.sqlite.specs.Effect.{Database}
use Rattle.sqlite.specs.Held.{Held, state}
use Rattle.escrow_num.specs.declared.row.Row.{Row}
use Rattle.escrow_num.proofs.Orders.{name_same}
use Rattle.escrow_checks.specs.declared.check.Check.{Check}
use Rattle.escrow_schema.specs.Altered.{with_altered}
use Rattle.escrow_schema.specs.Catalog.{place_named, table_named}
use Rattle.escrow_schema.specs.Definition.{IsTable}
use Rattle.escrow_schema.specs.Fit.{IsRowOf}
use Rattle.escrow_schema.specs.Rows.{rows_of}
use Rattle.escrow_schema.specs.Stored.{IsListed, defined_as, with_definition}
use Rattle.escrow_schema.specs.declared.table.TableDef.{TableDef}
use Rattle.escrow_schema.proofs.CatalogLemmas.{Once, once_named}
use Rattle.escrow_schema.proofs.Listed.{catalog_defined, listed_defined, once_through}
use Rattle.escrow_cells.specs.Calls.{Transacts}
use Rattle.escrow_schema.specs.declared.stored.StoredTable.{StoredTable}
use Rattle.escrow_rows.specs.Changes.{Redefines, with_checks, with_redefined}
use Rattle.escrow_rows.specs.Image.{AreRows, IsOfTables, stored_named}
use Rattle.escrow_rows.specs.View.{rows_in}
use Rattle.escrow_rows.proofs.ListedTables.{listed_are}
use Rattle.escrow_schema.specs.declared.counted_table.CountedTable.{CountedTable}
use Rattle.escrow_tables.specs.Calls.{Writes}
use Rattle.escrow_tables.specs.Inside.{HasCount, IsHeld, Keeps, catalog_of, stored_of}
use Rattle.escrow_tables.proofs.Placed.{IsPlaced, is_placed}
use Rattle.escrow_tables.proofs.Writing.{keeps_on, seen, writes}

-- ---- a list in which the item that passes a test is changed

none_changed : {A : Type 0} (p : A → Bool) (f : A → A) (xs : List A) → AllByRecursion (λ x. p x ≡ false) xs → map (λ x. cond (p x) (f x) x) xs ≡ xs
none_changed p f [] h = refl
none_changed p f (x ∷ xs) h = rw h.0 (ap (λ zs. x ∷ zs) (none_changed p f xs h.1))

-- if at most one item passes, changing that item changes all that pass
one_changed : {A : Type 0} (p : A → Bool) (f h : A → A) (y : A) (xs : List A) → Once p xs → find p xs ≡ Some y → f y ≡ h y → map (λ x. cond (p x) (f x) x) xs ≡ map (λ x. cond (p x) (h x) x) xs
one_changed p f h y [] once is same = refl
one_changed p f h y (x ∷ xs) once is same = elim (cases_Bool (p x)) [
  | inl t ↦
      let first : x ≡ y = same_Some x y (sym (cond-true (p x) (Some x) (find p xs) t) ∙ is) in
      let here : f x ≡ h x = ap f first ∙ same ∙ ap h (sym first) in
      rw t (ap₂ (λ z zs. z ∷ zs) here (none_changed p f xs (once.0 t) ∙ sym (none_changed p h xs (once.0 t))))
  | inr e ↦ rw e (ap (λ zs. x ∷ zs) (one_changed p f h y xs once.1 (sym (cond-false (p x) (Some x) (find p xs) e) ∙ is) same))
]

-- ---- tables, one of which has other checks

-- a table as it is afterwards
abbrev over : List ℕ → List Check → StoredTable → StoredTable
over name checks s = cond (bytes_eq s.table.name name) (with_checks checks s) s

over_name : (name : List ℕ) (checks : List Check) (s : StoredTable) → (over name checks s).table.name ≡ s.table.name
over_name name checks s = cond_both (bytes_eq s.table.name name) (with_checks checks s) s (λ (t : StoredTable). t.table.name ≡ s.table.name) (λ _. refl) (λ _. refl)

over_rows : (name : List ℕ) (checks : List Check) (row : Row) (s : StoredTable) → IsRowOf s.table row → IsRowOf (over name checks s).table row
over_rows name checks row s fits =
    cond_both (bytes_eq s.table.name name) (with_checks checks s) s (λ (t : StoredTable). IsRowOf t.table row)
    (λ _. record { table_name = fits.table_name; key = fits.key; plain = fits.plain; amounts = fits.amounts }) (λ _. fits)

-- what holds of the table found before holds of the one found afterwards
found_over : (P : StoredTable → Type 0) (b : Bool) (s t : StoredTable) (others after : Option StoredTable) → (P s → P t) → (IsSomeAnd others P → IsSomeAnd after P) → IsSomeAnd (cond b (Some s) others) P → IsSomeAnd (cond b (Some t) after) P
found_over P true s t others after here later h = here h
found_over P false s t others after here later h = later h

-- a row of one of the tables still is one
over_of_tables : (name : List ℕ) (checks : List Check) (row : Row) (tables : List StoredTable) → IsOfTables tables row → IsOfTables (with_redefined name checks tables) row
over_of_tables name checks row [] of = of
over_of_tables name checks row (s ∷ tables) of =
    subst (λ (n : List ℕ). IsSomeAnd (cond (bytes_eq n row.name.table) (Some (over name checks s)) (stored_named (with_redefined name checks tables) row.name.table)) (λ t. IsRowOf t.table row)) (sym (over_name name checks s))
    (found_over (λ t. IsRowOf t.table row) (bytes_eq s.table.name row.name.table) s (over name checks s) (stored_named tables row.name.table) _ (over_rows name checks row s) (over_of_tables name checks row tables) of)

over_are_rows : (name : List ℕ) (checks : List Check) (tables : List StoredTable) (rows : List Row) → AreRows tables rows → AreRows (with_redefined name checks tables) rows
over_are_rows name checks tables rows of = record {
  of_tables = all_weaker (IsOfTables tables) (IsOfTables (with_redefined name checks tables)) (λ row. over_of_tables name checks row tables) rows of.of_tables;
  row_order = of.row_order;
  few_rows = of.few_rows;
}

-- ---- the tables with a new definition for one name

-- a table differs from another only in its checks
abbrev pub IsOver : TableDef → TableDef → Type 0
IsOver table old = table ≡ record old { checks = table.checks }

-- the table at the place of its name is that table
pub is_over : (tables : List CountedTable) (place : ℕ) (c : CountedTable) (table : TableDef) → place_named (catalog_of tables) table.name ≡ Some place → c ≡ get_or tables place c
    → IsSomeAnd (table_named (catalog_of tables) table.name) (IsOver table) → IsOver table c.stored.table
is_over tables place c table at item alike =
    subst (λ (o : Option TableDef). IsSomeAnd o (IsOver table)) (is_placed tables table.name place c at item).named.in_catalog alike

module _ (tables : List CountedTable) (place : ℕ) (c : CountedTable) (table : TableDef) (listed : IsListed tables) (is_table : IsTable table)
    (at : place_named (catalog_of tables) table.name ≡ Some place) (item : c ≡ get_or tables place c) (alike : IsOver table c.stored.table) where
  placed : IsPlaced tables table.name place c
  placed = is_placed tables table.name place c at item

  abbrev named : CountedTable → Bool
  named o = bytes_eq o.stored.table.name table.name

  -- a table with the other checks
  abbrev over_checks : CountedTable → CountedTable
  over_checks o = record o { stored = with_checks table.checks o.stored }

  after_checks : with_definition table tables ≡ map (λ (o : CountedTable). cond (named o) (over_checks o) o) tables
  after_checks =
      one_changed named (defined_as table) over_checks c tables
      (once_through (λ (t : TableDef). bytes_eq t.name table.name) (λ (o : CountedTable). o.stored.table) tables (once_named (catalog_of tables) table.name listed.is_catalog.order))
      (sym placed.counted) (ap (λ (t : TableDef). defined_as t c) alike)

  stored_redefined : stored_of (with_definition table tables) ≡ with_redefined table.name table.checks (stored_of tables)
  stored_redefined = ap stored_of after_checks ∙ each tables
    where
      each : (ts : List CountedTable) → stored_of (map (λ (o : CountedTable). cond (named o) (over_checks o) o) ts) ≡ with_redefined table.name table.checks (stored_of ts)
      each [] = refl
      each (o ∷ ts) =
          ap₂ (λ (s : StoredTable) (ss : List StoredTable). s ∷ ss)
          (elim (named o) as (λ b. (cond b (over_checks o) o).stored ≡ cond b (with_checks table.checks o.stored) o.stored) [ true ↦ refl | false ↦ refl ])
          (each ts)

  -- the definition keeps its name
  counts_over : (rows : List Row) (ts : List CountedTable) → AllByRecursion (HasCount rows) ts → AllByRecursion (HasCount rows) (with_definition table ts)
  counts_over rows [] h = tt
  counts_over rows (o ∷ ts) h = (
    cond_both (named o) (defined_as table o) o (HasCount rows) (λ same. h.0 ∙ ap (λ (n : List ℕ). length (rows_of rows n)) (name_same o.stored.table.name table.name same)) (λ _. h.0),
    counts_over rows ts h.1,
  )

  -- the tables are held, with their old rows
  held_over : (rows : List Row) (old db : Database) → IsHeld tables rows old → Redefines c.stored table.checks old db → IsHeld (with_definition table tables) rows db
  held_over rows old db held makes =
      let named : c.stored.table.name ≡ table.name = placed.named.name_is in
      record {
        are_rows = subst (λ (ts : List StoredTable). AreRows ts rows) (sym stored_redefined) (over_are_rows table.name table.checks (stored_of tables) rows held.are_rows);
        image = rw (stored_redefined, ← named) (makes (stored_of tables) rows (listed_are tables listed) held.are_rows placed.named.stands held.image);
        counts = counts_over rows tables held.counts;
      }

  module _ {S : Type 0} (g : Ghosts S) (old new was later : Held S) (is_done : Bool) (it : Transacts (state g old) (state g new) is_done (Redefines c.stored table.checks)) (fields : List CountedTable)
      (keeps : Keeps (state g old) (state g was) tables) (if_done : is_done ≡ true → (fields ≡ with_definition table tables) × (later ≡ new)) (if_not : is_done ≡ false → (fields ≡ tables) × (later ≡ was)) where
    pub redefine_writes : Writes g (seen g old was tables) (seen g new later fields) is_done (with_altered table (catalog_of tables)) (rows_in (stored_of tables) (state g was).now)
    redefine_writes =
        let rows = rows_in (stored_of tables) (state g was).now in
        subst (λ (catalog : List TableDef). Writes g (seen g old was tables) (seen g new later fields) is_done catalog rows) (catalog_defined table tables)
        (writes g old new (Redefines c.stored table.checks) is_done it was later tables (with_definition table tables) fields rows keeps (listed_defined table tables is_table listed)
        (λ usable db makes. held_over rows (state g was).now db (keeps.held usable.0) makes) if_done if_not)

    pub redefine_keeps : Keeps (state g new) (state g later) fields
    redefine_keeps =
        let rows = rows_in (stored_of tables) (state g was).now in
        keeps_on g old new (Redefines c.stored table.checks) is_done it was later tables (with_definition table tables) fields rows keeps (listed_defined table tables is_table listed)
        (λ usable db makes. held_over rows (state g was).now db (keeps.held usable.0) makes) if_done if_not
