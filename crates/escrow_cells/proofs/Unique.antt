-- The row of a key has at most one cell at a place.
use Rattle.std.proofs.Common.{◌≡◌, ◌≤◌, ℤ, true, false, ◌&&◌, List, [], ◌∷◌, length, filter, Some, refl, sym, ap, ◌∙◌, subst₂, inl, inr, arith}
use Rattle.std.specs.Ordering.{is_eq, is_ne}
use Rattle.std.specs.declared.cmp.Ordering.{Ordering}
use Rattle.std.specs.declared.cmp.Ordering.TheVariants.{Less, Equal, Greater}
use Rattle.std.proofs.lemmas.Bool.{and_from, and_parts, both_ways, cases_Bool}
use Rattle.std.proofs.lemmas.List.{length-map}
use Rattle.sqlite_value.specs.declared.value.Value.{Value}
use Rattle.sqlite_value.specs.declared.value.Value.TheVariants.{Null, Int}
use Rattle.sqlite_value.specs.Keys.{first_key, plain}
use Rattle.sqlite_value.specs.Order.{Row, column, value_cmp}
use Rattle.sqlite_trees.proofs.ListLemmas.{filter-map}
use Rattle.sqlite_trees.specs.Tree.{rowid}
use Rattle.sqlite_trees.specs.View.{is_int}
use Rattle.sqlite_sql.specs.Ops.{binary, is_true, from_truth}
use Rattle.sqlite_schema.specs.Rules.{agree, clashes, differ}
use Rattle.sqlite_rules.specs.Lists.{Has}
use Rattle.sqlite_rules.specs.Edit.{id_in}
use Rattle.sqlite_rules.proofs.KeyLemmas.{agree_back, agree_chain}
use Rattle.sqlite_rules.proofs.ListLemmas.{all_has, has_filtered, some_from}
use Rattle.sqlite_rules.proofs.TableLemmas.{int_is}
use Rattle.sqlite_catalog.proofs.AlterLemmas.{keys_are_unique}
use Rattle.sqlite.specs.Effect.{Database}
use Rattle.escrow_cells.specs.Tables.{cell, cell_tree}
use Rattle.escrow_cells.specs.Store.{IsStore, NumbersDiffer, cells}
use Rattle.escrow_cells.specs.Step.{is_at, same}
use Rattle.escrow_cells.proofs.Leaves.{cell_of}
use Rattle.escrow_cells.proofs.Makes.{numbered_filtered, one_row, tied}

untied : (o : Ordering) → is_eq o ≡ false → is_ne o ≡ true
untied Less apart = refl
untied Equal apart = absurd (cc)
untied Greater apart = refl

-- SQLite finds different numbers different
ints_differ : (m n : ℤ) → is_eq (value_cmp (Int m) (Int n)) ≡ false → differ (Int m) (Int n) ≡ true
unfolding binary
ints_differ m n apart = ap (λ b. is_true (from_truth (Some b))) (untied (value_cmp (Int m) (Int n)) apart)

differs : (a b : Row) → is_int (rowid a) ≡ true → is_int (rowid b) ≡ true → is_eq (value_cmp (rowid a) (rowid b)) ≡ false → differ (rowid a) (rowid b) ≡ true
differs a b whole_a whole_b apart =
    subst₂ (λ (x y : Value). is_eq (value_cmp x y) ≡ false → differ x y ≡ true) (sym (int_is (rowid a) whole_a)) (sym (int_is (rowid b) whole_b)) (ints_differ (id_in (rowid a)) (id_in (rowid b))) apart

-- a cell is at a place if it agrees with a row that has only its table, key and place
module _ (table key place : Value) where
  abbrev probe : Row
  probe = Null ∷ table ∷ key ∷ place ∷ []

  agrees : (r : Row) → is_at table key place (cell_of r) ≡ true → agree plain (1 ∷ 2 ∷ 3 ∷ []) r (1 ∷ 2 ∷ 3 ∷ []) probe ≡ true
  unfolding first_key
  agrees r at =
      let cell = cell_of r in
      let one = same (column cell 0) table in
      let two = same (column cell 1) key in
      let three = same (column cell 2) place in
      let last = and_parts (one && two) three at in
      let first = and_parts one two last.0 in
      and_from one (two && (three && true)) first.0 (and_from two (three && true) first.1 (and_from three true last.1 refl))

  -- two rows of CELL at this place agree, so they cannot both exist
  never_two : (db : Database) → IsStore db → (a b : Row) → Has (db.trees cell_tree) a → Has (db.trees cell_tree) b → is_at table key place (cell_of a) ≡ true → is_at table key place (cell_of b) ≡ true
      → differ (rowid a) (rowid b) ≡ true → ⊥
  never_two db store a b has_a has_b at_a at_b apart =
      let key_places = 1 ∷ 2 ∷ 3 ∷ [] in
      let both = agree_chain plain key_places key_places key_places a probe b (agrees a at_a) (agree_back plain key_places key_places b probe (agrees b at_b)) in
      let clash : clashes plain key_places (db.trees cell_tree) b ≡ true = some_from (λ other. agree plain key_places other key_places b && differ (rowid other) (rowid b)) (db.trees cell_tree) a has_a (and_from _ _ both apart) in
      let listed : Has db.schema.tables cell = rw store.tables.is (inr (inr (inl refl))) in
      both_ways _ (keys_are_unique db.schema db.trees cell 0 key_places b store.sound listed refl has_b) clash

  -- the rows of CELL at this place are one row
  pub only_row : (db : Database) → IsStore db → (a b : Row) → Has (db.trees cell_tree) a → Has (db.trees cell_tree) b → is_at table key place (cell_of a) ≡ true → is_at table key place (cell_of b) ≡ true → a ≡ b
  only_row db store a b has_a has_b at_a at_b =
      let rows = db.trees cell_tree in
      let whole = store.cells_numbered.whole in
      elim (cases_Bool (tied a b)) [
        | inl same ↦ one_row rows a b store.cells_numbered.apart has_a has_b same
        | inr apart ↦ absurd (never_two db store a b has_a has_b at_a at_b (differs a b (all_has _ rows a whole has_a) (all_has _ rows b whole has_b) apart))
      ]

  -- at most one of the distinctly numbered rows is at this place
  one_of : (db : Database) → IsStore db → (found : List Row) → NumbersDiffer found → ((r : Row) → Has found r → Has (db.trees cell_tree) r × (is_at table key place (cell_of r) ≡ true)) → length found ≤ 1
  one_of db store [] numbered is = omega arith
  one_of db store (a ∷ []) numbered is = omega arith
  one_of db store (a ∷ b ∷ more) numbered is =
      let first = is a (inl refl) in
      let second = is b (inr (inl refl)) in
      absurd (never_two db store a b first.0 second.0 first.1 second.1 (differs a b numbered.whole.0 numbered.whole.1.0 numbered.apart.0.0))

  pub one_at : (db : Database) → IsStore db → length (filter (is_at table key place) (cells db)) ≤ 1
  one_at db store =
      let rows = db.trees cell_tree in
      let found = filter (λ r. is_at table key place (cell_of r)) rows in
      let many = ap length (filter-map (is_at table key place) cell_of rows) ∙ length-map found cell_of in
      omega (arith, many, one_of db store found (numbered_filtered (λ r. is_at table key place (cell_of r)) rows store.cells_numbered) (λ r h. has_filtered (λ x. is_at table key place (cell_of x)) rows r h))
