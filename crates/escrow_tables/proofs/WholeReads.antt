-- The rows of the table at a place, among those of all tables.
use Rattle.std.proofs.Common.{◌≡◌, ℕ, suc, zero, ◌+◌, ◌<◌, Bool, true, false, List, [], ◌∷◌, ◌++◌, Some, None, length, drop, find, position, bytes_eq, inl, inr, refl, sym, ap, ◌∙◌, arith, append_assoc, le_refl}
use Rattle.std.specs.Prelude.{IsTrue, nat_lt}
use Rattle.std.specs.List.{position_or_len}
use Rattle.std.proofs.lemmas.Bool.{cases_Bool, cond-true, cond-false, lt-ltb, ltb-true}
use Rattle.sqlite_trees.specs.declared.store.Store.{Ghosts}
use Rattle.escrow_num.specs.Ascending.{IsAscending}
use Rattle.escrow_num.specs.declared.row.Row.{Row}
use Rattle.escrow_num.proofs.Items.{all_has, find_has}
use Rattle.escrow_num.proofs.Orders.{same_name}
use Rattle.escrow_schema.specs.declared.table.TableDef.{TableDef}
use Rattle.escrow_schema.specs.Catalog.{place_named, table_before, table_named}
use Rattle.escrow_schema.specs.Rows.{rows_of}
use Rattle.escrow_tables.specs.Calls.{Reads}
use Rattle.escrow_tables.specs.Tables.{Tables}
use Rattle.escrow_tables.specs.Whole.{rows_by_table}
use Rattle.escrow_tables.proofs.AllRows.{below_differs}

-- ---- the table at a place

abbrev is_named : List ℕ → TableDef → Bool
is_named name t = bytes_eq t.name name

-- a table is at a place, and its name finds it there
pub record IsAtPlace (catalog : List TableDef) (place : ℕ) (t : TableDef) : Type 0 where
  pub placed : place_named catalog t.name ≡ Some place
  pub found : table_named catalog t.name ≡ Some t
  pub rest : drop place catalog ≡ t ∷ drop (place + 1) catalog

first_place : {A : Type 0} (p : A → Bool) (x : A) (xs : List A) → p x ≡ true → position p (x ∷ xs) ≡ Some 0
first_place p x xs passes = rw passes (cond-true (nat_lt 0 (length (x ∷ xs))) (Some 0) None (lt-ltb 0 (length (x ∷ xs)) (omega arith)))

later_place : {A : Type 0} (p : A → Bool) (x : A) (xs : List A) (place : ℕ) → p x ≡ false → position p xs ≡ Some place → position p (x ∷ xs) ≡ Some (suc place)
later_place p x xs place fails at = elim (cases_Bool (nat_lt (position_or_len p xs) (length xs))) [
  | inl less ↦
      let here : Some (position_or_len p xs) ≡ Some place = sym (cond-true (nat_lt (position_or_len p xs) (length xs)) (Some (position_or_len p xs)) None less) ∙ at in
      let is : position_or_len p xs ≡ place = cc in
      rw fails (cond-true (nat_lt (1 + position_or_len p xs) (length (x ∷ xs))) (Some (1 + position_or_len p xs)) None (lt-ltb (1 + position_or_len p xs) (length (x ∷ xs)) (omega (arith, ltb-true (position_or_len p xs) (length xs) less)))
      ∙ ap Some (omega (arith, is)))
  | inr f ↦ absurd (let none : None ≡ Some place = sym (cond-false (nat_lt (position_or_len p xs) (length xs)) (Some (position_or_len p xs)) None f) ∙ at in cc)
]

pub at_place : (catalog : List TableDef) (place : ℕ) → IsAscending table_before catalog → place < length catalog → (t : TableDef) × IsAtPlace catalog place t
at_place [] place order within = absurd (omega arith)
at_place (u ∷ catalog) zero order within = (
  u,
  record {
    placed = first_place (is_named u.name) u catalog (same_name u.name);
    found = cond-true (bytes_eq u.name u.name) (Some u) (find (is_named u.name) catalog) (same_name u.name);
    rest = refl;
  },
)
at_place (u ∷ catalog) (suc place) order within =
    let later = at_place catalog place order.1 (omega arith) in
    let t = later.0 in
    let has = find_has (is_named t.name) catalog t later.1.found in
    let apart : bytes_eq u.name t.name ≡ false = below_differs u.name t.name (all_has (λ v. IsTrue (table_before u v)) catalog order.0 t has.0) in (
      t,
      record {
        placed = later_place (is_named t.name) u catalog place apart later.1.placed;
        found = cond-false (bytes_eq u.name t.name) (Some u) (find (is_named t.name) catalog) apart ∙ later.1.found;
        rest = let next : suc (place + 1) ≡ suc place + 1 = omega arith in later.1.rest ∙ ap (λ (n : ℕ). t ∷ drop n (u ∷ catalog)) next;
      },
    )

-- ---- its rows

-- the definition found by the name at a place is the one at that place
pub one_there : (catalog : List TableDef) (place : ℕ) (t found : TableDef) → IsAtPlace catalog place t
    → ((name : List ℕ) → place_named catalog name ≡ Some place → table_named catalog name ≡ Some found) → found ≡ t
one_there catalog place t found at named =
    let same : Some found ≡ Some t = sym (named t.name at.placed) ∙ at.found in cc

-- the rows read from the table at a place follow those of the earlier tables
pub adds : (catalog : List TableDef) (rows : List Row) (place : ℕ) (t first : TableDef) (found old new : List Row)
    → IsAtPlace catalog place t → first ≡ t → found ≡ rows_of rows first.name → new ≡ old ++ found
    → new ++ rows_by_table rows (drop (place + 1) catalog) ≡ old ++ rows_by_table rows (drop place catalog)
adds catalog rows place t first found old new at one told added =
    let more = rows_by_table rows (drop (place + 1) catalog) in
    let mine = rows_of rows t.name in
    let is : found ≡ mine = told ∙ ap (λ (d : TableDef). rows_of rows d.name) one in
    ap (λ (rs : List Row). rs ++ more) (added ∙ ap (λ (rs : List Row). old ++ rs) is) ∙ append_assoc old mine more
    ∙ ap (λ (ts : List TableDef). old ++ rows_by_table rows ts) (sym at.rest)

-- ---- what a reading call keeps

pub reads_nothing : {S : Type 0} (g : Ghosts S) (t : Tables S) → Reads g t t
reads_nothing g t = record {
  catalog = refl;
  rows = refl;
  usable = λ usable. usable;
  survives = record { clean = le_refl _; shield = λ h. h; counts = le_refl _; limit = refl; closes = λ _ h. inl h; crash = λ _ db h. inl h };
}
