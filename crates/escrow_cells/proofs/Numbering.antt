-- Rows are numbered if their numbers, in order, are whole and increase.
use Rattle.std.proofs.Common.{◌≡◌, ◌↔◌, ℕ, ℤ, Bool, true, false, Option, Some, None, List, [], ◌∷◌, map, Ordering, Less, Equal, Greater, is_lt, is_gt, is_eq, Result, IfOk, IsTrue, refl, sym, ap, subst, ◌∙◌}
use Rattle.std.specs.Bool.{⊤}
use Rattle.std.specs.List.{AllByRecursion}
use Rattle.std.specs.Ordering.{int_cmp, on}
use Rattle.std.proofs.lemmas.Bool.{true≢false}
use Rattle.std.proofs.lemmas.Cmp.{on_total}
use Rattle.std.proofs.lemmas.List.Sorted.{IsPermutation-sym}
use Rattle.std.proofs.lemmas.Result.{IfOk-weaker}
use Rattle.sqlite_value.specs.declared.value.Value.{Value}
use Rattle.sqlite_value.specs.declared.value.Value.TheVariants.{Null, Int, Real, Text, Blob}
use Rattle.sqlite_value.specs.Order.{Row, value_cmp}
use Rattle.sqlite_value.proofs.OrderLemmas.{value_cmp-Int, value_cmp_total}
use Rattle.sqlite_trees.specs.Tree.{IsAscending, rowid}
use Rattle.sqlite_trees.specs.View.{is_int}
use Rattle.sqlite_trees.proofs.ListLemmas.{all_both, all_weaker, all-map, all_from_map, ascending-map, ascending_from_map}
use Rattle.sqlite_rules.specs.Edit.{id_in}
use Rattle.sqlite_rules.proofs.TableLemmas.{int_is}
use Rattle.sqlite.specs.State.{State, Shown}
use Rattle.escrow_cells.specs.declared.numbered.Numbers.{Numbers}
use Rattle.escrow_cells.specs.Numbered.{is_above, with_number, with_numbers, AreIds}
use Rattle.escrow_cells.specs.Store.{NumbersDiffer, HasTables}
use Rattle.escrow_cells.proofs.Makes.{numbered_permuted}
use Rattle.escrow_cells.proofs.Rising.{ascending_from_sorted}

-- a value is above the last number
abbrev Above : Option ℤ → Value → Type 0
Above None v = ⊤
Above (Some last) v = value_cmp (Int last) v ≡ Less

less : (o : Ordering) → is_lt o ≡ true → o ≡ Less
less Less h = refl
less Equal h = absurd (true≢false (sym h))
less Greater h = absurd (true≢false (sym h))

between : (o : Ordering) → is_gt o ≡ false → is_eq o ≡ false → o ≡ Less
between Less h k = refl
between Equal h k = absurd (true≢false k)
between Greater h k = absurd (true≢false h)

above_int : (last : Option ℤ) (n : ℤ) → is_above last n ≡ true → Above last (Int n)
above_int None n h = tt
above_int (Some last) n h = value_cmp-Int last n ∙ less (int_cmp last n) h

is_above_int : (last : Option ℤ) (n : ℤ) → Above last (Int n) → is_above last n ≡ true
is_above_int None n h = refl
is_above_int (Some last) n h = ap is_lt (sym (value_cmp-Int last n) ∙ h)

above_then : (last : Option ℤ) (n : ℤ) (v : Value) → Above last (Int n) → Above (Some n) v → Above last v
above_then None n v h k = tt
above_then (Some last) n v h k = value_cmp_total.trans (Int last) (Int n) v h k

above_none : (rows : List Row) → AllByRecursion (λ r. Above None (rowid r)) rows
above_none [] = tt
above_none (r ∷ rows) = (tt, above_none rows)

abbrev rising : Option ℤ → Numbers
rising last = record { last = last; rise = true }

abbrev fallen_at : Option ℤ → Numbers
fallen_at last = record { last = last; rise = false }

-- a list that has once failed to increase never increases again
fallen_after : (last : Option ℤ) (rows : List Row) → ((at : Option ℤ) → (with_numbers (fallen_at at) rows).rise ≡ false) → (v : Value) → (with_numbers (with_number (fallen_at last) v) rows).rise ≡ false
fallen_after last rows rest Null = rest last
fallen_after last rows rest (Int n) = rest (Some n)
fallen_after last rows rest (Real x) = rest last
fallen_after last rows rest (Text t) = rest last
fallen_after last rows rest (Blob b) = rest last

fallen : (last : Option ℤ) (rows : List Row) → (with_numbers (fallen_at last) rows).rise ≡ false
fallen last [] = refl
fallen last (r ∷ rows) = fallen_after last rows (λ at. fallen at rows) (rowid r)

never_rises : (last : Option ℤ) (rows : List Row) → (with_numbers (fallen_at last) rows).rise ≡ true → ⊥
never_rises last rows h = true≢false (sym h ∙ fallen last rows)

-- rows are numbered, above a number
record AreAbove (last : Option ℤ) (rows : List Row) : Type 0 where
  numbered : NumbersDiffer rows
  above : AllByRecursion (λ r. Above last (rowid r)) rows

module _ (last : Option ℤ) (r : Row) (rows : List Row) (rest : (n : ℤ) → (with_numbers (rising (Some n)) rows).rise ≡ true → AreAbove (Some n) rows) where
  first_above : (n : ℤ) → rowid r ≡ Int n → is_above last n ≡ true → AreAbove (Some n) rows → AreAbove last (r ∷ rows)
  first_above n is high later =
      let here = above_int last n high in
      record {
        numbered = record {
          whole = (ap is_int is, later.numbered.whole);
          apart = (all_weaker (λ x. Above (Some n) (rowid x)) (λ x. is_eq (value_cmp (rowid r) (rowid x)) ≡ false) (λ x up. ap is_eq (ap (λ v. value_cmp v (rowid x)) is ∙ up)) rows later.above, later.numbered.apart);
        };
        above = (subst (Above last) (sym is) here, all_weaker (λ x. Above (Some n) (rowid x)) (λ x. Above last (rowid x)) (λ x up. above_then last n (rowid x) here up) rows later.above);
      }

  number_above : (n : ℤ) → rowid r ≡ Int n → (b : Bool) → is_above last n ≡ b → (with_numbers (record { last = Some n; rise = b }) rows).rise ≡ true → AreAbove last (r ∷ rows)
  number_above n is true high h = first_above n is high (rest n h)
  number_above n is false high h = absurd (never_rises (Some n) rows h)

  value_above : (v : Value) → rowid r ≡ v → (with_numbers (with_number (rising last) v) rows).rise ≡ true → AreAbove last (r ∷ rows)
  value_above Null is h = absurd (never_rises last rows h)
  value_above (Int n) is h = number_above n is (is_above last n) refl h
  value_above (Real x) is h = absurd (never_rises last rows h)
  value_above (Text t) is h = absurd (never_rises last rows h)
  value_above (Blob b) is h = absurd (never_rises last rows h)

-- if the numbers increase, the rows are numbered
are_above : (last : Option ℤ) (rows : List Row) → (with_numbers (rising last) rows).rise ≡ true → AreAbove last rows
are_above last [] h = record { numbered = record { whole = tt; apart = tt }; above = tt }
are_above last (r ∷ rows) h = value_above last r rows (λ n e. are_above (Some n) rows e) (rowid r) refl h

-- the numbers of numbered rows increase, if none is above a later one
numbers_rise : (last : Option ℤ) (rows : List Row) → NumbersDiffer rows → IsAscending (λ a b. is_gt (value_cmp (rowid a) (rowid b)) ≡ false) rows → AllByRecursion (λ r. Above last (rowid r)) rows
    → (with_numbers (rising last) rows).rise ≡ true
numbers_rise last [] numbered up above = refl
numbers_rise last (r ∷ rows) numbered up above =
    let n = id_in (rowid r) in
    let is = int_is (rowid r) numbered.whole.0 in
    let high = is_above_int last n (subst (Above last) is above.0) in
    let later = all_both (λ x. is_gt (value_cmp (rowid r) (rowid x)) ≡ false) (λ x. is_eq (value_cmp (rowid r) (rowid x)) ≡ false) (λ x. Above (Some n) (rowid x))
    (λ x p q. ap (λ v. value_cmp v (rowid x)) (sym is) ∙ between _ p q) rows up.0 numbered.apart.0 in
    let rest = numbers_rise (Some n) rows (record { whole = numbered.whole.1; apart = numbered.apart.1 }) up.1 later in
    subst (λ v. (with_numbers (with_number (rising last) v) rows).rise ≡ true) (sym is)
    (subst (λ b. (with_numbers (record { last = Some n; rise = b }) rows).rise ≡ true) (sym high) rest)

abbrev id_of : Row → Row
id_of r = rowid r ∷ []

abbrev AreTied : Row → Row → Type 0
AreTied a b = is_eq (value_cmp (rowid a) (rowid b)) ≡ false

ids_numbered : (rows : List Row) → NumbersDiffer rows → NumbersDiffer (map id_of rows)
ids_numbered rows h = record { whole = all-map (λ r. IsTrue (is_int (rowid r))) id_of rows h.whole; apart = ascending-map AreTied id_of rows h.apart }

numbered_ids : (rows : List Row) → NumbersDiffer (map id_of rows) → NumbersDiffer rows
numbered_ids rows h = record { whole = all_from_map (λ r. IsTrue (is_int (rowid r))) id_of rows h.whole; apart = ascending_from_map AreTied id_of rows h.apart }

numbers_tell : (rows answer : List Row) → AreIds rows answer → (rise : Bool) → rise ≡ (with_numbers (rising None) answer).rise → IsTrue rise ↔ NumbersDiffer rows
numbers_tell rows answer ids rise is = (λ h. there (sym is ∙ h), λ numbered. is ∙ back numbered)
  where
    there : (with_numbers (rising None) answer).rise ≡ true → NumbersDiffer rows
    there h = numbered_ids rows (numbered_permuted answer (map id_of rows) (IsPermutation-sym (map id_of rows) answer ids.same_ids) (are_above None answer h).numbered)

    back : NumbersDiffer rows → (with_numbers (rising None) answer).rise ≡ true
    back numbered =
        let up = ascending_from_sorted (on rowid value_cmp) (on_total rowid value_cmp_total) answer ids.in_order in
        numbers_rise None answer (numbered_permuted (map id_of rows) answer ids.same_ids (ids_numbered rows numbered)) up (above_none answer)

-- the same for the answer to a query
pub rise_tells : {E : Type 0} (text : List ℕ) {tree : ℕ} (old new : State) (r : Result Bool E) → ((rows : List Row) → Shown text [] old new rows → HasTables old.now.schema → AreIds (old.now.trees tree) rows)
    → IfOk r (λ rise. HasTables old.now.schema → (rows : List Row) × Shown text [] old new rows × (rise ≡ (with_numbers (rising None) rows).rise)) → IfOk r (λ are. HasTables old.now.schema → (IsTrue are ↔ NumbersDiffer (old.now.trees tree)))
rise_tells text {tree = tree} old new r shown = IfOk-weaker r _ _ (λ rise h has. let told = h has in numbers_tell (old.now.trees tree) told.0 (shown told.0 told.1 has) rise told.2)
