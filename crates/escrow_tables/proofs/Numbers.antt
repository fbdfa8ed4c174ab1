-- Numbers for tables: what a search from a number on finds.
use Rattle.std.proofs.Common.{◌≡◌, ℕ, ◌+◌, ◌≤◌, ℤ, pos, negsuc, ◌+ℤ◌, ◌≤ℤ◌, int_le, Bool, true, false, List, [], ◌∷◌, Option, Some, None, sym, subst, inl, inr, arith}
use Rattle.std.specs.Borrow.{Bor}
use Rattle.std.specs.Fn.{CalledAt}
use Rattle.std.specs.Int.{int_gap}
use Rattle.std.specs.Iterator.{FindsItem, Yields}
use Rattle.std.specs.List.{AllByRecursion, FoldsTo, list_any}
use Rattle.std.specs.Ordering.{int_eq}
use Rattle.std.specs.Prelude.{◌≢◌, IfSome}
use Rattle.std.specs.Range.{range_inclusive_left, range_inclusive_steps}
use Rattle.std.specs.declared.ops.RangeInclusive.{RangeInclusive}
use Rattle.std.proofs.lemmas.Bool.{cases_Bool, or_parts}
use Rattle.std.proofs.lemmas.Bool.Decides.{nat_tests, Decides-int_eq}
use Rattle.std.proofs.lemmas.Int.{ints}
use denote.Param.Members.{Mut}
use Rattle.escrow_schema.specs.declared.counted_table.CountedTable.{CountedTable}

-- the steps of a range of numbers
abbrev steps : RangeInclusive ℤ → Option ℤ → RangeInclusive ℤ → Type 0
steps = range_inclusive_steps int_gap (λ x y. y ≡ x +ℤ pos 1)

-- a range with a number left is not exhausted
unspent : (s : RangeInclusive ℤ) (n : ℕ) → n + 1 ≡ range_inclusive_left int_gap s → s.exhausted ≡ false
unspent s n left = elim (cases_Bool s.exhausted) [ inl t ↦ absurd (let k : n + 1 ≡ 0 = rw t at left in omega arith) | inr f ↦ f ]

-- calls move the start only upwards
led_up : (s t : RangeInclusive ℤ) (xs : List ℤ) → Yields steps s xs t → t.exhausted ≡ false → (s.exhausted ≡ false) × (s.start ≤ℤ t.start)
led_up s t [] e left = subst (λ u. (s.exhausted ≡ false) × (s.start ≤ℤ u.start)) e (subst (λ (u : RangeInclusive ℤ). u.exhausted ≡ false) (sym e) left, omega (arith, ints))
led_up s t (x ∷ xs) (j, step, more) left =
    let later = led_up j t xs more left in
    let next = step.1.2 later.0 in
    (unspent s (range_inclusive_left int_gap j) step.1.1, omega (arith, ints, later.1, next))

-- what a search from a number on finds, if its test does not change
pub found_from : {F : Type 0} {g : Mut F (Bor ℤ × Unit {0}) Bool} (Yes : ℤ → Type 0) (s u : RangeInclusive ℤ) (f : F) (r : Option ℤ) → FindsItem steps g s f r u
    → ((x : ℤ) (q : F) → CalledAt g f x true q → Yes x) → ((x : ℤ) (q : F) → CalledAt g f x false q → q ≡ f)
    → IfSome r (λ x. (s.start ≤ℤ x) × Yes x)
found_from Yes s u f None ran found same = tt
found_from {F} {g} Yes s u f (Some x) (xs, j, (t, led, step), folds, (h, called)) found same =
    let up = led_up s t xs led (unspent t (range_inclusive_left int_gap u) step.1.1) in
    let from : s.start ≤ℤ x = subst (λ n. s.start ≤ℤ n) (sym step.1.0) up.1 in
    let stays : f ≡ j = unmoved xs j folds same in
    (from, found x h (subst (λ k. CalledAt g k x true h) (sym stays) called))
  where
    unmoved : (xs : List ℤ) (j : F) → FoldsTo (λ p x q. CalledAt g p x false q) f xs j → ((x : ℤ) (q : F) → CalledAt g f x false q → q ≡ f) → f ≡ j
    unmoved [] j e same = e
    unmoved (x ∷ xs) j (k, called, more) same = unmoved xs j (subst (λ q. FoldsTo (λ p x q. CalledAt g p x false q) q xs j) (same x k called) more) same

-- the test that a number is at least 1
pub from_one : (id : ℤ) → pos 1 ≤ℤ id → int_le (pos 1) id ≡ true
from_one (pos n) h = let above : 1 ≤ n = omega (arith, ints) in grind (arith, nat_tests)
from_one (negsuc n) h = absurd (omega (arith, ints))

-- if no table passes the test for a number, no table has the number
pub no_table_has : (tables : List CountedTable) (id : ℤ) → list_any (λ c. int_eq c.stored.id id) tables ≡ false → AllByRecursion (λ (c : CountedTable). c.stored.id ≢ id) tables
no_table_has [] id h = tt
no_table_has (c ∷ cs) id h =
    let parts = or_parts (int_eq c.stored.id id) (list_any (λ (d : CountedTable). int_eq d.stored.id id) cs) h in
    ((λ e. absurd (cc ((Decides-int_eq c.stored.id id).1 e))), no_table_has cs id parts.1)
