-- Changes are added to amounts, column by column.
use Rattle.std.proofs.Common.{◌≡◌, ℕ, zero, suc, ◌+◌, ℤ, pos, ◌+ℤ◌, ◌<◌, ◌≤◌, Bool, true, false, cond, Option, unwrap_or, List, [], ◌∷◌, ◌++◌, length, set, get_or, take, refl, sym, ap, ap₂, ◌∙◌, subst, arith, add-one}
use Rattle.std.proofs.lemmas.Int.{ints}
use Rattle.std.proofs.lemmas.List.{map_more}
use Rattle.escrow_num.specs.Amount.{is_amount}
use Rattle.escrow_num.specs.Reservation.{deltas}
use Rattle.escrow_bounds.specs.Moved.{moved, all_moved}

pub length-all_moved : (amounts changes : List ℤ) → length (all_moved amounts changes) ≡ length amounts
length-all_moved [] changes = refl
length-all_moved (a ∷ rest) [] = refl
length-all_moved (a ∷ rest) (c ∷ changes) = ap suc (length-all_moved rest changes)

pub moved_none : (amounts : List ℤ) → all_moved amounts [] ≡ amounts
moved_none [] = refl
moved_none (a ∷ rest) = refl

moved_zero : (a : ℤ) → moved a (pos 0) ≡ a
moved_zero a = go (is_amount (a +ℤ pos 0))
  where
    same : a +ℤ pos 0 ≡ a
    same = omega (arith, ints)

    go : (b : Bool) → cond b (a +ℤ pos 0) a ≡ a
    go true = same
    go false = refl

set_zero : (amounts : List ℤ) (place : ℕ) (a : ℤ) → place < length amounts → a ≡ get_or amounts place a → set amounts place (moved a (pos 0)) ≡ amounts
set_zero [] place a below is = absurd (omega (arith, below))
set_zero (x ∷ rest) zero a below is = ap (λ (y : ℤ). y ∷ rest) (moved_zero a ∙ is)
set_zero (x ∷ rest) (suc place) a below is = ap (λ (ys : List ℤ). x ∷ ys) (set_zero rest place a (omega (arith, below)) is)

moved_suc : (amounts changes : List ℤ) (place : ℕ) (a : ℤ) → place < length amounts → a ≡ get_or (all_moved amounts (take place changes)) place a
    → set (all_moved amounts (take place changes)) place (moved a (get_or changes place (pos 0))) ≡ all_moved amounts (take (suc place) changes)
moved_suc [] changes place a below is = absurd (omega (arith, below))
moved_suc (x ∷ rest) [] zero a below is = set_zero (x ∷ rest) zero a below is
moved_suc (x ∷ rest) [] (suc place) a below is = set_zero (x ∷ rest) (suc place) a below is
moved_suc (x ∷ rest) (c ∷ changes) zero a below is = ap₂ (λ (y : ℤ) (ys : List ℤ). y ∷ ys) (ap (λ (y : ℤ). moved y c) is) (sym (moved_none rest))
moved_suc (x ∷ rest) (c ∷ changes) (suc place) a below is = ap (λ (ys : List ℤ). moved x c ∷ ys) (moved_suc rest changes place a (omega (arith, below)) is)

-- one more change is added
pub moved_more : (amounts changes now : List ℤ) (place : ℕ) (a : ℤ) → place < length amounts → now ≡ all_moved amounts (take place changes) → a ≡ get_or now place a
    → set now place (moved a (get_or changes place (pos 0))) ≡ all_moved amounts (take (place + 1) changes)
moved_more amounts changes now place a below same =
    subst (λ (ys : List ℤ). a ≡ get_or ys place a → set ys place (moved a (get_or changes place (pos 0))) ≡ all_moved amounts (take (place + 1) changes)) (sym same)
    (λ is. rw add-one (moved_suc amounts changes place a below is))

-- after the last amount, all changes are added
pub moved_end : (amounts changes : List ℤ) (place : ℕ) → length amounts ≤ place → all_moved amounts (take place changes) ≡ all_moved amounts changes
moved_end [] changes place past = refl
moved_end (a ∷ rest) [] zero past = refl
moved_end (a ∷ rest) [] (suc place) past = refl
moved_end (a ∷ rest) (c ∷ changes) zero past = absurd (omega arith)
moved_end (a ∷ rest) (c ∷ changes) (suc place) past = ap (λ (ys : List ℤ). moved a c ∷ ys) (moved_end rest changes place (omega arith))

-- the changes so far, and one more
pub counted_push : (changes : List (Option ℤ)) (i : ℕ) (o : Option ℤ) (done : List ℤ) → i < length changes → o ≡ get_or changes i o
    → done ≡ deltas (take i changes) → done ++ unwrap_or o (pos 0) ∷ [] ≡ deltas (take (i + 1) changes)
counted_push changes i o done below at is =
    rw (is, at) (sym (map_more (λ (c : Option ℤ). unwrap_or c (pos 0)) changes i o below))
