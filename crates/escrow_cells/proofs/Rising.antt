-- A sorted list, and the order of its items.
use Rattle.std.proofs.Common.{◌≡◌, suc, false, List, [], ◌∷◌, refl, ap, ◌∙◌, arith, add-one, Ordering, Less, Equal, Greater, is_lt, is_gt, IsSorted}
use Rattle.std.specs.List.{AllByRecursion}
use Rattle.std.specs.Cmp.{IsTotalOrder}
use Rattle.std.specs.Ordering.{ordering_reverse}
use Rattle.std.proofs.lemmas.Cmp.{upto}
use Rattle.sqlite_trees.specs.Tree.{IsAscending}
use Rattle.sqlite_trees.proofs.ListLemmas.{all_weaker}

turned : (o : Ordering) → is_lt o ≡ false → is_gt (ordering_reverse o) ≡ false
turned Less h = h
turned Equal h = refl
turned Greater h = refl

module _ {X : Type 0} (cmp : X → X → Ordering) (total : IsTotalOrder cmp) where
  -- an item is not above another
  abbrev pub AtMost : X → X → Type 0
  AtMost a b = is_gt (cmp a b) ≡ false

  below_all : (x : X) (ys : List X) → IsSorted cmp (x ∷ ys) → IsAscending AtMost ys → AllByRecursion (AtMost x) ys
  below_all x [] sorted up = tt
  below_all x (y ∷ ys) sorted up =
      let first : AtMost x y = ap is_gt (total.antisymm x y) ∙ turned _ (sorted 0 x (omega arith) (omega arith)) in
      (first, all_weaker _ (AtMost x) (λ z. upto total x y z first) ys up.0)

  -- no item of a sorted list is above a later one
  pub ascending_from_sorted : (xs : List X) → IsSorted cmp xs → IsAscending AtMost xs
  ascending_from_sorted [] sorted = tt
  ascending_from_sorted (x ∷ xs) sorted =
      let tail : IsSorted cmp xs = λ k d p q. rw add-one (rw add-one at (sorted (suc k) d (omega arith) (omega arith))) in
      let up = ascending_from_sorted xs tail in
      (below_all x xs sorted up, up)
