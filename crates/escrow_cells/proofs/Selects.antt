-- What a SELECT of one tree answers: the rows that pass its tests, sorted, with some of their columns.
use Rattle.std.proofs.Common.{◌≡◌, ℕ, Bool, true, false, cond, List, [], ◌∷◌, ◌++◌, map, flat_map, filter, Ordering, Less, Equal, Greater, is_lt, refl, sym, ap, subst, ◌∙◌, IsPermutation, IsSorted}
use Rattle.std.specs.List.{list_all}
use Rattle.std.specs.Ordering.{ordering_then}
use Rattle.sqlite_value.specs.declared.keys.Key.{Key}
use Rattle.sqlite_value.specs.Order.{Row}
use Rattle.sqlite_trees.specs.Tree.{Trees}
use Rattle.sqlite_trees.proofs.ListLemmas.{map-map, pull_back}
use Rattle.sqlite_sql.specs.Term.{Term, Env, eval_all, holds}
use Rattle.sqlite_sql.specs.Query.{Output, output, output_cmp, sort_cmp, page, IsAnswer}
use Rattle.sqlite_exec.proofs.PartitionLemmas.{IsSorted-from_map}
use Rattle.escrow_cells.proofs.ReadTexts.{selection}

pub filtered : {X Y : Type 0} (p : X → Bool) (f : X → Y) (xs : List X) → flat_map (λ x. cond (p x) (f x ∷ []) []) xs ≡ map f (filter p xs)
filtered p f [] = refl
filtered p f (x ∷ xs) = ap (λ l. cond (p x) (f x ∷ []) [] ++ l) (filtered p f xs)
    ∙ (elim (p x) as (λ b. cond b (f x ∷ []) [] ++ map f (filter p xs) ≡ map f (cond b (x ∷ filter p xs) (filter p xs))) [ true ↦ refl | false ↦ refl ])

pub then_equal : (o : Ordering) → ordering_then o Equal ≡ o
then_equal Less = refl
then_equal Equal = refl
then_equal Greater = refl

pub sorted_same : {X : Type 0} (c d : X → X → Ordering) → ((x y : X) → c x y ≡ d x y) → (xs : List X) → IsSorted c xs → IsSorted d xs
sorted_same c d same xs sorted k x low high = ap is_lt (sym (same _ _)) ∙ sorted k x low high

module _ (tree : ℕ) (tests shown : List Term) (order : List (Term × Key)) (db : Trees) (params : Row) where
  abbrev pub env_of : Row → Env
  env_of r = params ∷ r ∷ []

  abbrev pub passes : Row → Bool
  passes r = list_all (holds (env_of r)) tests

  abbrev pub below : Row → Row → Ordering
  below a b = sort_cmp order (env_of a) (env_of b)

  pub record IsSelected (rows : List Row) : Type 0 where
    pub taken : List Row
    pub same : IsPermutation (filter passes (db tree)) taken
    pub sorted : IsSorted below taken
    pub shows : rows ≡ map (λ r. eval_all shown (env_of r)) taken

  pub selected : (rows : List Row) → IsAnswer (selection tree tests shown order) db params rows → IsSelected rows
  selected rows a =
      let q = selection tree tests shown order in
      let f : Row → Output = λ r. output q (env_of r) in
      let staged : a.staged ≡ map env_of (filter passes (db tree)) = a.grouped ∙ filtered passes env_of (db tree) in
      let kept : a.kept ≡ map f (filter passes (db tree)) = a.distinct ∙ (ap (map (output q)) staged ∙ map-map (output q) env_of (filter passes (db tree))) in
      let back = pull_back f a.kept a.ordered a.same (filter passes (db tree)) kept in
      let sorted : IsSorted (output_cmp q) (map f back.0) = subst (IsSorted (output_cmp q)) back.2 a.sorted in
      record {
        taken = back.0;
        same = back.1;
        sorted = IsSorted-from_map (output_cmp q) f back.0 sorted;
        shows = a.shown ∙ (ap (λ all. page q params (map (λ (o : Output). o.1) all)) back.2 ∙ map-map (λ (o : Output). o.1) f back.0);
      }
