-- The answer of a SELECT that joins each row of a tree with the row of the same rowid. It equals the answer of a SELECT
-- over the rows alone.
use Rattle.std.proofs.Common.{◌≡◌, ℕ, Bool, true, false, cond, ◌&&◌, List, [], ◌∷◌, ◌++◌, append-nil, map, flat_map, filter, Ordering, Less, Equal, Greater, Some, IsTrue, inl, inr, refl, sym, ap, ap₂, subst, ◌∙◌, IsPermutation, IsSorted}
use Rattle.std.proofs.Math.Path.{fun_ext}
use Rattle.std.specs.List.{AllByRecursion, list_all}
use Rattle.std.specs.Ordering.{is_eq}
use Rattle.std.proofs.lemmas.Cmp.{tied_itself}
use Rattle.sqlite_value.specs.declared.value.Value.{Value}
use Rattle.sqlite_value.specs.declared.value.Value.TheVariants.{Null, Int, Real, Text, Blob}
use Rattle.sqlite_value.specs.declared.keys.Key.{Key}
use Rattle.sqlite_value.specs.Order.{Row, value_cmp}
use Rattle.sqlite_value.proofs.OrderLemmas.{value_cmp_total}
use Rattle.sqlite_trees.specs.Tree.{Trees, rowid}
use Rattle.sqlite_trees.specs.View.{is_int}
use Rattle.sqlite_trees.proofs.ListLemmas.{all_both, map-map, pull_back}
use Rattle.sqlite_sql.specs.declared.ops.CompareOp.TheVariants.{Eq}
use Rattle.sqlite_sql.specs.Ops.{binary, is_true, from_truth, test}
use Rattle.sqlite_sql.specs.Term.{Term, Env, eval_all, holds}
use Rattle.sqlite_sql.specs.Query.{Output, output, output_cmp, sort_cmp, page, IsAnswer}
use Rattle.sqlite_exec.proofs.PartitionLemmas.{IsSorted-from_map}
use Rattle.sqlite_rules.specs.Lists.{Has}
use Rattle.sqlite_rules.proofs.ListLemmas.{all_has}
use Rattle.escrow_cells.specs.Step.{same}
use Rattle.escrow_cells.specs.Store.{NumbersDiffer}
use Rattle.escrow_cells.proofs.Makes.{AreApart, tied, tied_turn}
use Rattle.escrow_cells.proofs.ReadTexts.{pairing}
use Rattle.escrow_cells.proofs.Selects.{filtered}

-- ---- the row of a rowid

told_equal : (o : Ordering) → is_true (from_truth (Some (test Eq o))) ≡ is_eq o
told_equal Less = refl
told_equal Equal = refl
told_equal Greater = refl

-- SQLite's `=` holds of two whole numbers if its order of values ties them
same_number : (a b : Value) → is_int a ≡ true → is_int b ≡ true → same a b ≡ is_eq (value_cmp a b)
unfolding binary
same_number (Int m) (Int n) whole also = told_equal (value_cmp (Int m) (Int n))
same_number (Int m) Null whole also = absurd (let e = also in cc)
same_number (Int m) (Real x) whole also = absurd (let e = also in cc)
same_number (Int m) (Text t) whole also = absurd (let e = also in cc)
same_number (Int m) (Blob b) whole also = absurd (let e = also in cc)
same_number Null b whole also = absurd (let e = whole in cc)
same_number (Real x) b whole also = absurd (let e = whole in cc)
same_number (Text t) b whole also = absurd (let e = whole in cc)
same_number (Blob c) b whole also = absurd (let e = whole in cc)

abbrev IsNumbered : Row → Type 0
IsNumbered r = IsTrue (is_int (rowid r))

same_row : (a b : Row) → IsNumbered a → IsNumbered b → same (rowid a) (rowid b) ≡ tied a b
same_row a b whole also = same_number (rowid a) (rowid b) whole also

itself : (a : Row) → tied a a ≡ true
itself a = ap is_eq (tied_itself value_cmp_total (rowid a))

-- ---- pairs of rows

same_pieces : {X Y : Type 0} (f g : X → List Y) (xs : List X) → ((x : X) → Has xs x → f x ≡ g x) → flat_map f xs ≡ flat_map g xs
same_pieces f g [] each = refl
same_pieces f g (x ∷ xs) each = ap₂ ◌++◌ (each x (inl refl)) (same_pieces f g xs (λ y has. each y (inr has)))

module _ {Y : Type 0} (p : Row → Bool) (f : Row → Row → Y) where
  -- a row, with each row of the same rowid
  abbrev pairs : List Row → Row → List Y
  pairs rows r = flat_map (λ s. cond (same (rowid s) (rowid r) && p r) (f r s ∷ []) []) rows

  no_pair : (rows : List Row) (r : Row) → AllByRecursion (λ s. same (rowid s) (rowid r) ≡ false) rows → pairs rows r ≡ []
  no_pair [] r apart = refl
  no_pair (s ∷ rows) r apart = rw apart.0 (no_pair rows r apart.1)

  -- if rowids differ, that is the row itself
  one_pair : (rows : List Row) (r : Row) → AllByRecursion IsNumbered rows → AreApart rows → Has rows r → pairs rows r ≡ cond (p r) (f r r ∷ []) []
  one_pair [] r whole apart has = absurd has
  one_pair (s ∷ rows) r whole apart (inl is) =
      let others = all_both IsNumbered (λ b. tied s b ≡ false) (λ b. same (rowid b) (rowid s) ≡ false) (λ b number differs. same_row b s number whole.0 ∙ tied_turn b s ∙ differs) rows whole.1 apart.0 in
      let own : pairs (s ∷ rows) s ≡ cond (p s) (f s s ∷ []) [] = rw (same_row s s whole.0 whole.0 ∙ itself s, no_pair rows s others) (append-nil (cond (p s) (f s s ∷ []) [])) in
      subst (λ (q : Row). pairs (s ∷ rows) q ≡ cond (p q) (f q q ∷ []) []) (sym is) own
  one_pair (s ∷ rows) r whole apart (inr has) =
      let differs : same (rowid s) (rowid r) ≡ false = same_row s r whole.0 (all_has IsNumbered rows r whole.1 has) ∙ all_has (λ b. tied s b ≡ false) rows r apart.0 has in
      rw differs (one_pair rows r whole.1 apart.1 has)

  all_pairs : (rows : List Row) → NumbersDiffer rows → flat_map (pairs rows) rows ≡ map (λ r. f r r) (filter p rows)
  all_pairs rows numbered = same_pieces (pairs rows) (λ r. cond (p r) (f r r ∷ []) []) rows (λ r has. one_pair rows r numbered.whole numbered.apart has) ∙ filtered p (λ r. f r r) rows

-- ---- what is answered

module _ (tree : ℕ) (tests shown : List Term) (order : List (Term × Key)) (db : Trees) (params : Row) where
  abbrev pub env_of : Row → Row → Env
  env_of r s = params ∷ r ∷ s ∷ []

  abbrev pub below : Row → Row → Ordering
  below a b = sort_cmp order (env_of a a) (env_of b b)

  pub record IsPaired (passes : Row → Bool) (rows : List Row) : Type 0 where
    pub taken : List Row
    pub same : IsPermutation (filter passes (db tree)) taken
    pub sorted : IsSorted below taken
    pub shows : rows ≡ map (λ r. eval_all shown (env_of r r)) taken

  -- the tests read only the first row of a pair
  pub paired : (passes : Row → Bool) → ((r s : Row) → list_all (holds (env_of r s)) tests ≡ passes r) → NumbersDiffer (db tree) → (rows : List Row) → IsAnswer (pairing tree tests shown order) db params rows → IsPaired passes rows
  paired passes first numbered rows a =
      let q = pairing tree tests shown order in
      let whole : Row → Env = λ r. env_of r r in
      let f : Row → Output = λ r. output q (whole r) in
      let tested = ap (λ (test : Row → Row → Bool). flat_map (λ r. flat_map (λ s. cond (same (rowid s) (rowid r) && test r s) (env_of r s ∷ []) []) (db tree)) (db tree)) (fun_ext (λ r. fun_ext (λ s. first r s))) in
      let staged : a.staged ≡ map whole (filter passes (db tree)) = a.grouped ∙ tested ∙ all_pairs passes env_of (db tree) numbered in
      let kept : a.kept ≡ map f (filter passes (db tree)) = a.distinct ∙ (ap (map (output q)) staged ∙ map-map (output q) whole (filter passes (db tree))) in
      let back = pull_back f a.kept a.ordered a.same (filter passes (db tree)) kept in
      let sorted : IsSorted (output_cmp q) (map f back.0) = subst (IsSorted (output_cmp q)) back.2 a.sorted in
      record {
        taken = back.0;
        same = back.1;
        sorted = IsSorted-from_map (output_cmp q) f back.0 sorted;
        shows = a.shown ∙ (ap (λ all. page q params (map (λ (o : Output). o.1) all)) back.2 ∙ map-map (λ (o : Output). o.1) f back.0);
      }
