-- The rows of one tree that pass the tests of a statement.
use Rattle.std.proofs.Common.{◌≡◌, ℕ, ◌^◌, Bool, true, false, ◌||◌, cond, nat_le, nat_lt, List, [], ◌∷◌, length, map, filter, slice_get, unwrap_or, ◌-◌, None, IsPermutation, refl, sym, ap, ap₂, ◌∙◌, subst, arith}
use Rattle.std.specs.List.{list_all, list_any}
use Rattle.std.proofs.lemmas.Bool.{lt-ltb}
use Rattle.std.proofs.lemmas.List.{length-map}
use Rattle.std.proofs.lemmas.List.Sorted.{IsPermutation-map, length_permutation}
use Rattle.sqlite_value.specs.declared.value.Value.TheVariants.{Null}
use Rattle.sqlite_value.specs.Order.{Row}
use Rattle.sqlite_trees.specs.Tree.{Trees}
use Rattle.sqlite_sql.specs.Term.{Term, eval_all, holds}
use Rattle.sqlite_sql.specs.Query.{Query}
use Rattle.sqlite_sql.specs.Program.{overlay}
use Rattle.sqlite.specs.Effect.{Database, Answers}
use Rattle.escrow_cells.proofs.ReadTexts.{selection}
use Rattle.escrow_cells.proofs.Selects.{selected}

-- a query for terms of the rows of a tree that pass tests
abbrev pub plain_query : ℕ → List Term → List Term → Query
plain_query tree tests terms = selection tree tests terms []

-- a row passes the tests
abbrev pub passes : List Term → Row → Row → Bool
passes tests params r = list_all (holds (params ∷ r ∷ [])) tests

stands_alone : (db : Trees) (tree : ℕ) → overlay db [] tree ≡ db tree
stands_alone db tree = elim (nat_le (2 ^ 31) tree) as (λ b. unwrap_or (cond b (slice_get [] (tree - 2 ^ 31)) None) (db tree) ≡ db tree) [ true ↦ refl | false ↦ refl ]

-- an answer has the terms of the passing rows, in some order
pub matched : (db : Database) (params : Row) (tree : ℕ) (tests terms : List Term) (rows : List Row) → Answers db (record { lets = []; body = plain_query tree tests terms }) params rows
    → IsPermutation (map (λ r. eval_all terms (params ∷ r ∷ [])) (filter (passes tests params) (db.trees tree))) rows
matched db params tree tests terms rows h =
    let a = selected tree tests terms [] (overlay db.trees []) params rows (h.answer Null) in
    let taken = subst (λ l. IsPermutation (filter (passes tests params) l) a.taken) (stands_alone db.trees tree) a.same in
    subst (IsPermutation (map (λ r. eval_all terms (params ∷ r ∷ [])) (filter (passes tests params) (db.trees tree)))) (sym a.shows) (IsPermutation-map (λ r. eval_all terms (params ∷ r ∷ [])) _ _ taken)

-- ---- whether some row passes

-- the filtered list is non-empty exactly if some item passes
pub some_pass : {X : Type 0} (p : X → Bool) (xs : List X) → nat_lt 0 (length (filter p xs)) ≡ list_any p xs
some_pass p [] = refl
some_pass p (x ∷ xs) =
    elim (p x) as (λ b. nat_lt 0 (length (cond b (x ∷ filter p xs) (filter p xs))) ≡ (b || list_any p xs)) [
      | true ↦ lt-ltb 0 (length (x ∷ filter p xs)) (omega arith)
      | false ↦ some_pass p xs
    ]

any_shown : {X Y : Type 0} (f : X → Y) (p : X → Bool) (q : Y → Bool) → ((x : X) → p x ≡ q (f x)) → (xs : List X) → list_any p xs ≡ list_any q (map f xs)
any_shown f p q same [] = refl
any_shown f p q same (x ∷ xs) = ap₂ ◌||◌ (same x) (any_shown f p q same xs)

-- the answer is non-empty exactly if some row passes; what is shown of a row decides that
pub any_matched : (tests : List Term) (params : Row) (g f : Row → Row) (q : Row → Bool) → ((r : Row) → passes tests params r ≡ q (f r)) → (rows found : List Row)
    → IsPermutation (map g (filter (passes tests params) rows)) found → nat_lt 0 (length found) ≡ list_any q (map f rows)
any_matched tests params g f q same rows found permuted =
    ap (nat_lt 0) (length_permutation _ found permuted ∙ length-map (filter (passes tests params) rows) g)
    ∙ some_pass (passes tests params) rows ∙ any_shown f (passes tests params) q same rows
