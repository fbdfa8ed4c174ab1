-- Items that are dealt out name existing places.
use Rattle.std.proofs.Common.{ℕ, ◌<◌, List, [], ◌∷◌, ◌≡◌, All, subst, ◌∙◌}
use Rattle.std.specs.Iterator.{Yields, HoldsAlong}
use Rattle.std.specs.List.{AllByRecursion}
use Rattle.std.proofs.lemmas.List.Elements.{All-from_recursion}
use Rattle.escrow_statement.specs.declared.statement.Request.{Request}
use Rattle.escrow_threads_tests.specs.Dealt.{Deals}

module _ {Q : Type 0} (places : Q → ℕ) where
  each : (n : ℕ) (xs : List (ℕ × Request)) (s t : Q) → places s ≡ n → Yields (λ s item t. Deals (places s) item (places t)) s xs t → AllByRecursion (λ x. x.0 < n) xs
  each n [] s t same came = tt
  each n (x ∷ xs) s t same came = (subst (λ m. x.0 < m) same came.1.1, each n xs came.0 t (came.1.0 ∙ same) came.2)

  -- each next item names one of the places
  pub all_dealt : (n : ℕ) (s : Q) → places s ≡ n → HoldsAlong (λ s item t. Deals (places s) item (places t)) s (All (λ x. x.0 < n))
  all_dealt n s same xs t came = All-from_recursion (λ x. x.0 < n) xs (each n xs s t same came)
