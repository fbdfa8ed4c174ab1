-- Texts without a quote.
use Rattle.std.proofs.Common.{◌≡◌, ℕ, true, false, List, [], ◌∷◌, refl, sym, ap, ◌∙◌, inl, inr}
use Rattle.std.specs.Prelude.{◌==◌}
use Rattle.std.specs.List.{list_any}
use Rattle.std.proofs.lemmas.Bool.{cases_Bool}
use Rattle.escrow_sql.specs.Lex.{doubled}

-- each quote doubled, they are what they were
pub doubled_without : (text : List ℕ) → list_any (λ y. y == 39) text ≡ false → doubled text ≡ text
doubled_without [] h = refl
doubled_without (c ∷ cs) h =
    elim (cases_Bool (c == 39)) [
      | inl q ↦ let bad = rw q at h in cc
      | inr q ↦ rw q (ap (λ (bs : List ℕ). c ∷ bs) (doubled_without cs (rw q at h)))
    ]
