-- Consecutive numbers.
use Rattle.std.specs.Prelude.{◌≡◌, ℕ, ◌+◌, Some, List, [], ◌∷◌, ◌++◌, length, slice_get}
use Rattle.std.proofs.Common.{zero, suc, ap, subst, arith}
use Rattle.escrow_transcript.specs.declared.entry.Entry.{Entry}
use Rattle.escrow_transcript.specs.Legal.{AreNumbered}

-- numbers that continue where others end
pub numbered_join : (before next : ℕ) (entries more : List Entry) → AreNumbered before entries → next ≡ before + length entries → AreNumbered next more
    → AreNumbered before (entries ++ more)
numbered_join before next [] more first ends rest = let same : next ≡ before = omega arith in subst (λ (n : ℕ). AreNumbered n more) same rest
numbered_join before next (e ∷ es) more first ends rest = (first.0, numbered_join (before + 1) next es more first.1 (omega arith) rest)

-- one more number
pub numbered_more : (before : ℕ) (entries : List Entry) (e : Entry) → AreNumbered before entries → e.number ≡ before + length entries + 1
    → AreNumbered before (entries ++ e ∷ [])
numbered_more before entries e numbered next =
    numbered_join before (before + length entries) entries (e ∷ []) numbered (omega arith) (next, tt)

-- the numbers of the first entries
pub numbered_front : (before : ℕ) (front rest : List Entry) → AreNumbered before (front ++ rest) → AreNumbered before front
numbered_front before [] rest numbered = tt
numbered_front before (e ∷ es) rest numbered = (numbered.0, numbered_front (before + 1) es rest numbered.1)

-- the number at an index
pub number_at : (before : ℕ) (entries : List Entry) (i : ℕ) (e : Entry) → AreNumbered before entries → slice_get entries i ≡ Some e → e.number ≡ before + i + 1
number_at before [] i e numbered found = absurd (cc)
number_at before (x ∷ xs) zero e numbered found =
    let same : x ≡ e = cc in
    let number : x.number ≡ e.number = ap (λ (y : Entry). y.number) same in
    let first : x.number ≡ before + 1 = numbered.0 in
    omega arith
number_at before (x ∷ xs) (suc i) e numbered found =
    let here : e.number ≡ before + 1 + i + 1 = number_at (before + 1) xs i e numbered.1 found in omega arith
