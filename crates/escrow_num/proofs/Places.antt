-- Where an item is put in a sorted list: before the first greater one.
use Rattle.std.specs.Prelude.{insert, position, unwrap_or, nat_lt, not}
use Rattle.std.specs.List.{position_or_len}
use Rattle.std.proofs.Common.{◌≡◌, ℕ, ◌+◌, ◌≤◌, Bool, true, false, cond, List, [], ◌∷◌, length, Some, None, refl, ap, ◌∙◌, sym, arith}
use Rattle.std.proofs.Math.Numerals.{one-add}
use Rattle.std.proofs.lemmas.Bool.Decides.{nat_tests}
use Rattle.std.proofs.lemmas.List.Sums.{prefix_len-le-length}

at_most : (n end : ℕ) → n ≤ end → unwrap_or (cond (nat_lt n end) (Some n) None) end ≡ n
at_most n end within = grind (arith, nat_tests)

-- the index of the first item that passes, or the length of the list
place_is : {X : Type 0} (p : X → Bool) (xs : List X) → unwrap_or (position p xs) (length xs) ≡ position_or_len p xs
place_is p xs = at_most (position_or_len p xs) (length xs) (prefix_len-le-length (λ x. not (p x)) xs)

put_step : {X : Type 0} (b : Bool) (n : ℕ) (x y : X) (ys after : List X) → insert ys n x ≡ after
    → insert (y ∷ ys) (cond (not b) (1 + n) 0) x ≡ cond b (x ∷ y ∷ ys) (y ∷ after)
put_step true n x y ys after e = refl
put_step false n x y ys after e = rw one-add (ap (λ zs. y ∷ zs) e)

put_at : {X : Type 0} (p : X → Bool) (x : X) (F : List X → List X) → F [] ≡ x ∷ []
    → ((y : X) (ys : List X) → F (y ∷ ys) ≡ cond (p y) (x ∷ y ∷ ys) (y ∷ F ys))
    → (xs : List X) → insert xs (position_or_len p xs) x ≡ F xs
put_at p x F none more [] = sym none
put_at p x F none more (y ∷ ys) =
    put_step (p y) (position_or_len p ys) x y ys (F ys) (put_at p x F none more ys) ∙ sym (more y ys)

-- an item put at the first index that passes
pub put_at_place : {X : Type 0} (p : X → Bool) (x : X) (F : List X → List X) → F [] ≡ x ∷ []
    → ((y : X) (ys : List X) → F (y ∷ ys) ≡ cond (p y) (x ∷ y ∷ ys) (y ∷ F ys))
    → (xs : List X) → insert xs (unwrap_or (position p xs) (length xs)) x ≡ F xs
put_at_place p x F none more xs = rw (place_is p xs) (put_at p x F none more xs)
