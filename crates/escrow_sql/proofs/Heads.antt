-- The current token, and the classes to which it may belong.
use Rattle.std.proofs.Common.{◌≡◌, ℕ, true, false, List, [], ◌∷◌, ◌++◌, refl, sym, ap, ◌∙◌, inl, inr, ◌⊎◌}
use Rattle.std.specs.Prelude.{◌==◌, not}
use Rattle.std.proofs.lemmas.Bool.{or_cases, or_left, or_right, or_parts, or_from, and_parts, not-true, false_from_ne_true, eqb-true}
use Rattle.escrow_sql.specs.declared.token.Token.{Token}
use Rattle.escrow_sql.specs.Classes.{class_number}
use Rattle.escrow_sql.specs.Predictive.{has, starts, apart}

pub has-front : (a b : List ℕ) (c : ℕ) → has a c ≡ true → has (a ++ b) c ≡ true
has-front [] b c h = absurd (cc)
has-front (d ∷ ds) b c h =
    elim (or_cases (c == d) (has ds c) h) [
      | inl e ↦ or_left (c == d) (has (ds ++ b) c) e
      | inr e ↦ or_right (c == d) (has (ds ++ b) c) (has-front ds b c e)
    ]

pub has-back : (a b : List ℕ) (c : ℕ) → has b c ≡ true → has (a ++ b) c ≡ true
has-back [] b c h = h
has-back (d ∷ ds) b c h = or_right (c == d) (has (ds ++ b) c) (has-back ds b c h)

pub has-none : (a b : List ℕ) (c : ℕ) → has (a ++ b) c ≡ false → (has a c ≡ false) × (has b c ≡ false)
has-none [] b c h = (refl, h)
has-none (d ∷ ds) b c h =
    let p = or_parts (c == d) (has (ds ++ b) c) h in
    let q = has-none ds b c p.1 in
    (or_from (c == d) (has ds c) p.0 q.0, q.1)

pub starts-none : (a b : List ℕ) (ts : List Token) → starts (a ++ b) ts ≡ false → (starts a ts ≡ false) × (starts b ts ≡ false)
starts-none a b [] h = (refl, refl)
starts-none a b (t ∷ ts) h = has-none a b (class_number t.kind) h

-- an item of one list is not in the other
pub apart-none : (cs ds : List ℕ) (c : ℕ) → apart cs ds ≡ true → has ds c ≡ true → has cs c ≡ false
apart-none [] ds c h k = refl
apart-none (d ∷ cs) ds c h k =
    let p = and_parts (not (has ds d)) (apart cs ds) h in
    let q : has ds d ≡ false = not-true (has ds d) p.0 in
    or_from (c == d) (has cs c)
    (false_from_ne_true (c == d) (λ e. let same : c ≡ d = eqb-true c d e in let both : true ≡ false = sym k ∙ (ap (has ds) same ∙ q) in cc))
    (apart-none cs ds c p.1 k)

-- two texts begin with tokens of one class, or both are empty
abbrev pub SameHead : List Token → List Token → Type 0
SameHead [] [] = Unit {0}
SameHead [] (u ∷ us) = ⊥
SameHead (t ∷ ts) [] = ⊥
SameHead (t ∷ ts) (u ∷ us) = class_number t.kind ≡ class_number u.kind

pub starts-same : (cs : List ℕ) (x y : List Token) → SameHead x y → starts cs x ≡ starts cs y
starts-same cs [] [] h = refl
starts-same cs [] (u ∷ us) h = absurd h
starts-same cs (t ∷ ts) [] h = absurd h
starts-same cs (t ∷ ts) (u ∷ us) h = ap (has cs) h

pub same_behind : (front rest other : List Token) → SameHead rest other → SameHead (front ++ rest) (front ++ other)
same_behind [] rest other h = h
same_behind (t ∷ front) rest other h = refl

-- how two parts combine to tokens that begin with u
pub cut : (s t : List Token) (u : Token) (w : List Token) → s ++ t ≡ u ∷ w → ((s ≡ []) × (t ≡ u ∷ w)) ⊎ ((more : List Token) × (s ≡ u ∷ more))
cut [] t u w h = inl (refl, h)
cut (x ∷ s) t u w h = let e : x ≡ u = cc in inr (s, ap (λ (z : Token). z ∷ s) e)

pub none_of_both : (s t : List Token) → s ++ t ≡ [] → (s ≡ []) × (t ≡ [])
none_of_both [] t h = (refl, h)
none_of_both (x ∷ s) t h = absurd (cc)
