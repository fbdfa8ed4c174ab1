-- Printed lists are read back as the same lists.
use Rattle.std.proofs.Common.{◌≡◌, ℕ, ◌≤◌, true, List, [], ◌∷◌, ◌++◌, length, map, arith, refl, sym}
use Rattle.std.specs.Prelude.{codes, flat_map}
use Rattle.std.specs.List.{AllByRecursion}
use Rattle.std.proofs.lemmas.List.{flat_map_more}
use Rattle.escrow_sql.specs.declared.token.Symbol.TheVariants as symbols
use Rattle.escrow_sql.specs.Grammar.{Grammar, many}
use Rattle.escrow_statement.specs.Joined.{joined}
use Rattle.escrow_sql.specs.Statement.{symbol, ◌then◌, list}
use Rattle.escrow_sql.proofs.Writing.{Writes, is_behind, writes_joined, writes_apart, writes_blank, none_more, one_more}
use Rattle.escrow_sql.proofs.WritingTokens.{writes_symbol}

-- each text prints its value
abbrev pub WriteEach : {V : Type 0} → Grammar V → List (List ℕ) → List V → Type 0
WriteEach a [] [] = Unit {0}
WriteEach a (t ∷ ts) (v ∷ vs) = Writes is_behind a t v × WriteEach a ts vs
WriteEach a [] (v ∷ vs) = ⊥
WriteEach a (t ∷ ts) [] = ⊥

pub each_append : {V : Type 0} (a : Grammar V) (ts us : List (List ℕ)) (vs ws : List V) → WriteEach a ts vs → WriteEach a us ws → WriteEach a (ts ++ us) (vs ++ ws)
each_append a [] us [] ws h k = k
each_append a (t ∷ ts) us (v ∷ vs) ws h k = (h.0, each_append a ts us vs ws h.1 k)
each_append a [] us (v ∷ vs) ws h k = absurd h
each_append a (t ∷ ts) us [] ws h k = absurd h

pub each_of : {X V : Type 0} (a : Grammar V) (text : X → List ℕ) (value : X → V) (P : X → Type 0) → ((x : X) → P x → Writes is_behind a (text x) (value x))
    → (xs : List X) → AllByRecursion P xs → WriteEach a (map text xs) (map value xs)
each_of a text value P one [] h = tt
each_of a text value P one (x ∷ xs) h = (one x h.0, each_of a text value P one xs h.1)

-- what follows the first item of a list
others_behind : (ts : List (List ℕ)) → is_behind (flat_map (λ t. codes ", " ++ t) ts) ≡ true
others_behind [] = refl
others_behind (t ∷ ts) = refl

writes_others : {V : Type 0} (a : Grammar V) (ts : List (List ℕ)) (vs : List V) → WriteEach a ts vs
    → Writes is_behind (many (symbol symbols.Comma then a) (λ xs. xs)) (flat_map (λ t. codes ", " ++ t) ts) vs
writes_others a [] [] h = none_more
writes_others a (t ∷ ts) (v ∷ vs) h = one_more (writes_joined (writes_symbol symbols.Comma) (writes_blank h.0)) (others_behind ts) (writes_others a ts vs h.1)
writes_others a [] (v ∷ vs) h = absurd h
writes_others a (t ∷ ts) [] h = absurd h

-- one or more items, with a comma and a blank between them
pub writes_listed : {V : Type 0} (a : Grammar V) (ts : List (List ℕ)) (vs : List V) → 1 ≤ length vs → WriteEach a ts vs → Writes is_behind (list a) (joined ts) vs
writes_listed a [] [] long h = absurd (omega arith)
writes_listed a (t ∷ ts) (v ∷ vs) long h = writes_apart h.0 (others_behind ts) (writes_others a ts vs h.1)
writes_listed a [] (v ∷ vs) long h = absurd h
writes_listed a (t ∷ ts) [] long h = absurd h

-- one more text at the end
pub joined_more : (ts : List (List ℕ)) (t : List ℕ) → 1 ≤ length ts → joined (ts ++ t ∷ []) ≡ joined ts ++ (codes ", " ++ t)
joined_more [] t some = absurd (omega arith)
joined_more (u ∷ ts) t some = sym (flat_map_more (λ (v : List ℕ). codes ", " ++ v) u ts t)
