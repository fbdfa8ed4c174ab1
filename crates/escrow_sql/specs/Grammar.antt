-- Believed: grammars, their sentences, and the first fault of tokens that are no sentence.
use Rattle.std.specs.Prelude.{◌≡◌, ℕ, ◌+◌, ◌<◌, ◌≤◌, ◌⊎◌, List, [], ◌∷◌, ◌++◌, length, take}
use Rattle.escrow_sql.specs.declared.token.Kind.{Kind}
use Rattle.escrow_sql.specs.declared.token.Token.{Token}
use Rattle.escrow_sql.specs.Token.{class_of}

-- a grammar whose sentences mean a V: a token, which means what its kind says (the kind that is named represents its
-- whole class); nothing; two grammars in sequence; either of two; any number of one
pub data Grammar : Type 0 → Type 1 where
  token : {V : Type 0} → Kind → (Kind → V) → Grammar V
  nothing : {V : Type 0} → V → Grammar V
  sequence : {A B V : Type 0} → Grammar A → Grammar B → (A → B → V) → Grammar V
  either : {V : Type 0} → Grammar V → Grammar V → Grammar V
  many : {A V : Type 0} → Grammar A → (List A → V) → Grammar V

-- the tokens are sentences one after another, with these values
abbrev pub Repeats : {A : Type 0} → (List Token → A → Type 0) → List Token → List A → Type 0
Repeats S tokens [] = tokens ≡ []
Repeats S tokens (x ∷ xs) = (s : List Token) × (t : List Token) × (tokens ≡ s ++ t) × S s x × Repeats S t xs

-- the tokens are a sentence of the grammar, with this value
abbrev pub Sentence : {V : Type 0} → Grammar V → List Token → V → Type 0
Sentence (token like f) tokens v = (t : Token) × (tokens ≡ t ∷ []) × (class_of t.kind ≡ class_of like) × (v ≡ f t.kind)
Sentence (nothing d) tokens v = (tokens ≡ []) × (v ≡ d)
Sentence (sequence {A} {B} a b f) tokens v =
    (s : List Token) × (t : List Token) × (x : A) × (y : B) × (tokens ≡ s ++ t) × Sentence a s x × Sentence b t y
    × (v ≡ f x y)
Sentence (either a b) tokens v = Sentence a tokens v ⊎ Sentence b tokens v
Sentence (many {A} a f) tokens v = (xs : List A) × Repeats (Sentence a) tokens xs × (v ≡ f xs)

-- some sentence begins with the tokens
abbrev pub Begins : {V : Type 0} → Grammar V → List Token → Type 0
Begins {V} g tokens = (rest : List Token) × (v : V) × Sentence g (tokens ++ rest) v

-- the first fault of tokens that are no sentence is at the k-th, from 0. Some sentence begins with the tokens before
-- it, and none with it too. If it is at the end of the tokens, they alone are no sentence
pub record IsFirstFault {V : Type 0} (g : Grammar V) (tokens : List Token) (k : ℕ) : Type 0 where
  pub within : k ≤ length tokens
  pub begins : Begins g (take k tokens)
  pub unexpected : k < length tokens → Begins g (take (k + 1) tokens) → ⊥
  pub too_short : k ≡ length tokens → (v : V) → Sentence g tokens v → ⊥
