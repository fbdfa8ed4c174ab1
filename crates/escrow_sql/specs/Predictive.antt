-- Helps: reading a grammar's sentences from left to right, looking at one token. The contracts of public calls use
-- Grammar instead.
use Rattle.std.specs.Prelude.{ℕ, zero, suc, ◌==◌, Bool, true, false, not, ◌&&◌, ◌||◌, if◌then◌else◌, Result, Ok, Err, List, [], ◌∷◌, ◌++◌, length}
use Rattle.escrow_sql.specs.Grammar.{Grammar, token, nothing, sequence, either, many}
use Rattle.escrow_sql.specs.declared.token.Token.{Token}
use Rattle.escrow_sql.specs.Classes.{class_number}

-- a class is among these
abbrev pub has : List ℕ → ℕ → Bool
has [] c = false
has (d ∷ ds) c = c == d || has ds c

-- the tokens begin with one of these classes
abbrev pub starts : List ℕ → List Token → Bool
starts classes [] = false
starts classes (t ∷ ts) = has classes (class_number t.kind)

-- whether no tokens are a sentence
abbrev pub may_be_empty : {V : Type 0} → Grammar V → Bool
may_be_empty (token like f) = false
may_be_empty (nothing d) = true
may_be_empty (sequence a b f) = may_be_empty a && may_be_empty b
may_be_empty (either a b) = may_be_empty a || may_be_empty b
may_be_empty (many a f) = true

-- the classes of tokens that a sentence can begin with
abbrev pub first : {V : Type 0} → Grammar V → List ℕ
first (token like f) = class_number like ∷ []
first (nothing d) = []
first (sequence a b f) = first a ++ (if may_be_empty a then first b else [])
first (either a b) = first a ++ first b
first (many a f) = first a

-- the classes of tokens with which a sentence can continue where it could also end
abbrev pub more : {V : Type 0} → Grammar V → List ℕ
more (token like f) = []
more (nothing d) = []
more (sequence a b f) = more b ++ (if may_be_empty b then (more a ++ first b) else [])
more (either a b) = (more a ++ more b) ++ (if may_be_empty b then first a else [])
more (many a f) = first a ++ more a

-- no class is among both
abbrev pub apart : List ℕ → List ℕ → Bool
apart [] ds = true
apart (c ∷ cs) ds = not (has ds c) && apart cs ds

-- whether looking at one token decides each time how to continue
abbrev pub is_predictive : {V : Type 0} → Grammar V → Bool
is_predictive (token like f) = true
is_predictive (nothing d) = true
is_predictive (sequence a b f) = is_predictive a && (is_predictive b && apart (more a) (first b))
is_predictive (either a b) = is_predictive a && (is_predictive b && (not (may_be_empty a) && apart (first a) (first b)))
is_predictive (many a f) = is_predictive a && (not (may_be_empty a) && apart (more a) (first a))

-- what was read, and then what more is read
abbrev pub and_then : {A B : Type 0} → Result (A × List Token) (List Token)
    → (A → List Token → Result (B × List Token) (List Token)) → Result (B × List Token) (List Token)
and_then (Ok read) f = f read.0 read.1
and_then (Err rest) f = Err rest

-- reads one as long as one comes next
abbrev pub run_many : {A : Type 0} → List ℕ → (List Token → Result (A × List Token) (List Token)) → ℕ → List Token
    → Result (List A × List Token) (List Token)
run_many classes read zero tokens = Ok ([], tokens)
run_many classes read (suc n) tokens =
    if starts classes tokens
    then and_then (read tokens) (λ x rest. and_then (run_many classes read n rest) (λ xs end. Ok (x ∷ xs, end)))
    else Ok ([], tokens)

-- reading from the left, looking at one token: the value and the tokens after it, or the tokens from the fault on
abbrev pub run : {V : Type 0} → Grammar V → List Token → Result (V × List Token) (List Token)
run (token like f) [] = Err []
run (token like f) (t ∷ ts) = if class_number t.kind == class_number like then Ok (f t.kind, ts) else Err (t ∷ ts)
run (nothing d) tokens = Ok (d, tokens)
run (sequence a b f) tokens = and_then (run a tokens) (λ x rest. and_then (run b rest) (λ y end. Ok (f x y, end)))
run (either a b) tokens = if starts (first a) tokens then run a tokens else run b tokens
run (many a f) tokens = and_then (run_many (first a) (run a) (length tokens) tokens) (λ xs end. Ok (f xs, end))

-- what was read, where nothing is left
abbrev pub ended : {V : Type 0} → V → List Token → Result V (List Token)
ended v [] = Ok v
ended v (t ∷ ts) = Err (t ∷ ts)

abbrev pub whole_of : {V : Type 0} → Result (V × List Token) (List Token) → Result V (List Token)
whole_of (Ok read) = ended read.0 read.1
whole_of (Err rest) = Err rest

-- reading all of the tokens: the value, or the tokens from the fault on
abbrev pub run_whole : {V : Type 0} → Grammar V → List Token → Result V (List Token)
run_whole g tokens = whole_of (run g tokens)
