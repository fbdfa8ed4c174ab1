-- What reading takes, and how repetitions are read.
use Rattle.std.proofs.Common.{◌≡◌, ℕ, zero, suc, ◌+◌, ◌≤◌, ◌<◌, Bool, true, false, Result, Ok, Err, List, [], ◌∷◌, ◌++◌, length, arith, refl, sym, ap, ◌∙◌, subst, append_assoc}
use Rattle.std.specs.Prelude.{◌&&◌, ◌||◌, ◌==◌, if◌then◌else◌}
use Rattle.std.proofs.lemmas.Bool.{cond_both}
use Rattle.escrow_sql.specs.declared.token.Token.{Token}
use Rattle.escrow_sql.specs.declared.token.Kind.{Kind}
use Rattle.escrow_sql.specs.Classes.{class_number}
use Rattle.escrow_sql.specs.Grammar.{Grammar, token, nothing, sequence, either, many}
use Rattle.escrow_sql.specs.Predictive.{run, run_many, and_then, starts, first, may_be_empty, ended, whole_of, run_whole}
use Rattle.escrow_sql.specs.Cursor.{bare}
use Rattle.escrow_sql.specs.Statement.{separated, ◌then◌}

-- the result of reading: a value and the remaining tokens, or the tokens from the fault on
abbrev pub Read : Type 0 → Type 0
Read V = Result (V × List Token) (List Token)

pub and_then-Ok : {A B : Type 0} (r : Read A) (f : A → List Token → Read B) (y : B × List Token) → and_then r f ≡ Ok y → (x : A × List Token) × (r ≡ Ok x) × (f x.0 x.1 ≡ Ok y)
and_then-Ok (Ok x) f y h = (x, refl, h)
and_then-Ok (Err e) f y h = absurd (cc)

pub Ok-same : {A E : Type 0} (x y : A) → ◌≡◌ {A = Result A E} (Ok x) (Ok y) → x ≡ y
Ok-same x y h = cc

-- the least number of tokens of a sentence
abbrev pub at_least : Bool → ℕ
at_least true = 0
at_least false = 1

at_least-and : (a b : Bool) → at_least (a && b) ≤ at_least a + at_least b
at_least-and true true = omega arith
at_least-and true false = omega arith
at_least-and false true = omega arith
at_least-and false false = omega arith

at_least-or : (a b : Bool) → (at_least (a || b) ≤ at_least a) × (at_least (a || b) ≤ at_least b)
at_least-or true true = (omega arith, omega arith)
at_least-or true false = (omega arith, omega arith)
at_least-or false true = (omega arith, omega arith)
at_least-or false false = (omega arith, omega arith)

left : {A : Type 0} (x y : A × List Token) → ◌≡◌ {A = Read A} (Ok x) (Ok y) → length x.1 ≡ length y.1
left {A} x y h = ap (λ (p : A × List Token). length p.1) (Ok-same x y h)

run_many-takes : {A : Type 0} (classes : List ℕ) (read : List Token → Read A)
    → ((ts : List Token) (r : A × List Token) → read ts ≡ Ok r → length r.1 ≤ length ts)
    → (n : ℕ) (ts : List Token) (r : List A × List Token) → run_many classes read n ts ≡ Ok r → length r.1 ≤ length ts
run_many-takes {A} classes read h zero ts r e = omega (arith, left {A = List A} ([], ts) r e)
run_many-takes {A} classes read h (suc n) ts r e =
    cond_both (starts classes ts) (and_then (read ts) (λ x rest. and_then (run_many classes read n rest) (λ xs end. Ok (x ∷ xs, end)))) (Ok ([], ts))
    (λ (q : Read (List A)). q ≡ Ok r → length r.1 ≤ length ts)
    (λ s q.
    let x = and_then-Ok (read ts) (λ x rest. and_then (run_many classes read n rest) (λ xs end. Ok (x ∷ xs, end))) r q in
    let y = and_then-Ok (run_many classes read n x.0.1) (λ xs end. Ok (x.0.0 ∷ xs, end)) r x.2 in
    let i = run_many-takes classes read h n x.0.1 y.0 y.1 in
    omega (arith, i, h ts x.0 x.1, left {A = List A} (x.0.0 ∷ y.0.0, y.0.1) r y.2))
    (λ s q. omega (arith, left {A = List A} ([], ts) r q)) e

-- reading takes tokens from the front, at least as many as a sentence has
pub run-takes : {V : Type 0} (g : Grammar V) (ts : List Token) (r : V × List Token) → run g ts ≡ Ok r → at_least (may_be_empty g) + length r.1 ≤ length ts
run-takes (token like f) [] r e = absurd (cc)
run-takes {V} (token like f) (t ∷ ts) r e =
    cond_both (class_number t.kind == class_number like) (Ok (f t.kind, ts)) (Err (t ∷ ts)) (λ (q : Read V). q ≡ Ok r → 1 + length r.1 ≤ length (t ∷ ts))
    (λ s q. omega (arith, left {A = V} (f t.kind, ts) r q)) (λ s q. absurd (cc)) e
run-takes {V} (nothing d) ts r e = omega (arith, left {A = V} (d, ts) r e)
run-takes {V} (sequence a b f) ts r e =
    let x = and_then-Ok (run a ts) (λ x rest. and_then (run b rest) (λ y end. Ok (f x y, end))) r e in
    let y = and_then-Ok (run b x.0.1) (λ y end. Ok (f x.0.0 y, end)) r x.2 in
    omega (arith, run-takes a ts x.0 x.1, run-takes b x.0.1 y.0 y.1, left {A = V} (f x.0.0 y.0.0, y.0.1) r y.2, at_least-and (may_be_empty a) (may_be_empty b))
run-takes {V} (either a b) ts r e =
    cond_both (starts (first a) ts) (run a ts) (run b ts) (λ (q : Read V). q ≡ Ok r → at_least (may_be_empty a || may_be_empty b) + length r.1 ≤ length ts)
    (λ s q. omega (arith, run-takes a ts r q, (at_least-or (may_be_empty a) (may_be_empty b)).0))
    (λ s q. omega (arith, run-takes b ts r q, (at_least-or (may_be_empty a) (may_be_empty b)).1)) e
run-takes {V} (many {A} a f) ts r e =
    let x = and_then-Ok (run_many (first a) (run a) (length ts) ts) (λ xs end. Ok (f xs, end)) r e in
    omega (arith, run_many-takes (first a) (run a) (λ us q h. omega (arith, run-takes a us q h)) (length ts) ts x.0 x.1, left {A = V} (f x.0.0, x.0.1) r x.2)

-- a grammar without an empty sentence takes a token
pub run-shorter : {V : Type 0} (g : Grammar V) → may_be_empty g ≡ false → (ts : List Token) (r : V × List Token) → run g ts ≡ Ok r → length r.1 < length ts
run-shorter g e ts r h = let t = run-takes g ts r h in let o : at_least (may_be_empty g) ≡ 1 = ap at_least e in omega (arith, t, o)

-- two continuations that agree on every result
and_then-same : {A B : Type 0} (r : Read A) (f g : A → List Token → Read B) → ((x : A × List Token) → r ≡ Ok x → f x.0 x.1 ≡ g x.0 x.1) → and_then r f ≡ and_then r g
and_then-same (Ok x) f g h = h x refl
and_then-same (Err e) f g h = refl

-- one item before the others
abbrev pub onto : {A : Type 0} → A → Read (List A) → Read (List A)
onto x r = and_then r (λ xs end. Ok (x ∷ xs, end))

-- a repetition that may be as long as the tokens is read as far as possible
run_many-enough : {A : Type 0} (classes : List ℕ) (read : List Token → Read A)
    → ((ts : List Token) (r : A × List Token) → read ts ≡ Ok r → length r.1 < length ts)
    → (m n : ℕ) (ts : List Token) → length ts ≤ m → length ts ≤ n → run_many classes read m ts ≡ run_many classes read n ts
run_many-enough classes read h zero zero ts l k = refl
run_many-enough classes read h zero (suc n) [] l k = refl
run_many-enough classes read h zero (suc n) (t ∷ ts) l k = absurd (omega arith)
run_many-enough classes read h (suc m) zero [] l k = refl
run_many-enough classes read h (suc m) zero (t ∷ ts) l k = absurd (omega arith)
run_many-enough {A} classes read h (suc m) (suc n) ts l k =
    let s : and_then (read ts) (λ x rest. onto x (run_many classes read m rest)) ≡ and_then (read ts) (λ x rest. onto x (run_many classes read n rest)) =
    and_then-same (read ts) (λ x rest. onto x (run_many classes read m rest)) (λ x rest. onto x (run_many classes read n rest))
    (λ x e. ap (onto x.0) (run_many-enough classes read h m n x.1 (let q = h ts x e in omega (arith, q)) (let q = h ts x e in omega (arith, q)))) in
    ap (λ (q : Read (List A)). if starts classes ts then q else Ok ([], ts)) s

-- a repetition of which one item comes next
unrolled : {A : Type 0} (classes : List ℕ) (read : List Token → Read A)
    → ((ts : List Token) (r : A × List Token) → read ts ≡ Ok r → length r.1 < length ts)
    → (ts : List Token) → starts classes ts ≡ true
    → run_many classes read (length ts) ts ≡ and_then (read ts) (λ x rest. onto x (run_many classes read (length rest) rest))
unrolled classes read h [] s = absurd (cc)
unrolled {A} classes read h (t ∷ ts) s =
    rw s (and_then-same (read (t ∷ ts)) (λ x rest. onto x (run_many classes read (length ts) rest)) (λ x rest. onto x (run_many classes read (length rest) rest))
    (λ x e. ap (onto x.0) (run_many-enough classes read h (length ts) (length x.1) x.1 (let q = h (t ∷ ts) x e in omega (arith, q)) (omega arith))))

same_again : {A : Type 0} (r : Read A) → and_then r (λ x end. Ok (x, end)) ≡ r
same_again (Ok x) = refl
same_again (Err e) = refl

-- the items of a repetition
abbrev pub items : {A : Type 0} → Grammar A → List Token → Read (List A)
items g ts = run_many (first g) (run g) (length ts) ts

pub items-none : {A : Type 0} (g : Grammar A) (ts : List Token) → starts (first g) ts ≡ false → items g ts ≡ Ok ([], ts)
items-none g [] s = refl
items-none g (t ∷ ts) s = rw s refl

pub items-unrolled : {A : Type 0} (g : Grammar A) → may_be_empty g ≡ false → (ts : List Token) → starts (first g) ts ≡ true
    → items g ts ≡ and_then (run g ts) (λ x rest. onto x (items g rest))
items-unrolled g e ts s = unrolled (first g) (run g) (run-shorter g e) ts s

-- reading any number of items
abbrev all : {A : Type 0} → Grammar A → List Token → Read (List A)
all g ts = run (many g (λ xs. xs)) ts

all-unrolled : {A : Type 0} (g : Grammar A) → may_be_empty g ≡ false → (ts : List Token) → starts (first g) ts ≡ true
    → all g ts ≡ and_then (run g ts) (λ x rest. onto x (all g rest))
all-unrolled {A} g e ts s =
    same_again (run_many (first g) (run g) (length ts) ts) ∙ (unrolled (first g) (run g) (run-shorter g e) ts s
    ∙ and_then-same (run g ts) (λ x rest. onto x (run_many (first g) (run g) (length rest) rest)) (λ x rest. onto x (all g rest))
    (λ x q. ap (onto x.0) (sym (same_again (run_many (first g) (run g) (length x.1) x.1)))))

-- these items before the others
abbrev pub with_front : {A : Type 0} → List A → Read (List A) → Read (List A)
with_front front (Ok read) = Ok (front ++ read.0, read.1)
with_front front (Err rest) = Err rest

front_one : {A : Type 0} (x : A) (r : Read (List A)) → onto x r ≡ with_front (x ∷ []) r
front_one x (Ok read) = refl
front_one x (Err rest) = refl

front_again : {A : Type 0} (front : List A) (x : A) (r : Read (List A)) → with_front front (with_front (x ∷ []) r) ≡ with_front (front ++ x ∷ []) r
front_again {A} front x (Ok read) = ap (λ (xs : List A). Ok (xs, read.1)) (sym (append_assoc front (x ∷ []) read.0))
front_again front x (Err rest) = refl

pub all-none : {A : Type 0} (g : Grammar A) (ts : List Token) → starts (first g) ts ≡ false → all g ts ≡ Ok ([], ts)
all-none g [] s = refl
all-none g (t ∷ ts) s = rw s refl

pub all-fault : {A : Type 0} (g : Grammar A) → may_be_empty g ≡ false → (ts rest : List Token) → starts (first g) ts ≡ true → run g ts ≡ Err rest → all g ts ≡ Err rest
all-fault {A} g e ts rest s h = all-unrolled g e ts s ∙ ap (λ (r : Read A). and_then r (λ x rest. onto x (all g rest))) h

pub all-more : {A : Type 0} (g : Grammar A) → may_be_empty g ≡ false → (ts rest : List Token) (x : A) → starts (first g) ts ≡ true → run g ts ≡ Ok (x, rest)
    → all g ts ≡ with_front (x ∷ []) (all g rest)
all-more {A} g e ts rest x s h = all-unrolled g e ts s ∙ (ap (λ (r : Read A). and_then r (λ x rest. onto x (all g rest))) h ∙ front_one x (all g rest))

all-kept : {A : Type 0} (g : Grammar A) → may_be_empty g ≡ false → (front : List A) (ts rest : List Token) (x : A) (whole : Read (List A)) → starts (first g) ts ≡ true
    → run g ts ≡ Ok (x, rest) → with_front front (all g ts) ≡ whole → with_front (front ++ x ∷ []) (all g rest) ≡ whole
all-kept g e front ts rest x whole s h same = sym (front_again front x (all g rest)) ∙ (sym (ap (with_front front) (all-more g e ts rest x s h)) ∙ same)

read_behind : {A : Type 0} (front : List A) (r : Read (List A)) → and_then r (λ xs end. Ok (front ++ xs, end)) ≡ with_front front (and_then r (λ xs end. Ok (xs, end)))
read_behind front (Ok read) = refl
read_behind front (Err rest) = refl

-- any number of items after some
abbrev pub more_behind : {A : Type 0} → Grammar A → List A → List Token → Read (List A)
more_behind g front ts = run (many g (λ xs. front ++ xs)) ts

pub more-kept : {A : Type 0} (g : Grammar A) → may_be_empty g ≡ false → (front : List A) (ts rest : List Token) (x : A) (whole : Read (List A)) → starts (first g) ts ≡ true
    → run g ts ≡ Ok (x, rest) → more_behind g front ts ≡ whole → more_behind g (front ++ x ∷ []) rest ≡ whole
more-kept g e front ts rest x whole s h same =
    read_behind (front ++ x ∷ []) (items g rest) ∙ all-kept g e front ts rest x whole s h (sym (read_behind front (items g ts)) ∙ same)

-- an item after a separator
abbrev behind : {A : Type 0} → Kind → Grammar A → Grammar A
behind k g = bare k then g

-- one or more items, with a separator of this kind between them
abbrev pub parted : {A : Type 0} → Kind → Grammar A → Grammar (List A)
parted k g = separated (bare k) g

separator-starts : (k : Kind) (ts after : List Token) → run (bare k) ts ≡ Ok (tt, after) → starts (class_number k ∷ []) ts ≡ true
separator-starts k [] after h = absurd (cc)
separator-starts k (t ∷ ts) after h =
    cond_both (class_number t.kind == class_number k) (Ok (tt, ts)) (Err (t ∷ ts)) (λ (q : Read (Unit {0})). q ≡ Ok (tt, after) → starts (class_number k ∷ []) (t ∷ ts) ≡ true)
    (λ s q. rw s refl) (λ s q. absurd (cc)) h

pub parted-last : {A : Type 0} (k : Kind) (g : Grammar A) (ts rest : List Token) (x : A) → run g ts ≡ Ok (x, rest) → starts (class_number k ∷ []) rest ≡ false
    → run (parted k g) ts ≡ Ok (x ∷ [], rest)
parted-last {A} k g ts rest x h s =
    ap (λ (r : Read A). and_then r (λ x rest. onto x (all (behind k g) rest))) h ∙ ap (onto x) (all-none (behind k g) rest s)

pub parted-fault : {A : Type 0} (k : Kind) (g : Grammar A) (ts rest : List Token) → run g ts ≡ Err rest → run (parted k g) ts ≡ Err rest
parted-fault {A} k g ts rest h = ap (λ (r : Read A). and_then r (λ x rest. onto x (all (behind k g) rest))) h

separator-read : {A : Type 0} (k : Kind) (g : Grammar A) (ts after : List Token) → run (bare k) ts ≡ Ok (tt, after) → run (behind k g) ts ≡ run g after
separator-read {A} k g ts after h = ap (λ (r : Read (Unit {0})). and_then r (λ u rest. and_then (run g rest) (λ y end. Ok (y, end)))) h ∙ same_again (run g after)

parted-more : {A : Type 0} (k : Kind) (g : Grammar A) (ts rest after : List Token) (x : A) → run g ts ≡ Ok (x, rest) → run (bare k) rest ≡ Ok (tt, after)
    → run (parted k g) ts ≡ with_front (x ∷ []) (run (parted k g) after)
parted-more {A} k g ts rest after x h c =
    let s = separator-starts k rest after c in
    let u : all (behind k g) rest ≡ run (parted k g) after =
    all-unrolled (behind k g) refl rest s ∙ ap (λ (r : Read A). and_then r (λ x rest. onto x (all (behind k g) rest))) (separator-read k g rest after c) in
    ap (λ (r : Read A). and_then r (λ x rest. onto x (all (behind k g) rest))) h ∙ (ap (onto x) u ∙ front_one x (run (parted k g) after))

-- one more item, and a separator
pub parted-kept : {A : Type 0} (k : Kind) (g : Grammar A) (front : List A) (ts rest after : List Token) (x : A) (whole : Read (List A))
    → run g ts ≡ Ok (x, rest) → run (bare k) rest ≡ Ok (tt, after)
    → with_front front (run (parted k g) ts) ≡ whole → with_front (front ++ x ∷ []) (run (parted k g) after) ≡ whole
parted-kept k g front ts rest after x whole h c same =
    sym (front_again front x (run (parted k g) after)) ∙ (sym (ap (with_front front) (parted-more k g ts rest after x h c)) ∙ same)

-- the last item
pub parted-ended : {A : Type 0} (k : Kind) (g : Grammar A) (front : List A) (ts rest : List Token) (x : A) (whole : Read (List A))
    → run g ts ≡ Ok (x, rest) → starts (class_number k ∷ []) rest ≡ false
    → with_front front (run (parted k g) ts) ≡ whole → whole ≡ Ok (front ++ x ∷ [], rest)
parted-ended k g front ts rest x whole h s same = sym same ∙ ap (with_front front) (parted-last k g ts rest x h s)

-- the tokens end with these
abbrev pub EndsWith : List Token → List Token → Type 0
EndsWith rest ts = (front : List Token) × (ts ≡ front ++ rest)

ends_trans : (a b c : List Token) → EndsWith a b → EndsWith b c → EndsWith a c
ends_trans a b c h k = (k.0 ++ h.0, k.1 ∙ (ap (λ (x : List Token). k.0 ++ x) h.1 ∙ sym (append_assoc k.0 h.0 a)))

-- reading leaves a suffix of the tokens
abbrev Leaves : {V : Type 0} → Read V → List Token → Type 0
Leaves (Ok r) ts = EndsWith r.1 ts
Leaves (Err rest) ts = EndsWith rest ts

leaves_more : {V : Type 0} (r : Read V) (a b : List Token) → EndsWith a b → Leaves r a → Leaves r b
leaves_more (Ok r) a b e h = ends_trans r.1 a b h e
leaves_more (Err rest) a b e h = ends_trans rest a b h e

and_then-leaves : {A B : Type 0} (r : Read A) (f : A → List Token → Read B) (ts : List Token) → Leaves r ts → ((x : A) (rest : List Token) → Leaves (f x rest) rest) → Leaves (and_then r f) ts
and_then-leaves (Ok x) f ts h k = leaves_more (f x.0 x.1) x.1 ts h (k x.0 x.1)
and_then-leaves (Err e) f ts h k = h

run_many-leaves : {A : Type 0} (classes : List ℕ) (read : List Token → Read A) → ((ts : List Token) → Leaves (read ts) ts) → (n : ℕ) (ts : List Token) → Leaves (run_many classes read n ts) ts
run_many-leaves classes read h zero ts = ([], refl)
run_many-leaves {A} classes read h (suc n) ts =
    cond_both (starts classes ts) (and_then (read ts) (λ x rest. onto x (run_many classes read n rest))) (Ok ([], ts)) (λ (r : Read (List A)). Leaves r ts)
    (λ s. and_then-leaves (read ts) (λ x rest. onto x (run_many classes read n rest)) ts (h ts)
    (λ x rest. and_then-leaves (run_many classes read n rest) (λ xs end. Ok (x ∷ xs, end)) rest (run_many-leaves classes read h n rest) (λ xs end. ([], refl))))
    (λ s. ([], refl))

run-leaves : {V : Type 0} (g : Grammar V) (ts : List Token) → Leaves (run g ts) ts
run-leaves (token like f) [] = ([], refl)
run-leaves {V} (token like f) (t ∷ ts) =
    cond_both (class_number t.kind == class_number like) (Ok (f t.kind, ts)) (Err (t ∷ ts)) (λ (r : Read V). Leaves r (t ∷ ts)) (λ s. (t ∷ [], refl)) (λ s. ([], refl))
run-leaves (nothing d) ts = ([], refl)
run-leaves (sequence a b f) ts =
    and_then-leaves (run a ts) (λ x rest. and_then (run b rest) (λ y end. Ok (f x y, end))) ts (run-leaves a ts)
    (λ x rest. and_then-leaves (run b rest) (λ y end. Ok (f x y, end)) rest (run-leaves b rest) (λ y end. ([], refl)))
run-leaves {V} (either a b) ts = cond_both (starts (first a) ts) (run a ts) (run b ts) (λ (r : Read V). Leaves r ts) (λ s. run-leaves a ts) (λ s. run-leaves b ts)
run-leaves (many a f) ts =
    and_then-leaves (run_many (first a) (run a) (length ts) ts) (λ xs end. Ok (f xs, end)) ts (run_many-leaves (first a) (run a) (run-leaves a) (length ts) ts) (λ xs end. ([], refl))

ended-leaves : {V : Type 0} (v : V) (left rest : List Token) → ended v left ≡ Err rest → left ≡ rest
ended-leaves v [] rest h = absurd (cc)
ended-leaves v (t ∷ ts) rest h = cc

whole-leaves : {V : Type 0} (r : Read V) (ts rest : List Token) → Leaves r ts → whole_of r ≡ Err rest → EndsWith rest ts
whole-leaves (Ok r) ts rest l h = subst (λ (x : List Token). EndsWith x ts) (ended-leaves r.0 r.1 rest h) l
whole-leaves (Err e) ts rest l h = let same : e ≡ rest = cc in subst (λ (x : List Token). EndsWith x ts) same l

-- the tokens from a fault on are a suffix of the tokens
pub run_whole-leaves : {V : Type 0} (g : Grammar V) (ts rest : List Token) → run_whole g ts ≡ Err rest → EndsWith rest ts
run_whole-leaves g ts rest h = whole-leaves (run g ts) ts rest (run-leaves g ts) h
