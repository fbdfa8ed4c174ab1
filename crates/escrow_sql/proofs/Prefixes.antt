-- What reading took and where it stopped do not depend on what follows, as long as it begins with a token of the same
-- class.
use Rattle.std.proofs.Common.{◌≡◌, ℕ, Bool, zero, suc, ◌≤◌, true, false, Ok, Err, List, [], ◌∷◌, ◌++◌, length, refl, sym, ap, ◌∙◌, subst, inl, inr, ◌⊎◌, append_assoc, arith}
use Rattle.std.specs.Prelude.{◌==◌, ◌&&◌, not}
use Rattle.std.proofs.lemmas.Bool.{and_parts, not-true, eqb-true, cond-true, cond-false, cases_Bool}
use Rattle.escrow_sql.specs.declared.token.Kind.{Kind}
use Rattle.escrow_sql.specs.declared.token.Token.{Token}
use Rattle.escrow_sql.specs.Classes.{class_number}
use Rattle.escrow_sql.specs.Grammar.{Grammar, token, nothing, sequence, either, many, Sentence, Repeats}
use Rattle.escrow_sql.specs.Predictive.{run, and_then, starts, first, more, may_be_empty, apart, is_predictive}
use Rattle.escrow_sql.proofs.ClassLemmas.{same_class}
use Rattle.escrow_sql.proofs.Heads.{SameHead, starts-same, same_behind}
use Rattle.escrow_sql.proofs.Reading.{Read, items, items-none, items-unrolled, onto, and_then-Ok, Ok-same, run-shorter}

-- reading took a prefix that is in S with this value; it takes the same whatever follows
abbrev pub Took : {V : Type 0} → (List Token → Read V) → (List Token → V → Type 0) → List Token → V → List Token → Type 0
Took read S ts v rest =
    (front : List Token) × (ts ≡ front ++ rest) × S front v × ((other : List Token) → SameHead rest other → read (front ++ other) ≡ Ok (v, other))

-- an element of S begins with the prefix after which reading stopped; reading stops there whatever follows
abbrev pub Stuck : {V : Type 0} → (List Token → Read V) → (List Token → V → Type 0) → List Token → List Token → Type 0
Stuck {V} read S ts rest =
    (front : List Token) × (ts ≡ front ++ rest) × ((end : List Token) × (v : V) × S (front ++ end) v) × ((other : List Token) → SameHead rest other → read (front ++ other) ≡ Err other)

-- each grammar has a sentence
pub sample : {V : Type 0} (g : Grammar V) → (w : List Token) × (v : V) × Sentence g w v
sample (token like f) = let t : Token = record { kind = like; start = 0; end = 0 } in (t ∷ [], f like, (t, refl, refl, refl))
sample (nothing d) = ([], d, (refl, refl))
sample (sequence a b f) =
    let x = sample a in let y = sample b in
    (x.0 ++ y.0, f x.1 y.1, (x.0, y.0, x.1, y.1, refl, x.2, y.2, refl))
sample (either a b) = let x = sample a in (x.0, x.1, inl x.2)
sample (many a f) = ([], f [], ([], refl, refl))

Pair-same : {V : Type 0} (v w : V) (r s : List Token) → ◌≡◌ {A = Read V} (Ok (v, r)) (Ok (w, s)) → (v ≡ w) × (r ≡ s)
Pair-same {V} v w r s h =
    let e = Ok-same {A = V × List Token} {E = List Token} (v, r) (w, s) h in
    (ap (λ (p : V × List Token). p.0) e, ap (λ (p : V × List Token). p.1) e)

Err-same : {V : Type 0} (r s : List Token) → ◌≡◌ {A = Read V} (Err r) (Err s) → r ≡ s
Err-same r s h = cc

-- the front of both parts
seam : (ts fa fb r rest : List Token) → ts ≡ fa ++ r → r ≡ fb ++ rest → ts ≡ (fa ++ fb) ++ rest
seam ts fa fb r rest h k = h ∙ (ap (λ (x : List Token). fa ++ x) k ∙ sym (append_assoc fa fb rest))

head_behind : (r fb rest other : List Token) → r ≡ fb ++ rest → SameHead rest other → SameHead r (fb ++ other)
head_behind r fb rest other h s = subst (λ (x : List Token). SameHead x (fb ++ other)) (sym h) (same_behind fb rest other s)

-- reading two parts again, whatever follows, if the first was taken
both_again : {A B V : Type 0} (ra : List Token → Read A) (rb : List Token → Read B) (f : A → B → V) (fa fb r rest other : List Token) (x : A) (z : Read B)
    → ((us : List Token) → SameHead r us → ra (fa ++ us) ≡ Ok (x, us)) → r ≡ fb ++ rest → SameHead rest other → rb (fb ++ other) ≡ z
    → and_then (ra ((fa ++ fb) ++ other)) (λ x q. and_then (rb q) (λ y end. Ok (f x y, end))) ≡ and_then z (λ y end. Ok (f x y, end))
both_again {A} {B} {V} ra rb f fa fb r rest other x z first e s second =
    let ea = ap ra (append_assoc fa fb other) ∙ first (fb ++ other) (head_behind r fb rest other e s) in
    ap (λ (w : Read A). and_then w (λ x q. and_then (rb q) (λ y end. Ok (f x y, end)))) ea ∙ ap (λ (w : Read B). and_then w (λ y end. Ok (f x y, end))) second

-- both parts were taken
took_both : {A B V : Type 0} (ra : List Token → Read A) (rb : List Token → Read B) (Sa : List Token → A → Type 0) (Sb : List Token → B → Type 0)
    (f : A → B → V) (S : List Token → V → Type 0) → ((s t : List Token) (x : A) (y : B) → Sa s x → Sb t y → S (s ++ t) (f x y))
    → (ts r rest : List Token) (x : A) (y : B) → Took ra Sa ts x r → Took rb Sb r y rest
    → Took (λ us. and_then (ra us) (λ x q. and_then (rb q) (λ y end. Ok (f x y, end)))) S ts (f x y) rest
took_both {A} {B} {V} ra rb Sa Sb f S join ts r rest x y a b = (
  a.0 ++ b.0,
  seam ts a.0 b.0 r rest a.1 b.1,
  join a.0 b.0 x y a.2 b.2,
  λ other s. both_again ra rb f a.0 b.0 r rest other x (Ok (y, other)) a.3 b.1 s (b.3 other s),
)

-- reading stopped in the second part
stuck_second : {A B V : Type 0} (ra : List Token → Read A) (rb : List Token → Read B) (Sa : List Token → A → Type 0) (Sb : List Token → B → Type 0)
    (f : A → B → V) (S : List Token → V → Type 0) → ((s t : List Token) (x : A) (y : B) → Sa s x → Sb t y → S (s ++ t) (f x y))
    → (ts r rest : List Token) (x : A) → Took ra Sa ts x r → Stuck rb Sb r rest
    → Stuck (λ us. and_then (ra us) (λ x q. and_then (rb q) (λ y end. Ok (f x y, end)))) S ts rest
stuck_second {A} {B} {V} ra rb Sa Sb f S join ts r rest x a b =
    let m = b.2 in (
      a.0 ++ b.0,
      seam ts a.0 b.0 r rest a.1 b.1,
      (m.0, f x m.1, subst (λ (w : List Token). S w (f x m.1)) (sym (append_assoc a.0 b.0 m.0)) (join a.0 (b.0 ++ m.0) x m.1 a.2 m.2)),
      λ other s. both_again ra rb f a.0 b.0 r rest other x (Err other) a.3 b.1 s (b.3 other s),
    )

-- reading stopped in the first part
stuck_first : {A B V : Type 0} (ra : List Token → Read A) (rb : List Token → Read B) (Sa : List Token → A → Type 0) (Sb : List Token → B → Type 0)
    (f : A → B → V) (S : List Token → V → Type 0) → ((s t : List Token) (x : A) (y : B) → Sa s x → Sb t y → S (s ++ t) (f x y))
    → (ts rest : List Token) → Stuck ra Sa ts rest → ((w : List Token) × (y : B) × Sb w y)
    → Stuck (λ us. and_then (ra us) (λ x q. and_then (rb q) (λ y end. Ok (f x y, end)))) S ts rest
stuck_first {A} {B} {V} ra rb Sa Sb f S join ts rest a w =
    let m = a.2 in (
      a.0,
      a.1,
      (m.0 ++ w.0, f m.1 w.1, subst (λ (u : List Token). S u (f m.1 w.1)) (append_assoc a.0 m.0 w.0) (join (a.0 ++ m.0) w.0 m.1 w.1 m.2 w.2)),
      λ other s. ap (λ (z : Read A). and_then z (λ x q. and_then (rb q) (λ y end. Ok (f x y, end)))) (a.3 other s),
    )

-- reading two parts took both, or stopped in the first, or in the second
abbrev Parts : {A B V : Type 0} → (A → B → V) → Read A → (List Token → Read B) → V → List Token → Type 0
Parts {A} {B} f ra rb v rest = (x : A × List Token) × (y : B) × (ra ≡ Ok x) × (rb x.1 ≡ Ok (y, rest)) × (f x.0 y ≡ v)

parts-Ok : {A B V : Type 0} (f : A → B → V) (ra : Read A) (rb : List Token → Read B) (v : V) (rest : List Token)
    → and_then ra (λ x q. and_then (rb q) (λ y end. Ok (f x y, end))) ≡ Ok (v, rest) → Parts f ra rb v rest
parts-Ok {A} {B} {V} f ra rb v rest h =
    let x = and_then-Ok ra (λ x q. and_then (rb q) (λ y end. Ok (f x y, end))) (v, rest) h in
    let y = and_then-Ok (rb x.0.1) (λ y end. Ok (f x.0.0 y, end)) (v, rest) x.2 in
    let e = Pair-same (f x.0.0 y.0.0) v y.0.1 rest y.2 in
    (x.0, y.0.0, x.1, y.1 ∙ ap (λ (z : List Token). Ok (y.0.0, z)) e.1, e.0)

second_Err : {B V : Type 0} (f : B → V) (r : Read B) (rest : List Token) → and_then r (λ y end. Ok (f y, end)) ≡ Err rest → r ≡ Err rest
second_Err f (Ok y) rest h = absurd (cc)
second_Err f (Err e) rest h = let same : e ≡ rest = cc in ap (λ (z : List Token). Err z) same

parts-Err : {A B V : Type 0} (f : A → B → V) (ra : Read A) (rb : List Token → Read B) (rest : List Token)
    → and_then ra (λ x q. and_then (rb q) (λ y end. Ok (f x y, end))) ≡ Err rest → (ra ≡ Err rest) ⊎ ((x : A × List Token) × (ra ≡ Ok x) × (rb x.1 ≡ Err rest))
parts-Err {A} {B} {V} f (Ok x) rb rest h = inr (x, refl, second_Err (f x.0) (rb x.1) rest h)
parts-Err f (Err e) rb rest h = let same : e ≡ rest = cc in inl (ap (λ (z : List Token). Err z) same)

took_none : {A : Type 0} (a : Grammar A) (ts rest : List Token) (xs : List A) → starts (first a) ts ≡ false → items a ts ≡ Ok (xs, rest) → Took (items a) (Repeats (Sentence a)) ts xs rest
took_none {A} a ts rest xs s h =
    let p = Pair-same [] xs ts rest (sym (items-none a ts s) ∙ h) in
    subst (λ (ys : List A). Took (items a) (Repeats (Sentence a)) ts ys rest) p.0
    ([], p.1, refl, λ other q. items-none a other (sym (starts-same (first a) rest other q) ∙ (ap (starts (first a)) (sym p.1) ∙ s)))

begins_same : (classes : List ℕ) (ts front rest other : List Token) (b : Bool) → ts ≡ front ++ rest → SameHead rest other → starts classes ts ≡ b → starts classes (front ++ other) ≡ b
begins_same classes ts front rest other b e s h = sym (starts-same classes ts (front ++ other) (head_behind ts front rest other e s)) ∙ h

-- reading items again, whatever follows, if one comes next
unrolled_again : {A : Type 0} (a : Grammar A) → may_be_empty a ≡ false → (ts front rest other : List Token) → starts (first a) ts ≡ true → ts ≡ front ++ rest → SameHead rest other
    → items a (front ++ other) ≡ and_then (run a (front ++ other)) (λ x q. onto x (items a q))
unrolled_again a e ts front rest other s same q = items-unrolled a e (front ++ other) (begins_same (first a) ts front rest other true same q s)

-- if an item comes next, reading items is reading that one and then the others
took_unrolled : {A : Type 0} (a : Grammar A) → may_be_empty a ≡ false → (ts rest : List Token) (ys : List A) → starts (first a) ts ≡ true
    → Took (λ us. and_then (run a us) (λ x q. onto x (items a q))) (Repeats (Sentence a)) ts ys rest → Took (items a) (Repeats (Sentence a)) ts ys rest
took_unrolled a e ts rest ys s both = (both.0, both.1, both.2, λ other q. unrolled_again a e ts both.0 rest other s both.1 q ∙ both.3 other q)

-- the items of a repetition were taken
took_items : {A : Type 0} (a : Grammar A) → may_be_empty a ≡ false → ((ts rest : List Token) (v : A) → run a ts ≡ Ok (v, rest) → Took (run a) (Sentence a) ts v rest)
    → (n : ℕ) (ts rest : List Token) (xs : List A) → length ts ≤ n → items a ts ≡ Ok (xs, rest) → Took (items a) (Repeats (Sentence a)) ts xs rest
took_items {A} a e ta zero ts rest xs l h =
    elim (cases_Bool (starts (first a) ts)) [
      | inl s ↦
          let p = parts-Ok (λ x xs. x ∷ xs) (run a ts) (items a) xs rest (sym (items-unrolled a e ts s) ∙ h) in
          let shorter = run-shorter a e ts p.0 p.2 in absurd (omega (arith, shorter))
      | inr s ↦ took_none a ts rest xs s h
    ]
took_items {A} a e ta (suc n) ts rest xs l h =
    elim (cases_Bool (starts (first a) ts)) [
      | inl s ↦
          let p = parts-Ok (λ x xs. x ∷ xs) (run a ts) (items a) xs rest (sym (items-unrolled a e ts s) ∙ h) in
          let shorter = run-shorter a e ts p.0 p.2 in
          let others = took_items a e ta n p.0.1 rest p.1 (omega (arith, shorter)) p.3 in
          subst (λ (ys : List A). Took (items a) (Repeats (Sentence a)) ts ys rest) p.4
          (took_unrolled a e ts rest _ s
          (took_both (run a) (items a) (Sentence a) (Repeats (Sentence a)) (λ x xs. x ∷ xs) (Repeats (Sentence a)) (λ s t x y sa sb. (s, t, refl, sa, sb))
          ts p.0.1 rest p.0.0 p.1 (ta ts p.0.1 p.0.0 p.2) others))
      | inr s ↦ took_none a ts rest xs s h
    ]

-- the same if reading stopped in one of them
stuck_unrolled : {A : Type 0} (a : Grammar A) → may_be_empty a ≡ false → (ts rest : List Token) → starts (first a) ts ≡ true
    → Stuck (λ us. and_then (run a us) (λ x q. onto x (items a q))) (Repeats (Sentence a)) ts rest → Stuck (items a) (Repeats (Sentence a)) ts rest
stuck_unrolled a e ts rest s both = (both.0, both.1, both.2, λ other q. unrolled_again a e ts both.0 rest other s both.1 q ∙ both.3 other q)

-- reading stopped in one item of a repetition
stuck_items : {A : Type 0} (a : Grammar A) → may_be_empty a ≡ false → ((ts rest : List Token) (v : A) → run a ts ≡ Ok (v, rest) → Took (run a) (Sentence a) ts v rest)
    → ((ts rest : List Token) → run a ts ≡ Err rest → Stuck (run a) (Sentence a) ts rest)
    → (n : ℕ) (ts rest : List Token) → length ts ≤ n → items a ts ≡ Err rest → Stuck (items a) (Repeats (Sentence a)) ts rest
stuck_items {A} a e ta sa zero [] rest l h = absurd (cc)
stuck_items {A} a e ta sa zero (t ∷ ts) rest l h = absurd (omega arith)
stuck_items {A} a e ta sa (suc n) ts rest l h =
    elim (cases_Bool (starts (first a) ts)) [
      | inl s ↦
          elim (parts-Err (λ x xs. x ∷ xs) (run a ts) (items a) rest (sym (items-unrolled a e ts s) ∙ h)) [
            | inl p ↦ stuck_unrolled a e ts rest s
                (stuck_first (run a) (items a) (Sentence a) (Repeats (Sentence a)) (λ x xs. x ∷ xs) (Repeats (Sentence a)) (λ s t x y sa sb. (s, t, refl, sa, sb))
                ts rest (sa ts rest p) ([], [], refl))
            | inr p ↦
                let shorter = run-shorter a e ts p.0 p.1 in
                stuck_unrolled a e ts rest s
                (stuck_second (run a) (items a) (Sentence a) (Repeats (Sentence a)) (λ x xs. x ∷ xs) (Repeats (Sentence a)) (λ s t x y sa sb. (s, t, refl, sa, sb))
                ts p.0.1 rest p.0.0 (ta ts p.0.1 p.0.0 p.1) (stuck_items a e ta sa n p.0.1 rest (omega (arith, shorter)) p.2))
          ]
      | inr s ↦ absurd (let both : ◌≡◌ {A = Read (List A)} (Ok ([], ts)) (Err rest) = sym (items-none a ts s) ∙ h in cc)
    ]

-- reading one of two alternatives is reading the one that the tokens begin with
either_left : {V : Type 0} (a b : Grammar V) (ts : List Token) → starts (first a) ts ≡ true → run (either a b) ts ≡ run a ts
either_left a b ts e = cond-true (starts (first a) ts) (run a ts) (run b ts) e

either_right : {V : Type 0} (a b : Grammar V) (ts : List Token) → starts (first a) ts ≡ false → run (either a b) ts ≡ run b ts
either_right a b ts e = cond-false (starts (first a) ts) (run a ts) (run b ts) e

took_left : {V : Type 0} (a b : Grammar V) (ts rest : List Token) (v : V) → starts (first a) ts ≡ true → Took (run a) (Sentence a) ts v rest → Took (run (either a b)) (Sentence (either a b)) ts v rest
took_left a b ts rest v e t =
    (t.0, t.1, inl t.2, λ other s. either_left a b (t.0 ++ other) (begins_same (first a) ts t.0 rest other true t.1 s e) ∙ t.3 other s)

took_right : {V : Type 0} (a b : Grammar V) (ts rest : List Token) (v : V) → starts (first a) ts ≡ false → Took (run b) (Sentence b) ts v rest → Took (run (either a b)) (Sentence (either a b)) ts v rest
took_right a b ts rest v e t =
    (t.0, t.1, inr t.2, λ other s. either_right a b (t.0 ++ other) (begins_same (first a) ts t.0 rest other false t.1 s e) ∙ t.3 other s)

stuck_left : {V : Type 0} (a b : Grammar V) (ts rest : List Token) → starts (first a) ts ≡ true → Stuck (run a) (Sentence a) ts rest → Stuck (run (either a b)) (Sentence (either a b)) ts rest
stuck_left a b ts rest e t =
    (t.0, t.1, (t.2.0, t.2.1, inl t.2.2), λ other s. either_left a b (t.0 ++ other) (begins_same (first a) ts t.0 rest other true t.1 s e) ∙ t.3 other s)

stuck_right : {V : Type 0} (a b : Grammar V) (ts rest : List Token) → starts (first a) ts ≡ false → Stuck (run b) (Sentence b) ts rest → Stuck (run (either a b)) (Sentence (either a b)) ts rest
stuck_right a b ts rest e t =
    (t.0, t.1, (t.2.0, t.2.1, inr t.2.2), λ other s. either_right a b (t.0 ++ other) (begins_same (first a) ts t.0 rest other false t.1 s e) ∙ t.3 other s)

-- the tokens that reading took are a sentence, and are taken whatever follows
pub took : {V : Type 0} (g : Grammar V) → is_predictive g ≡ true → (ts rest : List Token) (v : V) → run g ts ≡ Ok (v, rest) → Took (run g) (Sentence g) ts v rest
took (token like f) p [] rest v h = absurd (cc)
took {V} (token like f) p (t ∷ ts) rest v h =
    elim (cases_Bool (class_number t.kind == class_number like)) [
      | inl e ↦
          let q = Pair-same (f t.kind) v ts rest (sym (cond-true (class_number t.kind == class_number like) (Ok (f t.kind, ts)) (Err (t ∷ ts)) e) ∙ h) in (
            t ∷ [],
            ap (λ (us : List Token). t ∷ us) q.1,
            (t, refl, same_class t.kind like (eqb-true (class_number t.kind) (class_number like) e), sym q.0),
            λ other s. cond-true (class_number t.kind == class_number like) (Ok (f t.kind, other)) (Err (t ∷ other)) e ∙ ap (λ (x : V). Ok (x, other)) q.0,
          )
      | inr e ↦ absurd (let both : ◌≡◌ {A = Read V} (Err (t ∷ ts)) (Ok (v, rest)) = sym (cond-false (class_number t.kind == class_number like) (Ok (f t.kind, ts)) (Err (t ∷ ts)) e) ∙ h in cc)
    ]
took {V} (nothing d) p ts rest v h =
    let q = Pair-same d v ts rest h in ([], q.1, (refl, sym q.0), λ other s. ap (λ (x : V). Ok (x, other)) q.0)
took {V} (sequence a b f) p ts rest v h =
    let pa = and_parts (is_predictive a) (is_predictive b && apart (more a) (first b)) p in
    let pb = and_parts (is_predictive b) (apart (more a) (first b)) pa.1 in
    let q = parts-Ok f (run a ts) (run b) v rest h in
    subst (λ (x : V). Took (run (sequence a b f)) (Sentence (sequence a b f)) ts x rest) q.4
    (took_both (run a) (run b) (Sentence a) (Sentence b) f (Sentence (sequence a b f)) (λ s t x y sa sb. (s, t, x, y, refl, sa, sb, refl))
    ts q.0.1 rest q.0.0 q.1 (took a pa.0 ts q.0.1 q.0.0 q.2) (took b pb.0 q.0.1 rest q.1 q.3))
took {V} (either a b) p ts rest v h =
    let pa = and_parts (is_predictive a) (is_predictive b && (not (may_be_empty a) && apart (first a) (first b))) p in
    let pb = and_parts (is_predictive b) (not (may_be_empty a) && apart (first a) (first b)) pa.1 in
    elim (cases_Bool (starts (first a) ts)) [
      | inl e ↦ took_left a b ts rest v e (took a pa.0 ts rest v (sym (either_left a b ts e) ∙ h))
      | inr e ↦ took_right a b ts rest v e (took b pb.0 ts rest v (sym (either_right a b ts e) ∙ h))
    ]
took {V} (many {A} a f) p ts rest v h =
    let pa = and_parts (is_predictive a) (not (may_be_empty a) && apart (more a) (first a)) p in
    let pn = and_parts (not (may_be_empty a)) (apart (more a) (first a)) pa.1 in
    let x = and_then-Ok (items a ts) (λ xs end. Ok (f xs, end)) (v, rest) h in
    let q = Pair-same (f x.0.0) v x.0.1 rest x.2 in
    let t = took_items a (not-true (may_be_empty a) pn.0) (took a pa.0) (length ts) ts rest x.0.0 (omega arith) (x.1 ∙ ap (λ (z : List Token). Ok (x.0.0, z)) q.1) in
    (t.0, t.1, (x.0.0, t.2, sym q.0), λ other s. ap (λ (r : Read (List A)). and_then r (λ xs end. Ok (f xs, end))) (t.3 other s) ∙ ap (λ (z : V). Ok (z, other)) q.0)

no_token : {V : Type 0} (like : Kind) (f : Kind → V) (other : List Token) → SameHead [] other → run (token like f) other ≡ Err other
no_token like f [] s = refl
no_token like f (u ∷ us) s = absurd s

other_token : {V : Type 0} (like : Kind) (f : Kind → V) (t : Token) (ts other : List Token) → (class_number t.kind == class_number like) ≡ false → SameHead (t ∷ ts) other → run (token like f) other ≡ Err other
other_token like f t ts [] e s = absurd s
other_token like f t ts (u ∷ us) e s =
    cond-false (class_number u.kind == class_number like) (Ok (f u.kind, us)) (Err (u ∷ us)) (ap (λ (c : ℕ). c == class_number like) (sym s) ∙ e)

-- if reading stopped, a sentence begins with the tokens before that point, and reading stops there whatever follows
pub stuck : {V : Type 0} (g : Grammar V) → is_predictive g ≡ true → (ts rest : List Token) → run g ts ≡ Err rest → Stuck (run g) (Sentence g) ts rest
stuck {V} (token like f) p [] rest h =
    subst (λ (r : List Token). Stuck (run (token like f)) (Sentence (token like f)) [] r) (Err-same {V = V} [] rest h)
    ([], refl, sample (token like f), no_token like f)
stuck {V} (token like f) p (t ∷ ts) rest h =
    elim (cases_Bool (class_number t.kind == class_number like)) [
      | inl e ↦ absurd (let both : ◌≡◌ {A = Read V} (Ok (f t.kind, ts)) (Err rest) = sym (cond-true (class_number t.kind == class_number like) (Ok (f t.kind, ts)) (Err (t ∷ ts)) e) ∙ h in cc)
      | inr e ↦
          subst (λ (r : List Token). Stuck (run (token like f)) (Sentence (token like f)) (t ∷ ts) r)
          (Err-same {V = V} (t ∷ ts) rest (sym (cond-false (class_number t.kind == class_number like) (Ok (f t.kind, ts)) (Err (t ∷ ts)) e) ∙ h))
          ([], refl, sample (token like f), λ other s. other_token like f t ts other e s)
    ]
stuck (nothing d) p ts rest h = absurd (cc)
stuck {V} (sequence a b f) p ts rest h =
    let pa = and_parts (is_predictive a) (is_predictive b && apart (more a) (first b)) p in
    let pb = and_parts (is_predictive b) (apart (more a) (first b)) pa.1 in
    elim (parts-Err f (run a ts) (run b) rest h) [
      | inl q ↦ stuck_first (run a) (run b) (Sentence a) (Sentence b) f (Sentence (sequence a b f)) (λ s t x y sa sb. (s, t, x, y, refl, sa, sb, refl))
          ts rest (stuck a pa.0 ts rest q) (sample b)
      | inr q ↦ stuck_second (run a) (run b) (Sentence a) (Sentence b) f (Sentence (sequence a b f)) (λ s t x y sa sb. (s, t, x, y, refl, sa, sb, refl))
          ts q.0.1 rest q.0.0 (took a pa.0 ts q.0.1 q.0.0 q.1) (stuck b pb.0 q.0.1 rest q.2)
    ]
stuck {V} (either a b) p ts rest h =
    let pa = and_parts (is_predictive a) (is_predictive b && (not (may_be_empty a) && apart (first a) (first b))) p in
    let pb = and_parts (is_predictive b) (not (may_be_empty a) && apart (first a) (first b)) pa.1 in
    elim (cases_Bool (starts (first a) ts)) [
      | inl e ↦ stuck_left a b ts rest e (stuck a pa.0 ts rest (sym (either_left a b ts e) ∙ h))
      | inr e ↦ stuck_right a b ts rest e (stuck b pb.0 ts rest (sym (either_right a b ts e) ∙ h))
    ]
stuck {V} (many {A} a f) p ts rest h =
    let pa = and_parts (is_predictive a) (not (may_be_empty a) && apart (more a) (first a)) p in
    let pn = and_parts (not (may_be_empty a)) (apart (more a) (first a)) pa.1 in
    let e = second_Err f (items a ts) rest h in
    let t = stuck_items a (not-true (may_be_empty a) pn.0) (took a pa.0) (stuck a pa.0) (length ts) ts rest (omega arith) e in
    (t.0, t.1, (t.2.0, f t.2.1, (t.2.1, t.2.2, refl)), λ other s. ap (λ (r : Read (List A)). and_then r (λ xs end. Ok (f xs, end))) (t.3 other s))
