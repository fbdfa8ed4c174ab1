-- What a sentence begins with; reading returns the value of a sentence.
use Rattle.std.proofs.Common.{◌≡◌, ℕ, Bool, true, false, Ok, Err, List, [], ◌∷◌, ◌++◌, refl, sym, ap, ◌∙◌, subst, inl, inr, append_assoc}
use Rattle.std.specs.Prelude.{◌==◌, ◌&&◌, not, if◌then◌else◌}
use Rattle.std.proofs.lemmas.Bool.{or_left, or_right, and_parts, and_from, not-true, eq-eqb, cond-true, cond-false}
use Rattle.escrow_sql.specs.declared.token.Token.{Token}
use Rattle.escrow_sql.specs.Classes.{class_number}
use Rattle.escrow_sql.specs.Grammar.{Grammar, token, nothing, sequence, either, many, Sentence, Repeats}
use Rattle.escrow_sql.specs.Predictive.{run, and_then, has, starts, first, more, may_be_empty, apart, is_predictive}
use Rattle.escrow_sql.proofs.ClassLemmas.{same_number}
use Rattle.escrow_sql.proofs.Heads.{has-front, has-back, starts-none, apart-none, cut, none_of_both}
use Rattle.escrow_sql.proofs.Reading.{Read, items, items-none, items-unrolled, onto}

-- if the empty list of tokens is a sentence, the grammar may be empty
pub empty-sentence : {V : Type 0} (g : Grammar V) (v : V) (ts : List Token) → ts ≡ [] → Sentence g ts v → may_be_empty g ≡ true
empty-sentence (token like f) v ts e h = absurd (let both : [] ≡ h.0 ∷ [] = sym e ∙ h.1 in cc)
empty-sentence (nothing d) v ts e h = refl
empty-sentence (sequence a b f) v ts e h =
    let n = none_of_both h.0 h.1 (sym h.4 ∙ e) in
    and_from (may_be_empty a) (may_be_empty b) (empty-sentence a h.2 h.0 n.0 h.5) (empty-sentence b h.3 h.1 n.1 h.6)
empty-sentence (either a b) v ts e (inl h) = or_left (may_be_empty a) (may_be_empty b) (empty-sentence a v ts e h)
empty-sentence (either a b) v ts e (inr h) = or_right (may_be_empty a) (may_be_empty b) (empty-sentence b v ts e h)
empty-sentence (many a f) v ts e h = refl

repeats_lead : {A : Type 0} (S : List Token → A → Type 0) (P : Token → Type 0) → ((u : Token) (w ts : List Token) (x : A) → ts ≡ u ∷ w → S ts x → P u)
    → (xs : List A) (u : Token) (w ts : List Token) → ts ≡ u ∷ w → Repeats S ts xs → P u
repeats_lead S P lead [] u w ts e h = absurd (let both : [] ≡ u ∷ w = sym h ∙ e in cc)
repeats_lead S P lead (x ∷ xs) u w ts e h =
    elim (cut h.0 h.1 u w (sym h.2 ∙ e)) [
      | inl c ↦ repeats_lead S P lead xs u w h.1 c.1 h.4
      | inr c ↦ lead u c.0 h.0 x c.1 h.3
    ]

-- the first token of a sentence is of a class with which sentences begin
pub leads : {V : Type 0} (g : Grammar V) (u : Token) (w ts : List Token) (v : V) → ts ≡ u ∷ w → Sentence g ts v → has (first g) (class_number u.kind) ≡ true
leads (token like f) u w ts v e h =
    let both : h.0 ∷ [] ≡ u ∷ w = sym h.1 ∙ e in
    let same : u ≡ h.0 = cc in
    or_left (class_number u.kind == class_number like) false (eq-eqb (class_number u.kind) (class_number like) (ap (λ (t : Token). class_number t.kind) same ∙ same_number h.0.kind like h.2))
leads (nothing d) u w ts v e h = absurd (let both : [] ≡ u ∷ w = sym h.0 ∙ e in cc)
leads (sequence a b f) u w ts v e h =
    elim (cut h.0 h.1 u w (sym h.4 ∙ e)) [
      | inl c ↦
          let m = empty-sentence a h.2 h.0 c.0 h.5 in
          has-back (first a) (if may_be_empty a then first b else []) (class_number u.kind)
          (subst (λ (cs : List ℕ). has cs (class_number u.kind) ≡ true) (sym (cond-true (may_be_empty a) (first b) [] m)) (leads b u w h.1 h.3 c.1 h.6))
      | inr c ↦ has-front (first a) (if may_be_empty a then first b else []) (class_number u.kind) (leads a u c.0 h.0 h.2 c.1 h.5)
    ]
leads (either a b) u w ts v e (inl h) = has-front (first a) (first b) (class_number u.kind) (leads a u w ts v e h)
leads (either a b) u w ts v e (inr h) = has-back (first a) (first b) (class_number u.kind) (leads b u w ts v e h)
leads (many a f) u w ts v e h = repeats_lead (Sentence a) (λ t. has (first a) (class_number t.kind) ≡ true) (leads a) h.0 u w ts e h.1

-- what may follow a part, if the next part is read after it
not_more : (closes opens : List ℕ) (t y : List Token) → apart closes opens ≡ true → ((u : Token) (w : List Token) → t ≡ u ∷ w → has opens (class_number u.kind) ≡ true)
    → (t ≡ [] → starts closes y ≡ false) → starts closes (t ++ y) ≡ false
not_more closes opens [] y a h k = k refl
not_more closes opens (u ∷ w) y a h k = apart-none closes opens (class_number u.kind) a (h u w refl)

chosen : (b : Bool) (cs : List ℕ) (y : List Token) → b ≡ true → starts (if b then cs else []) y ≡ false → starts cs y ≡ false
chosen b cs y e h = subst (λ (ds : List ℕ). starts ds y ≡ false) (cond-true b cs [] e) h

-- tokens that begin as a sentence does
starts-first : (cs : List ℕ) (w y : List Token) → ((u : Token) (v : List Token) → w ≡ u ∷ v → has cs (class_number u.kind) ≡ true) → (w ≡ [] → ⊥) → starts cs (w ++ y) ≡ true
starts-first cs [] y h n = absurd (n refl)
starts-first cs (u ∷ v) y h n = h u v refl

-- a repetition is read back
reads_items : {A : Type 0} (a : Grammar A) → may_be_empty a ≡ false → apart (more a) (first a) ≡ true
    → ((w y : List Token) (x : A) → Sentence a w x → starts (more a) y ≡ false → run a (w ++ y) ≡ Ok (x, y))
    → (xs : List A) (w y : List Token) → Repeats (Sentence a) w xs → starts (first a) y ≡ false → starts (more a) y ≡ false → items a (w ++ y) ≡ Ok (xs, y)
reads_items a n p back [] w y h f m = ap (λ (ts : List Token). items a (ts ++ y)) h ∙ items-none a y f
reads_items {A} a n p back (x ∷ xs) w y h f m =
    let s = h.0 in let t = h.1 in
    let leads_t = λ (u : Token) (v : List Token) (e : t ≡ u ∷ v). repeats_lead (Sentence a) (λ z. has (first a) (class_number z.kind) ≡ true) (leads a) xs u v t e h.4 in
    let clear = not_more (more a) (first a) t y p leads_t (λ e. m) in
    let one = back s (t ++ y) x h.3 clear in
    let others = reads_items a n p back xs t y h.4 f m in
    let begins : starts (first a) (s ++ (t ++ y)) ≡ true =
    starts-first (first a) s (t ++ y) (λ u v e. leads a u v s x e h.3) (λ e. let both : true ≡ false = sym (empty-sentence a x s e h.3) ∙ n in cc) in
    ap (λ (ts : List Token). items a (ts ++ y)) h.2 ∙ (ap (items a) (append_assoc s t y)
    ∙ (items-unrolled a n (s ++ (t ++ y)) begins ∙ (ap (λ (r : Read A). and_then r (λ x rest. onto x (items a rest))) one ∙ ap (onto x) others)))

-- a sentence is read back, if what follows does not continue it
pub reads_back : {V : Type 0} (g : Grammar V) → is_predictive g ≡ true → (w y : List Token) (v : V) → Sentence g w v → starts (more g) y ≡ false → run g (w ++ y) ≡ Ok (v, y)
reads_back {V} (token like f) p w y v h m =
    ap (λ (ts : List Token). run (token like f) (ts ++ y)) h.1
    ∙ (cond-true (class_number h.0.kind == class_number like) (Ok (f h.0.kind, y)) (Err (h.0 ∷ y)) (eq-eqb (class_number h.0.kind) (class_number like) (same_number h.0.kind like h.2))
    ∙ ap (λ (x : V). Ok (x, y)) (sym h.3))
reads_back {V} (nothing d) p w y v h m = ap (λ (ts : List Token). run (nothing d) (ts ++ y)) h.0 ∙ ap (λ (x : V). Ok (x, y)) (sym h.1)
reads_back {V} (sequence {A} {B} a b f) p w y v h m =
    let pa = and_parts (is_predictive a) (is_predictive b && apart (more a) (first b)) p in
    let pb = and_parts (is_predictive b) (apart (more a) (first b)) pa.1 in
    let s = h.0 in let t = h.1 in let x = h.2 in let z = h.3 in
    let n = starts-none (more b) (if may_be_empty b then (more a ++ first b) else []) y m in
    let clear = not_more (more a) (first b) t y pb.1 (λ u v e. leads b u v t z e h.6)
    (λ e. (starts-none (more a) (first b) y (chosen (may_be_empty b) (more a ++ first b) y (empty-sentence b z t e h.6) n.1)).0) in
    let ra = reads_back a pa.0 s (t ++ y) x h.5 clear in
    let rb = reads_back b pb.0 t y z h.6 n.0 in
    ap (λ (ts : List Token). run (sequence a b f) (ts ++ y)) h.4 ∙ (ap (run (sequence a b f)) (append_assoc s t y)
    ∙ (ap (λ (r : Read A). and_then r (λ x rest. and_then (run b rest) (λ y end. Ok (f x y, end)))) ra
    ∙ (ap (λ (r : Read B). and_then r (λ y end. Ok (f x y, end))) rb ∙ ap (λ (q : V). Ok (q, y)) (sym h.7))))
reads_back (either a b) p w y v (inl h) m =
    let pa = and_parts (is_predictive a) (is_predictive b && (not (may_be_empty a) && apart (first a) (first b))) p in
    let pb = and_parts (is_predictive b) (not (may_be_empty a) && apart (first a) (first b)) pa.1 in
    let pn = and_parts (not (may_be_empty a)) (apart (first a) (first b)) pb.1 in
    let n : may_be_empty a ≡ false = not-true (may_be_empty a) pn.0 in
    let outer = starts-none (more a ++ more b) (if may_be_empty b then first a else []) y m in
    let inner = starts-none (more a) (more b) y outer.0 in
    let begins = starts-first (first a) w y (λ u t e. leads a u t w v e h) (λ e. let both : true ≡ false = sym (empty-sentence a v w e h) ∙ n in cc) in
    cond-true (starts (first a) (w ++ y)) (run a (w ++ y)) (run b (w ++ y)) begins ∙ reads_back a pa.0 w y v h inner.0
reads_back (either a b) p w y v (inr h) m =
    let pa = and_parts (is_predictive a) (is_predictive b && (not (may_be_empty a) && apart (first a) (first b))) p in
    let pb = and_parts (is_predictive b) (not (may_be_empty a) && apart (first a) (first b)) pa.1 in
    let pn = and_parts (not (may_be_empty a)) (apart (first a) (first b)) pb.1 in
    let outer = starts-none (more a ++ more b) (if may_be_empty b then first a else []) y m in
    let inner = starts-none (more a) (more b) y outer.0 in
    let other = not_more (first a) (first b) w y pn.1 (λ u t e. leads b u t w v e h) (λ e. chosen (may_be_empty b) (first a) y (empty-sentence b v w e h) outer.1) in
    cond-false (starts (first a) (w ++ y)) (run a (w ++ y)) (run b (w ++ y)) other ∙ reads_back b pb.0 w y v h inner.1
reads_back {V} (many {A} a f) p w y v h m =
    let pa = and_parts (is_predictive a) (not (may_be_empty a) && apart (more a) (first a)) p in
    let pn = and_parts (not (may_be_empty a)) (apart (more a) (first a)) pa.1 in
    let n = starts-none (first a) (more a) y m in
    let r = reads_items a (not-true (may_be_empty a) pn.0) pn.1 (reads_back a pa.0) h.0 w y h.1 n.0 n.1 in
    ap (λ (r : Read (List A)). and_then r (λ xs end. Ok (f xs, end))) r ∙ ap (λ (q : V). Ok (q, y)) (sym h.2)
