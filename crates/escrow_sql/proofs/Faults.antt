-- Reading returns the value of a sentence, and stops only at the first fault.
use Rattle.std.proofs.Common.{◌≡◌, ℕ, ◌+◌, ◌<◌, true, Ok, Err, List, [], ◌∷◌, ◌++◌, length, take, drop, refl, sym, ap, ◌∙◌, subst, append_assoc, arith, length-append}
use Rattle.std.proofs.lemmas.List.{append-nil}
use Rattle.std.proofs.Math.Seq.{take-append_seam, take-append-add, drop-append_seam}
use Rattle.escrow_sql.specs.declared.token.Token.{Token}
use Rattle.escrow_sql.specs.Grammar.{Grammar, Sentence, Begins, IsFirstFault}
use Rattle.escrow_sql.specs.Predictive.{run, ended, whole_of, run_whole, is_predictive}
use Rattle.escrow_sql.proofs.Heads.{SameHead}
use Rattle.escrow_sql.proofs.Reading.{Read}
use Rattle.escrow_sql.proofs.Sentences.{reads_back}
use Rattle.escrow_sql.proofs.Prefixes.{took, stuck}

-- the value of a sentence is read
pub sentence_read : {V : Type 0} (g : Grammar V) → is_predictive g ≡ true → (ts : List Token) (v : V) → Sentence g ts v → run_whole g ts ≡ Ok v
sentence_read {V} g p ts v h =
    ap whole_of (ap (run g) (sym (append-nil ts)) ∙ reads_back g p ts [] v h refl)

read_ended : {V : Type 0} (v w : V) (rest : List Token) → ended v rest ≡ Ok w → (v ≡ w) × (rest ≡ [])
read_ended v w [] h = (cc, refl)
read_ended v w (t ∷ ts) h = absurd (cc)

read_at : {V : Type 0} (g : Grammar V) → is_predictive g ≡ true → (ts : List Token) (v : V) (r : Read V) → run g ts ≡ r → whole_of r ≡ Ok v → Sentence g ts v
read_at {V} g p ts v (Ok r) e h =
    let q = read_ended r.0 v r.1 h in
    let t = took g p ts r.1 r.0 e in
    let whole : ts ≡ t.0 = t.1 ∙ (ap (λ (x : List Token). t.0 ++ x) q.1 ∙ append-nil t.0) in
    subst (λ (x : V). Sentence g ts x) q.0 (subst (λ (x : List Token). Sentence g x r.0) (sym whole) t.2)
read_at g p ts v (Err rest) e h = absurd (cc)

-- what is read is the value of a sentence
pub read_sentence : {V : Type 0} (g : Grammar V) → is_predictive g ≡ true → (ts : List Token) (v : V) → run_whole g ts ≡ Ok v → Sentence g ts v
read_sentence g p ts v h = read_at g p ts v (run g ts) refl h

-- a sentence begins with the front, but none continues with the rest
abbrev Stands : {V : Type 0} → Grammar V → List Token → List Token → Type 0
Stands {V} g ts rest =
    (front : List Token) × (ts ≡ front ++ rest) × Begins g front × ((other : List Token) (v : V) → SameHead rest other → run g (front ++ other) ≡ Ok (v, []) → ⊥)

not_all : {V : Type 0} (v w : V) (t : Token) (ts other : List Token) (r : Read V) → SameHead (t ∷ ts) other → r ≡ Ok (v, other) → r ≡ Ok (w, []) → ⊥
not_all v w t ts [] r s h k = s
not_all {V} v w t ts (u ∷ us) r s h k =
    let both : ◌≡◌ {A = Read V} (Ok (v, u ∷ us)) (Ok (w, [])) = sym h ∙ k in
    let left : u ∷ us ≡ [] = ap (elim [ Ok q ↦ q.1 | Err q ↦ q ]) both in
    cc

stands_ended : {V : Type 0} (g : Grammar V) → is_predictive g ≡ true → (ts rest left : List Token) (v : V) → run g ts ≡ Ok (v, left) → ended v left ≡ Err rest → Stands g ts rest
stands_ended g p ts rest [] v e h = absurd (cc)
stands_ended {V} g p ts rest (t ∷ left) v e h =
    let same : t ∷ left ≡ rest = cc in
    let k = took g p ts (t ∷ left) v e in
    subst (λ (r : List Token). Stands g ts r) same (
      k.0,
      k.1,
      ([], v, subst (λ (w : List Token). Sentence g w v) (sym (append-nil k.0)) k.2),
      λ other w s q. not_all v w t left other (run g (k.0 ++ other)) s (k.3 other s) q,
    )

stands_at : {V : Type 0} (g : Grammar V) → is_predictive g ≡ true → (ts rest : List Token) (r : Read V) → run g ts ≡ r → whole_of r ≡ Err rest → Stands g ts rest
stands_at g p ts rest (Ok r) e h = stands_ended g p ts rest r.1 r.0 e h
stands_at {V} g p ts rest (Err q) e h =
    let same : q ≡ rest = cc in
    let k = stuck g p ts rest (e ∙ ap (λ (x : List Token). Err x) same) in
    (k.0, k.1, k.2, λ other w s z. let both : ◌≡◌ {A = Read V} (Err other) (Ok (w, [])) = sym (k.3 other s) ∙ z in cc)

-- a sentence that continued with the rest would be read completely
unexpected : {V : Type 0} (g : Grammar V) → is_predictive g ≡ true → (front rest : List Token)
    → ((other : List Token) (v : V) → SameHead rest other → run g (front ++ other) ≡ Ok (v, []) → ⊥)
    → length front < length (front ++ rest) → Begins g (take (length front + 1) (front ++ rest)) → ⊥
unexpected g p front [] again l b = absurd (omega (arith, length-append {A = Token} front []))
unexpected {V} g p front (t ∷ rest) again l b =
    let taken : take (length front + 1) (front ++ t ∷ rest) ≡ front ++ t ∷ [] = take-append-add front (t ∷ rest) 1 in
    let joined : take (length front + 1) (front ++ t ∷ rest) ++ b.0 ≡ front ++ t ∷ b.0 = ap (λ (x : List Token). x ++ b.0) taken ∙ append_assoc front (t ∷ []) b.0 in
    let sentence : Sentence g (front ++ t ∷ b.0) b.1 = subst (λ (x : List Token). Sentence g x b.1) joined b.2 in
    again (t ∷ b.0) b.1 refl (ap (run g) (sym (append-nil (front ++ t ∷ b.0))) ∙ reads_back g p (front ++ t ∷ b.0) [] b.1 sentence refl)

too_short : {V : Type 0} (g : Grammar V) → is_predictive g ≡ true → (front rest : List Token)
    → ((other : List Token) (v : V) → SameHead rest other → run g (front ++ other) ≡ Ok (v, []) → ⊥)
    → length front ≡ length (front ++ rest) → (v : V) → Sentence g (front ++ rest) v → ⊥
too_short g p front (t ∷ rest) again l v h = absurd (omega (arith, length-append front (t ∷ rest)))
too_short g p front [] again l v h = again [] v tt (ap (run g) (sym (append-nil (front ++ []))) ∙ reads_back g p (front ++ []) [] v h refl)

fault_at : {V : Type 0} (g : Grammar V) → is_predictive g ≡ true → (front rest : List Token) → Begins g front
    → ((other : List Token) (v : V) → SameHead rest other → run g (front ++ other) ≡ Ok (v, []) → ⊥) → IsFirstFault g (front ++ rest) (length front)
fault_at g p front rest b again = record {
  within = omega (arith, length-append front rest);
  begins = subst (λ (x : List Token). Begins g x) (sym (take-append_seam front rest)) b;
  unexpected = unexpected g p front rest again;
  too_short = too_short g p front rest again;
}

-- reading stops at the first fault
pub first_fault : {V : Type 0} (g : Grammar V) → is_predictive g ≡ true → (ts rest : List Token) → run_whole g ts ≡ Err rest → (k : ℕ) × IsFirstFault g ts k × (rest ≡ drop k ts)
first_fault g p ts rest h =
    let s = stands_at g p ts rest (run g ts) refl h in (
      length s.0,
      subst (λ (x : List Token). IsFirstFault g x (length s.0)) (sym s.1) (fault_at g p s.0 rest s.2 s.3),
      sym (ap (drop (length s.0)) s.1 ∙ drop-append_seam s.0 rest),
    )
