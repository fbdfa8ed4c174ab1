-- Reading a text in quotes byte by byte.
use Rattle.std.proofs.Common.{◌≡◌, ℕ, suc, ◌+◌, ◌-◌, ◌<◌, Bool, true, false, Option, Some, None, List, [], ◌∷◌, ◌++◌, length, take, get_or, drop, arith, refl, sym, ap, ◌∙◌, append_assoc, append-nil, ◌⊎◌, inl, inr}
use Rattle.std.specs.Prelude.{nat_eq, option_map, not, position}
use Rattle.std.proofs.lemmas.List.{at_drop_more}
use Rattle.std.proofs.lemmas.Bool.Decides.{nat_tests}
use Rattle.std.proofs.lemmas.Bool.{cases_lt}
use Rattle.std.proofs.lemmas.Str.{encode_ascii, inside_one, length-encode, len_utf8_bounds}
use lib.Utf8.{encode}
use Rattle.escrow_sql.specs.Scan.{text_rest, undoubled, text_piece, text_from, closed_text}
use Rattle.escrow_sql.specs.Lex.{is_forbidden}
use Rattle.escrow_sql.specs.declared.lexer.piece.Piece.TheVariants as piece
use Rattle.escrow_sql.specs.declared.token.Kind.TheVariants as kind

shift-one : (i : ℕ) (o : Option ℕ) → option_map (λ n. i + n) (option_map (λ n. n + 1) o) ≡ option_map (λ n. i + 1 + n) o
shift-one i None = refl
shift-one i (Some n) = ap (λ (m : ℕ). Some m) (omega arith)

-- a byte of a text that does not end it
text_rest-cons : (closing next : Bool) (b : ℕ) (bs : List ℕ)
    → ((b ≡ 39) × (next ≡ not closing)) ⊎ ((b ≡ 39 → ⊥) × (closing ≡ false) × (next ≡ closing))
    → text_rest closing (b ∷ bs) ≡ option_map (λ n. n + 1) (text_rest next bs)
text_rest-cons true next b bs (inl h) = rw (h.0, h.1) refl
text_rest-cons false next b bs (inl h) = rw (h.0, h.1) refl
text_rest-cons true next b bs (inr h) = cc
text_rest-cons false next b bs (inr h) =
    let e : nat_eq b 39 ≡ false = grind (arith, nat_tests, h.0) in
    rw (h.2, e) refl

pub text_rest-more : (closing next : Bool) (i : ℕ) (body : List ℕ) → i < length body
    → ((get_or body i 0 ≡ 39) × (next ≡ not closing)) ⊎ ((get_or body i 0 ≡ 39 → ⊥) × (closing ≡ false) × (next ≡ closing))
    → text_rest false body ≡ option_map (λ n. i + n) (text_rest closing (drop i body))
    → text_rest false body ≡ option_map (λ n. i + 1 + n) (text_rest next (drop (i + 1) body))
text_rest-more closing next i body below cases same =
    let e = at_drop_more (text_rest closing) body i 0 below in
    same ∙ (ap (option_map (λ n. i + n)) (e ∙ text_rest-cons closing next (get_or body i 0) (drop (i + 1) body) cases) ∙ shift-one i (text_rest next (drop (i + 1) body)))

-- bytes without a quote are unchanged
undoubled-plain : (front rest : List ℕ) → ((k : ℕ) → k < length front → get_or front k 0 ≡ 39 → ⊥) → undoubled false (front ++ rest) ≡ front ++ undoubled false rest
undoubled-plain [] rest h = refl
undoubled-plain (c ∷ front) rest h =
    let e : nat_eq c 39 ≡ false = grind (arith, nat_tests, h 0) in
    let t = undoubled-plain front rest (λ k l. h (suc k) (omega arith)) in
    rw e (ap (λ (cs : List ℕ). c ∷ cs) t)

undoubled-first : (behind : Bool) (front rest : List ℕ) → 0 < length front → ((k : ℕ) → k < length front → get_or front k 0 ≡ 39 → ⊥) → undoubled behind (front ++ rest) ≡ front ++ undoubled false rest
undoubled-first false front rest n h = undoubled-plain front rest h
undoubled-first true [] rest n h = absurd (omega arith)
undoubled-first true (c ∷ front) rest n h =
    let e : nat_eq c 39 ≡ false = grind (arith, nat_tests, h 0) in
    let t = undoubled-plain front rest (λ k l. h (suc k) (omega arith)) in
    rw e (ap (λ (cs : List ℕ). c ∷ cs) t)

undoubled-one : (behind : Bool) (c : ℕ) (rest : List ℕ) → (behind ≡ true → c ≡ 39 → ⊥) → undoubled behind (c ∷ rest) ≡ c ∷ undoubled (nat_eq c 39) rest
undoubled-one false c rest h = refl
undoubled-one true c rest h =
    let e : nat_eq c 39 ≡ false = grind (arith, nat_tests, h refl) in
    rw e refl

-- a character that is not the second of two quotes is copied
undoubled-char : (behind : Bool) (c : ℕ) (rest : List ℕ) → (behind ≡ true → c ≡ 39 → ⊥) → undoubled behind (encode c ++ rest) ≡ encode c ++ undoubled (nat_eq c 39) rest
undoubled-char behind c rest h =
    elim (cases_lt c 128) [
      | inl low ↦ rw (encode_ascii c low) (undoubled-one behind c rest h)
      | inr high ↦
          let e : nat_eq c 39 ≡ false = grind (arith, nat_tests) in
          let n : 0 < length (encode c) = omega (arith, length-encode c, (len_utf8_bounds c).0) in
          rw e (undoubled-first behind (encode c) rest n (λ k l q.
          let same : c ≡ get_or (encode c) k 0 = inside_one c [] (encode c) k (sym (append-nil (encode c))) l (omega arith) in
          omega arith))
    ]

pub copied : (behind next : Bool) (c : ℕ) (copy new rest after raw : List ℕ)
    → (behind ≡ true → c ≡ 39 → ⊥) → next ≡ nat_eq c 39
    → copy ++ undoubled behind rest ≡ undoubled false raw → rest ≡ encode c ++ after → new ≡ copy ++ encode c
    → new ++ undoubled next after ≡ undoubled false raw
copied behind next c copy new rest after raw single e same read grown =
    let t = undoubled-char behind c after single in
    let u : copy ++ undoubled behind rest ≡ copy ++ (encode c ++ undoubled (nat_eq c 39) after) = ap (λ (x : List ℕ). copy ++ undoubled behind x) read ∙ ap (λ (x : List ℕ). copy ++ x) t in
    rw (e, grown, append_assoc) (sym u ∙ same)

pub open_text : (body : List ℕ) → None ≡ text_rest false body → piece.Fault 0 ≡ text_piece body
unfolding text_piece
open_text body h = ap (text_from body) h

pub forbidden_text : (body : List ℕ) (len k : ℕ) → Some len ≡ text_rest false body → Some k ≡ position is_forbidden (take (len - 1) body) → piece.Fault (1 + k) ≡ text_piece body
unfolding text_piece
forbidden_text body len k h e = ap (closed_text body len) e ∙ ap (text_from body) h

pub whole_text : (body copy : List ℕ) (len : ℕ) → Some len ≡ text_rest false body → None ≡ position is_forbidden (take (len - 1) body)
    → copy ≡ undoubled false (take (len - 1) body) → piece.Token (kind.Text copy) (1 + len) ≡ text_piece body
unfolding text_piece
whole_text body copy len h e same = ap (λ (t : List ℕ). piece.Token (kind.Text t) (1 + len)) same ∙ (ap (closed_text body len) e ∙ ap (text_from body) h)
