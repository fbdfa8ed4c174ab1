-- Texts in quotes: where they end, and their value.
use Rattle.std.proofs.Common.{◌≡◌, ℕ, suc, ◌+◌, ◌-◌, ◌≤◌, Bool, true, false, Option, Some, None, List, [], ◌∷◌, ◌++◌, length, take, arith, refl, sym, ap, ap₂, ◌∙◌, subst, ◌⊎◌, inl, inr, length-append}
use Rattle.std.specs.Prelude.{option_map, position, ◌==◌}
use Rattle.std.proofs.lemmas.Bool.{cases_Bool, cond-true, eqb-true}
use Rattle.std.proofs.lemmas.List.Quantifiers.{position-Some}
use Rattle.std.proofs.Math.Seq.{take-append_seam, take-append-add}
use Rattle.escrow_sql.specs.Lex.{doubled, IsQuoted, quoted_piece, IsTextPiece, is_forbidden, begins}
use Rattle.escrow_sql.specs.Scan.{text_rest, undoubled, closed_text, text_from, text_piece, IsWithin}
use Rattle.escrow_sql.specs.declared.lexer.piece.Piece.{Piece}
use Rattle.escrow_sql.specs.declared.lexer.piece.Piece.TheVariants as piece
use Rattle.escrow_sql.specs.declared.token.Kind.{Kind}
use Rattle.escrow_sql.specs.declared.token.Kind.TheVariants as kind

one_less : (o : Option ℕ) (n : ℕ) → option_map (λ m. m + 1) o ≡ Some n → (k : ℕ) × (o ≡ Some k)
one_less None n h = absurd (cc)
one_less (Some k) n h = (k, refl)

-- the bytes contain the end of a text in quotes; a quote just before them may be that end
abbrev Ends : Bool → List ℕ → Type 0
Ends false body = (text : List ℕ) × (rest : List ℕ) × IsQuoted body text rest
Ends true body = (begins 39 body ≡ false) ⊎ ((next : List ℕ) × (body ≡ 39 ∷ next) × (text : List ℕ) × (rest : List ℕ) × IsQuoted next text rest)

ends_behind : (c : ℕ) (cs : List ℕ) (quote : Bool) → (c == 39) ≡ quote → Ends quote cs → Ends false (c ∷ cs)
ends_behind c cs false e q = (c ∷ q.0, q.1, record { written = rw e (ap (λ (bs : List ℕ). c ∷ bs) q.2.written); ended = q.2.ended })
ends_behind c cs true e (inl q) = ([], cs, record { written = ap (λ (b : ℕ). b ∷ cs) (eqb-true c 39 e); ended = q })
ends_behind c cs true e (inr q) =
    (39 ∷ q.2, q.3, record { written = ap₂ (λ (b : ℕ) (bs : List ℕ). b ∷ bs) (eqb-true c 39 e) (q.1 ∙ ap (λ (bs : List ℕ). 39 ∷ bs) q.4.written); ended = q.4.ended })

-- a text with an end is in quotes
text_rest-Some : (closing : Bool) (body : List ℕ) (n : ℕ) → text_rest closing body ≡ Some n → Ends closing body
text_rest-Some true [] n h = inl refl
text_rest-Some false [] n h = absurd (cc)
text_rest-Some true (c ∷ cs) n h =
    elim (cases_Bool (c == 39)) [
      | inl e ↦
          let m = one_less (text_rest false cs) n (sym (cond-true (c == 39) (option_map (λ m. m + 1) (text_rest false cs)) (Some 0) e) ∙ h) in
          let q = text_rest-Some false cs m.0 m.1 in
          inr (cs, ap (λ (b : ℕ). b ∷ cs) (eqb-true c 39 e), q.0, q.1, q.2)
      | inr e ↦ inl e
    ]
text_rest-Some false (c ∷ cs) n h =
    let m = one_less (text_rest (c == 39) cs) n h in
    ends_behind c cs (c == 39) refl (text_rest-Some (c == 39) cs m.0 m.1)

text_rest-ended : (rest : List ℕ) → begins 39 rest ≡ false → text_rest true rest ≡ Some 0
text_rest-ended [] e = refl
text_rest-ended (c ∷ cs) e = rw e refl

-- the end of a text in quotes is found there
text_rest-doubled : (text rest : List ℕ) → begins 39 rest ≡ false → text_rest false (doubled text ++ 39 ∷ rest) ≡ Some (length (doubled text) + 1)
text_rest-doubled [] rest e = ap (option_map (λ m. m + 1)) (text_rest-ended rest e)
text_rest-doubled (c ∷ cs) rest e =
    let others = text_rest-doubled cs rest e in
    elim (cases_Bool (c == 39)) [
      | inl q ↦ rw q (ap (λ (o : Option ℕ). option_map (λ m. m + 1) (option_map (λ m. m + 1) o)) others ∙ ap (λ (n : ℕ). Some n) (omega arith))
      | inr q ↦ rw q (rw q (ap (option_map (λ m. m + 1)) others ∙ ap (λ (n : ℕ). Some n) (omega arith)))
    ]

undoubled-doubled : (text : List ℕ) → undoubled false (doubled text) ≡ text
undoubled-doubled [] = refl
undoubled-doubled (c ∷ cs) =
    let others = undoubled-doubled cs in
    elim (cases_Bool (c == 39)) [
      | inl q ↦ rw q (ap₂ (λ (b : ℕ) (bs : List ℕ). b ∷ bs) (sym (eqb-true c 39 q)) others)
      | inr q ↦ rw q (rw q (ap (λ (bs : List ℕ). c ∷ bs) others))
    ]

closed_text-quoted : (body text : List ℕ) (len : ℕ) (o : Option ℕ) → take (len - 1) body ≡ doubled text → 1 + len ≡ length (doubled text) + 2 → closed_text body len o ≡ quoted_piece text o
closed_text-quoted body text len None raw l = ap₂ (λ (t : List ℕ) (n : ℕ). piece.Token (kind.Text t) n) (ap (undoubled false) raw ∙ undoubled-doubled text) l
closed_text-quoted body text len (Some place) raw l = refl

-- the piece read from a text in quotes
pub text_piece-quoted : (body text rest : List ℕ) → IsQuoted body text rest → text_piece body ≡ quoted_piece text (position is_forbidden (doubled text))
unfolding text_piece
text_piece-quoted body text rest q =
    let n = length (doubled text) in
    let end : text_rest false body ≡ Some (n + 1) = ap (text_rest false) q.written ∙ text_rest-doubled text rest q.ended in
    let less : n + 1 - 1 ≡ n = omega arith in
    let raw : take (n + 1 - 1) body ≡ doubled text = ap₂ (λ (m : ℕ) (bs : List ℕ). take m bs) less q.written ∙ take-append_seam (doubled text) (39 ∷ rest) in
    ap (text_from body) end
    ∙ (closed_text-quoted body text (n + 1) (position is_forbidden (take (n + 1 - 1) body)) raw (omega arith)
    ∙ ap (λ (bs : List ℕ). quoted_piece text (position is_forbidden bs)) raw)

text_piece-at : (body : List ℕ) (o : Option ℕ) → text_rest false body ≡ o → IsTextPiece body (text_piece body)
unfolding text_piece
text_piece-at body None h =
    inr (
      λ text rest q. let both : None ≡ Some (length (doubled text) + 1) = sym h ∙ (ap (text_rest false) q.written ∙ text_rest-doubled text rest q.ended) in cc,
      ap (text_from body) h,
    )
text_piece-at body (Some n) h = let q = text_rest-Some false body n h in inl (q.0, q.1, q.2, text_piece-quoted body q.0 q.1 q.2)

-- after a quote, the lexer reads the piece that begins there, and there is no other
pub text_piece-is : (body : List ℕ) → IsTextPiece body (text_piece body)
text_piece-is body = text_piece-at body (text_rest false body) refl

pub text_piece-only : (body : List ℕ) (p : Piece) → IsTextPiece body p → p ≡ text_piece body
text_piece-only body p (inl q) = q.3 ∙ sym (text_piece-quoted body q.0 q.1 q.2)
text_piece-only body p (inr q) =
    elim (text_piece-is body) [
      | inl t ↦ absurd (q.0 t.0 t.1 t.2)
      | inr t ↦ q.1 ∙ sym t.1
    ]

quoted_within : (text : List ℕ) (room : ℕ) (o : Option ℕ) → position is_forbidden (doubled text) ≡ o → length (doubled text) + 2 ≤ room → IsWithin room (quoted_piece text o)
quoted_within text room None h l = (omega arith, l)
quoted_within text room (Some place) h l = omega (arith, (position-Some is_forbidden (doubled text) place 0 h).0)

-- a text is no longer than the bytes
pub text_within : (body : List ℕ) → IsWithin (suc (length body)) (text_piece body)
text_within body =
    elim (text_piece-is body) [
      | inl q ↦
          let l : length body ≡ length (doubled q.0 ++ 39 ∷ q.1) = ap (λ (bs : List ℕ). length bs) q.2.written in
          subst (IsWithin (suc (length body))) (sym q.3)
          (quoted_within q.0 (suc (length body)) (position is_forbidden (doubled q.0)) refl (omega (arith, l, length-append (doubled q.0) (39 ∷ q.1))))
      | inr q ↦ subst (IsWithin (suc (length body))) (sym q.1) (omega arith)
    ]

quoted_len : (text : List ℕ) (o : Option ℕ) (k : Kind) (len : ℕ) → quoted_piece text o ≡ piece.Token k len → len ≡ length (doubled text) + 2
quoted_len text None k len h = cc
quoted_len text (Some place) k len h = absurd (cc)

-- the bytes of a text in quotes, taken alone, are that text
pub text_alone : (body : List ℕ) (k : Kind) (len : ℕ) → text_piece body ≡ piece.Token k len → text_piece (take (len - 1) body) ≡ piece.Token k len
text_alone body k len h =
    elim (text_piece-is body) [
      | inl q ↦
          let read : quoted_piece q.0 (position is_forbidden (doubled q.0)) ≡ piece.Token k len = sym q.3 ∙ h in
          let n = length (doubled q.0) in
          let m : len - 1 ≡ n + 1 = omega (arith, quoted_len q.0 (position is_forbidden (doubled q.0)) k len read) in
          let front : take (len - 1) body ≡ doubled q.0 ++ 39 ∷ [] = ap₂ (λ (m : ℕ) (bs : List ℕ). take m bs) m q.2.written ∙ take-append-add (doubled q.0) (39 ∷ q.1) 1 in
          text_piece-quoted (take (len - 1) body) q.0 [] (record { written = front; ended = refl }) ∙ read
      | inr q ↦ absurd (let both : piece.Fault 0 ≡ piece.Token k len = sym q.1 ∙ h in cc)
    ]
