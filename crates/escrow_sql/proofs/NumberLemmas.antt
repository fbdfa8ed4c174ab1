-- What further digits do to a number, and the number at the front of bytes.
use Rattle.std.proofs.Common.{◌≡◌, ℕ, ℤ, pos, ◌+◌, ◌*◌, ◌-◌, ◌≤◌, ◌<◌, Bool, true, Option, Some, None, List, [], ◌∷◌, ◌++◌, length, get_or, take, drop, arith, refl, sym, ap, ap₂, ◌∙◌, append_assoc, length-append, inl, inr}
use Rattle.std.specs.Prelude.{not, ◌==◌}
use Rattle.std.specs.Char.{is_ascii_digit}
use Rattle.std.specs.List.{prefix_len, list_all}
use Rattle.std.proofs.Math.Seq.{take-append_seam, drop-append_seam}
use Rattle.std.proofs.lemmas.Bool.{and_parts, and_from, not-true, cases_Bool, cond-true, cond-false, cond_both, eqb-true}
use Rattle.std.proofs.lemmas.List.{append-nil, at_drop_more}
use Rattle.escrow_num.specs.Amount.{is_amount, number_after, number_of}
use Rattle.escrow_num.specs.Decimal.{millionths_of}
use Rattle.escrow_num.specs.Scaled.{pointed}
use Rattle.escrow_sql.specs.declared.lexer.piece.Piece.{Piece}
use Rattle.escrow_sql.specs.declared.lexer.piece.Piece.TheVariants as piece
use Rattle.escrow_sql.specs.declared.token.Kind.{Kind}
use Rattle.escrow_sql.specs.declared.token.Kind.TheVariants as kind
use Rattle.escrow_sql.specs.Lex.{front_digits, point_digits, behind_digits, point_piece, number_with, number_piece}
use Rattle.escrow_sql.specs.Scan.{IsWithin}

-- further digits never make a number smaller
pub number_after-least : (n : ℕ) (digits : List ℕ) → n ≤ number_after n digits
number_after-least n [] = omega arith
number_after-least n (c ∷ cs) = omega (arith, number_after-least (10 * n + (c - 48)) cs)

-- digits whose number exceeds a limit exceed it after further digits
pub past_limit : (limit v i : ℕ) (digits : List ℕ) → i < length digits → limit < 10 * v + (get_or digits i 0 - 48)
    → number_after v (drop i digits) ≡ number_of digits → limit < number_of digits
past_limit limit v i digits below past same =
    omega (arith, at_drop_more (number_after v) digits i 0 below, number_after-least (10 * v + (get_or digits i 0 - 48)) (drop (i + 1) digits))

-- the bytes do not continue a prefix
abbrev pub ends : (ℕ → Bool) → List ℕ → Bool
ends p [] = true
ends p (c ∷ cs) = not (p c)

pub front_whole : (p : ℕ → Bool) (front rest : List ℕ) → list_all p front ≡ true → ends p rest ≡ true → prefix_len p (front ++ rest) ≡ length front
front_whole p [] [] e q = refl
front_whole p [] (c ∷ cs) e q = cond-false (p c) (1 + prefix_len p cs) 0 (not-true (p c) q)
front_whole p (c ∷ front) rest e q =
    let all = and_parts (p c) (list_all p front) e in
    let others = front_whole p front rest all.1 q in
    cond-true (p c) (1 + prefix_len p (front ++ rest)) 0 all.0 ∙ omega arith

-- digits followed by another byte are the digits at the front
front_read : (front rest : List ℕ) → list_all is_ascii_digit front ≡ true → ends is_ascii_digit rest ≡ true → front_digits (front ++ rest) ≡ front
front_read front rest h q = ap (λ (k : ℕ). take k (front ++ rest)) (front_whole is_ascii_digit front rest h q) ∙ take-append_seam front rest

behind_read : (front rest : List ℕ) → list_all is_ascii_digit front ≡ true → ends is_ascii_digit rest ≡ true → behind_digits (front ++ rest) ≡ point_digits rest
behind_read front rest h q = ap (λ (ds : List ℕ). point_digits (drop (length ds) (front ++ rest))) (front_read front rest h q) ∙ ap point_digits (drop-append_seam front rest)

-- digits, with or without a point and further digits, are a number, if no digit and no point with a digit follow
pub number_read : (front behind rest : List ℕ) → list_all is_ascii_digit front ≡ true → list_all is_ascii_digit behind ≡ true → ends is_ascii_digit rest ≡ true
    → point_digits rest ≡ [] → number_piece ((front ++ pointed behind) ++ rest) ≡ number_with front behind
unfolding number_piece
number_read front [] rest h k q none =
    ap (λ (xs : List ℕ). number_piece (xs ++ rest)) (append-nil front) ∙ ap₂ number_with (front_read front rest h q) (behind_read front rest h q ∙ none)
number_read front (d ∷ ds) rest h k q none =
    let next = 46 ∷ ((d ∷ ds) ++ rest) in
    ap number_piece (append_assoc front (46 ∷ d ∷ ds) rest) ∙ ap₂ number_with (front_read front next h refl) (behind_read front next h refl ∙ front_read (d ∷ ds) rest k q)

-- the number of bytes of a point and the digits after it, if there are any
abbrev pub behind_len : List ℕ → ℕ
behind_len [] = 0
behind_len (d ∷ ds) = 1 + length (d ∷ ds)

-- the number of bytes of the number at the front
abbrev pub number_len : List ℕ → ℕ
number_len bytes = length (front_digits bytes) + behind_len (behind_digits bytes)

-- the number of bytes of a point and digits
pointed_len : (behind : List ℕ) → length (pointed behind) ≡ behind_len behind
pointed_len [] = refl
pointed_len (d ∷ ds) = omega arith

-- the bytes are digits, followed by no digit
record AreDigits (bytes front rest : List ℕ) : Type 0 where
  all : bytes ≡ front ++ rest
  digits : list_all is_ascii_digit front ≡ true
  end : ends is_ascii_digit rest ≡ true

digits_cut : (bytes : List ℕ) → (front : List ℕ) × (rest : List ℕ) × AreDigits bytes front rest
digits_cut [] = ([], [], record { all = refl; digits = refl; end = refl })
digits_cut (c ∷ cs) =
    let others = digits_cut cs in
    elim (cases_Bool (is_ascii_digit c)) [
      | inl e ↦ (
        c ∷ others.0,
        others.1,
        record {
          all = ap (λ (xs : List ℕ). c ∷ xs) others.2.all;
          digits = and_from (is_ascii_digit c) (list_all is_ascii_digit others.0) e others.2.digits;
          end = others.2.end;
        },
      )
      | inr e ↦ ([], c ∷ cs, record { all = refl; digits = refl; end = rw e refl })
    ]

-- the bytes are a point with digits, if there are any, and the rest
record ArePointed (bytes behind rest : List ℕ) : Type 0 where
  all : bytes ≡ pointed behind ++ rest
  digits : list_all is_ascii_digit behind ≡ true
  read : point_digits bytes ≡ behind

pointed_with : (bytes front rest : List ℕ) → list_all is_ascii_digit front ≡ true → bytes ≡ 46 ∷ (front ++ rest) → point_digits bytes ≡ front
    → (behind : List ℕ) × (after : List ℕ) × ArePointed bytes behind after
pointed_with bytes [] rest h e read = ([], bytes, record { all = refl; digits = refl; read = read })
pointed_with bytes (d ∷ ds) rest h e read = (d ∷ ds, rest, record { all = e; digits = h; read = read })

pointed_cut : (bytes : List ℕ) → (behind : List ℕ) × (rest : List ℕ) × ArePointed bytes behind rest
pointed_cut [] = ([], [], record { all = refl; digits = refl; read = refl })
pointed_cut (c ∷ cs) =
    let cut = digits_cut cs in
    elim (cases_Bool (c == 46)) [
      | inl e ↦
          pointed_with (c ∷ cs) cut.0 cut.1 cut.2.digits (ap₂ (λ (x : ℕ) (xs : List ℕ). x ∷ xs) (eqb-true c 46 e) cut.2.all)
          (cond-true (c == 46) (front_digits cs) [] e ∙ (ap front_digits cut.2.all ∙ front_read cut.0 cut.1 cut.2.digits cut.2.end))
      | inr e ↦ ([], c ∷ cs, record { all = refl; digits = refl; read = cond-false (c == 46) (front_digits cs) [] e })
    ]

-- the bytes are the text of a number, and the rest
record AreNumber (bytes front behind rest : List ℕ) : Type 0 where
  all : bytes ≡ (front ++ pointed behind) ++ rest
  front_all : list_all is_ascii_digit front ≡ true
  behind_all : list_all is_ascii_digit behind ≡ true
  front_is : front_digits bytes ≡ front
  behind_is : behind_digits bytes ≡ behind

number_cut : (bytes : List ℕ) → (front : List ℕ) × (behind : List ℕ) × (rest : List ℕ) × AreNumber bytes front behind rest
number_cut bytes =
    let first = digits_cut bytes in
    let second = pointed_cut first.1 in (
      first.0,
      second.0,
      second.1,
      record {
        all = first.2.all ∙ (ap (λ (xs : List ℕ). first.0 ++ xs) second.2.all ∙ sym (append_assoc first.0 (pointed second.0) second.1));
        front_all = first.2.digits;
        behind_all = second.2.digits;
        front_is = ap front_digits first.2.all ∙ front_read first.0 first.1 first.2.digits first.2.end;
        behind_is = ap behind_digits first.2.all ∙ (behind_read first.0 first.1 first.2.digits first.2.end ∙ second.2.read);
      },
    )

-- the number of bytes of a number's text
text_len : (bytes front behind : List ℕ) → front_digits bytes ≡ front → behind_digits bytes ≡ behind → number_len bytes ≡ length (front ++ pointed behind)
text_len bytes front behind e f =
    ap₂ (λ (xs ys : List ℕ). length xs + behind_len ys) e f ∙ omega (arith, length-append front (pointed behind), pointed_len behind)

-- a number is no longer than the bytes
pub number_len-le : (bytes : List ℕ) → number_len bytes ≤ length bytes
number_len-le bytes =
    let cut = number_cut bytes in
    let all : length bytes ≡ length ((cut.0 ++ pointed cut.1) ++ cut.2) = ap (λ (xs : List ℕ). length xs) cut.3.all in
    omega (arith, all, length-append (cut.0 ++ pointed cut.1) cut.2, text_len bytes cut.0 cut.1 cut.3.front_is cut.3.behind_is)

-- the bytes of a number, taken alone, are that number
pub number_alone : (bytes : List ℕ) → number_piece (take (number_len bytes) bytes) ≡ number_piece bytes
unfolding number_piece
number_alone bytes =
    let cut = number_cut bytes in
    let text = cut.0 ++ pointed cut.1 in
    let front : take (number_len bytes) bytes ≡ text ++ [] =
    ap₂ (λ (n : ℕ) (xs : List ℕ). take n xs) (text_len bytes cut.0 cut.1 cut.3.front_is cut.3.behind_is) cut.3.all ∙ (take-append_seam text cut.2 ∙ sym (append-nil text)) in
    ap number_piece front ∙ (number_read cut.0 cut.1 [] cut.3.front_all cut.3.behind_all refl refl ∙ sym (ap₂ number_with cut.3.front_is cut.3.behind_is))

-- the length of a number's token
point_len : (n : ℕ) (millionths : Option ℤ) (k : Kind) (len : ℕ) → point_piece n millionths ≡ piece.Token k len → len ≡ n
point_len n None k len h = absurd (cc)
point_len n (Some z) k len h = cc

with_len : (front behind : List ℕ) (k : Kind) (len : ℕ) → number_with front behind ≡ piece.Token k len → len ≡ length front + behind_len behind
with_len front [] k len h =
    cond_both (is_amount (pos (number_of front))) (piece.Token (kind.Number (pos (number_of front))) (length front)) (piece.Fault 0)
    (λ (p : Piece). p ≡ piece.Token k len → len ≡ length front + 0) (λ e q. let same : length front ≡ len = cc in omega arith) (λ e q. absurd (cc)) h
with_len front (d ∷ ds) k len h = point_len (length front + behind_len (d ∷ ds)) (millionths_of front (d ∷ ds)) k len h

pub number_token_len : (bytes : List ℕ) (k : Kind) (len : ℕ) → number_piece bytes ≡ piece.Token k len → len ≡ number_len bytes
unfolding number_piece
number_token_len bytes k len h = with_len (front_digits bytes) (behind_digits bytes) k len h

-- a number has at least one byte, and is within the text
point_within : (n room : ℕ) (millionths : Option ℤ) → 1 ≤ n → n ≤ room → IsWithin room (point_piece n millionths)
point_within n room None one all = omega arith
point_within n room (Some z) one all = (one, all)

with_within : (room : ℕ) (front behind : List ℕ) → 1 ≤ length front → length front + behind_len behind ≤ room → IsWithin room (number_with front behind)
with_within room front [] one all =
    cond_both (is_amount (pos (number_of front))) (piece.Token (kind.Number (pos (number_of front))) (length front)) (piece.Fault 0)
    (IsWithin room) (λ e. (one, omega arith)) (λ e. omega arith)
with_within room front (d ∷ ds) one all = point_within (length front + behind_len (d ∷ ds)) room (millionths_of front (d ∷ ds)) (omega arith) all

pub number_within : (bytes : List ℕ) → 1 ≤ length (front_digits bytes) → IsWithin (length bytes) (number_piece bytes)
unfolding number_piece
number_within bytes one = with_within (length bytes) (front_digits bytes) (behind_digits bytes) one (number_len-le bytes)
