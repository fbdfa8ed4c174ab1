-- A piece has at least one byte, and is within the text.
use Rattle.std.proofs.Common.{◌≡◌, ℕ, suc, ◌+◌, ◌-◌, ◌≤◌, ◌<◌, Bool, true, false, cond, List, [], ◌∷◌, length, get_or, drop, take, arith, refl, sym, subst, map}
use Rattle.std.specs.Prelude.{nat_lt, nat_eq, not, ◌&&◌}
use Rattle.std.specs.Char.{is_ascii_alphabetic, is_ascii_digit, to_ascii_uppercase}
use Rattle.std.specs.List.{prefix_len}
use Rattle.std.proofs.lemmas.Bool.{cond_both}
use Rattle.std.proofs.lemmas.Bool.Decides.{nat_tests}
use Rattle.std.proofs.lemmas.List.{length-drop}
use Rattle.std.proofs.lemmas.List.Folds.{length-prefix_len}
use Rattle.std.proofs.lemmas.List.Sums.{prefix_len-le-length}
use Rattle.escrow_num.specs.declared.name.TheConstants.Name.{MAX_WRITTEN}
use Rattle.escrow_sql.proofs.NameLemmas.{letter_goes_on}
use Rattle.escrow_sql.proofs.NumberLemmas.{number_within}
use Rattle.escrow_sql.proofs.QuotedLemmas.{text_within}
use Rattle.escrow_statement.specs.Word.{reserved}
use Rattle.escrow_sql.specs.declared.lexer.piece.Piece.{Piece}
use Rattle.escrow_sql.specs.declared.lexer.piece.Piece.TheVariants as piece
use Rattle.escrow_sql.specs.declared.token.Kind.{Kind}
use Rattle.escrow_sql.specs.Lex.{plain_piece, name_piece, number_piece, symbol_piece, goes_on, is_blank, begins, word_or_name}
use Rattle.escrow_sql.specs.Scan.{IsWithin, piece_of, text_piece}

-- a prefix whose first byte passes
prefix_len-first : (p : ℕ → Bool) (c : ℕ) (next : List ℕ) → p c ≡ true → 1 ≤ prefix_len p (c ∷ next)
prefix_len-first p c next h = rw h (omega arith)

name_within : (c : ℕ) (next : List ℕ) → is_ascii_alphabetic c ≡ true → IsWithin (length (c ∷ next)) (name_piece (c ∷ next))
unfolding name_piece
name_within c next h =
    let len = prefix_len goes_on (c ∷ next) in
    let one : 1 ≤ len = prefix_len-first goes_on c next (letter_goes_on c h) in
    let all : len ≤ length (c ∷ next) = prefix_len-le-length goes_on (c ∷ next) in
    cond_both (nat_lt MAX_WRITTEN len) (piece.Fault 0) (piece.Token (word_or_name (map to_ascii_uppercase (take len (c ∷ next))) (reserved (map to_ascii_uppercase (take len (c ∷ next))))) len)
    (IsWithin (length (c ∷ next))) (λ e. omega arith) (λ e. (one, all))

digits_within : (c : ℕ) (next : List ℕ) → is_ascii_digit c ≡ true → IsWithin (length (c ∷ next)) (number_piece (c ∷ next))
digits_within c next h = number_within (c ∷ next) (omega (arith, length-prefix_len is_ascii_digit (c ∷ next), prefix_len-first is_ascii_digit c next h))

equal_within : (a b : Kind) (next : List ℕ) → IsWithin (suc (length next)) (cond (begins 61 next) (piece.Token a 2) (piece.Token b 1))
equal_within a b [] = (omega arith, omega arith)
equal_within a b (d ∷ ds) = cond_both (nat_eq d 61) (piece.Token a 2) (piece.Token b 1) (IsWithin (suc (length (d ∷ ds)))) (λ e. (omega arith, omega arith)) (λ e. (omega arith, omega arith))

-- one case of a chain
either_within : (n : ℕ) (b : Bool) (x y : Piece) → (b ≡ true → IsWithin n x) → (b ≡ false → IsWithin n y) → IsWithin n (cond b x y)
either_within n b x y p q = cond_both b x y (IsWithin n) p q

symbol_within : (c : ℕ) (next : List ℕ) → IsWithin (suc (length next)) (symbol_piece c next)
unfolding symbol_piece
symbol_within c next =
    let n = length next in
    either_within (suc n) (nat_eq c 40) _ _ (λ e. (omega arith, omega arith)) (λ e.
    either_within (suc n) (nat_eq c 41) _ _ (λ e. (omega arith, omega arith)) (λ e.
    either_within (suc n) (nat_eq c 44) _ _ (λ e. (omega arith, omega arith)) (λ e.
    either_within (suc n) (nat_eq c 59) _ _ (λ e. (omega arith, omega arith)) (λ e.
    either_within (suc n) (nat_eq c 42) _ _ (λ e. (omega arith, omega arith)) (λ e.
    either_within (suc n) (nat_eq c 43) _ _ (λ e. (omega arith, omega arith)) (λ e.
    either_within (suc n) (nat_eq c 45) _ _ (λ e. (omega arith, omega arith)) (λ e.
    either_within (suc n) (nat_eq c 61) _ _ (λ e. (omega arith, omega arith)) (λ e.
    either_within (suc n) (nat_eq c 60) _ _ (λ e. equal_within _ _ next) (λ e.
    either_within (suc n) (nat_eq c 62) _ _ (λ e. equal_within _ _ next) (λ e. omega arith))))))))))

comment_within : (c : ℕ) (next : List ℕ) → nat_eq c 45 ≡ true → IsWithin (suc (length next)) (piece.Blank (prefix_len (λ b. not (nat_eq b 10)) (c ∷ next)))
comment_within c next h =
    let e : c ≡ 45 = grind (arith, nat_tests) in
    let passes : not (nat_eq c 10) ≡ true = rw e refl in
    (prefix_len-first (λ b. not (nat_eq b 10)) c next passes, prefix_len-le-length (λ b. not (nat_eq b 10)) (c ∷ next))

first_of_both : (a b : Bool) → (a && b) ≡ true → a ≡ true
first_of_both true b h = refl
first_of_both false true h = h
first_of_both false false h = h

plain_within : (c : ℕ) (next : List ℕ) → IsWithin (suc (length next)) (plain_piece c next)
unfolding plain_piece
plain_within c next =
    let n = length next in
    either_within (suc n) (is_blank c) (piece.Blank 1) _ (λ e. (omega arith, omega arith)) (λ e.
    either_within (suc n) (nat_eq c 45 && begins 45 next) (piece.Blank (prefix_len (λ b. not (nat_eq b 10)) (c ∷ next))) _ (λ e. comment_within c next (first_of_both (nat_eq c 45) (begins 45 next) e)) (λ e.
    either_within (suc n) (is_ascii_alphabetic c) _ _ (λ e. name_within c next e) (λ e.
    either_within (suc n) (is_ascii_digit c) _ _ (λ e. digits_within c next e) (λ e. symbol_within c next))))

pub piece_of-within : (c : ℕ) (next : List ℕ) → IsWithin (suc (length next)) (piece_of c next)
piece_of-within c next = either_within (suc (length next)) (nat_eq c 39) (text_piece next) (plain_piece c next) (λ e. text_within next) (λ e. plain_within c next)

-- a piece read at a place is within the rest of the text
pub read_within : (p : Piece) (text : List ℕ) (at : ℕ) → at < length text
    → p ≡ piece_of (get_or text at 0) (drop (at + 1) text) → IsWithin (length text - at) p
read_within p text at below h =
    let e : suc (length (drop (at + 1) text)) ≡ length text - at = omega (arith, length-drop (at + 1) text) in
    subst (λ (n : ℕ). IsWithin n p) e (subst (λ (q : Piece). IsWithin (suc (length (drop (at + 1) text))) q) (sym h) (piece_of-within (get_or text at 0) (drop (at + 1) text)))
