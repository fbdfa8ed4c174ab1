-- Bytes lexed as a name, in upper case, are a name.
use Rattle.std.proofs.Common.{◌≡◌, ℕ, suc, ◌+◌, ◌≤◌, Bool, true, List, [], ◌∷◌, length, get_or, take, map, arith, refl, sym, ap, ◌∙◌, subst}
use Rattle.std.specs.Char.{is_ascii_alphabetic, is_ascii_uppercase, to_ascii_uppercase}
use Rattle.std.specs.List.{prefix_len, list_all}
use Rattle.std.proofs.lemmas.Bool.{cond_both, cond-true, and_from}
use Rattle.std.proofs.lemmas.Bool.Decides.{nat_tests}
use Rattle.std.proofs.lemmas.List.{length-map}
use Rattle.std.proofs.lemmas.List.Folds.{list_all-map, length-prefix_len}
use Rattle.std.proofs.lemmas.Str.Ascii.{uppercase_is}
use Rattle.escrow_num.specs.Name.{IsName, is_name_byte, spells_name}
use Rattle.escrow_num.specs.declared.name.TheConstants.Name.{MAX_WRITTEN}
use Rattle.escrow_sql.specs.Lex.{goes_on}

-- the longest prefix of bytes that pass a test
passing_front : (p : ℕ → Bool) (xs : List ℕ) → list_all p (take (prefix_len p xs) xs) ≡ true
passing_front p [] = refl
passing_front p (x ∷ xs) =
    let one_more : 1 + prefix_len p xs ≡ suc (prefix_len p xs) = omega arith in
    cond_both (p x) (1 + prefix_len p xs) 0 (λ n. list_all p (take n (x ∷ xs)) ≡ true)
    (λ e. subst (λ (n : ℕ). list_all p (take n (x ∷ xs)) ≡ true) (sym one_more) (and_from (p x) (list_all p (take (prefix_len p xs) xs)) e (passing_front p xs)))
    (λ e. refl)

-- a letter in upper case
letter_in_upper_case : (c : ℕ) → is_ascii_alphabetic c ≡ true → is_ascii_uppercase (to_ascii_uppercase c) ≡ true
letter_in_upper_case c h = let u = uppercase_is c in grind (arith, nat_tests)

-- a name continues with a letter
pub letter_goes_on : (c : ℕ) → is_ascii_alphabetic c ≡ true → goes_on c ≡ true
letter_goes_on c h = let upper = letter_in_upper_case c h in rw upper refl

spelled : (bytes : List ℕ) (len : ℕ) → len ≡ prefix_len goes_on bytes → is_ascii_alphabetic (get_or bytes 0 0) ≡ true → spells_name (map to_ascii_uppercase (take len bytes)) ≡ true
spelled [] len e letter = absurd (cc)
spelled (c ∷ cs) len e letter =
    let upper = letter_in_upper_case c letter in
    let n = prefix_len goes_on cs in
    let front : len ≡ 1 + n = e ∙ cond-true (goes_on c) (1 + n) 0 (letter_goes_on c letter) in
    let one_more : len ≡ suc n = omega arith in
    let others : list_all is_name_byte (map to_ascii_uppercase (take n cs)) ≡ true = list_all-map is_name_byte to_ascii_uppercase (take n cs) ∙ passing_front goes_on cs in
    subst (λ (k : ℕ). spells_name (map to_ascii_uppercase (take k (c ∷ cs))) ≡ true) (sym one_more) (and_from (is_ascii_uppercase (to_ascii_uppercase c)) (list_all is_name_byte (map to_ascii_uppercase (take n cs))) upper others)

pub cut_name : (bytes : List ℕ) (len : ℕ) → len ≡ prefix_len goes_on bytes → is_ascii_alphabetic (get_or bytes 0 0) ≡ true → len ≤ MAX_WRITTEN → IsName (map to_ascii_uppercase (take len bytes))
cut_name bytes len e letter short = record {
  spelled = spelled bytes len e letter;
  short =
      let n : length (take len bytes) ≡ len = ap (λ (k : ℕ). length (take k bytes)) e ∙ (length-prefix_len goes_on bytes ∙ sym e) in
      omega (arith, length-map (take len bytes) to_ascii_uppercase);
}
