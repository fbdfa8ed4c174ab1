-- A name is written into its array byte by byte, and its upper case is the name itself.
use Rattle.std.proofs.Common.{◌≡◌, ℕ, ◌+◌, ◌-◌, ◌≤◌, ◌<◌, true, List, [], ◌∷◌, ◌++◌, length, map, take, set, get_or, replicate, arith, refl, subst, ap₂, ◌∙◌, append_assoc, add-one}
use Rattle.std.specs.Char.{to_ascii_uppercase, is_ascii_uppercase}
use Rattle.std.specs.List.{list_all}
use Rattle.std.proofs.lemmas.Bool.{and_parts}
use Rattle.std.proofs.lemmas.Bool.Decides.{nat_tests}
use Rattle.std.proofs.lemmas.List.{length-take-le, take_more}
use Rattle.std.proofs.lemmas.Str.Ascii.{uppercase_is}
use Rattle.std.proofs.Math.Seq.{set-append_seam}
use Rattle.escrow_num.specs.Name.{is_name_byte, spells_name}

replicate-suc : (n : ℕ) → replicate {A = ℕ} (n + 1) 0 ≡ 0 ∷ replicate n 0
replicate-suc n = rw add-one refl

-- one more byte of a name is written
pub padded-more : (name : List ℕ) (i : ℕ) → i < length name → length name ≤ 36
    → set (take i name ++ replicate (36 - i) 0) i (get_or name i 0) ≡ take (i + 1) name ++ replicate (36 - (i + 1)) 0
padded-more name i below short =
    let e : 36 - i ≡ (36 - (i + 1)) + 1 = omega arith in
    let at : length (take i name) ≡ i = length-take-le i name (omega arith) in
    let front = take i name in
    let rest = replicate {A = ℕ} (36 - (i + 1)) 0 in
    let seam : set (front ++ 0 ∷ rest) i (get_or name i 0) ≡ front ++ get_or name i 0 ∷ rest =
    subst (λ (n : ℕ). set (front ++ 0 ∷ rest) n (get_or name i 0) ≡ front ++ get_or name i 0 ∷ rest) at (set-append_seam front 0 rest (get_or name i 0)) in
    rw (e, replicate-suc) (seam ∙ rw (take_more name i 0 below, append_assoc) refl)

-- a byte of a name is its own upper case
name_byte_kept : (c : ℕ) → is_name_byte c ≡ true → to_ascii_uppercase c ≡ c
name_byte_kept c h = let u = uppercase_is c in grind (arith, nat_tests)

name_bytes_kept : (bytes : List ℕ) → list_all is_name_byte bytes ≡ true → map to_ascii_uppercase bytes ≡ bytes
name_bytes_kept [] h = refl
name_bytes_kept (c ∷ cs) h =
    let both = and_parts (is_name_byte c) (list_all is_name_byte cs) h in
    ap₂ (λ (b : ℕ) (bs : List ℕ). b ∷ bs) (name_byte_kept c both.0) (name_bytes_kept cs both.1)

pub name_kept : (bytes : List ℕ) → spells_name bytes ≡ true → map to_ascii_uppercase bytes ≡ bytes
name_kept [] h = refl
name_kept (c ∷ cs) h =
    let both = and_parts (is_ascii_uppercase c) (list_all is_name_byte cs) h in
    let first : to_ascii_uppercase c ≡ c = let u = uppercase_is c in grind (arith, nat_tests, both.0) in
    ap₂ (λ (b : ℕ) (bs : List ℕ). b ∷ bs) first (name_bytes_kept cs both.1)
