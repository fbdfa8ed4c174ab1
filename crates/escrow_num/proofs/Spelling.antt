-- A name's bytes are ASCII, so a name is a text.
use Rattle.std.proofs.Common.{◌≡◌, ℕ, ◌<◌, ◌&&◌, Bool, true, false, List, [], ◌∷◌, arith, refl}
use Rattle.std.specs.Char.{is_ascii_uppercase}
use Rattle.std.specs.List.{AllByRecursion, list_all}
use Rattle.std.specs.Str.{IsUtf8}
use Rattle.std.proofs.lemmas.Bool.Decides.{nat_tests}
use Rattle.std.proofs.lemmas.List.Elements.{All-from_recursion}
use Rattle.std.proofs.lemmas.Str.{IsUtf8-from_ascii}
use Rattle.std.proofs.lemmas.Str.Ascii.{IsAscii-from_all}
use Rattle.escrow_num.specs.Name.{is_name_byte, spells_name}

both_hold : (a b : Bool) → (a && b) ≡ true → (a ≡ true) × (b ≡ true)
both_hold true true e = (refl, refl)
both_hold true false e = absurd (cc)
both_hold false b e = absurd (cc)

upper_small : (c : ℕ) → is_ascii_uppercase c ≡ true → c < 128
upper_small c e = grind (arith, nat_tests)

byte_small : (c : ℕ) → is_name_byte c ≡ true → c < 128
byte_small c e = grind (arith, nat_tests)

bytes_small : (bytes : List ℕ) → list_all is_name_byte bytes ≡ true → AllByRecursion (λ b. b < 128) bytes
bytes_small [] e = tt
bytes_small (c ∷ cs) e = let parts = both_hold (is_name_byte c) (list_all is_name_byte cs) e in (byte_small c parts.0, bytes_small cs parts.1)

spelling_small : (name : List ℕ) → spells_name name ≡ true → AllByRecursion (λ b. b < 128) name
spelling_small [] e = tt
spelling_small (c ∷ cs) e =
    let parts = both_hold (is_ascii_uppercase c) (list_all is_name_byte cs) e in (upper_small c parts.0, bytes_small cs parts.1)

-- bytes that spell a name are a text
pub name_is_text : (name : List ℕ) → spells_name name ≡ true → IsUtf8 name
name_is_text name e = IsUtf8-from_ascii name (IsAscii-from_all name (All-from_recursion (λ (b : ℕ). b < 128) name (spelling_small name e)))
