-- Believed: what a name is.
use Rattle.std.specs.Prelude.{◌≡◌, ℕ, ◌≤◌, ◌==◌, Bool, true, false, ◌&&◌, ◌||◌, List, [], ◌∷◌, length}
use Rattle.std.specs.Char.{is_ascii_uppercase, is_ascii_digit}
use Rattle.std.specs.List.{list_all}
use Rattle.escrow_num.specs.declared.name.TheConstants.Name.{MAX_LEN}

-- the bytes that may follow a name's first letter: letters A to Z, digits, `_`, `$` and `#`
abbrev pub is_name_byte : ℕ → Bool
is_name_byte c = is_ascii_uppercase c || (is_ascii_digit c || (c == 95 || (c == 36 || c == 35)))

-- bytes that spell a name: a letter A to Z, then bytes that may follow it
abbrev pub spells_name : List ℕ → Bool
spells_name [] = false
spells_name (c ∷ cs) = is_ascii_uppercase c && list_all is_name_byte cs

-- a name is spelled this way, and has at most 36 bytes
pub record IsName (name : List ℕ) : Type 0 where
  pub spelled : spells_name name ≡ true
  pub short : length name ≤ MAX_LEN
