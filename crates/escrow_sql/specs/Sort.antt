-- Helps: the kind of a token that a lexeme's fields mean. The contracts of public calls use Lex instead.
use Rattle.std.specs.Prelude.{◌≡◌, ℕ, ℤ, pos, ◌-◌, ◌==◌, nat_lt, if◌then◌else◌, false, List, map, get_or}
use Rattle.std.specs.Char.{to_ascii_uppercase}
use Rattle.std.specs.Option.{IsSome, unwrap_or}
use Rattle.std.specs.Str.{IsUtf8}
use Rattle.escrow_num.specs.Name.{IsName}
use Rattle.escrow_sql.specs.Classes.{class_number}
use Rattle.escrow_sql.specs.Scan.{point_millionths, undoubled}
use Rattle.escrow_sql.specs.declared.token.Kind.{Kind}
use Rattle.escrow_sql.specs.declared.token.Kind.TheVariants as kind
use Rattle.escrow_sql.specs.declared.token.Symbol.TheVariants as symbol
use Rattle.escrow_sql.specs.declared.token.TheConstants.{SYMBOLS}
use Rattle.escrow_statement.specs.declared.word.Word.TheVariants as word
use Rattle.escrow_statement.specs.declared.words.TheConstants.{WORDS}

-- the kind of this class that these bytes write or that means this number
abbrev pub kind_at : ℕ → List ℕ → ℤ → Kind
kind_at class bytes number =
    if class == 0 then kind.Name (map to_ascii_uppercase bytes)
    else if class == 1 then kind.Number number
    else if class == 2 then kind.Decimal (unwrap_or (point_millionths bytes) (pos 0))
    else if class == 3 then kind.Text (undoubled false bytes)
    else if nat_lt (class - 4) 12 then kind.Symbol (get_or SYMBOLS.now (class - 4) symbol.Open)
    else kind.Word (get_or WORDS.now (class - 4 - 12) word.Add)

-- a kind is of this class, and its bytes, if they count, write it
pub record IsSort (class : ℕ) (bytes : List ℕ) (number : ℤ) : Type 0 where
  pub numbered : class_number (kind_at class bytes number) ≡ class
  pub name : class ≡ 0 → IsName (map to_ascii_uppercase bytes)
  pub decimal : class ≡ 2 → IsSome (point_millionths bytes)
  pub text : class ≡ 3 → IsUtf8 bytes
