-- Believed: what a token is without what it holds, and the order of a text's tokens.
use Rattle.std.specs.Prelude.{ℕ, pos, ◌+◌, ◌≤◌, ◌<◌, List, [], ◌∷◌}
use Rattle.escrow_sql.specs.declared.token.Kind.{Kind}
use Rattle.escrow_sql.specs.declared.token.Kind.TheVariants as kind
use Rattle.escrow_sql.specs.declared.token.Token.{Token}

-- what a token is, without what it holds. All names are one class, so are all numbers without a point, all numbers with
-- one, and all texts. Each symbol and each reserved word is a class of its own
abbrev pub class_of : Kind → Kind
class_of (kind.Name name) = kind.Name []
class_of (kind.Number n) = kind.Number (pos 0)
class_of (kind.Decimal d) = kind.Decimal (pos 0)
class_of (kind.Text text) = kind.Text []
class_of (kind.Symbol s) = kind.Symbol s
class_of (kind.Word w) = kind.Word w

-- tokens are in order from a place on, up to the end of a text, and don't overlap
abbrev pub AreInOrder : ℕ → ℕ → List Token → Type 0
AreInOrder from end [] = from ≤ end
AreInOrder from end (t ∷ ts) = (from ≤ t.start) × (t.start < t.end) × AreInOrder t.end end ts

-- the column, from 1, of the first of these tokens, or the column after a text of `len` bytes if there is none
abbrev pub column_at : List Token → ℕ → ℕ
column_at [] len = len + 1
column_at (t ∷ ts) len = t.start + 1
