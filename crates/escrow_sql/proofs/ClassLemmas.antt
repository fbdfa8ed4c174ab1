-- The numbers of classes distinguish classes.
use Rattle.std.proofs.Common.{◌≡◌, ℕ, pos, ◌≤◌, [], refl, sym, ap, ◌∙◌, arith}
use Rattle.escrow_sql.specs.Classes.{class_number}
use Rattle.escrow_sql.specs.Sort.{IsSort, kind_at}
use Rattle.escrow_sql.specs.Token.{class_of}
use Rattle.escrow_statement.proofs.WordLemmas.{each_word}
use Rattle.escrow_sql.specs.declared.token.Symbol.{Symbol}
use Rattle.escrow_sql.specs.declared.token.Symbol.TheVariants as symbol
use Rattle.escrow_sql.specs.declared.token.Kind.{Kind}
use Rattle.escrow_sql.specs.declared.token.Kind.TheVariants as kind
use Rattle.escrow_statement.specs.declared.word.Word.{Word}

-- the class of a symbol has the symbol as its kind
symbol_kind : (s : Symbol) → kind_at (class_number (kind.Symbol s)) [] (pos 0) ≡ kind.Symbol s
symbol_kind symbol.Open = refl
symbol_kind other = refl

-- the class of a reserved word has the word as its kind
word_kind : (w : Word) → kind_at (class_number (kind.Word w)) [] (pos 0) ≡ kind.Word w
word_kind w = each_word (λ v. kind_at (class_number (kind.Word v)) [] (pos 0)) kind.Word refl w

-- a symbol or a reserved word is the kind of its class
pub bare_kind : (k : Kind) → 4 ≤ class_number k → kind_at (class_number k) [] (pos 0) ≡ k
bare_kind (kind.Symbol s) h = symbol_kind s
bare_kind (kind.Word w) h = word_kind w
bare_kind other h = absurd (omega arith)

-- the fields of its lexeme agree with that
pub bare_sort : (k : Kind) → 4 ≤ class_number k → IsSort (class_number k) [] (pos 0)
bare_sort k bare = record {
  numbered = ap class_number (bare_kind k bare);
  name = λ h. absurd (omega (arith, h, bare));
  decimal = λ h. absurd (omega (arith, h, bare));
  text = λ h. absurd (omega (arith, h, bare));
}

found : (k : Kind) → class_of (kind_at (class_number k) [] (pos 0)) ≡ class_of k
found (kind.Symbol s) = ap class_of (symbol_kind s)
found (kind.Word w) = ap class_of (word_kind w)
found other = refl

-- one number, one class
pub same_class : (k l : Kind) → class_number k ≡ class_number l → class_of k ≡ class_of l
same_class k l e = sym (found k) ∙ (ap (λ (n : ℕ). class_of (kind_at n [] (pos 0))) e ∙ found l)

number_of_class : (k : Kind) → class_number (class_of k) ≡ class_number k
number_of_class (kind.Name name) = refl
number_of_class other = refl

-- one class, one number
pub same_number : (k l : Kind) → class_of k ≡ class_of l → class_number k ≡ class_number l
same_number k l e = sym (number_of_class k) ∙ (ap class_number e ∙ number_of_class l)
