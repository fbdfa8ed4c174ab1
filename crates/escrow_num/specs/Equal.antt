-- Helps: the tests of values and of rows' names decide equality, as a map requires of its keys.
use Rattle.std.specs.Prelude.{◌≡◌, Bool, true, false, ◌&&◌, bytes_eq, refl}
use Rattle.std.specs.Bool.{Decides}
use Rattle.std.specs.Cmp.{IsEquivalence, decided, signed_Decides}
use Rattle.std.specs.Cmp.Lexicographic.{bytes_decides}
use Rattle.std.proofs.Common.{ap, ap₂}
use Rattle.escrow_num.specs.declared.value.RowName.{RowName}
use Rattle.escrow_num.specs.declared.value.Value.{Value}
use Rattle.escrow_num.specs.declared.value.Value.TheVariants.{Number, Text}
use Rattle.escrow_num.specs.Order.{value_eq, same_row}

-- the test decides whether two values are equal
pub value_decides : (a b : Value) → Decides (value_eq a b) (a ≡ b)
value_decides (Number a) (Number b) = (λ e. ap Number ((signed_Decides a b).0 e), λ e. (signed_Decides a b).1 cc)
value_decides (Text a) (Text b) = (λ e. ap Text ((bytes_decides a b).0 e), λ e. (bytes_decides a b).1 cc)
value_decides (Number a) (Text b) = (λ e. absurd cc, λ e. absurd cc)
value_decides (Text a) (Number b) = (λ e. absurd cc, λ e. absurd cc)

pub value_eq_equiv : IsEquivalence value_eq
value_eq_equiv = decided value_eq value_decides

both : (a b : Bool) → (a && b) ≡ true → (a ≡ true) × (b ≡ true)
both true b e = (refl, e)
both false b e = absurd cc

-- the test decides whether two names are equal
pub row_decides : (a b : RowName) → Decides (same_row a b) (a ≡ b)
row_decides a b = (
  λ e.
      let parts = both (bytes_eq a.table b.table) (value_eq a.key b.key) e in
      ap₂ (λ table key. record { table = table; key = key }) ((bytes_decides a.table b.table).0 parts.0)
      ((value_decides a.key b.key).0 parts.1),
  λ e. ap₂ (λ (s t : Bool). s && t) ((bytes_decides a.table b.table).1 (ap (λ (r : RowName). r.table) e))
      ((value_decides a.key b.key).1 (ap (λ (r : RowName). r.key) e)),
)

pub same_row_equiv : IsEquivalence same_row
same_row_equiv = decided same_row row_decides
