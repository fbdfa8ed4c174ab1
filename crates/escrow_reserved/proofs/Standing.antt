-- The row whose amounts were read.
use Rattle.std.specs.Prelude.{◌≡◌, ℤ, Option, Some, None, option_map, List}
use Rattle.std.proofs.Common.{refl}
use Rattle.escrow_num.specs.declared.row.Row.{Row}
use Rattle.escrow_num.specs.declared.value.RowName.{RowName}
use Rattle.escrow_num.specs.Order.{same_row}
use Rattle.escrow_num.proofs.Items.{find_has}
use Rattle.escrow_num.proofs.Orders.{row_same}
use Rattle.escrow_schema.specs.Rows.{row_named}
use Rattle.escrow_reserved.specs.Placed.{amounts_named}

-- a row with this name exists, and has these amounts
pub record IsStanding (rows : List Row) (name : RowName) (amounts : List ℤ) : Type 0 where
  pub row : Row
  pub found : row_named rows name ≡ Some row
  pub named : row.name ≡ name
  pub has : row.amounts ≡ amounts

pub standing : (rows : List Row) (name : RowName) (amounts : List ℤ) → amounts_named rows name ≡ Some amounts → IsStanding rows name amounts
standing rows name amounts is = at (row_named rows name) refl is
  where
    at : (o : Option Row) → row_named rows name ≡ o → option_map (λ (row : Row). row.amounts) o ≡ Some amounts → IsStanding rows name amounts
    at None found is = absurd (cc)
    at (Some row) found is = record {
      row = row;
      found = found;
      named = row_same row.name name (find_has (λ (r : Row). same_row r.name name) rows row found).1;
      has = cc;
    }

-- if no amounts are found, the row does not exist
pub no_row : (rows : List Row) (name : RowName) → None ≡ amounts_named rows name → row_named rows name ≡ None
no_row rows name is = at (row_named rows name) is
  where
    at : (o : Option Row) → None ≡ option_map (λ (row : Row). row.amounts) o → o ≡ None
    at None is = refl
    at (Some row) is = absurd (cc)
