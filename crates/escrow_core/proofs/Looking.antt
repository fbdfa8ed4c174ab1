-- What is known about a row that was read and is kept.
use Rattle.std.specs.Prelude.{◌≡◌, ℤ, true, Option, Some, None, List, is_some, option_copied, option_map}
use Rattle.std.specs.Borrow.{Bor}
use Rattle.std.proofs.Common.{refl, sym}
use Rattle.std.proofs.lemmas.Bool.{false≢true}
use Rattle.escrow_num.specs.declared.row.Row.{Row}
use Rattle.escrow_num.specs.declared.value.RowName.{RowName}
use Rattle.escrow_schema.specs.Rows.{row_named}
use Rattle.escrow_reserved.specs.Read.{AreRead, ReadRows, read_at}
use Rattle.escrow_reserved.proofs.Reading.{read_kept}

-- a row with amounts exists
has_amounts : (o : Option Row) (amounts : List ℤ) → option_map (λ (r : Row). r.amounts) o ≡ Some amounts → true ≡ is_some o
has_amounts None amounts has = absurd (cc)
has_amounts (Some row) amounts has = refl

-- a row whose amounts are kept exists
pub kept_stands : (rows : List Row) (kept : ReadRows) (name : RowName) (found : Option (Bor (List ℤ))) → option_copied found ≡ read_at kept name → is_some found ≡ true → AreRead rows kept → true ≡ is_some (row_named rows name)
kept_stands rows kept name None is there read = absurd (false≢true there)
kept_stands rows kept name (Some amounts) is there read = has_amounts (row_named rows name) amounts.now (read_kept rows kept name amounts.now read (sym is))
