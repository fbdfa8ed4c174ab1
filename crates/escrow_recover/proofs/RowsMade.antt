-- The row that values make, and the row that has these values.
use Rattle.std.proofs.Common.{◌≡◌, Some, sym, ap, ◌∙◌, subst}
use Rattle.std.specs.List.{AllByRecursion}
use Rattle.std.proofs.lemmas.Option.{same_Some}
use Rattle.escrow_num.specs.declared.row.Row.{Row}
use Rattle.escrow_checks.specs.Grant.{Meets}
use Rattle.escrow_schema.specs.declared.table.TableDef.{TableDef}
use Rattle.escrow_schema.specs.Definition.{IsTable}
use Rattle.escrow_schema.specs.Fit.{FitColumns, IsRowOf, row_with}
use Rattle.escrow_schema.proofs.BackLemmas.{row_with_values_of, values_of_made}
use Rattle.escrow_schema.proofs.LawLemmas.{values_fit}
use Rattle.escrow_rows.specs.declared.keyed_row.KeyedRow.{KeyedRow}
use Rattle.escrow_recover.specs.Counting.{IsRowWith}

module _ (table : TableDef) (read : KeyedRow) (is_table : IsTable table) where
  -- if a row has these values and meets the checks, the values fit the columns
  pub none_has : ¬ FitColumns table.columns read.values → (row : Row) → IsRowWith table read row → ⊥
  none_has unfit row h = unfit (subst (FitColumns table.columns) h.values_are (values_fit table row is_table h.is_row h.meets))

  -- that row is the one the values make
  pub made_is : (made row : Row) → row_with table read.values ≡ Some made → IsRowWith table read row → made ≡ row
  made_is made row is h = same_Some made row (sym is ∙ sym (ap (row_with table) h.values_are) ∙ row_with_values_of table row is_table h.is_row)

  -- the row that values make has these values
  pub made_has : (made : Row) → (row_with table read.values ≡ Some made) × FitColumns table.columns read.values × IsRowOf table made → made.name.key ≡ read.key
      → AllByRecursion (λ check. Meets check made.amounts) table.checks → IsRowWith table read made
  made_has made h same met = record {
    is_row = h.2;
    meets = met;
    key_is = same;
    values_are = sym (values_of_made table read.values made is_table h.1 h.0);
  }
