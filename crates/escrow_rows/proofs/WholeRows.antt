-- A row made of its values.
use Rattle.std.proofs.Common.{◌≡◌, Option, Some, None, List, [], ◌∷◌, ◌++◌, map, refl, sym, ap, ap₂, ◌∙◌}
use Rattle.std.specs.Prelude.{option_map}
use Rattle.std.specs.List.{AllByRecursion}
use Rattle.std.specs.Option.{option_to_list}
use Rattle.std.proofs.lemmas.Option.{none-some, same_Some}
use Rattle.sqlite_trees.proofs.ListLemmas.{all_weaker}
use Rattle.sqlite.specs.Effect.{Database}
use Rattle.escrow_num.specs.declared.row.Row.{Row}
use Rattle.escrow_num.specs.declared.value.Value.{Value}
use Rattle.escrow_schema.specs.declared.table.TableDef.{TableDef}
use Rattle.escrow_schema.specs.Definition.{IsTable}
use Rattle.escrow_schema.specs.Fit.{IsRowOf, row_with, values_of}
use Rattle.escrow_schema.specs.Rows.{row_named, rows_of}
use Rattle.escrow_schema.proofs.BackLemmas.{row_with_values_of}
use Rattle.escrow_schema.specs.declared.stored.StoredTable.{StoredTable}
use Rattle.escrow_rows.specs.Answers.{TellsAllValues, TellsRow, TellsRows, TellsValues}
use Rattle.escrow_rows.specs.Changes.{name_in}
use Rattle.escrow_rows.specs.Whole.{rows_with}
use Rattle.escrow_rows.proofs.RowRead.{row_there}
use Rattle.escrow_rows.proofs.TableRead.{own_rows}

-- the values of a table's rows make these rows again
pub rows_back : (table : TableDef) (rows : List Row) → IsTable table → AllByRecursion (IsRowOf table) rows → rows_with table (map (values_of table) rows) ≡ rows
rows_back table [] is_table of = refl
rows_back table (r ∷ rows) is_table of =
    ap₂ (λ (xs ys : List Row). xs ++ ys) (ap option_to_list (row_with_values_of table r is_table of.0)) (rows_back table rows is_table of.1)

module _ (s : StoredTable) (db : Database) where
  -- the row made of a row's values is that row
  pub row_made : (key : Value) (values : List Value) (made : Row) → IsTable s.table → TellsValues s key db (Some values) → row_with s.table values ≡ Some made → TellsRow s key db (Some made)
  row_made key values made is_table tells is tables rows are of stands image = at (row_named rows (name_in s key)) refl (tells tables rows are of stands image)
    where
      at : (o : Option Row) → row_named rows (name_in s key) ≡ o → Some values ≡ option_map (values_of s.table) o → Some made ≡ o
      at None here e = absurd (none-some _ (sym e))
      at (Some row) here e =
          sym is ∙ ap (row_with s.table) (same_Some _ _ e) ∙ row_with_values_of s.table row is_table (row_there tables rows s key row of stands here).0

  -- if there are no values, there is no row
  pub no_row : (key : Value) → TellsValues s key db None → TellsRow s key db None
  no_row key tells tables rows are of stands image = at (row_named rows (name_in s key)) (tells tables rows are of stands image)
    where
      at : (o : Option Row) → None ≡ option_map (values_of s.table) o → None ≡ o
      at None e = refl
      at (Some row) e = absurd (none-some _ e)

  -- the same for all rows
  pub rows_made : (all : List (List Value)) (made : List Row) → IsTable s.table → TellsAllValues s db all → made ≡ rows_with s.table all → TellsRows s db made
  rows_made all made is_table tells is = λ tables rows are of stands image.
      let mine = rows_of rows s.table.name in
      let fit = all_weaker _ (IsRowOf s.table) (λ row own. own.1) mine (own_rows tables rows s of stands) in
      is ∙ ap (rows_with s.table) (tells tables rows are of stands image) ∙ rows_back s.table mine is_table fit
