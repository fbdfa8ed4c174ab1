-- What a SELECT shows of what it reads.
use Rattle.std.specs.Prelude.{◌≡◌, Option, Some, None, IsSomeAnd, option_map, option_to_list, List, filter, map}
use Rattle.std.proofs.Common.{refl, ap, ap₂, ◌∙◌}
use Rattle.escrow_num.specs.declared.row.Row.{Row}
use Rattle.escrow_num.specs.declared.value.RowName.{RowName}
use Rattle.escrow_num.specs.declared.value.Value.{Value}
use Rattle.escrow_num.specs.Ascending.{IsAscending}
use Rattle.escrow_num.specs.Order.{same_row}
use Rattle.escrow_statement.specs.declared.statement.SelectText.{SelectText}
use Rattle.escrow_schema.specs.declared.table.TableDef.{TableDef}
use Rattle.escrow_schema.specs.Catalog.{table_named}
use Rattle.escrow_schema.specs.Fit.{values_of}
use Rattle.escrow_machine.specs.declared.reply.Reply.TheVariants as reply
use Rattle.escrow_machine.specs.Asked.{heading_of, is_shown, select_reply}
use Rattle.escrow_machine.specs.declared.reply.Heading.{Heading}
use Rattle.escrow_machine.specs.State.{State}
use Rattle.escrow_schema.specs.Rows.{row_named, row_before}
use Rattle.escrow_core.proofs.Queries.{selects_one}

-- a SELECT shows the columns and rows of the table
pub shows : (s : State) (text : SelectText) (columns : List Heading) (rows : List (List Value)) → IsSomeAnd (table_named s.catalog text.table) (λ table. columns ≡ map heading_of table.columns)
    → IsSomeAnd (table_named s.catalog text.table) (λ table. rows ≡ map (values_of table) (filter (is_shown s.catalog text.table text.row) s.rows)) → reply.Rows columns rows ≡ select_reply s text
shows s text columns rows named told = at (table_named s.catalog text.table) refl named told
  where
    at : (o : Option TableDef) → table_named s.catalog text.table ≡ o → IsSomeAnd o (λ table. columns ≡ map heading_of table.columns)
        → IsSomeAnd o (λ table. rows ≡ map (values_of table) (filter (is_shown s.catalog text.table text.row) s.rows)) → reply.Rows columns rows ≡ select_reply s text
    at None e names h = absurd h
    at (Some table) e names h = rw e (ap₂ (λ (cs : List Heading) (shown : List (List Value)). reply.Rows cs shown) names h)

-- the values of the row with a name are those of all rows with that name
pub one_shown : (o : Option TableDef) (rows : List Row) (name : RowName) (found : Option (List Value)) → IsAscending row_before rows
    → IsSomeAnd o (λ table. found ≡ option_map (values_of table) (row_named rows name)) → IsSomeAnd o (λ table. option_to_list found ≡ map (values_of table) (filter (λ row. same_row row.name name) rows))
one_shown None rows name found order told = told
one_shown (Some table) rows name found order told =
    ap option_to_list told ∙ mapped (row_named rows name) ∙ ap (map (values_of table)) (selects_one rows name (row_named rows name) order refl)
  where
    mapped : (o : Option Row) → option_to_list (option_map (values_of table) o) ≡ map (values_of table) (option_to_list o)
    mapped None = refl
    mapped (Some row) = refl
