-- Helps: what private contracts say of rows of TAB that are read. No contract of a public call uses it.
use Rattle.std.specs.Prelude.{[], ◌∷◌}
use Rattle.sqlite_value.specs.declared.value.Value.TheVariants as sql
use Rattle.sqlite_value.specs.Order.{Row as SqlRow}
use Rattle.escrow_rows.specs.declared.listed.ListedTable.{ListedTable}

-- a listed table as its row in TAB
abbrev pub listed_row : ListedTable → SqlRow
listed_row t = sql.Int t.id ∷ sql.Text t.name ∷ sql.Text t.text ∷ []
