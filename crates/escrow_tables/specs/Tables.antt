-- Believed: what contracts see of the tables of a database.
use Rattle.std.specs.Prelude.{refl, List}
use Rattle.std.specs.Coded.{Coded, code_by, coded×, coded_list}
use Rattle.sqlite.specs.Held.{Held, held_code}
use Rattle.escrow_num.specs.contracts.row.Row as row
use Rattle.escrow_num.specs.declared.row.Row.{Row}
use Rattle.escrow_schema.specs.contracts.table.TableDef as table
use Rattle.escrow_schema.specs.declared.table.TableDef.{TableDef}
pub use Rattle.escrow_recover.specs.Holds.{Holds, AreHeld}

-- What contracts see: the connection to the store, the tables in order of name, and their rows in order of table and
-- key. These are the committed rows whatever has happened to the store: a fault that shuts it takes nothing from them.
pub record Tables (S : Type 0) : Type 0 where
  pub store : Held S
  pub catalog : List TableDef
  pub rows : List Row

abbrev pub tables_code : {S : Type 0} → Coded S → Coded (Tables S)
tables_code {S} store =
    code_by (Held S × (List TableDef × List Row))
    (coded× (held_code store) (coded× (coded_list table.the_row.coded) (coded_list row.the_row.coded)))
    (λ c. (c.store, (c.catalog, c.rows))) (λ p. record { store = p.0; catalog = p.1.0; rows = p.1.1 }) (λ _. refl)
