-- Believed: what SHOW JOURNAL shows.
use Rattle.std.specs.Prelude.{ℕ, ℤ, Option, Some, None, option_map, unwrap_or, List, [], ◌∷◌, map, filter, bytes_eq}
use Rattle.escrow_num.specs.declared.reservation.Reservation.{Reservation}
use Rattle.escrow_schema.specs.declared.column.Column.{Column}
use Rattle.escrow_schema.specs.declared.table.TableDef.{TableDef}
use Rattle.escrow_schema.specs.Catalog.{table_named}
use Rattle.escrow_schema.specs.Column.{reservables, scale_of}
use Rattle.escrow_machine.specs.declared.reply.ColumnChange.{ColumnChange}
use Rattle.escrow_machine.specs.declared.reply.JournalEntry.{JournalEntry}
use Rattle.escrow_machine.specs.declared.reply.Reply.{Reply}
use Rattle.escrow_machine.specs.declared.reply.Reply.TheVariants as reply
use Rattle.escrow_machine.specs.Asked.{key_scale_of}
use Rattle.escrow_machine.specs.State.{State}

-- the changes that aren't none, each with the name and the scale of its column
abbrev pub named_changes : List Column → List (Option ℤ) → List ColumnChange
named_changes [] changes = []
named_changes (column ∷ columns) [] = []
named_changes (column ∷ columns) (None ∷ changes) = named_changes columns changes
named_changes (column ∷ columns) (Some change ∷ changes) =
    record { column = column.name; scale = scale_of column.kind; change = change } ∷ named_changes columns changes

-- the RESERVABLE columns of a table, in column order
abbrev pub columns_of : List TableDef → List ℕ → List Column
columns_of catalog table = unwrap_or (option_map (λ t. reservables t.columns) (table_named catalog table)) []

-- a reservation as it is shown, with the changes of the columns that its UPDATE assigned
abbrev pub entry_of : List TableDef → Reservation → JournalEntry
entry_of catalog r = record {
  id = r.id;
  session = r.session;
  row = r.row;
  key_scale = key_scale_of catalog r.row.table;
  changes = named_changes (columns_of catalog r.row.table) r.changes;
}

-- the reservations of the rows of a table, or all of them if no table is named
abbrev pub of_table : Option (List ℕ) → List Reservation → List Reservation
of_table None reservations = reservations
of_table (Some table) reservations = filter (λ r. bytes_eq r.row.table table) reservations

-- what a SHOW JOURNAL shows: the open reservations of all sessions, in order of id
abbrev pub journal_reply : State → Option (List ℕ) → Reply
journal_reply s table = reply.Journal (map (entry_of s.catalog) (of_table table s.reservations))
