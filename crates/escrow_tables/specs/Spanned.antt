-- Helps: the columns of a table that are read while its rows are judged.
use Rattle.std.specs.Prelude.{◌≡◌, ◌≤◌, ◌<◌, ◌+◌, ◌^◌, List, [], length, take, drop}
use Rattle.escrow_schema.specs.declared.column.Column.{Column}
use Rattle.escrow_schema.specs.Column.{reservables}
use Rattle.escrow_rows.specs.declared.span.Span.{Span}

-- a span of these columns has all RESERVABLE ones
pub record HasReservables (columns : List Column) (span : Span) : Type 0 where
  pub within : span.start + span.len ≤ length columns
  pub few : span.start + span.len < 2 ^ 63
  pub before : reservables (take span.start columns) ≡ []
  pub behind : reservables (drop (span.start + span.len) columns) ≡ []
