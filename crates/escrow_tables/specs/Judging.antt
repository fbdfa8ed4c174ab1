-- Helps: rows of a table while they are judged.
use Rattle.std.specs.Prelude.{◌≡◌, ℤ, Option, List, take, drop}
use Rattle.escrow_num.specs.Span.{first_of_two}
use Rattle.escrow_num.specs.declared.refusal.Violation.{Violation}
use Rattle.escrow_num.specs.declared.value.RowName.{RowName}
use Rattle.escrow_schema.specs.declared.table.TableDef.{TableDef}
use Rattle.escrow_schema.specs.Fit.{amounts_of}
use Rattle.escrow_rows.specs.declared.keyed_row.KeyedRow.{KeyedRow}
use Rattle.escrow_rows.specs.declared.span.Span.{Span}
use Rattle.escrow_tables.specs.declared.judged.RowsJudged.{RowsJudged}
use Rattle.escrow_tables.specs.Judged.{first_violation}

-- what a row of a table breaks, computed from its cells in a span of columns
abbrev pub by_cells : (RowName → List ℤ → Option Violation) → TableDef → Span → KeyedRow → Option Violation
by_cells violation table span row =
    violation (record { table = table.name; key = row.key })
    (amounts_of (take span.len (drop span.start table.columns)) row.values)

-- rows have been judged: the result is what was found before, or else what the first of them breaks that breaks
-- something
pub record HasJudged {J : Type 0} (table : J → TableDef) (violation : J → RowName → List ℤ → Option Violation)
    (first now : RowsJudged J) (taken : List KeyedRow) : Type 0 where
  pub same : now.judged ≡ first.judged
  pub found : now.found ≡ first_of_two first.found
      (first_violation (by_cells (violation first.judged.0) (table first.judged.0) first.judged.1) taken)
