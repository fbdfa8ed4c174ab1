-- The committed rows of a valid state meet the checks of their tables, and their values fit.
use Rattle.std.specs.Prelude.{◌≡◌, IsSomeAnd, List, Option, Some, None}
use Rattle.std.specs.List.{AllByRecursion}
use Rattle.std.proofs.Common.{refl}
use Rattle.escrow_num.specs.declared.row.Row.{Row}
use Rattle.escrow_checks.specs.Grant.{Meets}
use Rattle.escrow_schema.specs.declared.table.TableDef.{TableDef}
use Rattle.escrow_schema.specs.Catalog.{table_named}
use Rattle.escrow_schema.specs.Fit.{FitColumns, IsRowOf, values_of}
use Rattle.escrow_schema.proofs.LawLemmas.{values_fit}
use Rattle.escrow_machine.specs.declared.event.Event.{Event}
use Rattle.escrow_machine.specs.declared.reply.Reply.{Reply}
use Rattle.escrow_machine.specs.Event.{HasSession}
use Rattle.escrow_machine.specs.Laws.{HasFittingValues}
use Rattle.escrow_machine.specs.State.{State, empty}
use Rattle.escrow_machine.specs.Step.{IsRun}
use Rattle.escrow_machine.specs.Valid.{IsValid}
use Rattle.escrow_schema.specs.Rows.{HasTable, MeetsChecks}
use Rattle.escrow_num.proofs.Items.{all_has, has_all}
use Rattle.escrow_machine.proofs.LawsSteps.{run_keeps_valid}
use Rattle.escrow_machine.proofs.Safe.{committed_rows_meet_checks}
use Rattle.escrow_machine.proofs.Shapes.{is_table_found}
use Rattle.escrow_machine.proofs.ValidEmpty.{empty_valid}

-- after any run from the beginning, each row meets each check of its table
pub every_run_is_safe : (events : List Event) (answers : List Reply) (new : State)
    → AllByRecursion HasSession events → IsRun empty events answers new → AllByRecursion (MeetsChecks new.catalog) new.rows
every_run_is_safe events answers new of_sessions h =
    committed_rows_meet_checks new (run_keeps_valid empty events answers new empty_valid of_sessions h)

-- the values of a row fit if its amounts meet the checks of its table
fitting : (s : State) → IsValid s → (row : Row) (o : Option TableDef) → table_named s.catalog row.name.table ≡ o → IsSomeAnd o (λ t. IsRowOf t row)
    → IsSomeAnd o (λ t. AllByRecursion (λ check. Meets check row.amounts) t.checks) → IsSomeAnd o (λ t. FitColumns t.columns (values_of t row))
fitting s valid row None found of_table met = absurd of_table
fitting s valid row (Some table) found is_row met =
    values_fit table row (is_table_found s valid.orderly row.name.table table found) is_row met

pub committed_values_fit : (s : State) → IsValid s → AllByRecursion (HasFittingValues s.catalog) s.rows
committed_values_fit s valid =
    has_all (HasFittingValues s.catalog) s.rows (λ row h.
    fitting s valid row (table_named s.catalog row.name.table) refl (all_has (HasTable s.catalog) s.rows valid.safe_rows.tables row h)
    (all_has (MeetsChecks s.catalog) s.rows (committed_rows_meet_checks s valid) row h))
