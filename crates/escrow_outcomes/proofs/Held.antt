-- A store can hold the values of a valid state, if the texts are in UTF-8.
use Rattle.std.specs.Prelude.{◌≡◌, ℕ, ℤ, cond, ◌==◌, ◌+◌, IsSomeAnd, Option, Some, None, List, [], ◌∷◌, ◌++◌, map, take, drop}
use Rattle.std.specs.List.{AllByRecursion}
use Rattle.std.proofs.Common.{refl}
use Rattle.std.proofs.lemmas.Bool.{cond_both}
use Rattle.escrow_num.specs.declared.row.Row.{Row}
use Rattle.escrow_num.specs.declared.value.Value.{Value}
use Rattle.escrow_num.specs.declared.value.Value.TheVariants as value
use Rattle.escrow_num.proofs.Items.{all_has, has_all}
use Rattle.escrow_schema.specs.declared.column.Column.{Column}
use Rattle.escrow_schema.specs.declared.table.TableDef.{TableDef}
use Rattle.escrow_schema.specs.Catalog.{table_named}
use Rattle.escrow_schema.specs.Fit.{FitColumns, values_from, values_of}
use Rattle.escrow_schema.proofs.ColumnsLemmas.{HasType}
use Rattle.escrow_schema.proofs.RangeLemmas.{fitting_amounts}
use Rattle.escrow_schema.proofs.RuleLemmas.{column_types}
use Rattle.escrow_machine.specs.Laws.{HasFittingValues}
use Rattle.escrow_machine.specs.State.{State}
use Rattle.escrow_machine.specs.Valid.{IsValid}
use Rattle.escrow_machine.proofs.LawsRows.{committed_values_fit}
use Rattle.escrow_machine.proofs.Shapes.{is_table_found}
use Rattle.escrow_rows.specs.Image.{CanBeHeld}
use Rattle.escrow_recover.specs.Stored.{HasHeldValues}
use Rattle.escrow_outcomes.specs.Laws.{ReadableCanBeHeld}
use Rattle.escrow_outcomes.specs.Texts.{IsReadableValue, HasReadableTexts}

-- the values of a row
all_append : {A : Type 0} (P : A → Type 0) (xs ys : List A) → AllByRecursion P xs → AllByRecursion P ys → AllByRecursion P (xs ++ ys)
all_append P [] ys first rest = rest
all_append P (x ∷ xs) ys first rest = (first.0, all_append P xs ys first.1 rest)

first_readable : (plain : List Value) → AllByRecursion IsReadableValue plain → AllByRecursion IsReadableValue (take 1 plain)
first_readable [] all = tt
first_readable (v ∷ plain) all = (all.0, tt)

others_readable : (plain : List Value) → AllByRecursion IsReadableValue plain → AllByRecursion IsReadableValue (drop 1 plain)
others_readable [] all = tt
others_readable (v ∷ plain) all = all.1

amount_readable : (amounts : List ℤ) → AllByRecursion IsReadableValue (map value.Number (take 1 amounts))
amount_readable [] = tt
amount_readable (a ∷ amounts) = (tt, tt)

from_readable : (columns : List Column) (place at : ℕ) (key : Value) (amounts : List ℤ) (plain : List Value) → IsReadableValue key → AllByRecursion IsReadableValue plain
    → AllByRecursion IsReadableValue (values_from columns place at key amounts plain)
from_readable [] place at key amounts plain key_readable all = tt
from_readable (column ∷ columns) place at key amounts plain key_readable all =
    cond_both column.reservable (map value.Number (take 1 amounts) ++ values_from columns (place + 1) at key (drop 1 amounts) plain)
    (cond (place == at) (key ∷ values_from columns (place + 1) at key amounts plain) (take 1 plain ++ values_from columns (place + 1) at key amounts (drop 1 plain)))
    (AllByRecursion IsReadableValue)
    (λ _. all_append IsReadableValue (map value.Number (take 1 amounts)) (values_from columns (place + 1) at key (drop 1 amounts) plain) (amount_readable amounts)
    (from_readable columns (place + 1) at key (drop 1 amounts) plain key_readable all))
    (λ _. cond_both (place == at) (key ∷ values_from columns (place + 1) at key amounts plain) (take 1 plain ++ values_from columns (place + 1) at key amounts (drop 1 plain))
    (AllByRecursion IsReadableValue)
    (λ _. (key_readable, from_readable columns (place + 1) at key amounts plain key_readable all))
    (λ _. all_append IsReadableValue (take 1 plain) (values_from columns (place + 1) at key amounts (drop 1 plain)) (first_readable plain all)
    (from_readable columns (place + 1) at key amounts (drop 1 plain) key_readable (others_readable plain all))))

-- values that fit types, with readable texts
held_values : (columns : List Column) (values : List Value) → AllByRecursion HasType columns → FitColumns columns values → AllByRecursion IsReadableValue values
    → AllByRecursion CanBeHeld values
held_values [] [] types fit all = tt
held_values [] (v ∷ values) types fit all = absurd fit
held_values (column ∷ columns) [] types fit all = absurd fit
held_values (column ∷ columns) (value.Number z ∷ values) types fit all =
    ((fitting_amounts (column ∷ []) (z ∷ []) (types.0, tt) (fit.0, tt)).0, held_values columns values types.1 fit.1 all.1)
held_values (column ∷ columns) (value.Text t ∷ values) types fit all = (all.0, held_values columns values types.1 fit.1 all.1)

row_held : (s : State) → IsValid s → (row : Row) (o : Option TableDef) → table_named s.catalog row.name.table ≡ o → HasReadableTexts row
    → IsSomeAnd o (λ table. FitColumns table.columns (values_of table row)) → IsSomeAnd o (λ table. AllByRecursion CanBeHeld (values_of table row))
row_held s valid row None found readable fit = absurd fit
row_held s valid row (Some table) found readable fit =
    held_values table.columns (values_of table row) (column_types table (is_table_found s valid.orderly row.name.table table found)) fit
    (from_readable table.columns 0 table.key row.name.key row.amounts row.plain readable.0 readable.1)

pub readable_can_be_held : ReadableCanBeHeld
readable_can_be_held s valid all =
    has_all (HasHeldValues s.catalog) s.rows (λ row h.
    row_held s valid row (table_named s.catalog row.name.table) refl (all_has HasReadableTexts s.rows all row h)
    (all_has (HasFittingValues s.catalog) s.rows (committed_values_fit s valid) row h))
