-- The first row of a table that breaks a check, found while the rows are read one by one.
use Rattle.std.proofs.Common.{◌≡◌, ℕ, ℤ, ◌+◌, ◌-◌, true, false, List, [], ◌∷◌, ◌++◌, Option, Some, None, map, take, drop, refl, sym, ap, ap₂, ◌∙◌, arith}
use Rattle.std.specs.Prelude.{is_some}
use Rattle.std.specs.List.{AllByRecursion}
use Rattle.sqlite_trees.proofs.ListLemmas.{all_weaker}
use Rattle.sqlite.specs.Effect.{Database}
use Rattle.escrow_num.specs.Span.{first_of_two}
use Rattle.escrow_num.specs.declared.refusal.Violation.{Violation}
use Rattle.escrow_num.specs.declared.row.Row.{Row}
use Rattle.escrow_num.specs.declared.value.RowName.{RowName}
use Rattle.escrow_schema.specs.declared.table.TableDef.{TableDef}
use Rattle.escrow_schema.specs.Definition.{IsTable}
use Rattle.escrow_schema.specs.Fit.{IsRowOf, amounts_of, values_of}
use Rattle.escrow_schema.proofs.BackLemmas.{length-values_of}
use Rattle.escrow_schema.specs.Rows.{rows_of}
use Rattle.escrow_rows.specs.Answers.{Tells}
use Rattle.escrow_rows.specs.Reading.{TakesSpans, keyed_span}
use Rattle.escrow_rows.specs.declared.keyed_row.KeyedRow.{KeyedRow}
use Rattle.escrow_schema.specs.declared.stored.StoredTable.{StoredTable}
use Rattle.escrow_rows.specs.declared.span.Span.{Span}
use Rattle.escrow_rows.proofs.ReadCells.{amounts_back}
use Rattle.escrow_rows.proofs.Spans.{amounts_in_span}
use Rattle.escrow_rows.proofs.TableRead.{own_rows}
use Rattle.escrow_tables.specs.Judged.{by_amounts, first_violation}
use Rattle.escrow_tables.specs.Judging.{HasJudged, by_cells}
use Rattle.escrow_tables.specs.Spanned.{HasReservables}
use Rattle.escrow_tables.specs.declared.judged.RowsJudged.{RowsJudged}

-- ---- the first of several rows

two_none : {A : Type 0} (a : Option A) → first_of_two a None ≡ a
two_none None = refl
two_none (Some x) = refl

two_two : {A : Type 0} (a b c : Option A) → first_of_two a (first_of_two b c) ≡ first_of_two (first_of_two a b) c
two_two None b c = refl
two_two (Some x) b c = refl

both_parts : {R : Type 0} (violation : R → Option Violation) (rows more : List R) → first_violation violation (rows ++ more) ≡ first_of_two (first_violation violation rows) (first_violation violation more)
both_parts violation [] more = refl
both_parts violation (row ∷ rows) more =
    ap (first_of_two (violation row)) (both_parts violation rows more) ∙ two_two (violation row) (first_violation violation rows) (first_violation violation more)

nothing : (found next : Option Violation) → is_some found ≡ false → first_of_two found next ≡ next
nothing None next none = refl
nothing (Some x) next none = absurd (cc)

something : (found next : Option Violation) → is_some found ≡ true → first_of_two found next ≡ found
something None next some = absurd (cc)
something (Some x) next some = refl

-- ---- while rows are read

module _ {J : Type 0} (table : J → TableDef) (violation : J → RowName → List ℤ → Option Violation) (first old : RowsJudged J) (taken : List KeyedRow) (has : HasJudged table violation first old taken) where
  abbrev judge : J × Span → KeyedRow → Option Violation
  judge j = by_cells (violation j.0) (table j.0) j.1

  so_far : (more : List KeyedRow) → first_of_two first.found (first_violation (judge first.judged) (taken ++ more)) ≡ first_of_two old.found (first_violation (judge first.judged) more)
  so_far more =
      let next = first_violation (judge first.judged) more in
      ap (first_of_two first.found) (both_parts (judge first.judged) taken more)
      ∙ two_two first.found (first_violation (judge first.judged) taken) next ∙ ap (λ (f : Option Violation). first_of_two f next) (sym has.found)

  -- the next row is judged, as long as no violation was found
  pub judged_row : (row : KeyedRow) (new : RowsJudged J) → is_some old.found ≡ false → new.judged ≡ old.judged → new.found ≡ judge old.judged row → HasJudged table violation first new (taken ++ row ∷ [])
  judged_row row new none same found =
      let one : judge first.judged row ≡ first_violation (judge first.judged) (row ∷ []) = sym (two_none (judge first.judged row)) in
      record {
        same = same ∙ has.same;
        found = found ∙ ap (λ (j : J × Span). judge j row) has.same ∙ one ∙ sym (so_far (row ∷ []) ∙ nothing old.found (first_violation (judge first.judged) (row ∷ [])) none);
      }

  -- once something is found, further rows change nothing
  pub passed_rows : (more : List KeyedRow) → is_some old.found ≡ true → HasJudged table violation first old (taken ++ more)
  passed_rows more some = record {
    same = has.same;
    found = sym (so_far more ∙ something old.found (first_violation (judge first.judged) more) some);
  }

-- ---- when all rows are read

-- the amounts of a row are those among its values in a span with all RESERVABLE columns
amounts_told : (table : TableDef) (span : Span) (row : Row) → IsTable table → IsRowOf table row → HasReservables table.columns span
    → amounts_of (take span.len (drop span.start table.columns)) (take span.len (drop span.start (values_of table row))) ≡ row.amounts
amounts_told table span row is_table of has =
    let values = values_of table row in
    let many : span.start + span.len - span.start ≡ span.len = omega arith in
    ap (λ (n : ℕ). amounts_of (take n (drop span.start table.columns)) (take span.len (drop span.start values))) (sym many)
    ∙ amounts_in_span table.columns table.columns span.start span.len refl has.before has.behind values (length-values_of table row of) ∙ amounts_back table row is_table of

-- the cells of a row show what the row breaks
told_row : (violation : RowName → List ℤ → Option Violation) (table : TableDef) (span : Span) (row : Row) → IsTable table → IsRowOf table row → HasReservables table.columns span
    → by_cells violation table span (keyed_span span.start span.len table row) ≡ by_amounts violation row
told_row violation table span row is_table of has =
    ap₂ violation (ap (λ (t : List ℕ). let made : RowName = record { table = t; key = row.name.key } in made) (sym of.table_name)) (amounts_told table span row is_table of has)

told_rows : (violation : RowName → List ℤ → Option Violation) (table : TableDef) (span : Span) (rows : List Row) → IsTable table → AllByRecursion (IsRowOf table) rows → HasReservables table.columns span
    → first_violation (by_cells violation table span) (map (keyed_span span.start span.len table) rows) ≡ first_violation (by_amounts violation) rows
told_rows violation table span [] is_table of has = refl
told_rows violation table span (row ∷ rows) is_table of has = ap₂ first_of_two (told_row violation table span row is_table of.0 has) (told_rows violation table span rows is_table of.1 has)

-- the violation found while reading is that of the table's rows
pub judged_told : {J : Type 0} (table : J → TableDef) (violation : J → RowName → List ℤ → Option Violation) (s : StoredTable) (db : Database) (span : Span) (fresh last : RowsJudged J)
    → IsTable s.table → s.table ≡ table fresh.judged.0 → span ≡ fresh.judged.1 → HasReservables s.table.columns span → fresh.found ≡ None
    → TakesSpans (HasJudged table violation) span.start span.len s db fresh last → Tells s (λ rows. first_violation (by_amounts (violation fresh.judged.0)) (rows_of rows s.table.name)) db last.found
judged_told table violation s db span fresh last is_table own same has none takes = λ tables rows are of stands image.
    let judge = violation fresh.judged.0 in
    let mine = rows_of rows s.table.name in
    let given = map (keyed_span span.start span.len s.table) mine in
    let fit : AllByRecursion (IsRowOf s.table) mine = all_weaker _ (IsRowOf s.table) (λ row own. own.1) mine (own_rows tables rows s of stands) in
    let begun : HasJudged table violation fresh fresh [] = record { same = refl; found = sym (two_none fresh.found) } in
    let judged = takes tables rows are of stands image fresh [] begun in
    judged.found ∙ ap (λ (f : Option Violation). first_of_two f (first_violation (by_cells judge (table fresh.judged.0) fresh.judged.1) given)) none
    ∙ ap₂ (λ (t : TableDef) (sp : Span). first_violation (by_cells judge t sp) given) (sym own) (sym same) ∙ told_rows judge s.table span mine is_table fit has
