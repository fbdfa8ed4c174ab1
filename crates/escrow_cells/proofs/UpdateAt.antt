-- What UPDATE does to CELL if it gives a rowid too.
use Rattle.std.proofs.Common.{◌≡◌, ℕ, ℤ, Bool, true, false, not, ◌&&◌, List, [], ◌∷◌, map, filter, codes, slice_get, Some, Ok, IsPermutation, refl, sym, ap, ◌∙◌, None, inl, inr}
use Rattle.std.specs.Prelude.{nat_lt}
use Rattle.std.specs.List.{list_any}
use Rattle.std.proofs.lemmas.Bool.{and_parts, both_ways, cases_Bool, not-true}
use Rattle.std.proofs.lemmas.List.{length-map}
use Rattle.std.proofs.lemmas.List.Sorted.{length_permutation}
use Rattle.sqlite_value.specs.declared.value.Value.TheVariants.{Int}
use Rattle.sqlite_value.specs.Order.{Row, column}
use Rattle.sqlite_trees.proofs.ListLemmas.{map-map}
use Rattle.sqlite_sql.specs.Term.{Term, eval_all}
use Rattle.sqlite_schema.specs.declared.schema.Schema.{Schema}
use Rattle.sqlite_schema.specs.declared.program.Program.{Program}
use Rattle.sqlite_schema.specs.declared.command.Command.TheVariants.{Update}
use Rattle.sqlite_rules.specs.declared.error.Rowids.TheVariants.{Given}
use Rattle.sqlite_rules.specs.Calls.{ids_of}
use Rattle.sqlite_rules.specs.Edit.{edit_of}
use Rattle.sqlite_rules.specs.Lists.{Has}
use Rattle.sqlite_rules.proofs.ListLemmas.{all_has, some_from, some_has}
use Rattle.sqlite_tied.specs.Compute.{everything}
use Rattle.sqlite.specs.Effect.{Answers}
use Rattle.sqlite.specs.Listing.{understood}
use Rattle.sqlite.specs.State.{State, Executes, Writes as HasWritten}
use Rattle.sqlite.proofs.Callers.{statement_of}
use Rattle.escrow_cells.specs.declared.datum.Datum.{Datum}
use Rattle.escrow_cells.specs.declared.step.Step.TheVariants as step
use Rattle.escrow_cells.specs.Tables.{beside, cell}
use Rattle.escrow_cells.specs.Store.{IsStore}
use Rattle.escrow_cells.specs.Step.{kept, same, is_at, with_value, Does}
use Rattle.escrow_cells.proofs.Inside.{Edits, IsStatement, updates, updates_counted, wrote_by}
use Rattle.escrow_cells.proofs.Columns.{IsWritten, all_written}
use Rattle.escrow_cells.proofs.Leaves.{cell_of, holds_cells}
use Rattle.escrow_cells.proofs.Matches.{plain_query, passes, matched, some_pass}
use Rattle.escrow_cells.proofs.ReadTexts.{is_given}
use Rattle.escrow_cells.proofs.Unique.{only_row}
use Rattle.escrow_cells.proofs.Update.{set_terms, set_rows, three, put, put_at, put_beyond}

abbrev pub rowid_text : List ℕ
rowid_text = codes "UPDATE CELL SET V = ?4 WHERE rowid = ?5 AND TAB = ?1 AND K = ?2 AND C = ?3"

abbrev rowid_tests : List Term
rowid_tests = is_given 0 4 ∷ is_given 1 0 ∷ is_given 2 1 ∷ is_given 3 2 ∷ []

abbrev rowid_program : Program
rowid_program = record { lets = []; body = plain_query 4 rowid_tests set_terms }

rowid_statement : IsStatement rowid_text (Update 2 rowid_program)
unfolding understood everything
rowid_statement = record { is = λ _ _ _. refl; plain = λ _ _ _. (refl, refl) }

module _ (table : ℤ) (key : Datum) (place : ℤ) (value : Datum) (rowid : ℤ) where
  abbrev params : Row
  params = Int table ∷ kept key ∷ Int place ∷ kept value ∷ Int rowid ∷ []

  abbrev found_by : Row → Row
  found_by r = eval_all set_terms (params ∷ r ∷ [])

  abbrev is_found : Row → Bool
  is_found = passes rowid_tests params

  abbrev at : Row → Bool
  at r = is_at (Int table) (kept key) (Int place) (cell_of r)

  found_is : (r : Row) → is_found r ≡ (same (column r 0) (Int rowid) && at r)
  found_is r = ap (λ b. same (column r 0) (Int rowid) && b) (three (same (column r 1) (Int table)) (same (column r 2) (kept key)) (same (column r 3) (Int place)))

  found_at : (r : Row) → is_found r ≡ true → at r ≡ true
  found_at r found = (and_parts _ _ (sym (found_is r) ∙ found)).1

  module _ (old new : State) (n : ℕ) (ran : Executes rowid_text params old new (Ok n)) (store : IsStore old.now) where
    abbrev rows : List Row
    rows = old.now.trees 4

    got : slice_get old.now.schema.tables 2 ≡ Some cell
    got = ap (λ (s : Schema). slice_get s.tables 2) store.tables.is

    abbrev w : HasWritten old new None (Update 2 rowid_program) (statement_of rowid_text (understood (beside store.tables.more store.tables.indexes store.tables.views) rowid_text)) params n
    w = wrote_by rowid_statement params old new store.tables n ran

    abbrev u : (found : List Row) × Answers old.now rowid_program params found × Edits old.now new.now (edit_of old.now.trees cell (ids_of found) Given 1 found)
    u = updates old new cell 2 got store.no_keys _ params n _ w

    found : IsPermutation (map found_by (filter is_found rows)) u.0
    found = matched old.now params 4 rowid_tests set_terms u.0 u.1

    -- whether the count is above 0 is whether a row was found
    some : nat_lt 0 n ≡ list_any is_found rows
    some = ap (nat_lt 0) (updates_counted old new cell 2 got store.no_keys _ params n _ w ∙ length_permutation _ u.0 found ∙ length-map (filter is_found rows) found_by) ∙ some_pass is_found rows

    -- a row at this place is the one that was found
    only : nat_lt 0 n ≡ true → (r : Row) → Has rows r → not (is_found r) ≡ true → at r ≡ false
    only above r has missed = elim (cases_Bool (at r)) [
      | inl there ↦
          let one = some_has is_found rows (sym some ∙ above) in
          let is_one : r ≡ one.0 = only_row (Int table) (kept key) (Int place) old.now store r one.0 has one.1 there (found_at one.0 one.2) in
          absurd (both_ways _ (not-true _ missed) (ap is_found is_one ∙ one.2))
      | inr elsewhere ↦ elsewhere
    ]

    none : nat_lt 0 n ≡ false → (r : Row) → Has rows r → is_found r ≡ false
    none zero r has = elim (cases_Bool (is_found r)) [
      | inl there ↦ absurd (both_ways _ (sym some ∙ zero) (some_from is_found rows r has there))
      | inr missed ↦ missed
    ]

    -- if the count is above 0, the value of the cell is set
    pub sets_at : nat_lt 0 n ≡ true → Does (step.SetCell table key place value (Some rowid) ∷ []) old.now new.now
    sets_at above _ =
        let cells_are = set_rows is_found found_by (put (Int table) (kept key) (Int place) (kept value)) (λ r. refl) rows u.0 store.cells_numbered found
        (λ r has is. put_at (Int table) (kept key) (Int place) (kept value) r (found_at r is) (all_has IsWritten rows r (all_written old.now store) has))
        (λ r has missed. put_beyond (Int table) (kept key) (Int place) (kept value) r (only above r has missed)) u.2.applies.fresh in
        holds_cells old.now new.now _ store u.2 refl _ (rw (map-map (with_value (Int table) (kept key) (Int place) (kept value)) cell_of rows, u.2.applies.rows) cells_are)

    -- if it is 0, nothing changes
    pub sets_none : nat_lt 0 n ≡ false → Does [] old.now new.now
    sets_none zero _ =
        let cells_are = set_rows is_found found_by cell_of (λ r. refl) rows u.0 store.cells_numbered found
        (λ r has is. absurd (both_ways _ (none zero r has) is)) (λ r has missed. refl) u.2.applies.fresh in
        holds_cells old.now new.now _ store u.2 refl _ (rw u.2.applies.rows cells_are)
