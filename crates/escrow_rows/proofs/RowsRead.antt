-- What a reader of rows has read after it has taken all cells of a table.
use Rattle.std.proofs.Common.{◌≡◌, ℕ, ℤ, ◌+◌, ◌<◌, ◌⊎◌, Bool, true, false, Option, Some, None, List, [], ◌∷◌, ◌++◌, flat_map, map, ◌≤◌, length, append_assoc, append-nil, inl, inr, refl, sym, ap, ◌∙◌, subst, arith, IsTrue}
use Rattle.std.specs.Prelude.{IfSome}
use Rattle.std.specs.List.{AllByRecursion}
use Rattle.std.proofs.lemmas.Bool.{both_ways, cases_Bool}
use Rattle.sqlite_value.specs.declared.value.Value.TheVariants as sql
use Rattle.sqlite_value.specs.Order.{Row as SqlRow}
use Rattle.sqlite_trees.specs.declared.store.Store.{Ghosts}
use Rattle.sqlite.specs.Held.{Held, state}
use Rattle.escrow_num.specs.declared.value.Value.{Value}
use Rattle.escrow_cells.specs.Read.{AreOfTable, Takes}
use Rattle.escrow_cells.specs.Store.{IsStore, cells}
use Rattle.escrow_rows.specs.declared.keyed_row.KeyedRow.{KeyedRow}
use Rattle.escrow_rows.specs.declared.reader.RowReader.{RowReader}
use Rattle.escrow_rows.specs.declared.span.Span.{Span}
use Rattle.escrow_schema.specs.declared.stored.StoredTable.{StoredTable}
use Rattle.escrow_rows.specs.Gathered.{Extends, HasGathered, IsEnough, IsGathered, TakesCells}
use Rattle.escrow_rows.specs.Image.{CanBeHeld}
use Rattle.escrow_rows.specs.Placed.{keyed}
use Rattle.escrow_rows.specs.Reading.{AreTaken, HaveValues, IsRead, ReadsRows, TakesAll, TakesSpans, keyed_span, row_cells}
use Rattle.escrow_schema.specs.Rows.{rows_of}
use Rattle.sqlite.specs.Effect.{Database}
use Rattle.escrow_rows.proofs.SpanCells.{span_values}
use Rattle.escrow_rows.proofs.Gathering.{all_made, have_values, no_rows, takes_all}

module _ {T : Type 0} (HasTaken : T → T → List KeyedRow → Type 0) (is_enough : T → Bool) where
  -- a taker is done with the row that it has taken
  pub enough_now : (taker : T) (last begun : KeyedRow) (done : Bool) → done ≡ is_enough taker → ((first : T) (rows more : List KeyedRow) → HasTaken first taker rows → HasTaken first taker (rows ++ more))
      → last ≡ begun → begun.values ≡ [] → IsTrue done → IsEnough HasTaken is_enough taker last
  enough_now taker last begun done is more as_begun empty some = record { wants = sym is ∙ some; done = more; empty = ap (λ (r : KeyedRow). r.values) as_begun ∙ empty }

  -- a reader takes a cell
  pub taken_cell : (first old new : RowReader T) (fits : Bool) (cells : List SqlRow) (cell : SqlRow) → HasGathered HasTaken is_enough first old cells → IsTrue old.fits → old.enough ≡ false → new.span ≡ old.span
      → (IsTrue new.enough → IsTrue fits × IsEnough HasTaken is_enough new.taker new.row)
      → (IsTrue fits → (taker : T) (cells : List SqlRow) → IsGathered HasTaken old.span.start old.span.len taker old.taker old.row cells → IsGathered HasTaken old.span.start old.span.len taker new.taker new.row (cells ++ cell ∷ []))
      → (fits ≡ false → CanBeHeld old.row.key → (row : KeyedRow) → Extends old.span.start old.row cell row → ⊥) → HasGathered HasTaken is_enough first (record new { fits = fits }) (cells ++ cell ∷ [])
  taken_cell first old new fits cells cell taken fit wanting same enough more other =
      let so_far = taken.so_far fit wanting in
      let gathered : IsTrue fits → IsGathered HasTaken first.span.start first.span.len first.taker new.taker new.row (cells ++ cell ∷ []) = λ good. subst (λ (s : Span). IsGathered HasTaken s.start s.len first.taker new.taker new.row (cells ++ cell ∷ [])) taken.same
      (more good first.taker cells (subst (λ (s : Span). IsGathered HasTaken s.start s.len first.taker old.taker old.row cells) (sym taken.same) so_far)) in
      record {
        same = same ∙ taken.same;
        so_far = λ good _. gathered good;
        enough = λ some.
            let is = enough some in (is.0, is.1, takes_all first.span.start HasTaken first.span.len first.taker new.taker new.row (cells ++ cell ∷ []) (gathered is.0) is.1.done);
        other = λ bad.
            let none = subst (λ (s : Span). (row : KeyedRow) → Extends s.start old.row cell row → ⊥) taken.same (other bad so_far.key_held) in
            no_rows first.span.start HasTaken first.span.len first.taker old.taker old.row cells so_far cell none;
      }

  -- once its taker has enough, or a cell was of no row, further cells change nothing
  pub past : (first now : RowReader T) (cells more : List SqlRow) → HasGathered HasTaken is_enough first now cells → (now.enough ≡ true) ⊎ (now.fits ≡ false) → HasGathered HasTaken is_enough first now (cells ++ more)
  past first now cells more taken over = record {
    same = taken.same;
    so_far = λ fit wanting. absurd (elim over [ inl some ↦ both_ways now.enough wanting some | inr bad ↦ both_ways now.fits bad fit ]);
    enough = λ some.
        let is = taken.enough some in (is.0, is.1, λ rows rest have e. is.2 rows (more ++ rest) have (e ∙ append_assoc cells more rest));
    other = λ bad rows rest whole e. taken.other bad rows (more ++ rest) whole (e ∙ append_assoc cells more rest);
  }

  module _ (fresh last : RowReader T) (none : fresh.row.values ≡ []) (key_held : CanBeHeld fresh.row.key) (fits : IsTrue fresh.fits) (wanting : fresh.enough ≡ false) (some : 0 < fresh.span.len) where
    -- a new reader has taken no cells
    begun : HasGathered HasTaken is_enough fresh fresh []
    begun =
        let no_cells : [] ≡ keyed fresh.row.key (fresh.span.start + 1) fresh.row.values = sym (ap (keyed fresh.row.key (fresh.span.start + 1)) none) in
        record {
          same = refl;
          so_far = λ _ _. record {
            done = [];
            whole = tt;
            taken = λ first before has. subst (HasTaken first fresh.taker) (sym (append-nil before)) has;
            short = let empty = ap length none in omega arith;
            key_held = key_held;
            held = subst (AllByRecursion CanBeHeld) (sym none) tt;
            cells_are = no_cells;
            only = λ rows rest have e. (rows, refl, e ∙ ap (λ (cs : List SqlRow). cs ++ rest) no_cells);
          };
          enough = λ some. absurd (both_ways fresh.enough wanting some);
          other = λ no. absurd (cc);
        }

    -- at the end no cell is of another row than whole ones, and none is lacking, or the taker has enough; or it is so for no rows
    read : (cells : List SqlRow) (found : Option T) → HasGathered HasTaken is_enough fresh last cells → IfSome found (λ taker. IsTrue last.fits × (last.row.values ≡ []) × (taker ≡ last.taker))
        → (found ≡ None → IsTrue last.fits → last.row.values ≡ [] → ⊥) → IsRead HasTaken is_enough fresh.span.start fresh.span.len fresh.taker cells found
    read cells (Some taker) taken all lacks = elim (cases_Bool last.enough) [
      | inl some ↦
          let is = taken.enough some in
          inr (subst (λ (t : T). IsTrue (is_enough t)) (sym all.2) is.1.wants, subst (λ (t : T). TakesAll HasTaken fresh.span.start fresh.span.len fresh.taker cells t) (sym all.2) is.2)
      | inr more ↦
          let so_far = taken.so_far all.0 more in
          let done = flat_map (row_cells fresh.span.start) so_far.done in
          inl (record {
            rows = so_far.done;
            whole = so_far.whole;
            cells_are = so_far.cells_are ∙ ap (λ (vs : List Value). done ++ keyed last.row.key (fresh.span.start + 1) vs) all.1 ∙ append-nil done;
            only = λ others have is. (all_made fresh.span.start HasTaken fresh.span.len fresh.taker last.taker last.row cells so_far others have is).0;
            taken = λ first before has. subst (λ (t : T). HasTaken first t (before ++ so_far.done)) (sym all.2) (so_far.taken first before has);
          })
    ]
    read cells None taken all lacks = λ rows whole is. elim (cases_Bool last.fits) [
      | inl good ↦ elim (cases_Bool last.enough) [
        | inl some ↦ lacks refl good (taken.enough some).1.empty
        | inr more ↦ lacks refl good (all_made fresh.span.start HasTaken fresh.span.len fresh.taker last.taker last.row cells (taken.so_far good more) rows (have_values fresh.span.len rows whole) is).1
      ]
      | inr bad ↦ taken.other bad rows [] whole (sym is ∙ sym (append-nil cells))
    ]

    -- the same for the cells that a call has read from a store
    pub read_of : {S : Type 0} (g : Ghosts S) (inside old new : Held S) (s : StoredTable) (id : ℤ) (found : Option T) → inside ≡ old → id ≡ s.id → fresh.span ≡ record { start = 0; len = length s.table.columns } → IsTrue (state g new).is_open
        → (IsStore (state g inside).now → Takes (HasGathered HasTaken is_enough) (AreOfTable (sql.Int id) (cells (state g inside).now)) fresh last)
        → IfSome found (λ taker. IsTrue last.fits × (last.row.values ≡ []) × (taker ≡ last.taker)) → (found ≡ None → IsTrue last.fits → last.row.values ≡ [] → ⊥)
        → IsTrue (state g new).is_open × (IsStore (state g old).now → ReadsRows HasTaken is_enough s (state g old).now fresh.taker found)
    read_of {S} g inside old new s id found same_conn number columns opened takes all lacks = (
      opened,
      λ store.
          let with_conn = subst (λ (c : Held S). IsStore (state g c).now → Takes (HasGathered HasTaken is_enough) (AreOfTable (sql.Int id) (cells (state g c).now)) fresh last) same_conn takes in
          let taken = with_conn store fresh [] begun in (
            taken.0,
            subst (λ (n : ℤ). AreOfTable (sql.Int n) (cells (state g old).now) taken.0) number taken.1,
            subst (λ (span : Span). IsRead HasTaken is_enough span.start span.len fresh.taker taken.0 found) columns (read taken.0 found taken.2 all lacks),
          ),
    )

    -- so it is of the rows of a table, by their values in a span
    pub spans_read : (s : StoredTable) (db : Database) (start many : ℕ) (found : Option T) → fresh.span ≡ record { start = start; len = many } → start + many ≤ length s.table.columns
        → TakesCells HasTaken is_enough start many s db fresh last → IfSome found (λ taker. IsTrue last.fits × (last.row.values ≡ []) × (taker ≡ last.taker)) → (found ≡ None → IsTrue last.fits → last.row.values ≡ [] → ⊥)
        → IfSome found (TakesSpans HasTaken start many s db fresh.taker)
    spans_read s db start many None span within takes all lacks = tt
    spans_read s db start many (Some taker) span within takes all lacks = λ tables rows are of stands image first before has.
        let given = map (keyed_span start many s.table) (rows_of rows s.table.name) in
        let cells = flat_map (row_cells start) given in
        let long : HaveValues many given = span_values tables rows s start many of stands within in
        let is = subst (λ (sp : Span). IsRead HasTaken is_enough sp.start sp.len fresh.taker cells (Some taker)) span (read cells (Some taker) (takes tables rows are of stands image fresh begun) all lacks) in
        elim is [
          | inl exact ↦ subst (λ (rs : List KeyedRow). HasTaken first taker (before ++ rs)) (sym (exact.only given long refl)) (exact.taken first before has)
          | inr enough ↦ enough.1 given [] long (sym (append-nil cells)) first before has
        ]

-- a taker that never has enough is given all rows
pub all_taken : {T : Type 0} (HasTaken : T → T → List KeyedRow → Type 0) (start many : ℕ) (old : T) (cells : List SqlRow) (new : T) → IsRead HasTaken (λ _. false) start many old cells (Some new) → AreTaken HasTaken start many old cells new
all_taken HasTaken start many old cells new (inl all) = all
all_taken HasTaken start many old cells new (inr enough) = absurd (let no : false ≡ true = enough.0 in cc)
