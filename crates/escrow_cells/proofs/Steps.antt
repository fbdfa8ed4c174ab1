-- Steps compose, although cells and tables are known only up to order.
use Rattle.std.proofs.Common.{◌≡◌, ℤ, Option, true, List, [], ◌∷◌, ◌++◌, fold, refl, sym, ◌∙◌, subst}
use Rattle.std.specs.List.Sorted.{IsPermutation}
use Rattle.std.proofs.lemmas.List.Sorted.{IsPermutation-refl, IsPermutation-trans, IsPermutation-cons, IsPermutation-map}
use Rattle.std.proofs.lemmas.List.Sums.{fold-append}
use Rattle.sqlite_trees.proofs.ListLemmas.{IsPermutation-filter}
use Rattle.sqlite_value.specs.Order.{Row}
use Rattle.sqlite.specs.Effect.{Database}
use Rattle.escrow_cells.specs.declared.datum.Datum.{Datum}
use Rattle.escrow_cells.specs.declared.step.Step.{Step}
use Rattle.escrow_cells.specs.declared.step.Step.TheVariants as step
use Rattle.escrow_cells.specs.Step.{Contents, contents, done, finds, HoldsContents, Does}

-- the same cells and the same tables, in any order
record AreAlike (c d : Contents) : Type 0 where
  cells : IsPermutation c.cells d.cells
  tabs : IsPermutation c.tabs d.tabs

-- the order does not matter to a step
done_alike : (c d : Contents) (s : Step) → AreAlike c d → AreAlike (done c s) (done d s)
done_alike c d (step.InsertCell table key place value) h = record { cells = IsPermutation-cons _ _ _ h.cells; tabs = h.tabs }
done_alike c d (step.SetCell table key place value hint) h = record { cells = IsPermutation-map _ _ _ h.cells; tabs = h.tabs }
done_alike c d (step.DeleteRow table key) h = record { cells = IsPermutation-filter _ _ _ h.cells; tabs = h.tabs }
done_alike c d (step.DeleteCells table) h = record { cells = IsPermutation-filter _ _ _ h.cells; tabs = h.tabs }
done_alike c d (step.InsertTab id name text) h = record { cells = h.cells; tabs = IsPermutation-cons _ _ _ h.tabs }
done_alike c d (step.DeleteTab id) h = record { cells = h.cells; tabs = IsPermutation-filter _ _ _ h.tabs }

-- no step changes nothing
pub does_none : (db : Database) → Does [] db db
does_none db h = record { store = h; cells_are = IsPermutation-refl _; tabs_are = IsPermutation-refl _; metas_are = refl }

all_alike : (c d : Contents) (steps : List Step) → AreAlike c d → AreAlike (fold done c steps) (fold done d steps)
all_alike c d [] h = h
all_alike c d (s ∷ steps) h = all_alike (done c s) (done d s) steps (done_alike c d s h)

-- more steps
pub does_more : (steps more : List Step) (old mid new : Database) → Does steps old mid → Does more mid new → Does (steps ++ more) old new
does_more steps more old mid new before after h =
    let first = before h in
    let last = after first.store in
    let same = all_alike (fold done (contents old) steps) (contents mid) more (record { cells = first.cells_are; tabs = first.tabs_are }) in
    let whole : HoldsContents (fold done (fold done (contents old) steps) more) old new = record {
      store = last.store;
      cells_are = IsPermutation-trans _ _ _ same.cells last.cells_are;
      tabs_are = IsPermutation-trans _ _ _ same.tabs last.tabs_are;
      metas_are = last.metas_are ∙ first.metas_are;
    } in
    subst (λ c. HoldsContents c old new) (sym (fold-append done (contents old) steps more)) whole

-- a step that looks for no key always finds what it needs
pub finds_rest : (s : Step) (all : List Row) → ((table : ℤ) (key : Datum) (place : ℤ) (value : Datum) (hint : Option ℤ) → s ≡ step.SetCell table key place value hint → ⊥) → ((table : ℤ) (key : Datum) → s ≡ step.DeleteRow table key → ⊥)
    → finds s all ≡ true
finds_rest (step.InsertCell table key place value) all set deleted = refl
finds_rest (step.SetCell table key place value hint) all set deleted = absurd (set table key place value hint refl)
finds_rest (step.DeleteRow table key) all set deleted = absurd (deleted table key refl)
finds_rest (step.DeleteCells table) all set deleted = refl
finds_rest (step.InsertTab id name text) all set deleted = refl
finds_rest (step.DeleteTab id) all set deleted = refl
