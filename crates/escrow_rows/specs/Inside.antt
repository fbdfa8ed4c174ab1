-- Helps: what private contracts say of steps that set cells. No contract of a public call uses it.
use Rattle.std.specs.Prelude.{◌≡◌, ◌<◌, ℕ, ℤ, pos, ◌+◌, ◌+ℤ◌, ◌==◌, ◌||◌, if◌then◌else◌, Option, Some, None, option_map, List, [], ◌∷◌, length, map, fold, drop}
use Rattle.sqlite_value.specs.declared.value.Value.{Value as Sql}
use Rattle.sqlite_value.specs.declared.value.Value.TheVariants as sql
use Rattle.sqlite_value.specs.Order.{Row as SqlRow}
use Rattle.escrow_num.specs.declared.value.Value.{Value}
use Rattle.escrow_num.specs.declared.value.Value.TheVariants.{Number}
use Rattle.escrow_schema.specs.declared.column.Column.{Column}
use Rattle.escrow_cells.specs.declared.step.Step.{Step}
use Rattle.escrow_cells.specs.declared.step.Step.TheVariants as step
use Rattle.escrow_cells.specs.Step.{Contents, done, kept, with_value}
use Rattle.escrow_schema.specs.declared.stored.StoredTable.{StoredTable}
use Rattle.escrow_rows.specs.declared.amounts.NewAmounts.{NewAmounts}
use Rattle.escrow_rows.specs.Image.{stored}

-- contents after a function has changed each cell
abbrev pub on_cells : (SqlRow → SqlRow) → Contents → Contents
on_cells f c = record c { cells = map f c.cells }

-- steps, one after another, change each cell by a function
abbrev pub Change : List Step → (SqlRow → SqlRow) → Type 0
Change steps f = (c : Contents) → fold done c steps ≡ on_cells f c

-- a step sets a cell of the row of a key of a table, at the place of one of its columns
abbrev pub SetsCellOf : StoredTable → Value → Step → Type 0
SetsCellOf s key (step.SetCell id k place value hint) =
    (id ≡ s.id) × (kept k ≡ stored key) × (i : ℕ) × (i < length s.table.columns) × (place ≡ pos (i + 1))
SetsCellOf s key _ = ⊥

-- a cell with the new value, if there is one, if it is the one at a place of the row of a key; otherwise unchanged
abbrev pub put_value : ℤ → Sql → ℤ → Option Sql → SqlRow → SqlRow
put_value id key place None cell = cell
put_value id key place (Some v) cell = with_value (sql.Int id) key (sql.Int place) v cell

-- a cell with the new values of the row of a key, the first of them for the cell at a given place
abbrev pub put_values : ℤ → Sql → ℤ → List (Option Value) → SqlRow → SqlRow
put_values id key place [] cell = cell
put_values id key place (v ∷ vs) cell =
    put_values id key (place +ℤ pos 1) vs (put_value id key place (option_map stored v) cell)

-- the first of new values, if there is one
abbrev pub first_new : {A : Type 0} → List (Option A) → Option A
first_new [] = None
first_new (new ∷ news) = new

-- the new value of each column, or none, the first column at a given place: new values of plain columns in their order,
-- none for the others
abbrev pub new_plain : List Column → ℕ → ℕ → List (Option Value) → List (Option Value)
new_plain [] place at news = []
new_plain (column ∷ columns) place at news =
    if column.reservable || place == at then None ∷ new_plain columns (place + 1) at news
    else first_new news ∷ new_plain columns (place + 1) at (drop 1 news)

-- the new value of each column, or none: new values of RESERVABLE columns in their order, none for the others
abbrev pub new_amounts : List Column → List (Option ℤ) → List (Option Value)
new_amounts [] news = []
new_amounts (column ∷ columns) news =
    if column.reservable then option_map Number (first_new news) ∷ new_amounts columns (drop 1 news)
    else None ∷ new_amounts columns news

-- a cell with new plain values of the row of a key of a table
abbrev pub plain_on : StoredTable → Value → List (Option Value) → SqlRow → SqlRow
plain_on s key news = put_values s.id (stored key) (pos 1) (new_plain s.table.columns 0 s.table.key news)

-- a cell with new amounts of the row of a key of a table
abbrev pub amounts_on : NewAmounts → SqlRow → SqlRow
amounts_on new =
    put_values new.table.now.id (stored new.key.now) (pos 1) (new_amounts new.table.now.table.columns new.amounts)

-- contents with new amounts, one after another
abbrev pub all_on : List NewAmounts → Contents → Contents
all_on news c = fold (λ c new. on_cells (amounts_on new) c) c news
