-- Believed: what is wrong with the assignments of an UPDATE, case by case.
use Rattle.std.specs.Prelude.{◌≡◌, ◌⊎◌, ℕ, ℤ, ◌<◌, true, false, Some, List, slice_get}
use Rattle.escrow_statement.specs.declared.statement.Assign.{Assign}
use Rattle.escrow_statement.specs.declared.statement.Assigned.TheVariants as assigned
use Rattle.escrow_statement.specs.declared.statement.Literal.{Literal}
use Rattle.escrow_statement.specs.declared.statement.UpdateText.{UpdateText}
use Rattle.escrow_schema.specs.declared.column.Column.{Column}
use Rattle.escrow_schema.specs.declared.table.TableDef.{TableDef}

-- THE COLUMN OF A NAME

-- the column at a place of a table has this name
abbrev pub IsNamedAt : TableDef → List ℕ → ℕ → Column → Type 0
IsNamedAt table name place column = (slice_get table.columns place ≡ Some column) × (column.name ≡ name)

-- a table has a column of this name
abbrev pub HasColumn : TableDef → List ℕ → Type 0
HasColumn table name = (place : ℕ) × (column : Column) × IsNamedAt table name place column

-- it is the key
abbrev pub IsKeyName : TableDef → List ℕ → Type 0
IsKeyName table name = (column : Column) × IsNamedAt table name table.key column

-- it is RESERVABLE
abbrev pub IsReservableName : TableDef → List ℕ → Type 0
IsReservableName table name =
    (place : ℕ) × (column : Column) × IsNamedAt table name place column × (column.reservable ≡ true)

-- it is plain: neither RESERVABLE nor the key
abbrev pub IsPlainName : TableDef → List ℕ → Type 0
IsPlainName table name =
    (place : ℕ) × (column : Column) × IsNamedAt table name place column × (column.reservable ≡ false)
    × (¬ (place ≡ table.key))

-- THE SIX CASES

-- an UPDATE has this assignment, somewhere after SET
abbrev pub Assigns : UpdateText → Assign → Type 0
Assigns text assign = (k : ℕ) × (slice_get text.assigns k ≡ Some assign)

-- it assigns a column that the table doesn't have
abbrev pub AssignsUnknown : TableDef → UpdateText → Type 0
AssignsUnknown table text = (assign : Assign) × Assigns text assign × (¬ (HasColumn table assign.column))

-- it assigns the key
abbrev pub AssignsKey : TableDef → UpdateText → Type 0
AssignsKey table text = (assign : Assign) × Assigns text assign × IsKeyName table assign.column

-- it assigns a column twice
abbrev pub AssignsTwice : UpdateText → Type 0
AssignsTwice text =
    (i : ℕ) × (k : ℕ) × (first : Assign) × (second : Assign) × (i < k)
    × (slice_get text.assigns i ≡ Some first) × (slice_get text.assigns k ≡ Some second)
    × (first.column ≡ second.column)

-- it assigns to a RESERVABLE column anything but that column plus or minus a number
abbrev pub ReplacesReservable : TableDef → UpdateText → Type 0
ReplacesReservable table text =
    (assign : Assign) × Assigns text assign × IsReservableName table assign.column
    × ((change : ℤ) → ¬ (assign.value ≡ assigned.Change assign.column change))

-- it assigns to a plain column anything but a literal
abbrev pub ChangesPlain : TableDef → UpdateText → Type 0
ChangesPlain table text =
    (assign : Assign) × Assigns text assign × IsPlainName table assign.column
    × ((literal : Literal) → ¬ (assign.value ≡ assigned.Literal literal))

-- it mixes a RESERVABLE column and a plain one
abbrev pub MixesColumns : TableDef → UpdateText → Type 0
MixesColumns table text =
    (one : Assign) × (other : Assign) × Assigns text one × Assigns text other × IsReservableName table one.column
    × IsPlainName table other.column

-- one of the six cases applies; by a law (BadAssignmentsAreOfSixKinds), an UPDATE of a table is refused by 24 exactly
-- then
abbrev pub IsBadlyAssigned : TableDef → UpdateText → Type 0
IsBadlyAssigned table text =
    AssignsUnknown table text
    ⊎ (AssignsKey table text
    ⊎ (AssignsTwice text
    ⊎ (ReplacesReservable table text
    ⊎ (ChangesPlain table text
    ⊎ MixesColumns table text))))
