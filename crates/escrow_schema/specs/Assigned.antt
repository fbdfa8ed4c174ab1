-- Helps: what private contracts say of assignments and plans. No contract of a public call uses it.
use Rattle.std.specs.Prelude.{◌≡◌, ◌⊎◌, false, Option, None, IsSomeAnd, option_and_then, Result, Ok, Err, List, length, map, nat_le}
use Rattle.escrow_num.specs.declared.changes.TheConstants.Changes.{IN_PLACE}
use Rattle.escrow_num.specs.declared.refusal.Refusal.{Refusal}
use Rattle.escrow_num.specs.declared.refusal.Refusal.TheVariants as refusal
use Rattle.escrow_num.specs.declared.value.Value.{Value}
use Rattle.escrow_statement.specs.declared.statement.Assign.{Assign}
use Rattle.escrow_schema.specs.declared.column.Column.{Column}
use Rattle.escrow_schema.specs.declared.plan.Plan.{Plan}
use Rattle.escrow_schema.specs.Column.{scale_of, value_at}
use Rattle.escrow_schema.specs.Plan.{assigned_to, changes_of, is_in_place, literal_in}

-- the value that is assigned to a column, if a literal is assigned that is a value at the column's scale. The value
-- need not fit the column's type
abbrev pub value_assigned : List Assign → Column → Option Value
value_assigned assigns column =
    option_and_then (value_at (scale_of column.kind)) (option_and_then literal_in (assigned_to assigns column.name))

-- the value that is assigned to each of some columns, or none
abbrev pub values_assigned : List Column → List Assign → List (Option Value)
values_assigned columns assigns = map (value_assigned assigns) columns

-- there is a plan, and it takes memory
abbrev pub TakesMemory : Result Plan Refusal → Type 0
TakesMemory (Ok plan) = is_in_place plan ≡ false
TakesMemory (Err e) = ⊥

-- what a function that plans returns: the plan, or why there is none, or that memory was refused if there is one that
-- takes memory
abbrev pub IsAnswer : Result Plan Refusal → Result Plan Refusal → Type 0
IsAnswer planned (Ok plan) = planned ≡ Ok plan
IsAnswer planned (Err e) = (planned ≡ Err e) ⊎ ((e ≡ refusal.Memory) × TakesMemory planned)

-- why there are no changes: one is bad, or all are good, there are more than 4, and memory was refused
abbrev pub IsChangesFault : List Column → List Assign → Refusal → Type 0
IsChangesFault columns assigns e =
    ((e ≡ refusal.BadValue) × (changes_of columns assigns ≡ None))
    ⊎ ((e ≡ refusal.Memory) × IsSomeAnd (changes_of columns assigns)
    (λ changes. nat_le (length changes) IN_PLACE ≡ false))
