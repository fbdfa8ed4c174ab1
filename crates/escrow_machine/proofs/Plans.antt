-- The refusals of an UPDATE's plan, and of WHERE.
use Rattle.std.specs.Prelude.{◌≡◌, ◌⊎◌, ℕ, List, Option, Some, None, IfSome, option_and_then, Result, Ok, Err}
use Rattle.std.specs.Result.{result_err}
use Rattle.std.proofs.Common.{inl, inr, sym, refl, subst}
use Rattle.escrow_num.specs.declared.refusal.Refusal.{Refusal}
use Rattle.escrow_num.specs.declared.refusal.Refusal.TheVariants as refusal
use Rattle.escrow_num.specs.declared.value.Value.{Value}
use Rattle.escrow_statement.specs.declared.statement.SelectText.{SelectText}
use Rattle.escrow_statement.specs.declared.statement.UpdateText.{UpdateText}
use Rattle.escrow_statement.specs.declared.statement.WhereText.{WhereText}
use Rattle.escrow_schema.specs.declared.plan.Plan.{Plan}
use Rattle.escrow_schema.specs.declared.table.TableDef.{TableDef}
use Rattle.escrow_schema.specs.Plan.{planned, key_named}
use Rattle.escrow_schema.specs.Catalog.{table_named}
use Rattle.escrow_machine.specs.Asked.{plan_refusal_of, key_refusal_of, select_refusal_of}
use Rattle.escrow_machine.specs.State.{State}
use Rattle.escrow_schema.proofs.PlanLemmas.{refusals_of_plans, refusals_of_keys}

-- a plan is refused for a bad assignment, for a column that is not the key, or for a bad value
one_of : (P : Refusal → Type 0) (r : Refusal) → P refusal.BadAssignment → P refusal.NotTheKey → P refusal.BadValue
    → (r ≡ refusal.BadAssignment) ⊎ ((r ≡ refusal.NotTheKey) ⊎ (r ≡ refusal.BadValue)) → P r
one_of P r assignment key value (inl e) = subst P (sym e) assignment
one_of P r assignment key value (inr (inl e)) = subst P (sym e) key
one_of P r assignment key value (inr (inr e)) = subst P (sym e) value

at_plan : (P : Refusal → Type 0) (table : TableDef) (text : UpdateText) (asked : Result Plan Refusal) → planned table text ≡ asked
    → P refusal.BadAssignment → P refusal.NotTheKey → P refusal.BadValue → IfSome (result_err asked) P
at_plan P table text (Ok plan) is assignment key value = tt
at_plan P table text (Err r) is assignment key value = one_of P r assignment key value (refusals_of_plans table text r is)

at_table : (P : Refusal → Type 0) (text : UpdateText) (o : Option TableDef) → P refusal.BadAssignment → P refusal.NotTheKey → P refusal.BadValue
    → IfSome (option_and_then (λ (table : TableDef). result_err (planned table text)) o) P
at_table P text None assignment key value = tt
at_table P text (Some table) assignment key value = at_plan P table text (planned table text) refl assignment key value

pub plan_among : (P : Refusal → Type 0) (s : State) (text : UpdateText) → P refusal.BadAssignment → P refusal.NotTheKey → P refusal.BadValue
    → IfSome (plan_refusal_of s text) P
plan_among P s text assignment key value = at_table P text (table_named s.catalog text.table) assignment key value

-- WHERE is refused for one of the last two
key_one_of : (P : Refusal → Type 0) (r : Refusal) → P refusal.NotTheKey → P refusal.BadValue → (r ≡ refusal.NotTheKey) ⊎ (r ≡ refusal.BadValue) → P r
key_one_of P r key value (inl e) = subst P (sym e) key
key_one_of P r key value (inr e) = subst P (sym e) value

at_key : (P : Refusal → Type 0) (table : TableDef) (row : WhereText) (named : Result Value Refusal) → key_named table row ≡ named
    → P refusal.NotTheKey → P refusal.BadValue → IfSome (result_err named) P
at_key P table row (Ok v) is key value = tt
at_key P table row (Err r) is key value = key_one_of P r key value (refusals_of_keys table row r is)

key_in_table : (P : Refusal → Type 0) (row : WhereText) (o : Option TableDef) → P refusal.NotTheKey → P refusal.BadValue
    → IfSome (option_and_then (λ (table : TableDef). result_err (key_named table row)) o) P
key_in_table P row None key value = tt
key_in_table P row (Some table) key value = at_key P table row (key_named table row) refl key value

pub key_among : (P : Refusal → Type 0) (s : State) (name : List ℕ) (row : WhereText) → P refusal.NotTheKey → P refusal.BadValue
    → IfSome (key_refusal_of s name row) P
key_among P s name row key value = key_in_table P row (table_named s.catalog name) key value

where_among : (P : Refusal → Type 0) (s : State) (name : List ℕ) (o : Option WhereText) → P refusal.NotTheKey → P refusal.BadValue
    → IfSome (option_and_then (key_refusal_of s name) o) P
where_among P s name None key value = tt
where_among P s name (Some row) key value = key_among P s name row key value

pub select_among : (P : Refusal → Type 0) (s : State) (text : SelectText) → P refusal.NotTheKey → P refusal.BadValue → IfSome (select_refusal_of s text) P
select_among P s text key value = where_among P s text.table text.row key value
