-- UPDATE: what its plan, or the lack of one, says about its transition.
use Rattle.std.specs.Prelude.{◌≡◌, ◌⊎◌, ◌&&◌, ℕ, ℤ, Bool, true, false, Option, option_map, unwrap_or, Some, None, Result, Ok, Err, IfErr, IfOk, IsErrOf, IsOk, IsTrue, IsSomeAnd, List, length}
use Rattle.std.specs.Result.{result_ok}
use Rattle.std.proofs.Common.{inl, inr, refl, sym, ap, subst, ◌∙◌}
use Rattle.std.proofs.lemmas.Bool.{false≢true}
use Rattle.std.proofs.lemmas.Option.{option_and_then_some, same_Some}
use Rattle.escrow_num.specs.declared.refusal.Refusal.{Refusal}
use Rattle.escrow_num.specs.declared.refusal.Refusal.TheVariants as refusal
use Rattle.escrow_num.specs.declared.value.Value.{Value}
use Rattle.escrow_num.specs.Refusal.{first_refusal}
use Rattle.escrow_statement.specs.declared.statement.UpdateText.{UpdateText}
use Rattle.escrow_statement.specs.declared.statement.Statement.TheVariants as statement
use Rattle.escrow_schema.specs.declared.plan.Plan.{Plan}
use Rattle.escrow_schema.specs.declared.plan.Plan.TheVariants as plan
use Rattle.escrow_schema.specs.declared.table.TableDef.{TableDef}
use Rattle.escrow_schema.specs.Catalog.{table_named}
use Rattle.escrow_schema.specs.Column.{reservables}
use Rattle.escrow_schema.specs.Plan.{is_in_place, planned}
use Rattle.escrow_num.specs.declared.failure.Failure.TheVariants as failure
use Rattle.escrow_machine.specs.Asked.{plan_of, reserves_beside}
use Rattle.escrow_machine.specs.Accepted.{IsAccepted, IsRefusal, PassesEarly}
use Rattle.escrow_machine.specs.Promised.{is_judged_first}
use Rattle.escrow_machine.specs.State.{State}
use Rattle.escrow_machine.specs.Step.{refusals}
use Rattle.escrow_machine.specs.Transition.{transition_of, update_refusals}
use Rattle.escrow_machine.proofs.Safe.{some_from}
use Rattle.escrow_schema.proofs.PlanLemmas.{plans_of_whole_row}

ok_there : {A E : Type 0} (r : Result A E) (x : A) → result_ok r ≡ Some x → r ≡ Ok x
ok_there (Ok y) x e = let same : y ≡ x = cc in ap (λ z. Ok z) same
ok_there (Err y) x e = absurd (cc)

-- the table of a plan
pub planned_in : {C : Type 0} (s : State) (text : UpdateText) (asked : Plan) → plan_of s text ≡ Some asked
    → ((table : TableDef) → table_named s.catalog text.table ≡ Some table → planned table text ≡ Ok asked → C) → C
planned_in s text asked is then =
    option_and_then_some (λ (table : TableDef). result_ok (planned table text)) (table_named s.catalog text.table) asked is
    (λ table named found. then table named (ok_there (planned table text) asked found))

-- a plan that takes no memory is what planning returns
pub plans_in_place : (s : State) (text : UpdateText) (table : TableDef) (result : Result Plan Refusal) → table_named s.catalog text.table ≡ Some table
    → IfOk (planned table text) (λ p. IsTrue (is_in_place p) → result ≡ Ok p) → (asked : Plan) → plan_of s text ≡ Some asked → IsTrue (is_in_place asked) → result ≡ Ok asked
plans_in_place s text table result named returned asked is free =
    planned_in s text asked is (λ other found at.
    let same : other ≡ table = same_Some other table (sym found ∙ named) in
    let here : planned table text ≡ Ok asked = ap (λ (t : TableDef). planned t text) (sym same) ∙ at in
    subst (λ (p : Result Plan Refusal). IfOk p (λ q. IsTrue (is_in_place q) → result ≡ Ok q)) here returned free)

-- an UPDATE that is judged first has a plan that takes no memory, and its row is reserved
pub record IsJudged (s : State) (text : UpdateText) : Type 0 where
  pub beside : reserves_beside s text ≡ true
  pub asked : Plan
  pub plan : plan_of s text ≡ Some asked
  pub free : IsTrue (is_in_place asked)

pub judged : (s : State) (text : UpdateText) → IsTrue (is_judged_first s (statement.Update text)) → IsJudged s text
judged s text first = at (reserves_beside s text) (plan_of s text) refl refl first
  where
    at : (b : Bool) (o : Option Plan) → reserves_beside s text ≡ b → plan_of s text ≡ o → IsTrue (b && unwrap_or (option_map is_in_place o) false) → IsJudged s text
    at false o beside plan h = absurd (false≢true h)
    at true None beside plan h = absurd (false≢true h)
    at true (Some asked) beside plan h = record { beside = beside; asked = asked; plan = plan; free = h }

-- a plan has one change for each RESERVABLE column
pub whole_plan : (s : State) (text : UpdateText) (key : Value) (changes : List (Option ℤ)) → plan_of s text ≡ Some (plan.Reserve key changes)
    → IsSomeAnd (table_named s.catalog text.table) (λ table. length changes ≡ length (reservables table.columns))
whole_plan s text key changes is =
    planned_in s text (plan.Reserve key changes) is (λ table named at.
    some_from (λ (t : TableDef). length changes ≡ length (reservables t.columns)) (table_named s.catalog text.table) table named (plans_of_whole_row table text key changes at))

-- if there is a plan, its refusals are those of the statement
late_alone : (s : State) (session : ℕ) (text : UpdateText) (asked : Plan) (table : TableDef) → table_named s.catalog text.table ≡ Some table → planned table text ≡ Ok asked
    → first_refusal (refusals (transition_of s session (statement.Update text))) ≡ first_refusal (update_refusals s session text.table asked)
unfolding transition_of
late_alone s session text asked table named at = rw (named, at) refl

pub left_to_plan : (s : State) (session : ℕ) (text : UpdateText) (asked : Plan) → plan_of s text ≡ Some asked
    → first_refusal (refusals (transition_of s session (statement.Update text))) ≡ first_refusal (update_refusals s session text.table asked)
left_to_plan s session text asked is = planned_in s text asked is (late_alone s session text asked)

pub plan_refused : (s : State) (session : ℕ) (text : UpdateText) (asked : Plan) (r : Refusal) → plan_of s text ≡ Some asked
    → first_refusal (update_refusals s session text.table asked) ≡ Some r → IsRefusal s session (statement.Update text) r
plan_refused s session text asked r is first = inl (left_to_plan s session text asked is ∙ first)

pub plan_accepted : (s : State) (session : ℕ) (text : UpdateText) (asked : Plan) → plan_of s text ≡ Some asked
    → first_refusal (update_refusals s session text.table asked) ≡ None → IsAccepted s session (statement.Update text)
plan_accepted s session text asked is none = left_to_plan s session text asked is ∙ none

-- none of them is early
early_none : (s : State) (session : ℕ) (text : UpdateText) (asked : Plan) (table : TableDef) → table_named s.catalog text.table ≡ Some table → planned table text ≡ Ok asked
    → PassesEarly s session (statement.Update text)
unfolding transition_of
early_none s session text asked table named at = rw (named, at) refl

pub planned_early : (s : State) (session : ℕ) (text : UpdateText) (asked : Plan) → plan_of s text ≡ Some asked → PassesEarly s session (statement.Update text)
planned_early s session text asked is = planned_in s text asked is (early_none s session text asked)

-- if the plan is refused, so is the statement
early_refuses : (s : State) (session : ℕ) (text : UpdateText) (table : TableDef) (r : Refusal) → table_named s.catalog text.table ≡ Some table → planned table text ≡ Err r
    → IsRefusal s session (statement.Update text) r
unfolding transition_of
early_refuses s session text table r named at = inl (rw (named, at) refl)

plan_wants : (s : State) (session : ℕ) (text : UpdateText) (table : TableDef) (asked : Plan) → table_named s.catalog text.table ≡ Some table → planned table text ≡ Ok asked
    → IsRefusal s session (statement.Update text) refusal.Memory
unfolding transition_of
plan_wants s session text table asked named at = inr (failure.Memory, refl, rw (named, at) refl)

wanting : (s : State) (session : ℕ) (text : UpdateText) (table : TableDef) (asked : Result Plan Refusal) → table_named s.catalog text.table ≡ Some table → planned table text ≡ asked
    → IsOk asked → IsRefusal s session (statement.Update text) refusal.Memory
wanting s session text table (Ok p) named at ok = plan_wants s session text table p named at
wanting s session text table (Err e) named at ok = absurd (cc)

pub unplanned : (s : State) (session : ℕ) (text : UpdateText) (table : TableDef) (result : Result Plan Refusal) → table_named s.catalog text.table ≡ Some table
    → IfErr result (λ e. (planned table text ≡ Err e) ⊎ (e ≡ refusal.Memory)) → (IsErrOf result refusal.Memory → IsOk (planned table text))
    → IfErr result (IsRefusal s session (statement.Update text))
unplanned s session text table (Ok p) named only memory = tt
unplanned s session text table (Err r) named only memory =
    elim only [
      | inl e ↦ early_refuses s session text table r named e
      | inr e ↦ subst (IsRefusal s session (statement.Update text)) (sym e)
          (wanting s session text table (planned table text) named refl (memory (ap (λ (q : Refusal). Err q) e)))
    ]
